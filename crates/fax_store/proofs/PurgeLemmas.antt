-- What the texts leave by which a job leaves with its times and its grants.
use Rattle.std.proofs.Common.{◌≡◌, ◌∙◌, ◌==◌, arith, ℕ, Bool, true, false, not, List, [], ◌∷◌, map, filter, length, Option, Some, cond, inl, inr, refl, sym, ap, subst}
use Rattle.std.specs.Prelude.{find}
use Rattle.std.proofs.Math.Bool.{and-true}
use Rattle.std.proofs.lemmas.Bool.{cases_Bool}
use Rattle.std.proofs.lemmas.Bool.Decides.{nat_tests}
use Rattle.sqlite.specs.Order.{Row}
use Rattle.sqlite.specs.State.{State}
use Rattle.sqlite.proofs.Callers.{runs_as}
use Rattle.sqlite_rules.specs.Lists.{Has}
use Rattle.sqlite_rules.proofs.ListLemmas.{all_from}
use Rattle.sqlite_trees.proofs.ListLemmas.{all_of, filter_all, filter_same, filter-map}
use Rattle.fax_core.specs.Job.{Job, fields_of}
use Rattle.fax_core.specs.Ledger.{Ledger}
use Rattle.fax_core.specs.Queue.{Queue, job_numbered, open_grants}
use Rattle.fax_core.specs.State.{calls_to, is_of_number}
use Rattle.fax_core.specs.declared.grants.Grant.{Grant}
use Rattle.fax_core.specs.declared.times.Times.{Times}
use Rattle.fax_layout.proofs.ColumnLemmas.{all_kept}
use Rattle.fax_layout.proofs.CompareLemmas.{is_number}
use Rattle.fax_schema.proofs.PurgeTexts.{delete_grants, delete_job, delete_times, grants_tests}
use Rattle.fax_layout.proofs.SelectLemmas.{passes}
use Rattle.fax_schema.proofs.StatementTexts.{job_tests}
use Rattle.fax_schema.proofs.UpdateLemmas.{deleted, gone_project}
use Rattle.fax_layout.proofs.WriteLemmas.{KeepsOthers}
use Rattle.fax_schema.specs.Schema as schema
use Rattle.fax_schema.specs.Schema.{grants_tree, jobs_tree, our_tables, times_tree}
use Rattle.fax_schema.specs.declared.statements.TheConstants.{DELETE_GRANTS, DELETE_JOB, DELETE_TIMES}
use Rattle.fax_store.specs.Purge.{HasNoCall, without_grants, without_row, without_times}
use Rattle.fax_store.specs.Store.{HasRun}
use Rattle.fax_tables.specs.Job.{IsLawfulJob}
use Rattle.fax_tables.specs.Row.{grant_row, job_row, number, times_row}
use Rattle.fax_tables.specs.Tables.{AreLawfulTimes, HaveJobs, IsLawfulGrant, TablesMean}
use Rattle.fax_tables.proofs.TablesLemmas.{AreRecords, Parts, calls_as, calls_of, grants_changed, jobs_changed, means_of, parts_of, times_changed}

-- ---- lists

-- an element that passes stays in front, and another is gone
pub stays : {X : Type 0} (p : X → Bool) (x : X) (xs : List X) → p x ≡ true → filter p (x ∷ xs) ≡ x ∷ filter p xs
stays p x xs on = ap (λ b. cond b (x ∷ filter p xs) (filter p xs)) on

pub goes : {X : Type 0} (p : X → Bool) (x : X) (xs : List X) → p x ≡ false → filter p (x ∷ xs) ≡ filter p xs
goes p x xs off = ap (λ b. cond b (x ∷ filter p xs) (filter p xs)) off

-- two tests of each element, in either order
pub filter_swap : {X : Type 0} (p q : X → Bool) (xs : List X) → filter p (filter q xs) ≡ filter q (filter p xs)
filter_swap p q [] = refl
filter_swap {X} p q (x ∷ xs) =
    let more = filter_swap p q xs in
    elim (cases_Bool (p x)) [
      | inl on ↦ elim (cases_Bool (q x)) [
        | inl too ↦ ap (filter p) (stays q x xs too) ∙ stays p x (filter q xs) on ∙ ap (λ (l : List X). x ∷ l) more ∙ sym (stays q x (filter p xs) too) ∙ sym (ap (filter q) (stays p x xs on))
        | inr off ↦ ap (filter p) (goes q x xs off) ∙ more ∙ sym (goes q x (filter p xs) off) ∙ sym (ap (filter q) (stays p x xs on))
      ]
      | inr out ↦ elim (cases_Bool (q x)) [
        | inl on ↦ ap (filter p) (stays q x xs on) ∙ goes p x (filter q xs) out ∙ more ∙ sym (ap (filter q) (goes p x xs out))
        | inr off ↦ ap (filter p) (goes q x xs off) ∙ more ∙ sym (ap (filter q) (goes p x xs out))
      ]
    ]

-- the first element of a number is there without those of another
find_left : {X : Type 0} (num : X → ℕ) (n a : ℕ) (xs : List X) → (a == n) ≡ false → find (λ x. num x == a) (filter (λ x. not (num x == n)) xs) ≡ find (λ x. num x == a) xs
find_left num n a [] apart = refl
find_left {X} num n a (x ∷ xs) apart = elim (cases_Bool (num x == n)) [
  | inl leaves ↦ (let other : (num x == a) ≡ false = other_number (num x) leaves in rw (leaves, other) (find_left num n a xs apart))
  | inr stays ↦ rw stays (ap (λ (o : Option X). cond (num x == a) (Some x) o) (find_left num n a xs apart))
]
  where
    other_number : (i : ℕ) → (i == n) ≡ true → (i == a) ≡ false
    other_number i same = grind (arith, nat_tests, same, apart)

-- ---- the rows of a job

module _ (n : ℕ) where
  abbrev pub gone_params : Row
  gone_params = number n ∷ []

  -- rows that stay are those of records that stay
  stay : {X : Type 0} (row : X → Row) (num : X → ℕ) (pass : Row → Bool) → ((x : X) → pass (row x) ≡ (num x == n)) → (xs : List X) (rows : List Row) → rows ≡ map row xs
      → filter (λ r. not (pass r)) rows ≡ map row (filter (λ x. not (num x == n)) xs)
  stay row num pass is xs rows same =
      ap (filter (λ r. not (pass r))) same ∙ filter-map (λ r. not (pass r)) row xs
      ∙ ap (map row) (filter_same (λ x. not (pass (row x))) (λ x. not (num x == n)) xs (all_of (λ x. not (pass (row x)) ≡ not (num x == n)) (λ x. ap not (is x)) xs))

  module _ (old new : State) (m : Queue) (k : Ledger) (means : TablesMean old.now m k) where
    -- the text takes its times away, and touches times alone
    pub times_gone : HasRun DELETE_TIMES.now gone_params old new → TablesMean new.now (without_times n m) k × KeepsOthers our_tables times_tree old new
    times_gone h =
        let pass = passes times_tree job_tests gone_project gone_params in
        let left = λ (x : Times). not (x.job == n) in
        let done = deleted schema.times.name 13 schema.times.columns schema.times.key schema.times.primary schema.times.uniques schema.times.orders schema.times.checks 7 refl old new means.schema refl means.ordered.times
        job_tests gone_project gone_params (λ r. refl) _ h.0 (runs_as DELETE_TIMES.now gone_params old new our_tables means.schema _ delete_times.is delete_times.plain h.0 h.1) in
        let now : AreRecords times_row AreLawfulTimes (new.now.trees times_tree) (filter left m.times) = record {
          is = done.1 ∙ stay times_row (λ x. x.job) pass (λ x. and-true _ ∙ is_number x.job n) m.times (old.now.trees times_tree) means.times;
          ordered = done.2;
          lawful = all_kept AreLawfulTimes left m.times means.lawful.times;
        } in
        (means_of new.now (without_times n m) k means.held (times_changed old new m (open_grants m) (calls_of m) k (parts_of old.now m k means) done.0 (filter left m.times) now), done.0)

    module _ (idle : HasNoCall n m) where
      -- the grants that leave are closed
      open_stay : open_grants (without_grants n m) ≡ open_grants m
      open_stay =
          filter_swap (λ (g : Grant). g.is_open) (λ g. not (g.job == n)) m.grants
          ∙ filter_all (λ (g : Grant). not (g.job == n)) (open_grants m) (all_from (λ g. not (g.job == n) ≡ true) (open_grants m) (λ g has. ap not (idle g has)))

      -- so is none of the job that leaves, and each has its own
      job_stays : (g : Grant) → Has (open_grants m) g → job_numbered g.job (without_row n m) ≡ job_numbered g.job m
      job_stays g has = find_left (λ (j : Job). j.number) n g.job m.jobs (idle g has)

      -- the text takes its grants away, and touches grants alone
      pub grants_gone : HasRun DELETE_GRANTS.now gone_params old new → TablesMean new.now (without_grants n m) k × KeepsOthers our_tables grants_tree old new
      grants_gone h =
          let pass = passes grants_tree grants_tests gone_project gone_params in
          let left = λ (g : Grant). not (g.job == n) in
          let done = deleted schema.grants.name 1 schema.grants.columns schema.grants.key schema.grants.primary schema.grants.uniques schema.grants.orders schema.grants.checks 1 refl old new means.schema refl means.ordered.grants
          grants_tests gone_project gone_params (λ r. refl) _ h.0 (runs_as DELETE_GRANTS.now gone_params old new our_tables means.schema _ delete_grants.is delete_grants.plain h.0 h.1) in
          let now : AreRecords grant_row IsLawfulGrant (new.now.trees grants_tree) (filter left m.grants) = record {
            is = done.1 ∙ stay grant_row (λ g. g.job) pass (λ g. and-true _ ∙ is_number g.job n) m.grants (old.now.trees grants_tree) means.grants;
            ordered = done.2;
            lawful = all_kept IsLawfulGrant left m.grants means.lawful.grants;
          } in
          let held : HaveJobs (without_grants n m) = λ g has. means.held g (subst (λ gs. Has gs g) open_stay has) in
          let parts = grants_changed old new m (open_grants m) (calls_of m) k (parts_of old.now m k means) done.0 (filter left m.grants) now in
          let count : (dial : List ℕ) → calls_to dial m ≡ calls_to dial (without_grants n m) = λ dial. ap (λ gs. length (filter (λ g. is_of_number dial (job_numbered g.job m)) gs)) (sym open_stay) in
          let counted = calls_as new.now (without_grants n m) (open_grants m) (calls_of m) (calls_of (without_grants n m)) k count parts in
          (means_of new.now (without_grants n m) k held (subst (λ gs. Parts new.now (without_grants n m) gs (calls_of (without_grants n m)) k) (sym open_stay) counted), done.0)

      -- the text takes the job away, and touches jobs alone
      pub job_gone : HasRun DELETE_JOB.now gone_params old new → TablesMean new.now (without_row n m) k × KeepsOthers our_tables jobs_tree old new
      job_gone h =
          let row = λ (j : Job). job_row (fields_of j) in
          let pass = passes jobs_tree job_tests gone_project gone_params in
          let left = λ (j : Job). not (j.number == n) in
          let done = deleted schema.jobs.name 0 schema.jobs.columns schema.jobs.key schema.jobs.primary schema.jobs.uniques schema.jobs.orders schema.jobs.checks 0 refl old new means.schema refl means.ordered.jobs
          job_tests gone_project gone_params (λ r. refl) _ h.0 (runs_as DELETE_JOB.now gone_params old new our_tables means.schema _ delete_job.is delete_job.plain h.0 h.1) in
          let now : AreRecords row IsLawfulJob (new.now.trees jobs_tree) (filter left m.jobs) = record {
            is = done.1 ∙ stay row (λ j. j.number) pass (λ j. and-true _ ∙ is_number j.number n) m.jobs (old.now.trees jobs_tree) means.jobs;
            ordered = done.2;
            lawful = all_kept IsLawfulJob left m.jobs means.lawful.jobs;
          } in
          let held : HaveJobs (without_row n m) = λ g has. (let was = means.held g has in (was.0, job_stays g has ∙ was.1)) in
          let parts = jobs_changed old new m (open_grants m) (calls_of m) k (parts_of old.now m k means) done.0 (filter left m.jobs) now in
          let same : (dial : List ℕ) → calls_to dial m ≡ calls_to dial (without_row n m) = λ dial.
          ap length (filter_same (λ g. is_of_number dial (job_numbered g.job m)) (λ g. is_of_number dial (job_numbered g.job (without_row n m))) (open_grants m)
          (all_from (λ g. is_of_number dial (job_numbered g.job m) ≡ is_of_number dial (job_numbered g.job (without_row n m))) (open_grants m) (λ g has. ap (is_of_number dial) (sym (job_stays g has))))) in
          (means_of new.now (without_row n m) k held (calls_as new.now (without_row n m) (open_grants m) (calls_of m) (calls_of (without_row n m)) k same parts), done.0)
