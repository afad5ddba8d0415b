-- What the texts show by which a store counts what is held, and by whom.
use Rattle.std.proofs.Common.{◌≡◌, inl, inr, ◌<◌, ◌^◌, ◌+◌, ℕ, suc, List, [], ◌∷◌, ◌++◌, All, map, filter, flat_map, drop, take, length, Bool, true, false, cond, ◌&&◌, Option, Some, codes, refl, sym, ap, ap₂, subst, ◌∙◌, arith, length-append, ◌==◌, option_map, bytes_eq, IsPermutation}
use Rattle.std.proofs.Math.Path.{fun_ext}
use Rattle.std.proofs.lemmas.List.Sums.{count_by-le-length, length-filter}
use Rattle.std.proofs.lemmas.List.{nil_from_length, length-take}
use Rattle.std.specs.List.{list_all}
use Rattle.std.proofs.lemmas.Bool.{eqb-true, and_parts, false_from_ne_true}
use Rattle.std.proofs.lemmas.List.Elements.{All-map, All-weaker, recursion_from_All, filter-append}
use Rattle.std.proofs.lemmas.List.Sorted.{All-permutation, IsPermutation-map, IsPermutation-sym, IsPermutation-trans, length_permutation}
use Rattle.sqlite.specs.Effect.{Database}
use Rattle.sqlite.specs.Order.{Row, column}
use Rattle.sqlite.specs.Program.{overlay}
use Rattle.sqlite.specs.Query.{IsAnswer, output, Output, or_nulls}
use Rattle.sqlite.specs.State.{State, Shown}
use Rattle.sqlite.specs.Tree.{IsTable}
use Rattle.sqlite.specs.declared.types.Value.{Value}
use Rattle.sqlite.specs.declared.types.Value.TheVariants.{Null, Text}
use Rattle.sqlite.proofs.Callers.{reads_as}
use Rattle.sqlite_rules.specs.Lists.{Has}
use Rattle.sqlite_rules.proofs.ProbeLemmas.{mapped_has}
use Rattle.sqlite_rules.proofs.ListLemmas.{all_has, has_filtered, has_found, has_kept}
use Rattle.sqlite_catalog.specs.Change.{KeepsRows}
use Rattle.sqlite_sql.specs.Ops.{binary, is_null, is_true}
use Rattle.sqlite_sql.specs.declared.ops.BinaryOp.TheVariants.{Is}
use Rattle.sqlite.specs.Collation.TheVariants.{Binary}
use Rattle.sqlite_sql.specs.Term.{Env, col, holds}
use Rattle.sqlite_value.specs.Order.{value_cmp}
use Rattle.sqlite_trees.proofs.ListLemmas.{IsPermutation-filter, filter-map, map-map, all_of, filter_all, pull_back}
use Rattle.fax_core.specs.Job.{Job}
use Rattle.fax_core.specs.Ledger.{Ledger}
use Rattle.fax_core.specs.Queue.{Queue, job_numbered, open_grants}
use Rattle.fax_core.specs.State.{calls_to, is_of_number}
use Rattle.fax_core.specs.declared.grants.Grant.{Grant}
use Rattle.fax_store.specs.Adopt.{AreCallable, AreOfJobs, AreSmall, CanBeCalled, CoreMeans, HoldJobs, HoldsCanBeCalled, IsOf, held_to, is_to}
use Rattle.fax_store.specs.Grant.{HoldersStand, SetsCalls, with_count}
use Rattle.fax_store.specs.Store.{FindsRow}
use Rattle.fax_schema.specs.declared.statements.TheConstants.{SELECT_DIAL, SELECT_HELD, SELECT_HOLDERS, SELECT_LOST}
use Rattle.fax_value.specs.Dial.{IsCanonical}
use Rattle.fax_value.specs.Name.{IsName}
use Rattle.fax_tables.specs.Grant.{holder_shown}
use Rattle.fax_tables.specs.Job.{IsLawfulJob, IsText}
use Rattle.fax_tables.specs.Row.{number, hold_columns}
use Rattle.fax_schema.specs.Schema.{alike_list, calls_tree, holds_tree, jobs_tree, our_tables, core_tables}
use Rattle.fax_tables.specs.Tables.{IsLawfulGrant, TablesMean}
use Rattle.fax_layout.proofs.ColumnLemmas.{all_kept, record_of}
use Rattle.fax_layout.proofs.CompareLemmas.{are_equal, number_same}
use Rattle.fax_tables.proofs.CreateLemmas.{kept_rows}
use Rattle.fax_layout.proofs.EditLemmas.{has_mapped, has_permuted, none_shown, shown_one}
use Rattle.fax_tables.proofs.IndexLemmas.{length_map}
use Rattle.fax_tables.proofs.KeyLemmas.{found_holds, numbered_found}
use Rattle.fax_layout.proofs.SelectLemmas.{answers, passes, show}
use Rattle.fax_schema.proofs.StatementForms.{Selects}
use Rattle.fax_tables.proofs.TablesLemmas.{counted_as, row_of, rows_mean}
use Rattle.fax_store.proofs.CandidateLemmas.{within}
use Rattle.fax_store.proofs.CountLemmas.{at_most_all, grants_few, one, one_more}
use Rattle.fax_schema.proofs.StatementTexts.{dial_project, job_tests, lost_on, lost_query, lost_tests, select_dial, select_held, select_holders, select_lost}

-- ---- a hold whose job isn't there

-- lists that are empty together are each empty
no_parts : {A : Type 0} (xs ys : List A) → xs ++ ys ≡ [] → (xs ≡ []) × (ys ≡ [])
no_parts [] ys e = (refl, e)
no_parts (x ∷ xs) ys e = absurd cc

-- where lists are empty together, that of each element is
none_each : {A B : Type 0} (f : A → List B) (xs : List A) (x : A) → flat_map f xs ≡ [] → Has xs x → f x ≡ []
none_each f [] x none has = absurd has
none_each f (y ∷ xs) x none (inl is) = ap f is ∙ (no_parts (f y) (flat_map f xs) none).0
none_each f (y ∷ xs) x none (inr more) = none_each f xs x (no_parts (f y) (flat_map f xs) none).1 more

-- and where each is, they are together
each_none : {A B : Type 0} (f : A → List B) (xs : List A) → ((x : A) → Has xs x → f x ≡ []) → flat_map f xs ≡ []
each_none f [] none = refl
each_none f (x ∷ xs) none = ap₂ ◌++◌ (none x (inl refl)) (each_none f xs (λ y has. none y (inr has)))

-- SQL's v IS NULL
abbrev pub lost_value : Value → Bool
lost_value v = is_true (binary (Is Binary) v Null)

-- SQL's v IS NULL is true of NULL alone
pub is_lost : (v : Value) → lost_value v ≡ is_null v
unfolding binary value_cmp lib.Ieee.is_nan lib.Ieee.lt
is_lost Null = refl
is_lost _ = refl

-- what SQL finds equal to a value is not NULL
not_lost : (a b : Value) → are_equal a b ≡ true → is_null a ≡ false
unfolding binary
not_lost a b h = false_from_ne_true (is_null a) (λ on. absurd (let no = rw on at h in cc))

-- with the jobs that a hold is of, or with none
module _ (jobs : List Row) (r : Row) where
  abbrev pub its : List Row
  its = filter (λ s. list_all (holds ([] ∷ r ∷ s ∷ [])) lost_on) jobs

  abbrev pub lost : List Row → List Env
  lost found = flat_map (λ s. cond (list_all (holds ([] ∷ r ∷ s ∷ [])) lost_tests) (([] ∷ r ∷ s ∷ []) ∷ []) []) (or_nulls found)

  -- where a hold shows no row as lost, its job is there
  there : (found : List Row) → its ≡ found → lost found ≡ [] → (job : Row) × Has jobs job × IsOf (column r 2) job
  there [] is none =
      let on : (lost_value Null && true) ≡ true = ap (λ b. b && true) (is_lost Null) in
      absurd (let e = rw on at none in cc)
  there (s ∷ more) is none =
      let one = has_filtered (λ s. list_all (holds ([] ∷ r ∷ s ∷ [])) lost_on) jobs s (subst (λ rows. Has rows s) (sym is) (inl refl)) in
      (s, one.0, (and_parts _ _ one.1).0)

  -- and where its job is there, it shows none
  pub not_there : (found : List Row) → its ≡ found → (job : Row) → Has jobs job → IsOf (column r 2) job → lost found ≡ []
  not_there [] is job has of = absurd (subst (λ rows. Has rows job) is (has_kept (λ s. list_all (holds ([] ∷ r ∷ s ∷ [])) lost_on) jobs job has (ap (λ b. b && true) of)))
  not_there (s ∷ more) is job has of =
      each_none (λ s. cond (list_all (holds ([] ∷ r ∷ s ∷ [])) lost_tests) (([] ∷ r ∷ s ∷ []) ∷ []) []) (s ∷ more)
      (λ x among.
      let one = has_filtered (λ s. list_all (holds ([] ∷ r ∷ s ∷ [])) lost_on) jobs x (subst (λ rows. Has rows x) (sym is) among) in
      let off : (lost_value (column x 0) && true) ≡ false = ap (λ b. b && true) (is_lost (column x 0) ∙ not_lost (column x 0) (column r 2) (and_parts _ _ one.1).0) in
      ap (λ b. cond b (([] ∷ r ∷ x ∷ []) ∷ []) []) off)

module _ (old new : State) (has : old.now.schema ≡ our_tables) (rows : List Row) (shown : Shown SELECT_LOST.now [] old new rows) where
  abbrev all_lost : List Env
  all_lost = flat_map (λ r. lost (old.now.trees jobs_tree) r (its (old.now.trees jobs_tree) r)) (old.now.trees holds_tree)

  -- the text shows as many rows as holds have lost their jobs
  lost_count : length rows ≡ length all_lost
  lost_count =
      let read = reads_as SELECT_LOST.now [] old new our_tables has _ select_lost.command select_lost.plain select_lost.unlisted rows shown in
      let a : IsAnswer lost_query (overlay old.now.trees []) [] rows = read.answer Null in
      ap length a.shown ∙ length_map (λ (o : Output). o.1) a.ordered ∙ length_permutation a.kept a.ordered a.same ∙ ap length a.distinct ∙ length_map (output lost_query) a.staged ∙ ap length a.grouped

  -- where it shows none, each hold has its job
  pub none_lost : rows ≡ [] → HoldJobs old.now
  none_lost empty hold there_is =
      let none = nil_from_length all_lost (sym lost_count ∙ ap length empty) in
      there (old.now.trees jobs_tree) hold (its (old.now.trees jobs_tree) hold) refl (none_each (λ r. lost (old.now.trees jobs_tree) r (its (old.now.trees jobs_tree) r)) (old.now.trees holds_tree) hold none there_is)

  -- and where each hold has its job, it shows none
  pub lost_none : HoldJobs old.now → rows ≡ []
  lost_none have =
      nil_from_length rows (lost_count ∙ ap length (each_none (λ r. lost (old.now.trees jobs_tree) r (its (old.now.trees jobs_tree) r))
      (old.now.trees holds_tree)
      (λ r is. let it = have r is in not_there (old.now.trees jobs_tree) r (its (old.now.trees jobs_tree) r) refl it.0 it.1 it.2)))

-- ---- the number that a job is to

-- what the text finds is the number to dial of the job of this number, or nothing where there is none
pub dial_found : (n : ℕ) (old new : State) (m : Queue) (k : Ledger) → old.now.schema ≡ our_tables → CoreMeans old.now m k → (found : Option Row) → FindsRow SELECT_DIAL.now (number n ∷ []) old new found
    → found ≡ option_map (λ (j : Job). Text j.dial ∷ []) (job_numbered n m)
dial_found n old new m k has rows found h =
    let params = number n ∷ [] in
    numbered_found row_of (λ (j : Job). j.number) (λ j. refl) n (passes jobs_tree job_tests dial_project params) (λ r. refl) m.jobs (old.now.trees jobs_tree) h.0 (rows.2.0 ∙ rows.1.jobs) (subst IsTable (sym rows.2.0) rows.1.ordered.jobs.rise)
    (show jobs_tree job_tests dial_project params)
    (answers jobs_tree job_tests dial_project params old.now (old.now.trees jobs_tree) refl [] h.0 (reads_as SELECT_DIAL.now params old new our_tables has _ select_dial.command select_dial.plain select_dial.unlisted h.0 h.1))
    found h.2

-- a job that can be called has one that is canonical
module _ (n : ℕ) (old new : State) (has : old.now.schema ≡ our_tables) (can : CanBeCalled old.now n) (rows : List Row) (shown : Shown SELECT_DIAL.now (number n ∷ []) old new rows) where
  abbrev asked : Row → Bool
  asked = passes jobs_tree job_tests dial_project (number n ∷ [])

  -- the text shows the numbers to dial of the rows of this job number, in any order
  dials_shown : IsPermutation (map (show jobs_tree job_tests dial_project (number n ∷ [])) (filter asked (old.now.trees jobs_tree))) rows
  dials_shown =
      answers jobs_tree job_tests dial_project (number n ∷ []) old.now (old.now.trees jobs_tree) refl (codes "dial" ∷ []) rows
      (reads_as SELECT_DIAL.now (number n ∷ []) old new our_tables has _ select_dial.command select_dial.plain select_dial.unlisted rows shown)

  -- each row shown is a canonical number to dial
  pub dial_told : (row : Row) → Has rows row → (dial : List ℕ) × (row ≡ Text dial ∷ []) × IsText IsCanonical dial
  dial_told row there_is =
      let job = shown_one asked (show jobs_tree job_tests dial_project (number n ∷ [])) (old.now.trees jobs_tree) rows dials_shown row there_is in
      let dial = can.dials job.0 job.1 (and_parts _ _ job.2).0 in
      (dial.0, job.3 ∙ ap (λ v. v ∷ []) dial.1, dial.2)

  -- some row is shown
  pub dial_there : rows ≡ [] → ⊥
  dial_there empty =
      let off = none_shown asked (show jobs_tree job_tests dial_project (number n ∷ [])) (old.now.trees jobs_tree) rows dials_shown empty can.job can.there in
      let on : asked can.job ≡ true = ap (λ b. b && true) can.is in
      absurd (let e = sym on ∙ off in cc)

-- ---- a column of the holds

-- a column is one of those after the rowid
after_rowid : (r : Row) (at : ℕ) → column r (suc at) ≡ column (drop 1 r) at
after_rowid [] at = refl
after_rowid (v ∷ r) at = refl

-- a text that reads one column of each hold
module _ (at : ℕ) (sql name : List ℕ) (selects : Selects sql holds_tree [] (col 1 (suc at) ∷ []) (name ∷ [])) (old new : State) (has : old.now.schema ≡ our_tables) (rows : List Row) (shown : Shown sql [] old new rows) where
  abbrev holds_rows : List Row
  holds_rows = old.now.trees holds_tree

  -- it shows that of each, in any order
  column_shown : IsPermutation (map (λ r. column r (suc at) ∷ []) holds_rows) rows
  column_shown =
      subst (λ t. IsPermutation (map (λ r. column r (suc at) ∷ []) t) rows) (filter_all (λ _. true) holds_rows (all_of _ (λ _. refl) holds_rows))
      (answers holds_tree [] (col 1 (suc at) ∷ []) [] old.now holds_rows refl (name ∷ []) rows (reads_as sql [] old new our_tables has _ selects.command selects.plain selects.unlisted rows shown))

  -- where the rows of holds are the open grants, it shows that of each grant, in any order
  column_of_grants : (m : Queue) → IsPermutation (map hold_columns (open_grants m)) (map (drop 1) holds_rows) → IsPermutation (map (λ (g : Grant). column (hold_columns g) at ∷ []) (open_grants m)) rows
  column_of_grants m same =
      let by_columns = IsPermutation-map (λ columns. column columns at ∷ []) (map hold_columns (open_grants m)) (map (drop 1) holds_rows) same in
      let left = map-map (λ columns. column columns at ∷ []) hold_columns (open_grants m) in
      let right = map-map (λ columns. column columns at ∷ []) (drop 1) holds_rows ∙ ap (λ of. map of holds_rows) (fun_ext (λ r. ap (λ v. v ∷ []) (sym (after_rowid r at)))) in
      IsPermutation-trans (map (λ (g : Grant). column (hold_columns g) at ∷ []) (open_grants m)) (map (λ r. column r (suc at) ∷ []) holds_rows) rows
      (subst (λ xs. IsPermutation xs (map (λ r. column r (suc at) ∷ []) holds_rows)) left (subst (IsPermutation (map (λ columns. column columns at ∷ []) (map hold_columns (open_grants m)))) right by_columns)) column_shown

-- ---- the jobs of what is held

module _ (old new : State) (has : old.now.schema ≡ our_tables) (rows : List Row) (shown : Shown SELECT_HELD.now [] old new rows) where
  -- the text shows the job numbers of the holds, in any order
  held_shown : IsPermutation (map (λ r. column r 2 ∷ []) (old.now.trees holds_tree)) rows
  held_shown = column_shown 1 SELECT_HELD.now (codes "job") select_held old new has rows shown

  -- each row is of a hold
  held_of : (row : Row) → Has rows row → (hold : Row) × Has (old.now.trees holds_tree) hold × (row ≡ column hold 2 ∷ [])
  held_of row there_is =
      has_mapped (λ r. column r 2 ∷ []) (old.now.trees holds_tree) row
      (has_permuted rows (map (λ r. column r 2 ∷ []) (old.now.trees holds_tree)) row (IsPermutation-sym (map (λ r. column r 2 ∷ []) (old.now.trees holds_tree)) rows held_shown) there_is)

  -- where what is held can be called, each has the number of such a job
  pub held_callable : HoldsCanBeCalled old.now → AreCallable old.now rows
  held_callable can row there_is =
      let hold = held_of row there_is in
      let it = can hold.0 hold.1 in
      (it.0, hold.2 ∙ ap (λ v. v ∷ []) it.1, it.2)

module _ (old new : State) (m : Queue) (k : Ledger) (has : old.now.schema ≡ our_tables) (mean : CoreMeans old.now m k) (rows : List Row) (shown : Shown SELECT_HELD.now [] old new rows) where
  abbrev held : List Row
  held = old.now.trees holds_tree

  -- the rows of holds are the open grants, in any order
  same : IsPermutation (map hold_columns (open_grants m)) (map (drop 1) held)
  same = subst (λ rs. IsPermutation (map hold_columns (open_grants m)) (map (drop 1) rs)) (sym mean.2.1.1.0) mean.1.holds

  -- each is of a job
  pub held_jobs : AreOfJobs m rows
  held_jobs row there_is =
      let hold = held_of old new has rows shown row there_is in
      let g = record_of hold_columns held (open_grants m) same hold.0 hold.1 in
      let j = mean.1.held g.0 g.1 in
      let of : (j.0).number ≡ (g.0).job = eqb-true (j.0).number (g.0).job (has_found (λ (x : Job). x.number == (g.0).job) m.jobs j.0 j.1).1 in
      (j.0, hold.2 ∙ ap (λ v. v ∷ []) (after_rowid hold.0 1 ∙ ap (λ columns. column columns 1) g.2 ∙ ap number (sym of)), subst (λ n. job_numbered n m ≡ Some j.0) (sym of) j.1)

  -- there are as many rows as open grants
  permuted : IsPermutation (map (λ (g : Grant). number g.job ∷ []) (open_grants m)) rows
  permuted = column_of_grants 1 SELECT_HELD.now (codes "job") select_held old new has rows shown m same

  -- there are fewer than 2 ^ 32 of them
  pub held_few : length rows < 2 ^ 32
  held_few =
      let count : length rows ≡ length (open_grants m) = length_permutation (map (λ (g : Grant). number g.job ∷ []) (open_grants m)) rows permuted ∙ length_map (λ (g : Grant). number g.job ∷ []) (open_grants m) in
      let all = at_most_all (λ _. true) m.grants in
      let whole : length (filter (λ _. true) (open_grants m)) ≡ length (open_grants m) = ap length
      (filter_all (λ _. true) (open_grants m) (all_of _ (λ _. refl) (open_grants m))) in
      let low : length rows < 4294967296 = omega (arith, count, all, whole, grants_few mean.0 m k mean.1) in
      low

  -- so many of them are of jobs to a number as there are calls to it
  pub held_counts : (dial : List ℕ) → held_to m rows dial ≡ calls_to dial m
  held_counts dial =
      length_permutation (filter (is_to m dial) (map (λ (g : Grant). number g.job ∷ []) (open_grants m))) (filter (is_to m dial) rows) (IsPermutation-filter (is_to m dial) (map (λ (g : Grant). number g.job ∷ []) (open_grants m)) rows permuted)
      ∙ ap length (filter-map (is_to m dial) (λ (g : Grant). number g.job ∷ []) (open_grants m)) ∙ length_map (λ (g : Grant). number g.job ∷ []) (filter (λ (g : Grant). is_of_number dial (job_numbered g.job m)) (open_grants m))

  -- so the tables mean it once they are counted
  pub held_counted : (mid last : State) → mid.now ≡ old.now → SetsCalls mid last (held_to m rows) → TablesMean last.now m k
  held_counted mid last still set =
      let kept = subst (λ d. KeepsRows core_tables.tables d.trees last.now.trees) still set.rows in
      rows_mean mean.0 last.now m k set.schema_is set.sound (kept_rows core_tables.tables (mean.0).trees old.now.trees last.now.trees mean.2 kept)
      (record { is = counted_as (held_to m rows) (λ dial. calls_to dial m) (map (drop 1) (last.now.trees calls_tree)) held_counts set.calls.is; ordered = set.calls.ordered }) mean.1

-- ---- the modems that hold a grant

module _ (old new : State) (rows : List Row) (shown : Shown SELECT_HOLDERS.now [] old new rows) where
  -- the text shows the modems of the open grants, each a name, in any order
  pub holders_found : (m : Queue) (k : Ledger) → TablesMean old.now m k
      → (names : List (List ℕ)) × (rows ≡ map holder_shown names) × IsPermutation (map (λ (g : Grant). g.modem) (open_grants m)) names × All IsName names
  holders_found m k means =
      let modem = λ (g : Grant). g.modem in
      let modems = map modem (open_grants m) in
      let permuted = column_of_grants 0 SELECT_HOLDERS.now (codes "modem") select_holders old new means.schema rows shown m means.holds in
      let back = pull_back holder_shown (map (λ g. holder_shown (modem g)) (open_grants m)) rows permuted modems (sym (map-map holder_shown modem (open_grants m))) in
      let lawful = All-weaker IsLawfulGrant (λ g. IsName (modem g)) (λ g of. of.modem) (open_grants m) (all_kept IsLawfulGrant (λ g. g.is_open) m.grants means.lawful.grants) in
      (back.0, back.2, back.1, All-permutation IsName modems back.0 back.1 (All-map IsName modem (open_grants m) lawful))

  -- whatever the rows say, it shows the modem of each, in any order
  pub holders_shown : (db : Database) → db.schema ≡ our_tables → old.now ≡ db → (names : List (List ℕ)) → map (take 1) rows ≡ map holder_shown names → HoldersStand db names
  holders_shown db ours now names is =
      let first = λ (row : Row). column (take 1 row) 0 in
      let table = old.now.trees holds_tree in
      let permuted = column_shown 0 SELECT_HOLDERS.now (codes "modem") select_holders old new (ap (λ (d : Database). d.schema) now ∙ ours) rows shown in
      let left = map-map first (λ (r : Row). column r 1 ∷ []) table in
      let right = sym (map-map (λ (row : Row). column row 0) (take 1) rows) ∙ ap (map (λ (row : Row). column row 0)) is ∙ map-map (λ (row : Row). column row 0) holder_shown names in
      subst (λ (d : Database). IsPermutation (map (λ r. column r 1) (d.trees holds_tree)) (map Text names)) now
      (subst (λ values. IsPermutation values (map Text names)) left
      (subst (IsPermutation (map first (map (λ (r : Row). column r 1 ∷ []) table))) right (IsPermutation-map first (map (λ (r : Row). column r 1 ∷ []) table) rows permuted)))

-- ---- one more row

-- one more row of a job adds one to the count of the job's number to dial, and to no other
pub held_more : (m : Queue) (rows : List Row) (row : Row) (j : Job) → row ≡ number j.number ∷ [] → job_numbered j.number m ≡ Some j → (dial : List ℕ)
    → with_count j.dial (held_to m rows j.dial + 1) (held_to m rows) dial ≡ held_to m (rows ++ row ∷ []) dial
held_more m rows row j is found = one_more j.dial (held_to m rows) (held_to m (rows ++ row ∷ [])) (λ dial.
    let to : is_to m dial row ≡ bytes_eq j.dial dial = ap (is_to m dial) is ∙ ap (is_of_number dial) found in
    ap length (filter-append (is_to m dial) rows (row ∷ [])) ∙ length-append (filter (is_to m dial) rows) (cond (is_to m dial row) (row ∷ []) [])
    ∙ rw to (elim (bytes_eq j.dial dial) as (λ b. held_to m rows dial + length (cond b (row ∷ []) []) ≡ one b + held_to m rows dial)
    [ true ↦ omega arith | false ↦ omega arith ]))

-- of the first so many, no more are of jobs to a number
pub held_first : (m : Queue) (rows : List Row) (i : ℕ) (dial : List ℕ) → i < length rows → length rows < 2 ^ 32 → held_to m (take i rows) dial + 1 < 2 ^ 32
held_first m rows i dial low few =
    let all : length rows < 4294967296 = few in
    let sum : held_to m (take i rows) dial + 1 < 4294967296 = omega
    (arith, low, all, length-filter (is_to m dial) (take i rows), count_by-le-length (is_to m dial) (take i rows), length-take i rows) in
    sum

-- what rows mean, they mean where the calls alone were set
pub rows_still : (a b : State) (m : Queue) (k : Ledger) (count : List ℕ → ℕ) → SetsCalls a b count → CoreMeans a.now m k → CoreMeans b.now m k
rows_still a b m k count set mean = (mean.0, mean.1, kept_rows core_tables.tables (mean.0).trees a.now.trees b.now.trees mean.2 set.rows)

-- what a job that is there has for a number to dial, and for its own
pub dial_formed : (db : Database) (m : Queue) (k : Ledger) → TablesMean db m k → (n : ℕ) (j : Job) → job_numbered n m ≡ Some j → IsText IsCanonical j.dial
dial_formed db m k means n j found = (found_holds IsLawfulJob (λ (x : Job). x.number == n) m.jobs j means.lawful.jobs found).formed.dial

pub job_low : (db : Database) (m : Queue) (k : Ledger) → TablesMean db m k → (n : ℕ) (j : Job) → job_numbered n m ≡ Some j → j.number < 2 ^ 32
job_low db m k means n j found =
    let most = within j (found_holds IsLawfulJob (λ (x : Job). x.number == n) m.jobs j means.lawful.jobs found) in
    let low : j.number < 4294967296 = omega (arith, most) in
    low

-- ---- what can be called

-- where the jobs stay, those that can be called can be still
pub called_still : (a b : Database) → b.trees jobs_tree ≡ a.trees jobs_tree → (n : ℕ) → CanBeCalled a n → CanBeCalled b n
called_still a b same n can = record {
  low = can.low;
  job = can.job;
  there = subst (λ rows. Has rows can.job) (sym same) can.there;
  is = can.is;
  dials = λ other has of. can.dials other (subst (λ rows. Has rows other) same has) of;
}

-- where the rows stay, holds that can be called still can
pub held_still : (a b : Database) → KeepsRows alike_list a.trees b.trees → HoldsCanBeCalled a → HoldsCanBeCalled b
held_still a b kept can hold has = let it = can hold (subst (λ rows. Has rows hold) kept.1.0 has) in (it.0, it.1, called_still a b kept.0 it.0 it.2)

-- what can be called has its job
pub called_jobs : (db : Database) → HoldsCanBeCalled db → HoldJobs db
called_jobs db can hold has = let it = can hold has in ((it.2).job, (it.2).there, subst (λ v. IsOf v (it.2).job) (sym it.1) (it.2).is)

-- in rows that mean a queue all that is held can be
pub rows_callable : (db : Database) (m : Queue) (k : Ledger) → (full : Database) × TablesMean full m k × KeepsRows alike_list full.trees db.trees → HoldsCanBeCalled db
rows_callable db m k mean hold there_is =
    let same = subst (λ rs. IsPermutation (map hold_columns (open_grants m)) (map (drop 1) rs)) (sym mean.2.1.0) mean.1.holds in
    let g = record_of hold_columns (db.trees holds_tree) (open_grants m) same hold there_is in
    let j = mean.1.held g.0 g.1 in
    let one = has_found (λ (x : Job). x.number == (g.0).job) m.jobs j.0 j.1 in
    let of : (j.0).number ≡ (g.0).job = eqb-true (j.0).number (g.0).job one.1 in
    let is : column hold 2 ≡ number (j.0).number = after_rowid hold 1 ∙ ap (λ columns. column columns 1) g.2 ∙ ap number (sym of) in
    let rows : db.trees jobs_tree ≡ map row_of m.jobs = mean.2.0 ∙ mean.1.jobs in (
      (j.0).number,
      is,
      record {
        low = job_low mean.0 m k mean.1 (g.0).job j.0 j.1;
        job = row_of j.0;
        there = subst (λ rs. Has rs (row_of j.0)) (sym rows) (mapped_has row_of m.jobs j.0 one.0);
        is = number_same (j.0).number;
        dials = λ other has of.
            let it = has_mapped row_of m.jobs other (subst (λ rs. Has rs other) rows has) in
            ((it.0).dial, ap (λ r. column r 2) it.2, (all_has IsLawfulJob m.jobs it.0 (recursion_from_All IsLawfulJob m.jobs mean.1.lawful.jobs) it.1).formed.dial);
      },
    )

-- ---- counts of 32 bits

-- where nothing is counted, each count has 32 bits
pub none_small : AreSmall (λ _. 0)
none_small dial = let low : 0 < 4294967296 = omega arith in low
