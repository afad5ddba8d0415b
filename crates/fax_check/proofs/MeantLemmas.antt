-- Where the rows mean a consistent queue, each is as it has to be.
use Rattle.std.proofs.Common.{◌≡◌, inl, inr, ℕ, pos, ◌<◌, ◌≤◌, List, [], ◌∷◌, map, filter, drop, length, All, Bool, true, false, Option, Some, None, refl, sym, ap, subst, ◌∙◌, arith}
use Rattle.std.specs.Prelude.{◌==◌}
use Rattle.std.specs.List.{list_any}
use Rattle.std.specs.List.Sorted.{IsPermutation}
use Rattle.std.specs.Str.{bytes_eq}
use Rattle.std.proofs.lemmas.Bool.{both_ways, cases_Bool, eq-eqb, eqb-true}
use Rattle.std.proofs.lemmas.List.{length-map}
use Rattle.std.proofs.lemmas.List.Elements.{All-from_recursion, recursion_from_All}
use Rattle.std.proofs.lemmas.List.Sorted.{IsPermutation-sym, IsPermutation-trans, length_permutation}
use Rattle.std.proofs.lemmas.Slice.Eq.{bytes_eq-Decides}
use Rattle.sqlite.specs.Effect.{Database}
use Rattle.sqlite.specs.Order.{Row, column}
use Rattle.sqlite.specs.Tree.{IsTable}
use Rattle.sqlite.specs.declared.types.Value.{Value}
use Rattle.sqlite.specs.declared.types.Value.TheVariants.{Int, Null, Text}
use Rattle.sqlite_rules.specs.Lists.{Has}
use Rattle.sqlite_rules.proofs.ListLemmas.{all_from, all_has, has_filtered, has_found, has_kept, some_from, some_has}
use Rattle.sqlite_rules.proofs.ProbeLemmas.{mapped_has}
use Rattle.sqlite_trees.proofs.ListLemmas.{IsPermutation-filter, filter-map, filter_same}
use Rattle.fax_core.proofs.FitsLemmas.{fits_decides, job_again}
use Rattle.fax_core.proofs.PlaceLemmas.{ascend_few}
use Rattle.fax_core.specs.Fits.{is_granted}
use Rattle.fax_core.specs.Job.{Job, fields_of, job_of}
use Rattle.fax_core.specs.Ledger.{Ledger, IsLawfulEntry}
use Rattle.fax_core.specs.Queue.{Queue, grant_numbered, job_numbered, open_grants}
use Rattle.fax_core.specs.Sound.{AscendBetween, FitsFree, FitsGrant, IsJob, IsOpen, Sound}
use Rattle.fax_core.specs.Laws.{ArePast, GrantsHaveJobs}
use Rattle.fax_core.specs.Times.{AreTimed}
use Rattle.fax_core.specs.declared.times.Times.{Times}
use Rattle.fax_core.specs.State.{calls_to, is_of_number}
use Rattle.fax_core.specs.declared.grants.Grant.{Grant}
use Rattle.fax_value.specs.Name.{IsName}
use Rattle.fax_job.specs.declared.job.JobFields.{JobFields}
use Rattle.fax_layout.proofs.ColumnLemmas.{record_of}
use Rattle.fax_layout.proofs.EditLemmas.{has_mapped, has_permuted}
use Rattle.fax_schema.specs.Schema.{calls_tree, down_tree, floors_tree, grants_tree, holds_tree, jobs_tree, replies_tree, times_tree}
use Rattle.fax_tables.proofs.KeyLemmas.{only_numbered}
use Rattle.fax_tables.specs.Job.{IsLawfulJob}
use Rattle.fax_tables.specs.Meta.{meta_of}
use Rattle.fax_tables.specs.Row.{call_columns, down_columns, entry_columns, grant_row, hold_columns, job_row, number, phase_number, times_row}
use Rattle.fax_tables.specs.Tables.{IsLawfulGrant, TablesMean}
use Rattle.fax_check.proofs.TimedLemmas.{job_with, low_phase, times_of}
use Rattle.fax_check.specs.Meant.{HoldRowsAreRight, SoundRowsAreWhole, holder_of}
use Rattle.fax_check.specs.Whole.{IsWholeTable, passed, Holder, IsCallRow, IsDownRow, IsFloorRow, IsGrantRow, IsHeld, IsJobRow, IsOwned, IsReplyRow, IsRightHolder, IsTimed, IsTimesRow, Stands, dialing, holder_columns}

-- ---- lists

-- what is in a list whose numbers ascend has one below the upper bound
before_next : {X : Type 0} (num : X → ℕ) (low high : ℕ) (xs : List X) (x : X) → AscendBetween low (map num xs) high → Has xs x → num x < high
before_next num low high [] x ascend has = absurd has
before_next num low high (y ∷ ys) x ascend (inl is) =
    let few = ascend_few num (num y) high ys ascend.1 in
    let same : num x ≡ num y = ap num is in
    omega (arith, few, same)
before_next num low high (y ∷ ys) x ascend (inr more) = before_next num (num y) high ys x ascend.1 more

-- a list that has something isn't empty
some_long : {X : Type 0} (xs : List X) (x : X) → Has xs x → 1 ≤ length xs
some_long [] x has = absurd has
some_long (y ∷ ys) x has = omega arith

-- where some are kept, one of them passes
some_passes : {X : Type 0} (p : X → Bool) (xs kept : List X) → filter p xs ≡ kept → 1 ≤ length kept → (x : X) × Has xs x × (p x ≡ true)
some_passes p xs [] is some = absurd (omega (arith, some))
some_passes p xs (x ∷ kept) is some = let it = has_filtered p xs x (subst (λ all. Has all x) (sym is) (inl refl)) in (x, it.0, it.1)

-- what holds of all holds of each
pub of_all : {X : Type 0} (P : X → Type 0) (xs : List X) (x : X) → All P xs → Has xs x → P x
of_all P xs x all has = all_has P xs x (recursion_from_All P xs all) has

-- a text is equal to itself
itself : (text : List ℕ) → bytes_eq text text ≡ true
itself text = (bytes_eq-Decides text text).1 refl

-- ---- values

-- the number of a value
abbrev number_of : Value → ℕ
number_of (Int (pos n)) = n
number_of other = 0

-- the text of one
abbrev text_of : Value → List ℕ
text_of (Text text) = text
text_of other = []

-- a holder and an open grant with the same columns have the same modem, job and number
record IsAlike (h : Holder) (g : Grant) : Type 0 where
  modem : h.modem ≡ g.modem
  job : h.job ≡ g.job
  grant : h.grant ≡ g.number

alike : (h : Holder) (g : Grant) → holder_columns h ≡ hold_columns g → IsAlike h g
alike h g is = record {
  modem = ap (λ columns. text_of (column columns 0)) is;
  job = ap (λ columns. number_of (column columns 1)) is;
  grant = ap (λ columns. number_of (column columns 2)) is;
}

-- jobs with the same row have the same number
same_number : (f e : JobFields) → job_row f ≡ job_row e → f.job ≡ e.job
same_number f e is = ap (λ row. number_of (column row 0)) is

-- and dial the same
same_dial : (f e : JobFields) → job_row f ≡ job_row e → f.dial ≡ e.dial
same_dial f e is = ap (λ row. text_of (column row 2)) is

-- the holder's number to dial has a row of calls
abbrev IsCalled : Database → List Holder → Holder → Type 0
IsCalled db held h = (row : Row) × Has (db.trees calls_tree) row × (drop 1 row ≡ call_columns h.dial (dialing h.dial held))

-- ---- jobs and grants

module _ (db : Database) (m : Queue) (k : Ledger) (means : TablesMean db m k) where
  -- a row of jobs is a job's
  job_there : (row : Row) → Has (db.trees jobs_tree) row → (j : Job) × Has m.jobs j × (row ≡ job_row (fields_of j))
  job_there row has = has_mapped (λ j. job_row (fields_of j)) m.jobs row (subst (λ rows. Has rows row) means.jobs has)

  -- a job has a row
  pub job_stands : (j : Job) → Has m.jobs j → Has (db.trees jobs_tree) (job_row (fields_of j))
  job_stands j has = subst (λ rows. Has rows (job_row (fields_of j))) (sym means.jobs) (mapped_has (λ x. job_row (fields_of x)) m.jobs j has)

  -- a job is found by its number
  job_found : (j : Job) → Has m.jobs j → job_numbered j.number m ≡ Some j
  job_found j has = only_numbered (λ (x : Job). job_row (fields_of x)) (λ (x : Job). x.number) (λ x. refl) m.jobs j (subst IsTable means.jobs means.ordered.jobs.rise) has

  -- a job is lawful
  pub lawful_job : (j : Job) → Has m.jobs j → IsLawfulJob j
  lawful_job j has = of_all IsLawfulJob m.jobs j means.lawful.jobs has

  -- a job is that of its record
  pub again : (j : Job) → Has m.jobs j → job_of (fields_of j) ≡ j
  again j has = job_again j (lawful_job j has).pages

  -- a row of grants is a grant's
  grant_there : (row : Row) → Has (db.trees grants_tree) row → (g : Grant) × Has m.grants g × (row ≡ grant_row g)
  grant_there row has = has_mapped grant_row m.grants row (subst (λ rows. Has rows row) means.grants has)

  -- a grant has a row
  pub grant_stands : (g : Grant) → Has m.grants g → Has (db.trees grants_tree) (grant_row g)
  grant_stands g has = subst (λ rows. Has rows (grant_row g)) (sym means.grants) (mapped_has grant_row m.grants g has)

  -- a grant is found by its number
  grant_found : (g : Grant) → Has m.grants g → grant_numbered g.number m ≡ Some g
  grant_found g has = only_numbered grant_row (λ (x : Grant). x.number) (λ x. refl) m.grants g (subst IsTable means.grants means.ordered.grants.rise) has

  -- an open grant is found open by its number
  pub opened : (g : Grant) → Has (open_grants m) g → IsOpen m g.number g
  opened g has = let it = has_filtered (λ (x : Grant). x.is_open) m.grants g has in (grant_found g it.0, it.1)

  -- a grant that is found open is one of the open ones
  open_there : (a : ℕ) (g : Grant) → IsOpen m a g → Has (open_grants m) g
  open_there a g is = has_kept (λ (x : Grant). x.is_open) m.grants g (has_found (λ (x : Grant). x.number == a) m.grants g is.0).0 is.1

  -- ---- holders

  -- an open grant that its job fits has a right holder
  right_of : (g : Grant) (j : Job) → Has (open_grants m) g → IsJob m g.job j → FitsGrant j g → IsRightHolder db (holder_of g j.dial)
  right_of g j has is fit =
      let here = has_filtered (λ (x : Grant). x.is_open) m.grants g has in
      let there = has_found (λ (x : Job). x.number == g.job) m.jobs j is in
      record {
        grant = g;
        has_grant = grant_stands g here.0;
        number_is = refl;
        modem_is = refl;
        job_is = refl;
        is_open = here.1;
        job = fields_of j;
        has_job = job_stands j there.0;
        its_number = eqb-true j.number g.job there.1;
        dials = refl;
        fit = (fits_decides (fields_of j) (Some g)).1 (subst (λ (x : Job). FitsGrant x g) (sym (again j there.0)) fit);
      }

  -- ---- the other tables

  -- a row of down is a modem's name
  down_is : (row : Row) → Has (db.trees down_tree) row → IsDownRow row
  down_is row has =
      let it = has_mapped down_columns m.down (drop 1 row) (subst (λ rows. Has rows (drop 1 row)) means.down (mapped_has (drop 1) (db.trees down_tree) row has)) in
      (it.0, it.2, of_all IsName m.down it.0 means.lawful.down it.1)

  -- a row of replies is a lawful kept reply
  reply_is : (row : Row) → Has (db.trees replies_tree) row → IsReplyRow row
  reply_is row has =
      let it = has_mapped entry_columns k.replies (drop 1 row) (subst (λ rows. Has rows (drop 1 row)) means.replies (mapped_has (drop 1) (db.trees replies_tree) row has)) in
      (it.0, it.2, of_all IsLawfulEntry k.replies it.0 means.lawful.replies it.1)

  -- a row of floors is a client's lawful floor
  floor_is : (row : Row) → Has (db.trees floors_tree) row → IsFloorRow row
  floor_is row has =
      let it = means.floors.each (drop 1 row) (mapped_has (drop 1) (db.trees floors_tree) row has) in
      let lawful = means.lawful.floors it.0 it.2 in
      (it.0, k.floor it.0, it.1, lawful.0, it.2, lawful.1)

  -- ---- times

  module _ (timed : AreTimed m.jobs m.times) (past : ArePast m.clock m.times) where
    -- a row of times is that of a job's
    times_is : (row : Row) → Has (db.trees times_tree) row → IsTimesRow (meta_of m) db row
    times_is row has =
        let it = has_mapped times_row m.times row (subst (λ rows. Has rows row) means.times has) in
        let x = it.0 in
        let j = job_with m.jobs m.times timed x it.1 in
        let id : column row 0 ≡ number x.job = ap (λ r. column r 0) it.2 in
        record {
          submitted = x.submitted;
          ended = x.ended;
          is = it.2 ∙ ap (λ v. v ∷ Null ∷ number x.submitted ∷ number x.ended ∷ []) (sym id);
          past = all_has (λ (y : Times). (y.submitted ≤ m.clock) × (y.ended ≤ m.clock)) m.times x past it.1;
          job = job_row (fields_of j.0);
          has_job = job_stands j.0 j.1;
          its = ap number (sym j.2.job) ∙ sym id;
          phase = phase_number (j.0).phase;
          in_phase = refl;
          not_over = λ low. j.2.not_over (low_phase (j.0).phase low);
        }

    -- a row of jobs has times
    timed_is : (row : Row) → Has (db.trees jobs_tree) row → IsTimed db row
    timed_is row has =
        let it = job_there row has in
        let x = times_of m.jobs m.times timed it.0 it.1 in
        (times_row x.0, subst (λ rows. Has rows (times_row x.0)) (sym means.times) (mapped_has times_row m.times x.0 x.1), ap number x.2.job ∙ sym (ap (λ r. column r 0) it.2))

  -- ---- jobs of grants

  -- a row of grants has its job
  owned_is : GrantsHaveJobs m → (row : Row) → Has (db.trees grants_tree) row → IsOwned db row
  owned_is owned row has =
      let it = grant_there row has in
      let j = owned (it.0).number it.0 (grant_found it.0 it.1) in
      let there = has_found (λ (x : Job). x.number == (it.0).job) m.jobs j.0 j.1 in (
        job_row (fields_of j.0),
        job_stands j.0 there.0,
        ap number (eqb-true (j.0).number (it.0).job there.1) ∙ sym (ap (λ r. column r 2) it.2),
      )

  -- ---- a sound queue with these holders

  module _ (sound : Sound m) (held : List Holder) (same : IsPermutation (map holder_columns held) (map (drop 1) (db.trees holds_tree))) where
    -- the holders have the columns of the open grants
    by_columns : IsPermutation (map holder_columns held) (map hold_columns (open_grants m))
    by_columns =
        IsPermutation-trans (map holder_columns held) (map (drop 1) (db.trees holds_tree)) (map hold_columns (open_grants m)) same
        (IsPermutation-sym (map hold_columns (open_grants m)) (map (drop 1) (db.trees holds_tree)) means.holds)

    -- a holder has an open grant
    grant_of : (h : Holder) → Has held h → (g : Grant) × Has (open_grants m) g × IsAlike h g
    grant_of h has =
        let there = has_permuted (map holder_columns held) (map hold_columns (open_grants m)) (holder_columns h) by_columns (mapped_has holder_columns held h has) in
        let it = has_mapped hold_columns (open_grants m) (holder_columns h) there in
        (it.0, it.1, alike h it.0 it.2)

    -- an open grant has a holder
    held_by : (g : Grant) → Has (open_grants m) g → (h : Holder) × Has held h × IsAlike h g
    held_by g has =
        let back = IsPermutation-sym (map holder_columns held) (map hold_columns (open_grants m)) by_columns in
        let there = has_permuted (map hold_columns (open_grants m)) (map holder_columns held) (hold_columns g) back (mapped_has hold_columns (open_grants m) g has) in
        let it = has_mapped holder_columns held (hold_columns g) there in
        (it.0, it.1, alike it.0 g (sym it.2))

    -- a grant is held while it is open
    is_held : (g : Grant) → Has m.grants g → g.is_open ≡ true → IsHeld held g
    is_held g has on = let it = held_by g (has_kept (λ (x : Grant). x.is_open) m.grants g has on) in (it.0, it.1, it.2.modem, it.2.job, it.2.grant)

    -- a row of grants is one of them
    grant_is : (row : Row) → Has (db.trees grants_tree) row → IsGrantRow (meta_of m) held row
    grant_is row has =
        let it = grant_there row has in
        record {
          grant = it.0;
          is = it.2;
          lawful = of_all IsLawfulGrant m.grants it.0 means.lawful.grants it.1;
          before = before_next (λ (x : Grant). x.number) 0 m.next_grant m.grants it.0 sound.grants it.1;
          is_held = is_held it.0 it.1;
        }

    -- where a holder is of the job, it is granted
    holder_grants : (j : Job) (h : Holder) → Has m.jobs j → Has held h → h.job ≡ j.number → is_granted j.phase ≡ true
    holder_grants j h has there number =
        let g = grant_of h there in
        let of = sound.held (g.0).number g.0 (opened g.0 g.1) in
        let one : job_numbered (g.0).job m ≡ Some j = subst (λ n. job_numbered n m ≡ Some j) (sym number ∙ g.2.job) (job_found j has) in
        let it : ◌≡◌ {A = Option Job} (Some of.0) (Some j) = sym of.1 ∙ one in
        let is : of.0 ≡ j = cc in
        ap (λ (x : Job). is_granted x.phase) (sym is) ∙ ap is_granted of.2.phase

    -- where none is, it fits with no open grant
    none_fits : (j : Job) → Has m.jobs j → list_any (λ (h : Holder). h.job == j.number) held ≡ false → FitsFree j
    none_fits j has off = sound.free j.number j (job_found j has) (λ a g is of.
        let it = held_by g (open_there a g is) in
        both_ways _ off (some_from (λ (h : Holder). h.job == j.number) held it.0 it.1 (eq-eqb (it.0).job j.number (it.2.job ∙ of))))

    -- a job stands as it may
    stands : (j : Job) → Has m.jobs j → Stands held (fields_of j)
    stands j has = elim (cases_Bool (list_any (λ (h : Holder). h.job == j.number) held)) [
      | inl on ↦
          (let it = some_has (λ (h : Holder). h.job == j.number) held on in
          let number = eqb-true (it.0).job j.number it.2 in
          inl (holder_grants j it.0 has it.1 number, (it.0, it.1, number)))
      | inr off ↦ inr ((fits_decides (fields_of j) None).1 (subst FitsFree (sym (again j has)) (none_fits j has off)))
    ]

    -- a row of jobs is one of them
    job_is : (row : Row) → Has (db.trees jobs_tree) row → IsJobRow (meta_of m) held row
    job_is row has =
        let it = job_there row has in
        record {
          job = fields_of it.0;
          is = it.2;
          lawful = subst IsLawfulJob (sym (again it.0 it.1)) (lawful_job it.0 it.1);
          before = before_next (λ (x : Job). x.number) 0 m.next_job m.jobs it.0 sound.jobs it.1;
          stands = stands it.0 it.1;
        }

    -- ---- calls

    module _ (right : All (IsRightHolder db) held) where
      -- a right holder's number to dial is that of its job
      its_dial : (dial : List ℕ) (h : Holder) → Has held h → bytes_eq h.dial dial ≡ is_of_number dial (job_numbered h.job m)
      its_dial dial h has =
          let it = of_all (IsRightHolder db) held h right has in
          let j = job_there (job_row it.job) it.has_job in
          let number : (j.0).number ≡ h.job = sym (same_number it.job (fields_of j.0) j.2) ∙ it.its_number in
          let dials : (j.0).dial ≡ h.dial = sym (same_dial it.job (fields_of j.0) j.2) ∙ it.dials in
          let one : job_numbered h.job m ≡ Some j.0 = subst (λ n. job_numbered n m ≡ Some j.0) number (job_found j.0 j.1) in
          sym (ap (is_of_number dial) one ∙ ap (λ text. bytes_eq text dial) dials)

      -- as many holders dial a number as grants are open to it
      dialed : (dial : List ℕ) → dialing dial held ≡ calls_to dial m
      dialed dial =
          let of = λ (columns : Row). is_of_number dial (job_numbered (number_of (column columns 1)) m) in
          let here = filter_same (λ (h : Holder). bytes_eq h.dial dial) (λ (h : Holder). of (holder_columns h)) held (all_from _ held (its_dial dial)) in
          let kept = IsPermutation-filter of (map holder_columns held) (map hold_columns (open_grants m)) by_columns in
          ap (λ hs. length hs) here
          ∙ sym (length-map (filter (λ (h : Holder). of (holder_columns h)) held) holder_columns)
          ∙ sym (ap (λ rows. length rows) (filter-map of holder_columns held))
          ∙ sym (length_permutation (filter of (map holder_columns held)) (filter of (map hold_columns (open_grants m))) kept)
          ∙ ap (λ rows. length rows) (filter-map of hold_columns (open_grants m))
          ∙ length-map (filter (λ (g : Grant). of (hold_columns g)) (open_grants m)) hold_columns

      -- a row of calls is of a number that is dialed
      call_is : (row : Row) → Has (db.trees calls_tree) row → IsCallRow held row
      call_is row has =
          let it = means.calls.each (drop 1 row) (mapped_has (drop 1) (db.trees calls_tree) row has) in
          let to = λ (h : Holder). bytes_eq h.dial it.0 in
          let h = some_passes to held (filter to held) refl (subst (λ n. 1 ≤ n) (sym (dialed it.0)) it.2) in
          let is : (h.0).dial ≡ it.0 = (bytes_eq-Decides (h.0).dial it.0).0 h.2 in
          (h.0, h.1, it.1 ∙ ap (call_columns it.0) (sym (dialed it.0)) ∙ ap (λ dial. call_columns dial (dialing dial held)) (sym is))

      -- a number that is dialed has a row of calls
      called : (h : Holder) → Has held h → IsCalled db held h
      called h has =
          let to = λ (x : Holder). bytes_eq x.dial h.dial in
          let some = some_long (filter to held) h (has_kept to held h has (itself h.dial)) in
          let it = has_mapped (drop 1) (db.trees calls_tree) (call_columns h.dial (calls_to h.dial m)) (means.calls.all h.dial (subst (λ n. 1 ≤ n) (dialed h.dial) some)) in
          (it.0, it.1, sym it.2 ∙ ap (call_columns h.dial) (sym (dialed h.dial)))

-- ---- the laws

pub hold_rows_are_right : HoldRowsAreRight
hold_rows_are_right db m k means sound row has =
    let it = record_of hold_columns (db.trees holds_tree) (open_grants m) means.holds row has in
    let of = sound.held (it.0).number it.0 (opened db m k means it.0 it.1) in
    (holder_of it.0 (of.0).dial, it.2, right_of db m k means it.0 of.0 it.1 of.1 of.2)

pub sound_rows_are_whole : SoundRowsAreWhole
sound_rows_are_whole db m k held means consistent same right = let sound = consistent.sound in record {
  meta_is = means.meta;
  numbers = λ q. record { clock = means.lawful.meta.clock; next_job = means.lawful.meta.next_job; next_grant = means.lawful.meta.next_grant };
  holders = same;
  right = right;
  tables = All-from_recursion (IsWholeTable (meta_of m) held db) passed (
    grant_is db m k means sound held same,
    (
      job_is db m k means sound held same,
      (
        times_is db m k means sound.timed consistent.past,
        (
          timed_is db m k means sound.timed consistent.past,
          (owned_is db m k means consistent.owned, (down_is db m k means, (reply_is db m k means, (floor_is db m k means, (call_is db m k means sound held same right, tt))))),
        ),
      ),
    ),
  );
  called = All-from_recursion _ held (all_from (IsCalled db held) held (called db m k means sound held same right));
}
