-- Rows that are each as they have to be mean a consistent queue.
use Rattle.std.proofs.Common.{◌≡◌, ◌≢◌, inl, inr, ◌<◌, ◌≤◌, ℕ, List, [], ◌∷◌, false, leb, length, map, filter, drop, Bool, true, Option, Some, None, IsTrue, refl, sym, ap, subst, ◌∙◌, arith}
use Rattle.std.specs.Prelude.{◌==◌}
use Rattle.std.specs.List.Sorted.{IsPermutation}
use Rattle.std.specs.Str.{bytes_eq}
use Rattle.std.proofs.lemmas.Bool.{and_parts, eqb-true, leb-true}
use Rattle.std.proofs.lemmas.List.{length-map}
use Rattle.std.proofs.lemmas.List.Elements.{recursion_from_All}
use Rattle.std.proofs.lemmas.List.Sorted.{IsPermutation-map, IsPermutation-trans, length_permutation}
use Rattle.std.proofs.lemmas.Slice.Eq.{bytes_eq-Decides}
use Rattle.sqlite.specs.Effect.{Database}
use Rattle.sqlite.specs.Order.{Row, column}
use Rattle.sqlite.specs.Tree.{IsTable}
use Rattle.sqlite.specs.declared.types.Value.TheVariants.{Null}
use Rattle.sqlite_rules.specs.Lists.{Has}
use Rattle.sqlite_rules.proofs.ListLemmas.{all_from, all_has, has_filtered, has_found, has_kept}
use Rattle.sqlite_rules.proofs.ProbeLemmas.{mapped_has}
use Rattle.sqlite_trees.proofs.ListLemmas.{IsPermutation-filter, ascending-filter, ascending-map, ascending_weaker, filter-map, filter_same, map-map}
use Rattle.fax_check.specs.Sound.{IsSound, IsStored}
use Rattle.fax_check.specs.declared.tables.Query.TheVariants.{Calls, Down, Floors, Grants, Jobs, Owned, Replies, Timed, Times}
use Rattle.fax_check.specs.Whole.{AreWhole, Holder, IsWholeTable, IsHeld, IsRightHolder, Stands, dialing, holder_columns}
use Rattle.fax_check.proofs.FieldLemmas.{dial_of as dialed_by, fit_of, number_of, numbers, one_grant, same_holder}
use Rattle.fax_check.proofs.FloorLemmas.{IsLawfulFloor, columns_of, floor_in, floors_counted, floors_lawful}
use Rattle.fax_check.proofs.HeldLemmas.{held_apart, one_of_job, one_of_modem}
use Rattle.fax_check.proofs.MadeLemmas.{ascend, AreApart, Made, all_each, made, made_columns, one_there, rising, same_elements, some_length}
use Rattle.fax_check.proofs.OnceLemmas.{clients_once}
use Rattle.fax_check.proofs.TimedLemmas.{all_timed, not_over}
use Rattle.fax_core.specs.Fits.{fits}
use Rattle.fax_core.specs.Job.{Job, fields_of, job_of}
use Rattle.fax_core.specs.Laws.{ArePast, GrantsHaveJobs}
use Rattle.fax_core.specs.Ledger.{Ledger, IsLawfulEntry}
use Rattle.fax_core.specs.Machine.{dial_of}
use Rattle.fax_core.specs.Queue.{Queue, empty_queue, grant_numbered, job_numbered, open_grants}
use Rattle.fax_core.specs.Sound.{AscendBetween, Fits, FitsFree, IsJob, IsOpen, Sound}
use Rattle.fax_core.specs.Times.{AreTimed, FitsTimes, has_ended}
use Rattle.fax_core.specs.declared.times.Times.{Times as TimesOf}
use Rattle.fax_core.specs.State.{calls_to, is_of_number}
use Rattle.fax_core.specs.declared.grants.Grant.{Grant}
use Rattle.fax_core.proofs.FitsLemmas.{fits_decides, record_again}
use Rattle.fax_core.proofs.RecordLemmas.{within_limits_of}
use Rattle.fax_value.specs.Limits.{last_job, last_moment}
use Rattle.fax_value.specs.Name.{IsName}
use Rattle.fax_job.specs.declared.job.JobFields.{JobFields}
use Rattle.fax_schema.specs.Schema.{calls_tree, down_tree, floors_tree, grants_tree, holds_tree, jobs_tree, replies_tree, times_tree}
use Rattle.fax_layout.proofs.EditLemmas.{has_mapped}
use Rattle.fax_tables.specs.Job.{IsLawfulJob}
use Rattle.fax_tables.specs.Row.{job_row, grant_row, hold_columns, down_columns, entry_columns, call_columns, number, phase_number, times_row}
use Rattle.fax_tables.specs.Tables.{AreCounted, AreLawfulTimes, HaveJobs, IsLawfulGrant, TablesMean}
use Rattle.fax_tables.specs.declared.meta.Meta.{Meta}
use Rattle.fax_tables.proofs.KeyLemmas.{only_numbered}
use Rattle.fax_tables.proofs.TablesLemmas.{counted_as, row_of}

-- what a holder has in a queue that is made of jobs: its open grant, and the job, whose number it dials, which fits that grant
record Its (m : Queue) (fs : List JobFields) (h : Holder) : Type 0 where
  grant : Grant
  has_grant : Has m.grants grant
  number_is : grant.number ≡ h.grant
  modem_is : grant.modem ≡ h.modem
  job_is : grant.job ≡ h.job
  is_open : grant.is_open ≡ true
  job : JobFields
  has_job : Has fs job
  its_number : job.job ≡ h.job
  dials : job.dial ≡ h.dial
  fit : fits job (Some grant) ≡ true

module _ (db : Database) (meta : Meta) (held : List Holder) (stored : IsStored db) (whole : AreWhole db meta held) where
  -- ---- the tables that are passed

  whole_grants : IsWholeTable meta held db Grants
  whole_grants = whole.tables 0 Grants (omega arith)

  whole_jobs : IsWholeTable meta held db Jobs
  whole_jobs = whole.tables 1 Grants (omega arith)

  whole_times : IsWholeTable meta held db Times
  whole_times = whole.tables 2 Grants (omega arith)

  whole_timed : IsWholeTable meta held db Timed
  whole_timed = whole.tables 3 Grants (omega arith)

  whole_owned : IsWholeTable meta held db Owned
  whole_owned = whole.tables 4 Grants (omega arith)

  whole_down : IsWholeTable meta held db Down
  whole_down = whole.tables 5 Grants (omega arith)

  whole_replies : IsWholeTable meta held db Replies
  whole_replies = whole.tables 6 Grants (omega arith)

  whole_floors : IsWholeTable meta held db Floors
  whole_floors = whole.tables 7 Grants (omega arith)

  whole_calls : IsWholeTable meta held db Calls
  whole_calls = whole.tables 8 Grants (omega arith)

  -- ---- the queue

  abbrev IsJobOf : JobFields → Type 0
  IsJobOf f = IsLawfulJob (job_of f) × (f.job < meta.next_job) × Stands held f

  jobs_made : Made job_row IsJobOf (db.trees jobs_tree)
  jobs_made = made job_row IsJobOf (db.trees jobs_tree) (λ r has. let it = whole_jobs r has in (it.job, it.is, (it.lawful, it.before, it.stands)))

  -- neither of a job's times is later than the clock
  abbrev IsPast : TimesOf → Type 0
  IsPast x = (x.submitted ≤ meta.clock) × (x.ended ≤ meta.clock)

  -- times are of one of the jobs
  abbrev AreTimesOf : TimesOf → Type 0
  AreTimesOf x = AreLawfulTimes x × IsPast x × (f : JobFields) × Has jobs_made.of f × (f.job ≡ x.job) × (has_ended f.phase ≡ false → x.ended ≡ 0)

  times_made : Made times_row AreTimesOf (db.trees times_tree)
  times_made = made times_row AreTimesOf (db.trees times_tree) (λ r has.
      let it = whole_times r has in
      let f = has_mapped job_row jobs_made.of it.job (subst (λ rows. Has rows it.job) jobs_made.is it.has_job) in
      let number_is : column r 0 ≡ number (f.0).job = sym it.its ∙ ap (λ row. column row 0) f.2 in
      let phase_is : it.phase ≡ phase_number (f.0).phase = numbers it.phase (phase_number (f.0).phase) (sym it.in_phase ∙ ap (λ row. column row 18) f.2) in (
        record { job = (f.0).job; submitted = it.submitted; ended = it.ended },
        it.is ∙ ap (λ v. v ∷ Null ∷ number it.submitted ∷ number it.ended ∷ []) number_is,
        (record { submitted = moment it.submitted it.past.0; ended = moment it.ended it.past.1 }, it.past, f.0, f.1, refl, λ going. it.not_over (not_over (f.0).phase it.phase phase_is going)),
      ))
    where
      moment : (n : ℕ) → n ≤ meta.clock → n ≤ last_moment
      moment n past = let clock = (whole.numbers empty_queue).clock in omega (arith, past, clock)

  abbrev IsGrantOf : Grant → Type 0
  IsGrantOf g = IsLawfulGrant g × (g.number < meta.next_grant) × (IsTrue g.is_open → IsHeld held g)

  grants_made : Made grant_row IsGrantOf (db.trees grants_tree)
  grants_made = made grant_row IsGrantOf (db.trees grants_tree) (λ r has. let it = whole_grants r has in (it.grant, it.is, (it.lawful, it.before, it.is_held)))

  down_made : Made down_columns IsName (map (drop 1) (db.trees down_tree))
  down_made = made_columns down_columns IsName (db.trees down_tree) whole_down

  replies_made : Made entry_columns IsLawfulEntry (map (drop 1) (db.trees replies_tree))
  replies_made = made_columns entry_columns IsLawfulEntry (db.trees replies_tree) whole_replies

  floors_made : Made columns_of IsLawfulFloor (map (drop 1) (db.trees floors_tree))
  floors_made = made_columns columns_of IsLawfulFloor (db.trees floors_tree) (λ r has.
      let it = whole_floors r has in
      (record { client = it.0; upto = it.1 }, it.2, record { name = it.3; some = it.4; low = it.5 }))

  abbrev queue : Queue
  queue = record { jobs = map job_of jobs_made.of; grants = grants_made.of; down = down_made.of; times = times_made.of; clock = meta.clock; next_job = meta.next_job; next_grant = meta.next_grant }

  abbrev ledger : Ledger
  ledger = record { replies = replies_made.of; floor = floor_in floors_made.of }

  -- the grants that are open
  abbrev opened : List Grant
  opened = open_grants queue

  -- ---- its jobs and grants

  -- each record is that of its job
  again : map (λ (f : JobFields). row_of (job_of f)) jobs_made.of ≡ map job_row jobs_made.of
  again = λ i. map (λ (f : JobFields). job_row (record_again f i)) jobs_made.of

  jobs_are : db.trees jobs_tree ≡ map row_of queue.jobs
  jobs_are = jobs_made.is ∙ sym (map-map row_of job_of jobs_made.of ∙ again)

  jobs_rise : IsTable (map row_of queue.jobs)
  jobs_rise = subst IsTable jobs_are stored.ordered.jobs.rise

  grants_rise : IsTable (map grant_row queue.grants)
  grants_rise = subst IsTable grants_made.is stored.ordered.grants.rise

  -- a job is found by its number
  job_found : (f : JobFields) → Has jobs_made.of f → job_numbered f.job queue ≡ Some (job_of f)
  job_found f has = only_numbered row_of (λ (j : Job). j.number) (λ j. refl) queue.jobs (job_of f) jobs_rise (mapped_has job_of jobs_made.of f has)

  -- so is a grant
  grant_found : (g : Grant) → Has queue.grants g → grant_numbered g.number queue ≡ Some g
  grant_found g has = only_numbered grant_row (λ (x : Grant). x.number) (λ x. refl) queue.grants g grants_rise has

  -- the numbers of jobs ascend
  jobs_ascend : AscendBetween 0 (map (λ (j : Job). j.number) queue.jobs) queue.next_job
  jobs_ascend = ascend (λ (j : Job). j.number) 0 queue.next_job queue.jobs (rising row_of (λ (j : Job). j.number) (λ j. refl) queue.jobs jobs_rise) within (whole.numbers queue).next_job.0
    where
      within : (j : Job) → Has queue.jobs j → (0 < j.number) × (j.number < queue.next_job)
      within j has =
          let f = has_mapped job_of jobs_made.of j has in
          let it = jobs_made.each f.0 f.1 in
          let least : 1 ≤ (f.0).job = leb-true 1 (f.0).job (and_parts (leb 1 (f.0).job) (leb (f.0).job last_job) (within_limits_of (fields_of (job_of f.0)) it.0.limits).number).0 in
          let same : j.number ≡ (f.0).job = ap (λ (x : Job). x.number) f.2 in
          let before : (f.0).job < meta.next_job = it.1 in
          (omega (arith, least, same), omega (arith, before, same))

  -- so do those of grants
  grants_ascend : AscendBetween 0 (map (λ (g : Grant). g.number) queue.grants) queue.next_grant
  grants_ascend = ascend (λ (g : Grant). g.number) 0 queue.next_grant queue.grants (rising grant_row (λ (g : Grant). g.number) (λ g. refl) queue.grants grants_rise) within (whole.numbers queue).next_grant.0
    where
      within : (g : Grant) → Has queue.grants g → (0 < g.number) × (g.number < queue.next_grant)
      within g has = let it = grants_made.each g has in (it.0.limits.number.0, it.1)

  -- ---- its times

  times_rise : IsTable (map times_row queue.times)
  times_rise = subst IsTable times_made.is stored.ordered.times.rise

  -- each job has its times
  its_times : (j : Job) → Has queue.jobs j → (x : TimesOf) × Has queue.times x × (x.job ≡ j.number)
  its_times j has =
      let f = has_mapped job_of jobs_made.of j has in
      let timed = whole_timed (job_row f.0) (subst (λ rows. Has rows (job_row f.0)) (sym jobs_made.is) (mapped_has job_row jobs_made.of f.0 f.1)) in
      let x = has_mapped times_row times_made.of timed.0 (subst (λ rows. Has rows timed.0) times_made.is timed.1) in
      (x.0, x.1, numbers (x.0).job (f.0).job (sym (ap (λ row. column row 0) x.2) ∙ timed.2) ∙ sym (ap (λ (j : Job). j.number) f.2))

  -- and times have their job
  their_job : (x : TimesOf) → Has queue.times x → (j : Job) × Has queue.jobs j × FitsTimes j x
  their_job x has =
      let it = times_made.each x has in
      (job_of it.2, mapped_has job_of jobs_made.of it.2 it.3, record { job = sym it.4; not_over = it.5 })

  timed : AreTimed queue.jobs queue.times
  timed =
      all_timed queue.jobs queue.times (rising row_of (λ (j : Job). j.number) (λ j. refl) queue.jobs jobs_rise) (rising times_row (λ (x : TimesOf). x.job) (λ x. refl) queue.times times_rise)
      its_times their_job

  -- ---- holders

  -- a holder has an open grant and a job
  its : (h : Holder) → Has held h → Its queue jobs_made.of h
  its h has =
      let it : IsRightHolder db h = all_has (IsRightHolder db) held h (recursion_from_All (IsRightHolder db) held whole.right) has in
      let g = has_mapped grant_row grants_made.of (grant_row it.grant) (subst (λ rows. Has rows (grant_row it.grant)) grants_made.is it.has_grant) in
      let f = has_mapped job_row jobs_made.of (job_row it.job) (subst (λ rows. Has rows (job_row it.job)) jobs_made.is it.has_job) in
      record {
        grant = it.grant;
        has_grant = subst (Has queue.grants) (sym (one_grant it.grant g.0 g.2)) g.1;
        number_is = it.number_is;
        modem_is = it.modem_is;
        job_is = it.job_is;
        is_open = it.is_open;
        job = f.0;
        has_job = f.1;
        its_number = number_of f.0 it.job (sym f.2) ∙ it.its_number;
        dials = dialed_by f.0 it.job (sym f.2) ∙ it.dials;
        fit = fit_of f.0 it.job (sym f.2) it.grant it.fit;
      }

  -- an open grant is held
  held_by : (g : Grant) → Has opened g → IsHeld held g
  held_by g has = let it = has_filtered (λ (x : Grant). x.is_open) queue.grants g has in (grants_made.each g it.0).2 it.1

  -- a grant that is found open is one of those
  open_has : (n : ℕ) (g : Grant) → IsOpen queue n g → Has opened g × (g.number ≡ n)
  open_has n g it =
      let there = has_found (λ (x : Grant). x.number == n) queue.grants g it.0 in
      (has_kept (λ (x : Grant). x.is_open) queue.grants g there.0 it.1, eqb-true g.number n there.1)

  -- ---- open grants and holders are the same

  -- what holds a grant
  abbrev holder_of : Grant → Holder
  holder_of g = record { modem = g.modem; job = g.job; grant = g.number; dial = dial_of (job_numbered g.job queue) }

  -- the job of a held grant is there
  job_of_held : (g : Grant) (h : Holder) → Has held h → g.job ≡ h.job → (f : JobFields) × (job_numbered g.job queue ≡ Some (job_of f)) × (f.dial ≡ h.dial)
  job_of_held g h has job = let it = its h has in (it.job, ap (λ n. job_numbered n queue) (job ∙ sym it.its_number) ∙ job_found it.job it.has_job, it.dials)

  is_holder : (g : Grant) (h : Holder) → Has held h → g.modem ≡ h.modem → g.job ≡ h.job → g.number ≡ h.grant → holder_of g ≡ h
  is_holder g h has modem job grant = let f = job_of_held g h has job in same_holder h g.modem g.job g.number (dial_of (job_numbered g.job queue)) modem job grant (ap dial_of f.1 ∙ f.2)

  -- each open grant has its job
  has_its_job : (g : Grant) → Has opened g → (f : JobFields) × (job_numbered g.job queue ≡ Some (job_of f))
  has_its_job g has = let h = held_by g has in let f = job_of_held g h.0 h.1 (sym h.3) in (f.0, f.1)

  -- no grant is held twice
  grants_apart : AreApart (map holder_of opened)
  grants_apart =
      ascending-map (λ a b. a ≢ b) holder_of opened
      (ascending_weaker (λ (x y : Grant). x.number < y.number) (λ x y. holder_of x ≢ holder_of y)
      (λ x y low same. let e : x.number ≡ y.number = ap (λ (h : Holder). h.grant) same in omega (arith, low, e)) opened
      (ascending-filter (λ (x y : Grant). x.number < y.number) (λ (g : Grant). g.is_open) queue.grants (rising grant_row (λ (g : Grant). g.number) (λ g. refl) queue.grants grants_rise)))

  -- the open grants are held by the holders, and these hold no other
  same_held : IsPermutation (map holder_of opened) held
  same_held = same_elements (map holder_of opened) held grants_apart (held_apart db stored held whole.holders) to back
    where
      to : (h : Holder) → Has (map holder_of opened) h → Has held h
      to h has =
          let g = has_mapped holder_of opened h has in
          let x = held_by g.0 g.1 in
          subst (Has held) (sym (g.2 ∙ is_holder g.0 x.0 x.1 (sym x.2) (sym x.3) (sym x.4))) x.1

      back : (h : Holder) → Has held h → Has (map holder_of opened) h
      back h has =
          let it = its h has in
          let there = has_kept (λ (x : Grant). x.is_open) queue.grants it.grant it.has_grant it.is_open in
          subst (Has (map holder_of opened)) (is_holder it.grant h has it.modem_is it.job_is it.number_is) (mapped_has holder_of opened it.grant there)

  -- so the rows of holds are the open grants, in any order
  holds_are : IsPermutation (map hold_columns opened) (map (drop 1) (db.trees holds_tree))
  holds_are =
      IsPermutation-trans (map hold_columns opened) (map holder_columns held) (map (drop 1) (db.trees holds_tree))
      (subst (λ columns. IsPermutation columns (map holder_columns held)) (map-map holder_columns holder_of opened)
      (IsPermutation-map holder_columns (map holder_of opened) held same_held))
      whole.holders

  -- ---- calls

  module _ (dial : List ℕ) where
    abbrev dials_it : Holder → Bool
    dials_it h = bytes_eq h.dial dial

    -- a grant is of a job to the number just where its holder dials it
    of_number : (g : Grant) → Has opened g → dials_it (holder_of g) ≡ is_of_number dial (job_numbered g.job queue)
    of_number g has = let f = has_its_job g has in ap (λ o. bytes_eq (dial_of o) dial) f.1 ∙ sym (ap (is_of_number dial) f.1)

    -- as many holders dial a number as grants are open to it
    calls_are : dialing dial held ≡ calls_to dial queue
    calls_are =
        length_permutation (filter dials_it (map holder_of opened)) (filter dials_it held) (IsPermutation-filter dials_it (map holder_of opened) held same_held)
        ∙ ap length (filter-map dials_it holder_of opened) ∙ length-map (filter (λ g. dials_it (holder_of g)) opened) holder_of
        ∙ ap length (filter_same (λ g. dials_it (holder_of g)) (λ g. is_of_number dial (job_numbered g.job queue)) opened
        (all_from (λ g. dials_it (holder_of g) ≡ is_of_number dial (job_numbered g.job queue)) opened of_number))

  -- each number that a holder dials stands in a row of calls
  abbrev IsCalled : Holder → Type 0
  IsCalled h = (row : Row) × Has (db.trees calls_tree) row × (drop 1 row ≡ call_columns h.dial (dialing h.dial held))

  dialed : AreCounted (λ dial. dialing dial held) (map (drop 1) (db.trees calls_tree))
  dialed = record {
    each = λ row has.
        let r = has_mapped (drop 1) (db.trees calls_tree) row has in
        let it = whole_calls r.0 r.1 in
        ((it.0).dial, r.2 ∙ it.2, some_length (filter (dials_it (it.0).dial) held) it.0 (has_kept (dials_it (it.0).dial) held it.0 it.1 ((bytes_eq-Decides (it.0).dial (it.0).dial).1 refl)));
    all = λ dial some.
        let x = one_there (filter (dials_it dial) held) some in
        let h = has_filtered (dials_it dial) held x.0 x.1 in
        let it = all_has IsCalled held x.0 (recursion_from_All IsCalled held whole.called) h.0 in
        subst (λ d. Has (map (drop 1) (db.trees calls_tree)) (call_columns d (dialing d held))) ((bytes_eq-Decides (x.0).dial dial).0 h.1)
        (subst (Has (map (drop 1) (db.trees calls_tree))) it.2 (mapped_has (drop 1) (db.trees calls_tree) it.0 it.1));
  }

  -- ---- what the tables mean

  have_jobs : HaveJobs queue
  have_jobs g has = let f = has_its_job g has in (job_of f.0, f.1)

  lawful_job : (j : Job) → Has queue.jobs j → IsLawfulJob j
  lawful_job j has = let f = has_mapped job_of jobs_made.of j has in subst IsLawfulJob (sym f.2) (jobs_made.each f.0 f.1).0

  tables_mean : TablesMean db queue ledger
  tables_mean = record {
    schema = stored.schema_is;
    sound = stored.sound;
    jobs = jobs_are;
    grants = grants_made.is;
    holds = holds_are;
    down = down_made.is;
    replies = replies_made.is;
    floors = floors_counted (db.trees floors_tree) stored.ordered.floors (clients_once db stored.schema_is stored.sound) floors_made.of floors_made.is floors_made.each;
    times = times_made.is;
    meta = whole.meta_is;
    held = have_jobs;
    calls = counted_as (λ dial. dialing dial held) (λ dial. calls_to dial queue) (map (drop 1) (db.trees calls_tree)) calls_are dialed;
    ordered = stored.ordered;
    lawful = record {
      jobs = all_each IsLawfulJob queue.jobs lawful_job;
      grants = all_each IsLawfulGrant queue.grants (λ g has. (grants_made.each g has).0);
      down = all_each IsName queue.down down_made.each;
      replies = all_each IsLawfulEntry ledger.replies replies_made.each;
      meta = whole.numbers queue;
      times = all_each AreLawfulTimes queue.times (λ x has. (times_made.each x has).0);
      floors = floors_lawful (db.trees floors_tree) stored.ordered.floors (clients_once db stored.schema_is stored.sound) floors_made.of floors_made.is floors_made.each;
    };
  }

  -- ---- that the queue is sound

  -- open grants of one modem are one
  one_to_a_modem : (a b : ℕ) (g h : Grant) → IsOpen queue a g → IsOpen queue b h → g.modem ≡ h.modem → a ≡ b
  one_to_a_modem a b g h is_g is_h same =
      let of_g = open_has a g is_g in
      let of_h = open_has b h is_h in
      let x = held_by g of_g.0 in
      let y = held_by h of_h.0 in
      sym of_g.1 ∙ sym x.4 ∙ one_of_modem db stored held whole.holders x.0 y.0 x.1 y.1 (x.2 ∙ same ∙ sym y.2) ∙ y.4 ∙ of_h.1

  -- so are those of one job
  one_of_a_job : (a b : ℕ) (g h : Grant) → IsOpen queue a g → IsOpen queue b h → g.job ≡ h.job → a ≡ b
  one_of_a_job a b g h is_g is_h same =
      let of_g = open_has a g is_g in
      let of_h = open_has b h is_h in
      let x = held_by g of_g.0 in
      let y = held_by h of_h.0 in
      sym of_g.1 ∙ sym x.4 ∙ one_of_job db stored held whole.holders x.0 y.0 x.1 y.1 (x.3 ∙ same ∙ sym y.3) ∙ y.4 ∙ of_h.1

  same_some : {A : Type 0} (a b : A) → ◌≡◌ {A = Option A} (Some a) (Some b) → a ≡ b
  same_some a b e = cc

  -- an open grant fits its job
  held_fits : (a : ℕ) (g : Grant) → IsOpen queue a g → (j : Job) × IsJob queue g.job j × Fits j (Some g)
  held_fits a g is =
      let of_g = open_has a g is in
      let x = held_by g of_g.0 in
      let it = its x.0 x.1 in
      let there = has_filtered (λ (y : Grant). y.is_open) queue.grants g of_g.0 in
      let same : it.grant ≡ g =
      same_some it.grant g (sym (grant_found it.grant it.has_grant) ∙ ap (λ n. grant_numbered n queue) (it.number_is ∙ x.4) ∙ grant_found g there.0) in
      let found : job_numbered g.job queue ≡ Some (job_of it.job) = ap (λ n. job_numbered n queue) (sym x.3 ∙ sym it.its_number) ∙ job_found it.job it.has_job in
      (job_of it.job, found, (fits_decides it.job (Some g)).0 (subst (λ (y : Grant). fits it.job (Some y) ≡ true) same it.fit))

  -- a job that no open grant has fits alone
  free_fits : (n : ℕ) (j : Job) → IsJob queue n j → ((a : ℕ) (g : Grant) → IsOpen queue a g → g.job ≢ n) → Fits j None
  free_fits n j is none =
      let there = has_found (λ (x : Job). x.number == n) queue.jobs j is in
      let f = has_mapped job_of jobs_made.of j there.0 in
      let of : (f.0).job ≡ n = sym (ap (λ (x : Job). x.number) f.2) ∙ eqb-true j.number n there.1 in
      subst FitsFree (sym f.2) (alone f.0 of (jobs_made.each f.0 f.1).2)
    where
      alone : (f : JobFields) → f.job ≡ n → Stands held f → FitsFree (job_of f)
      alone f of (inl granted) =
          let h = granted.1 in
          let it = its h.0 h.1 in
          absurd (none (it.grant).number it.grant (grant_found it.grant it.has_grant, it.is_open) (it.job_is ∙ h.2 ∙ of))
      alone f of (inr fit) = (fits_decides f None).0 fit

  queue_sound : Sound queue
  queue_sound = record {
    jobs = jobs_ascend;
    grants = grants_ascend;
    one_to_a_modem = one_to_a_modem;
    one_of_a_job = one_of_a_job;
    held = held_fits;
    timed = timed;
    free = free_fits;
  }

  -- ---- that it is consistent

  -- each grant's job is there
  queue_owned : GrantsHaveJobs queue
  queue_owned a g is =
      let there = has_found (λ (x : Grant). x.number == a) queue.grants g is in
      let it = whole_owned (grant_row g) (subst (λ rows. Has rows (grant_row g)) (sym grants_made.is) (mapped_has grant_row grants_made.of g there.0)) in
      let f = has_mapped job_row jobs_made.of it.0 (subst (λ rows. Has rows it.0) jobs_made.is it.1) in
      let same : (f.0).job ≡ g.job = numbers (f.0).job g.job (sym (ap (λ row. column row 0) f.2) ∙ it.2) in
      (job_of f.0, subst (λ n. job_numbered n queue ≡ Some (job_of f.0)) same (job_found f.0 f.1))

  -- no submission or end is later than the clock
  queue_past : ArePast queue.clock queue.times
  queue_past = all_from IsPast queue.times (λ x has. (times_made.each x has).1)

  pub rows_are_sound : IsSound db
  rows_are_sound = (queue, ledger, tables_mean, record { sound = queue_sound; owned = queue_owned; past = queue_past })
