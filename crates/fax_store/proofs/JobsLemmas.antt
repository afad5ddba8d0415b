-- What the texts on all jobs read, in the one order in which their numbers don't fall, and those on the jobs that wait.
use Rattle.std.proofs.Common.{◌≡◌, ◌<◌, ◌+◌, ℕ, pos, List, [], map, take, filter, true, nat_lt, get_or, refl, sym, ap, ap₂, subst, ◌∙◌, arith, ◌∷◌, ◌++◌, Bool, not, ◌&&◌, ◌||◌, Option, Some, None, unwrap_or, Ordering, Less, Equal, Greater, IsPermutation, IsSorted, IsSortedBy, ◌==◌, nat_le}
use Rattle.std.specs.Ordering.{is_lt, int_cmp, nat_cmp, on, ordering_then, is_eq, is_gt}
use Rattle.std.proofs.lemmas.Bool.Decides.{nat_tests}
use Rattle.std.proofs.lemmas.Cmp.{nat_cmp_total, on_total}
use Rattle.std.proofs.Math.ListN.{get_or-map}
use Rattle.sqlite_keyed.proofs.SortLemmas.{sorted_unique}
use Rattle.std.proofs.lemmas.List.Sorted.{IsPermutation-map}
use Rattle.sqlite.specs.Effect.{Database}
use Rattle.sqlite.specs.Order.{Row, column}
use Rattle.sqlite.specs.Query.{output_cmp, Output, Query}
use Rattle.sqlite.specs.State.{State, Shown}
use Rattle.sqlite.specs.Tree.{rowid, IsTable}
use Rattle.sqlite.proofs.Callers.{reads_as}
use Rattle.sqlite_trees.specs.Tree.{IsAscending}
use Rattle.sqlite_trees.proofs.ListLemmas.{map-map, filter_all, all_of, pull_back, ascending_from_map, ascending_weaker, filter-map, filter_same}
use Rattle.sqlite.specs.Collation.TheVariants.{Binary}
use Rattle.sqlite.specs.declared.types.Value.{Value}
use Rattle.sqlite.specs.declared.types.Value.TheVariants.{Null, Int, Real, Text, Blob}
use Rattle.sqlite_catalog.proofs.LayoutLemmas.{ascending_filter}
use Rattle.sqlite_sql.specs.declared.ops.BinaryOp.TheVariants.{Compare}
use Rattle.sqlite_sql.specs.declared.ops.CompareOp.TheVariants.{Ge}
use Rattle.sqlite_sql.specs.Ops.{binary, is_true, test}
use Rattle.sqlite_value.specs.Order.{value_cmp}
use Rattle.sqlite_value.proofs.OrderLemmas.{value_cmp-Int}
use Rattle.fax_core.specs.Job.{Job, fields_of}
use Rattle.fax_core.specs.Ledger.{Ledger}
use Rattle.fax_core.specs.Queue.{Queue}
use Rattle.fax_schema.specs.declared.statements.TheConstants.{SELECT_BRIEFS, SELECT_BRIEFS_FROM}
use Rattle.fax_tables.specs.Job.{brief_shown}
use Rattle.fax_schema.specs.Schema.{our_tables, jobs_tree}
use Rattle.fax_tables.specs.Tables.{TablesMean}
use Rattle.fax_tables.proofs.IndexLemmas.{length_map}
use Rattle.sqlite_sql.specs.Term.{Term}
use Rattle.fax_layout.proofs.SelectLemmas.{rows_by, passes, show, put_out, in_order}
use Rattle.fax_schema.proofs.StatementForms.{SelectsBy}
use Rattle.fax_tables.proofs.TablesLemmas.{row_of}
use Rattle.fax_job.specs.declared.job.JobFields.{JobFields}
use Rattle.fax_store.specs.Job.{AreInRows, BriefsStand, BriefsStandFrom, brief_places, is_from, jobs_from}
use Rattle.fax_schema.proofs.StatementTexts.{brief_names, brief_project, from_tests, jobs_order, select_briefs, select_briefs_from, waiting_tests, waiting_order}
use Rattle.std.proofs.Math.Bool.{and-true}
use Rattle.fax_core.specs.Ageing.{is_past}
use Rattle.fax_core.specs.Best.{better}
use Rattle.fax_core.specs.State.{is_due, is_waiting}
use Rattle.fax_job.specs.declared.job.Phase.{Phase}
use Rattle.fax_job.specs.declared.job.Phase.TheVariants.{Held, Waiting, Granted, Done, Failed}
use Rattle.fax_tables.specs.Row.{number, phase_number}
use Rattle.fax_store.proofs.CountLemmas.{lower}
use Rattle.fax_layout.proofs.CompareLemmas.{are_equal, at_least, compared, equal_numbers, at_most, or_else}

abbrev pub Below : Job → Job → Type 0
Below a b = a.number < b.number

abbrev by_number : Job → Job → Ordering
by_number = on (λ (j : Job). j.number) nat_cmp

-- numbers compared as SQL's integers are less as they are
pub less_number : (n k : ℕ) → is_lt (ordering_then (int_cmp (pos n) (pos k)) Equal) ≡ is_lt (nat_cmp n k)
less_number n k = grind (arith, nat_tests)

rising : (n k : ℕ) → n < k → nat_cmp n k ≡ Less
rising n k low = grind (arith, nat_tests)

-- what is shown in order is itself in order, where the two orders are the same
pub in_order_of : {X : Type 0} (cmp : Output → Output → Ordering) (out : X → Output) (less : X → X → Bool)
    → ((a b : X) → is_lt (cmp (out a) (out b)) ≡ less a b) → (xs : List X) → IsSorted cmp (map out xs) → IsSortedBy less xs
in_order_of cmp out less same xs sorted i d from low =
    sym (same (get_or xs (i + 1) d) (get_or xs i d)) ∙ sym (ap₂ (λ a b. is_lt (cmp a b)) (get_or-map out xs (i + 1) d) (get_or-map out xs i d))
    ∙ sorted i (out d) from (subst (λ n. i + 1 < n) (sym (length_map out xs)) low)

-- the rows of a table stand by number
pub ascend : (jobs : List Job) → IsTable (map row_of jobs) → IsAscending Below jobs
ascend jobs rise =
    ascending_weaker (λ a b. value_cmp (rowid (row_of a)) (rowid (row_of b)) ≡ Less) Below (λ a b. lower a.number b.number) jobs
    (ascending_from_map (λ a b. value_cmp (rowid a) (rowid b) ≡ Less) row_of jobs rise)

-- a text that reads jobs by number without their extra lines, with these tests and parameters
module _ (tests : List Term) (param : Row) (sql : List ℕ) (selects : SelectsBy sql jobs_tree tests brief_project jobs_order brief_names) where
  abbrev brief_of : Row → Row
  brief_of = show jobs_tree tests brief_project param

  abbrev is_listed : Row → Bool
  is_listed = passes jobs_tree tests brief_project param

  -- what a job is sorted by, and what is shown of it
  abbrev out_of : Job → Output
  out_of j = put_out jobs_tree tests brief_project param jobs_order (row_of j)

  -- the order of the text is that of the jobs' numbers
  same_as_numbers : (a b : Job) → is_lt (output_cmp (rows_by jobs_tree tests brief_project jobs_order) (out_of a) (out_of b)) ≡ is_lt (by_number a b)
  same_as_numbers a b = ap is_lt (ap (λ o. ordering_then o Equal) (value_cmp-Int (pos a.number) (pos b.number))) ∙ less_number a.number b.number

  -- it shows the jobs that pass in brief, in the queue's order
  in_brief : (kept : Job → Bool) → ((j : Job) → is_listed (row_of j) ≡ kept j) → (old new : State) (m : Queue) (k : Ledger) → TablesMean old.now m k
      → (rows : List Row) → Shown sql param old new rows → rows ≡ map (λ j. brief_shown (fields_of j)) (filter kept m.jobs)
  in_brief kept same old new m k means rows h =
      let query = rows_by jobs_tree tests brief_project jobs_order in
      let table = old.now.trees jobs_tree in
      let read = reads_as sql param old new our_tables means.schema _ selects.command selects.plain selects.unlisted rows h in
      let shown = in_order jobs_tree tests brief_project param old.now table refl jobs_order brief_names rows read in
      let asked : filter is_listed table ≡ map row_of (filter kept m.jobs) =
      ap (filter is_listed) means.jobs ∙ filter-map is_listed row_of m.jobs
      ∙ ap (map row_of) (filter_same (λ j. is_listed (row_of j)) kept m.jobs (all_of (λ (j : Job). is_listed (row_of j) ≡ kept j) same m.jobs)) in
      let back = pull_back row_of (filter is_listed table) shown.0 shown.1 (filter kept m.jobs) asked in
      let jobs = back.0 in
      let sorted : IsSorted (output_cmp query) (map out_of jobs) = subst (IsSorted (output_cmp query)) (ap (map (put_out jobs_tree tests brief_project param jobs_order)) back.2 ∙ map-map _ _ jobs) shown.3 in
      let up = ascending_weaker Below (λ a b. by_number a b ≡ Less) (λ a b. rising a.number b.number) (filter kept m.jobs)
      (ascending_filter Below kept m.jobs (ascend m.jobs (subst IsTable means.jobs means.ordered.jobs.rise))) in
      let ordered = sorted_unique by_number (on_total (λ (j : Job). j.number) nat_cmp_total) (filter kept m.jobs) jobs up back.1
      (in_order_of (output_cmp query) out_of (λ a b. is_lt (by_number a b)) same_as_numbers jobs sorted) in
      shown.2 ∙ ap (map brief_of) back.2 ∙ map-map _ _ jobs ∙ ap (map (λ j. brief_of (row_of j))) ordered

  -- whatever the rows say, each that passes is shown once, in some order
  each_shown : (kept : Row → Bool) → ((r : Row) → is_listed r ≡ kept r) → (old new : State) (db : Database) → db.schema ≡ our_tables → old.now ≡ db
      → (rows : List Row) → Shown sql param old new rows → (found : List JobFields) → map (take 19) rows ≡ map brief_shown found
      → AreInRows (filter kept (db.trees jobs_tree)) found
  each_shown kept same old new db ours now rows h found is =
      let table = old.now.trees jobs_tree in
      let read = reads_as sql param old new our_tables (ap (λ (d : Database). d.schema) now ∙ ours) _ selects.command selects.plain selects.unlisted rows h in
      let shown = in_order jobs_tree tests brief_project param old.now table refl jobs_order brief_names rows read in
      let asked : filter is_listed table ≡ filter kept table = filter_same is_listed kept table (all_of (λ r. is_listed r ≡ kept r) same table) in
      let some : IsPermutation (map brief_of (filter kept table)) (map brief_of shown.0) = IsPermutation-map brief_of (filter kept table) shown.0 (subst (λ (rs : List Row). IsPermutation rs shown.0) asked shown.1) in
      let told : map (take 19) rows ≡ map brief_of shown.0 = ap (map (take 19)) shown.2 ∙ map-map (take 19) brief_of shown.0 in
      subst (IsPermutation (map (λ row. map (column row) brief_places) (filter kept (db.trees jobs_tree)))) is
      (subst (λ (d : Database). IsPermutation (map brief_of (filter kept (d.trees jobs_tree))) (map (take 19) rows)) now
      (subst (IsPermutation (map brief_of (filter kept table))) (sym told) some))

-- the text on all jobs
module _ (old new : State) where
  pub briefs_found : (m : Queue) (k : Ledger) → TablesMean old.now m k → (rows : List Row) → Shown SELECT_BRIEFS.now [] old new rows
      → rows ≡ map (λ j. brief_shown (fields_of j)) m.jobs
  briefs_found m k means rows h =
      in_brief [] [] SELECT_BRIEFS.now select_briefs (λ j. true) (λ j. refl) old new m k means rows h
      ∙ ap (map (λ j. brief_shown (fields_of j))) (filter_all (λ (j : Job). true) m.jobs (all_of (λ (j : Job). true ≡ true) (λ j. refl) m.jobs))

  pub briefs_shown : (db : Database) → db.schema ≡ our_tables → old.now ≡ db → (rows : List Row) → Shown SELECT_BRIEFS.now [] old new rows
      → (found : List JobFields) → map (take 19) rows ≡ map brief_shown found → BriefsStand db found
  briefs_shown db ours now rows h found is =
      let table = db.trees jobs_tree in
      subst (λ rs. AreInRows rs found) (filter_all (λ (r : Row). true) table (all_of (λ (r : Row). true ≡ true) (λ r. refl) table))
      (each_shown [] [] SELECT_BRIEFS.now select_briefs (λ r. true) (λ r. refl) old new db ours now rows h found is)

-- a value is at least another just where it isn't less
least : (o : Ordering) → test Ge o ≡ not (is_lt o)
least Less = refl
least Equal = refl
least Greater = refl

-- a comparison with a number holds where the value isn't below it, whatever value it is
not_below : (v : Value) (n : ℕ) → is_true (binary (Compare Ge Binary) v (number n)) ≡ not (is_lt (value_cmp v (number n)))
unfolding binary value_cmp
not_below Null n = refl
not_below (Int z) n = compared Ge (Int z) (number n) refl refl ∙ least (value_cmp (Int z) (number n))
not_below (Real x) n = compared Ge (Real x) (number n) refl refl ∙ least (value_cmp (Real x) (number n))
not_below (Text s) n = compared Ge (Text s) (number n) refl refl ∙ least (value_cmp (Text s) (number n))
not_below (Blob s) n = compared Ge (Blob s) (number n) refl refl ∙ least (value_cmp (Blob s) (number n))

-- the text on the jobs from a number on
abbrev pub from : ℕ → Row
from first = number first ∷ []

module _ (first : ℕ) (old new : State) where
  -- the rows that pass have this number at least, whatever they say
  passes_from : (r : Row) → passes jobs_tree from_tests brief_project (from first) r ≡ is_from first r
  passes_from r = and-true (is_true (binary (Compare Ge Binary) (column r 0) (number first))) ∙ not_below (column r 0) first

  -- so do the rows of jobs
  passes_number : (j : Job) → passes jobs_tree from_tests brief_project (from first) (row_of j) ≡ nat_le first j.number
  passes_number j = and-true (is_true (binary (Compare Ge Binary) (number j.number) (number first))) ∙ at_least j.number first

  pub later_found : (m : Queue) (k : Ledger) → TablesMean old.now m k → (rows : List Row) → Shown SELECT_BRIEFS_FROM.now (from first) old new rows
      → rows ≡ map (λ j. brief_shown (fields_of j)) (jobs_from first m)
  later_found m k means rows h =
      in_brief from_tests (from first) SELECT_BRIEFS_FROM.now select_briefs_from (λ j. nat_le first j.number) passes_number old new m k means rows h

  pub later_shown : (db : Database) → db.schema ≡ our_tables → old.now ≡ db → (rows : List Row) → Shown SELECT_BRIEFS_FROM.now (from first) old new rows
      → (found : List JobFields) → map (take 19) rows ≡ map brief_shown found → BriefsStandFrom db first found
  later_shown = each_shown from_tests (from first) SELECT_BRIEFS_FROM.now select_briefs_from (is_from first) passes_from old new

-- ---- which jobs

-- the number of a phase is 1 just for a job that waits
waits : (phase : Phase) → are_equal (number (phase_number phase)) (number 1) ≡ is_waiting phase
waits Held = equal_numbers 0 1
waits Waiting = equal_numbers 1 1
waits Granted = equal_numbers 2 1
waits Done = equal_numbers 3 1
waits Failed = equal_numbers 4 1

-- 0 is none
not_past : (killtime : Option ℕ) (t : ℕ) → (is_eq (int_cmp (pos (unwrap_or killtime 0)) (pos 0)) || is_gt (int_cmp (pos (unwrap_or killtime 0)) (pos t))) ≡ not (is_past killtime t)
not_past None t = refl
not_past (Some s) t = grind (arith, nat_tests)

-- five tests, in the order of the texts and in that of the choice
turned : (a b c d e : Bool) → (a && (b && (c && (d && e)))) ≡ ((a && d && b && c) && e)
turned a b c d e = grind arith

-- three numbers compared in turn as SQL's integers are less as the comparison in turn says
by_numbers : (p q s u n k : ℕ) → is_lt (ordering_then (int_cmp (pos p) (pos q)) (ordering_then (int_cmp (pos s) (pos u)) (ordering_then (int_cmp (pos n) (pos k)) Equal)))
    ≡ (nat_lt p q || ((p == q) && (nat_lt s u || ((s == u) && nat_lt n k))))
by_numbers p q s u n k = grind (arith, nat_tests)

-- a text whose first parameter is the moment, with these tests behind those of a job that waits
module _ (t : ℕ) (more : Row) (tests project : List Term) where
  abbrev pub params : Row
  params = number t ∷ more

  abbrev pub all_tests : List Term
  all_tests = waiting_tests ++ tests

  abbrev pub is_asked : Row → Bool
  is_asked = passes jobs_tree all_tests project params

  abbrev pub is_further : Row → Bool
  is_further = passes jobs_tree tests project params

  -- the rows that pass are those of the jobs that are due and pass the tests behind
  due : (j : Job) → is_asked (row_of j) ≡ (is_due j t && is_further (row_of j))
  due j =
      let rest = is_further (row_of j) in
      ap₂ ◌&&◌ (waits j.phase) (ap₂ ◌&&◌ (at_most j.tts t) (ap₂ ◌&&◌ (at_most j.next t) (ap (λ b. b && rest) (or_else (unwrap_or j.killtime 0) t ∙ not_past j.killtime t))))
      ∙ turned (is_waiting j.phase) (nat_le j.tts t) (nat_le j.next t) (not (is_past j.killtime t)) rest

  -- ---- in which order

  abbrev pub query : Query
  query = rows_by jobs_tree all_tests project waiting_order

  abbrev pub out : Row → Output
  out = put_out jobs_tree all_tests project params waiting_order

  abbrev pub shown_of : Row → Row
  shown_of = show jobs_tree all_tests project params

  -- the order of the text is that of the choice
  same_order : (a b : Job) → is_lt (output_cmp query (out (row_of a)) (out (row_of b))) ≡ better a b
  same_order a b =
      ap is_lt (ap₂ ordering_then (value_cmp-Int (pos a.priority) (pos b.priority)) (ap₂ ordering_then (value_cmp-Int (pos a.tts) (pos b.tts)) (ap (λ o. ordering_then o Equal) (value_cmp-Int (pos a.number) (pos b.number)))))
      ∙ by_numbers a.priority b.priority a.tts b.tts a.number b.number

  module _ (db : Database) (m : Queue) (k : Ledger) (means : TablesMean db m k) (near : Job → Bool) (is_near : (j : Job) → is_further (row_of j) ≡ near j) where
    -- rows that pass, in order, are those of the jobs that are due and near
    pub are_near : (to : List Row) → IsPermutation (filter is_asked (db.trees jobs_tree)) to → IsSorted (output_cmp query) (map out to)
        → (jobs : List Job) × (map shown_of to ≡ map (λ j. shown_of (row_of j)) jobs) × IsPermutation (filter (λ j. is_due j t && near j) m.jobs) jobs × IsSortedBy better jobs
    are_near to same in_place =
        let is : (j : Job) → is_asked (row_of j) ≡ (is_due j t && near j) = λ j. due j ∙ ap (λ b. is_due j t && b) (is_near j) in
        let asked : filter is_asked (db.trees jobs_tree) ≡ map row_of (filter (λ j. is_due j t && near j) m.jobs) =
        ap (filter is_asked) means.jobs ∙ filter-map is_asked row_of m.jobs
        ∙ ap (map row_of) (filter_same (λ j. is_asked (row_of j)) (λ j. is_due j t && near j) m.jobs (all_of (λ j. is_asked (row_of j) ≡ (is_due j t && near j)) is m.jobs)) in
        let back = pull_back row_of (filter is_asked (db.trees jobs_tree)) to same (filter (λ j. is_due j t && near j) m.jobs) asked in
        let jobs = back.0 in
        let put = λ (j : Job). out (row_of j) in
        let sorted : IsSorted (output_cmp query) (map put jobs) = subst (IsSorted (output_cmp query)) (ap (map out) back.2 ∙ map-map _ _ jobs) in_place in (
          jobs,
          ap (map shown_of) back.2 ∙ map-map _ _ jobs,
          back.1,
          in_order_of (output_cmp query) put better same_order jobs sorted,
        )
