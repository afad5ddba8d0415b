-- What the text shows on the jobs that leave, over the times and the jobs.
use Rattle.std.proofs.Common.{◌≡◌, ◌∙◌, ◌<◌, ◌^◌, ◌==◌, ◌&&◌, ◌++◌, ℕ, pos, Bool, true, false, cond, List, [], ◌∷◌, map, filter, flat_map, take, Some, Ordering, Less, Equal, All, nat_le, nat_lt, refl, sym, ap, ap₂, subst, arith, inl, inr, append_assoc, append-nil, IsPermutation, IsSorted}
use Rattle.std.specs.Prelude.{find}
use Rattle.std.specs.List.{AllByRecursion, list_all}
use Rattle.std.specs.Ordering.{is_lt, nat_cmp, on, ordering_then}
use Rattle.std.proofs.Math.Bool.{and-true}
use Rattle.std.proofs.Math.Path.{fun_ext}
use Rattle.std.proofs.lemmas.Bool.{cases_Bool, eqb-true}
use Rattle.std.proofs.lemmas.Bool.Decides.{nat_tests}
use Rattle.std.proofs.lemmas.Cmp.{nat_cmp_total, on_total}
use Rattle.std.proofs.lemmas.List.{take-map}
use Rattle.std.proofs.lemmas.List.Elements.{All-map, All-take, All-weaker}
use Rattle.std.proofs.lemmas.List.Sorted.{IsPermutation-append_comm, IsPermutation-append_left, IsPermutation-append_right, IsPermutation-refl, IsPermutation-sym, IsPermutation-trans}
use Rattle.sqlite.specs.Order.{Row}
use Rattle.sqlite.specs.Program.{overlay}
use Rattle.sqlite.specs.Query.{IsAnswer, Output, Query, output, output_cmp}
use Rattle.sqlite.specs.State.{State, Shown}
use Rattle.sqlite.specs.Tree.{IsTable, rowid}
use Rattle.sqlite.specs.declared.types.Value.TheVariants.{Null, Int}
use Rattle.sqlite.proofs.Callers.{reads_as}
use Rattle.sqlite_catalog.proofs.LayoutLemmas.{ascending_filter}
use Rattle.sqlite_keyed.proofs.SortLemmas.{sorted_unique}
use Rattle.sqlite_sql.specs.Ops.{is_true, binary}
use Rattle.sqlite_sql.specs.declared.ops.BinaryOp.TheVariants.{Compare}
use Rattle.sqlite_sql.specs.declared.ops.CompareOp.TheVariants.{Lt}
use Rattle.sqlite_sql.specs.Term.{Env, holds}
use Rattle.sqlite.specs.Collation.TheVariants.{Binary}
use Rattle.sqlite_trees.specs.Tree.{IsAscending}
use Rattle.sqlite_trees.proofs.ListLemmas.{ascending_from_map, ascending_weaker, map-map, pull_back}
use Rattle.sqlite_value.specs.Order.{value_cmp}
use Rattle.sqlite_value.proofs.OrderLemmas.{value_cmp-Int}
use Rattle.fax_core.specs.Job.{Job, fields_of}
use Rattle.fax_core.specs.Ledger.{Ledger}
use Rattle.fax_core.specs.Queue.{Queue}
use Rattle.fax_core.specs.Times.{has_ended}
use Rattle.fax_core.specs.declared.times.Times.{Times}
use Rattle.fax_job.specs.declared.job.Phase.{Phase}
use Rattle.fax_job.specs.declared.job.Phase.TheVariants.{Held, Waiting, Granted, Done, Failed}
use Rattle.fax_layout.proofs.ColumnLemmas.{all_kept}
use Rattle.fax_layout.proofs.CompareLemmas.{at_least, compared, is_number, more_than}
use Rattle.fax_schema.proofs.PurgeTexts.{leaving_query, leaving_tests, over_query, over_tests, select_leaving, select_leaving_over}
use Rattle.fax_layout.proofs.SelectLemmas.{each_passing}
use Rattle.fax_schema.specs.Schema.{our_tables}
use Rattle.fax_schema.specs.declared.statements.TheConstants.{SELECT_LEAVING, SELECT_LEAVING_OVER}
use Rattle.fax_store.specs.Purge.{ends_within, leaves_within, leaving_from}
use Rattle.fax_store.proofs.CountLemmas.{lower}
use Rattle.fax_store.proofs.JobsLemmas.{Below, ascend, in_order_of, less_number}
use Rattle.fax_tables.specs.Job.{IsLawfulJob}
use Rattle.fax_tables.specs.Row.{number, phase_number, times_row}
use Rattle.fax_tables.specs.Tables.{TablesMean}
use Rattle.fax_tables.proofs.RowLemmas.{fits}
use Rattle.fax_tables.proofs.TablesLemmas.{row_of}

-- ---- lists

-- of a list made of another
flat_mapped : {X Y Z : Type 0} (f : Y → List Z) (g : X → Y) (xs : List X) → flat_map f (map g xs) ≡ flat_map (λ x. f (g x)) xs
flat_mapped f g [] = refl
flat_mapped f g (x ∷ xs) = ap (λ l. f (g x) ++ l) (flat_mapped f g xs)

-- what is made of each
map_joined : {X Y : Type 0} (f : X → Y) (xs ys : List X) → map f (xs ++ ys) ≡ map f xs ++ map f ys
map_joined f [] ys = refl
map_joined f (x ∷ xs) ys = ap (λ l. f x ∷ l) (map_joined f xs ys)

map_flat : {X Y Z : Type 0} (f : Y → Z) (g : X → List Y) (xs : List X) → map f (flat_map g xs) ≡ flat_map (λ x. map f (g x)) xs
map_flat f g [] = refl
map_flat f g (x ∷ xs) = map_joined f (g x) (flat_map g xs) ∙ ap (λ l. map f (g x) ++ l) (map_flat f g xs)

flat_none : {X Y : Type 0} (f : X → List Y) → ((x : X) → f x ≡ []) → (xs : List X) → flat_map f xs ≡ []
flat_none f none [] = refl
flat_none f none (x ∷ xs) = ap₂ ◌++◌ (none x) (flat_none f none xs)

-- where each gives two lists, all the first ones and all the second ones
flat_both : {X Y : Type 0} (f g : X → List Y) (xs : List X) → IsPermutation (flat_map (λ x. f x ++ g x) xs) (flat_map f xs ++ flat_map g xs)
flat_both f g [] = IsPermutation-refl []
flat_both {X} {Y} f g (x ∷ xs) =
    let F = flat_map f xs in
    let G = flat_map g xs in
    let more : IsPermutation ((f x ++ g x) ++ flat_map (λ y. f y ++ g y) xs) ((f x ++ g x) ++ (F ++ G)) = IsPermutation-append_right (f x ++ g x) _ _ (flat_both f g xs) in
    let inner : IsPermutation ((g x ++ F) ++ G) ((F ++ g x) ++ G) = IsPermutation-append_left G _ _ (IsPermutation-append_comm (g x) F) in
    let turned : IsPermutation (f x ++ ((g x ++ F) ++ G)) (f x ++ ((F ++ g x) ++ G)) = IsPermutation-append_right (f x) _ _ inner in
    let left : (f x ++ g x) ++ (F ++ G) ≡ f x ++ ((g x ++ F) ++ G) = append_assoc (f x) (g x) (F ++ G) ∙ ap (λ l. f x ++ l) (sym (append_assoc (g x) F G)) in
    let right : f x ++ ((F ++ g x) ++ G) ≡ (f x ++ F) ++ (g x ++ G) = ap (λ l. f x ++ l) (append_assoc F (g x) G) ∙ sym (append_assoc (f x) F (g x ++ G)) in
    IsPermutation-trans _ _ _ more (subst (λ l. IsPermutation l ((f x ++ F) ++ (g x ++ G))) (sym left) (subst (IsPermutation (f x ++ ((g x ++ F) ++ G))) right turned))

-- each with each, in either order
flat_swap : {X Y Z : Type 0} (t : X → Y → List Z) (xs : List X) (ys : List Y) → IsPermutation (flat_map (λ x. flat_map (t x) ys) xs) (flat_map (λ y. flat_map (λ x. t x y) xs) ys)
flat_swap {X} {Y} t [] ys = subst (IsPermutation []) (sym (flat_none (λ (y : Y). flat_map (λ (x : X). t x y) []) (λ y. refl) ys)) (IsPermutation-refl [])
flat_swap {X} {Y} t (x ∷ xs) ys =
    let more : IsPermutation (flat_map (t x) ys ++ flat_map (λ x. flat_map (t x) ys) xs) (flat_map (t x) ys ++ flat_map (λ y. flat_map (λ x. t x y) xs) ys) = IsPermutation-append_right (flat_map (t x) ys) _ _ (flat_swap t xs ys) in
    IsPermutation-trans _ _ _ more (IsPermutation-sym _ _ (flat_both (t x) (λ y. flat_map (λ x. t x y) xs) ys))

-- ---- tests

-- a < b of numbers
pub less_than : (a b : ℕ) → is_true (binary (Compare Lt Binary) (Int (pos a)) (Int (pos b))) ≡ nat_lt a b
less_than a b = compared Lt (Int (pos a)) (Int (pos b)) refl refl ∙ ap is_lt (value_cmp-Int (pos a) (pos b)) ∙ grind (arith, nat_tests)

-- two phases are those of jobs that are over
pub over_phase : (p : Phase) → (nat_lt 2 (phase_number p) && nat_lt (phase_number p) 5) ≡ has_ended p
over_phase Held = refl
over_phase Waiting = refl
over_phase Granted = refl
over_phase Done = refl
over_phase Failed = refl

-- two tests and a third
pub all_three : (a b c : Bool) → (a && (b && c)) ≡ ((a && b) && c)
all_three true b c = refl
all_three false b c = refl

-- what is shown of a number, and what it is sorted by
abbrev shown_of : ℕ → Output
shown_of n = (number n ∷ [], number n ∷ [])

abbrev by_number : Job → Job → Ordering
by_number = on (λ (j : Job). j.number) nat_cmp

-- two numbers as SQL compares them
numbers_so : (a b : Job) → is_lt (ordering_then (value_cmp (number a.number) (number b.number)) Equal) ≡ is_lt (by_number a b)
numbers_so a b = ap is_lt (ap (λ o. ordering_then o Equal) (value_cmp-Int (pos a.number) (pos b.number))) ∙ less_number a.number b.number

-- no number is below 0
pub from_0 : (e : ℕ) → nat_le 0 e ≡ true
from_0 e = grind (arith, nat_tests)

module _ (from before : ℕ) where
  abbrev pub leaving_params : Row
  leaving_params = number before ∷ number from ∷ []

  -- the end is not before the one moment, and before the other
  abbrev due : Times → Bool
  due x = nat_le from x.ended && nat_lt x.ended before

  -- the times are the job's, which is over, and ended then
  abbrev goes : Times → Job → Bool
  goes x j = (j.number == x.job) && (due x && has_ended j.phase)

  abbrev env : Times → Job → Env
  env x j = leaving_params ∷ times_row x ∷ row_of j ∷ []

  passes_so : (x : Times) (j : Job) → list_all (holds (env x j)) leaving_tests ≡ goes x j
  passes_so x j =
      ap₂ (λ a b. a && b) (is_number j.number x.job)
      (ap₂ (λ a b. a && b) (at_least x.ended from) (ap₂ (λ a b. a && b) (less_than x.ended before) (ap₂ (λ a b. a && b) (more_than (phase_number j.phase) 2) (and-true _ ∙ less_than (phase_number j.phase) 5) ∙ over_phase j.phase))
      ∙ all_three (nat_le from x.ended) (nat_lt x.ended before) (has_ended j.phase))

  -- ---- the times of a job

  -- those that are above a number aren't its
  none_its : (n : ℕ) (over : Bool) (xs : List Times) → AllByRecursion (λ (x : Times). n < x.job) xs
      → flat_map (λ (x : Times). cond ((n == x.job) && (due x && over)) (shown_of x.job ∷ []) []) xs ≡ []
  none_its n over [] all = refl
  none_its n over (x ∷ xs) all =
      let apart : (n == x.job) ≡ false = (let low = all.0 in grind (arith, nat_tests, low)) in
      ap (λ b. cond (b && (due x && over)) (shown_of x.job ∷ []) [] ++ flat_map (λ (y : Times). cond ((n == y.job) && (due y && over)) (shown_of y.job ∷ []) []) xs) apart
      ∙ none_its n over xs all.1

  -- where the times rise, a job is shown once if it may leave, and else not
  its_own : (n : ℕ) (over : Bool) (xs : List Times) → IsAscending (λ (a b : Times). a.job < b.job) xs
      → flat_map (λ (x : Times). cond ((n == x.job) && (due x && over)) (shown_of x.job ∷ []) []) xs
      ≡ cond (over && ends_within from before (find (λ (x : Times). x.job == n) xs)) (shown_of n ∷ []) []
  its_own n true [] up = refl
  its_own n false [] up = refl
  its_own n over (x ∷ xs) up = elim (cases_Bool (x.job == n)) [
    | inl same ↦
        (let is : x.job ≡ n = eqb-true x.job n same in
        let here : (n == x.job) ≡ true = grind (arith, nat_tests, is) in
        let none = none_its n over xs (subst (λ i. AllByRecursion (λ (y : Times). i < y.job) xs) is up.0) in
        let found : find (λ (y : Times). y.job == n) (x ∷ xs) ≡ Some x = ap (λ b. cond b (Some x) (find (λ (y : Times). y.job == n) xs)) same in
        ap₂ (λ b l. cond (b && (due x && over)) (shown_of x.job ∷ []) [] ++ l) here none
        ∙ append-nil _
        ∙ ap (λ i. cond (due x && over) (shown_of i ∷ []) []) is
        ∙ ap (λ b. cond b (shown_of n ∷ []) []) (turned (due x) over)
        ∙ ap (λ o. cond (over && ends_within from before o) (shown_of n ∷ []) []) (sym found))
    | inr off ↦
        (let apart : (n == x.job) ≡ false = other (n == x.job) (x.job == n) (grind (arith, nat_tests)) off in
        let found : find (λ (y : Times). y.job == n) (x ∷ xs) ≡ find (λ (y : Times). y.job == n) xs = ap (λ b. cond b (Some x) (find (λ (y : Times). y.job == n) xs)) off in
        ap (λ b. cond (b && (due x && over)) (shown_of x.job ∷ []) [] ++ flat_map (λ (y : Times). cond ((n == y.job) && (due y && over)) (shown_of y.job ∷ []) []) xs) apart
        ∙ its_own n over xs up.1
        ∙ ap (λ o. cond (over && ends_within from before o) (shown_of n ∷ []) []) (sym found))
  ]
    where
      turned : (a b : Bool) → (a && b) ≡ (b && a)
      turned true true = refl
      turned true false = refl
      turned false true = refl
      turned false false = refl

      other : (a b : Bool) → a ≡ b → b ≡ false → a ≡ false
      other a b same off = same ∙ off

  -- the numbers of those that leave fit a column
  pub leaving_low : (m : Queue) → All IsLawfulJob m.jobs → All (λ n. n < 2 ^ 32) (leaving_from from before m)
  leaving_low m all =
      let kept = all_kept IsLawfulJob (leaves_within from before m) m.jobs all in
      let low = All-weaker IsLawfulJob (λ (j : Job). j.number < 2 ^ 32) (λ j lawful. (fits (fields_of j) lawful.limits).number) _ kept in
      All-take (λ n. n < 2 ^ 32) 1000 _ (All-map (λ n. n < 2 ^ 32) (λ (j : Job). j.number) _ low)

  module _ (old new : State) (m : Queue) (k : Ledger) (means : TablesMean old.now m k) where
    abbrev who : List Job
    who = filter (leaves_within from before m) m.jobs

    -- the times rise by their jobs
    times_rise : IsAscending (λ (a b : Times). a.job < b.job) m.times
    times_rise =
        ascending_weaker (λ (a b : Times). value_cmp (rowid (times_row a)) (rowid (times_row b)) ≡ Less) (λ (a b : Times). a.job < b.job) (λ a b. lower a.job b.job) m.times
        (ascending_from_map (λ (a b : Row). value_cmp (rowid a) (rowid b) ≡ Less) times_row m.times (subst IsTable means.times means.ordered.times.rise))

    -- of each job there is one row if it may leave, and else none
    each_own : (j : Job) → flat_map (λ (x : Times). cond (goes x j) (shown_of x.job ∷ []) []) m.times ≡ cond (leaves_within from before m j) (shown_of j.number ∷ []) []
    each_own j = its_own j.number (has_ended j.phase) m.times times_rise

    -- and these are shown by number
    ordered_so : (q : Query) → ((a b : Job) → is_lt (output_cmp q (shown_of a.number) (shown_of b.number)) ≡ is_lt (by_number a b)) → (kept ordered : List Output) → IsPermutation kept (map (λ (j : Job). shown_of j.number) who)
        → IsPermutation kept ordered → IsSorted (output_cmp q) ordered → take 1000 (map (λ (o : Output). o.1) ordered) ≡ map (λ n. number n ∷ []) (leaving_from from before m)
    ordered_so q alike kept ordered turned same sort =
        let back = pull_back (λ (j : Job). shown_of j.number) (map (λ (j : Job). shown_of j.number) who) ordered (IsPermutation-trans _ _ _ (IsPermutation-sym _ _ turned) same) who refl in
        let jobs = back.0 in
        let sorted = in_order_of (output_cmp q) (λ (j : Job). shown_of j.number) (λ a b. is_lt (by_number a b)) alike jobs (subst (IsSorted (output_cmp q)) back.2 sort) in
        let up = ascending_weaker Below (λ a b. by_number a b ≡ Less) (λ a b. rising a.number b.number) who (ascending_filter Below (leaves_within from before m) m.jobs (ascend m.jobs (subst IsTable means.jobs means.ordered.jobs.rise))) in
        let is : jobs ≡ who = sorted_unique by_number (on_total (λ (j : Job). j.number) nat_cmp_total) who jobs up back.1 sorted in
        ap (λ l. take 1000 l) (ap (map (λ (o : Output). o.1)) back.2 ∙ map-map _ _ jobs ∙ ap (map (λ (j : Job). number j.number ∷ [])) is ∙ sym (map-map (λ n. number n ∷ []) (λ (j : Job). j.number) who))
        ∙ take-map (λ n. number n ∷ []) 1000 (map (λ (j : Job). j.number) who)
      where
        rising : (n k : ℕ) → n < k → nat_cmp n k ≡ Less
        rising n k low = grind (arith, nat_tests)

    pub leaving_shown : (rows : List Row) → Shown SELECT_LEAVING.now leaving_params old new rows → rows ≡ map (λ n. number n ∷ []) (leaving_from from before m)
    leaving_shown rows h =
        let read = reads_as SELECT_LEAVING.now leaving_params old new our_tables means.schema _ select_leaving.command select_leaving.plain select_leaving.unlisted rows h in
        let a : IsAnswer leaving_query (overlay old.now.trees []) leaving_params rows = read.answer Null in
        let row_test = λ (r s : Row). list_all (holds (leaving_params ∷ r ∷ s ∷ [])) leaving_tests in
        let matched = λ (r s : Row). cond (row_test r s) ((leaving_params ∷ r ∷ s ∷ []) ∷ []) [] in
        let tables : a.staged ≡ flat_map (λ x. flat_map (λ j. matched (times_row x) (row_of j)) m.jobs) m.times =
        a.grouped
        ∙ ap₂ (λ ts js. flat_map (λ r. flat_map (matched r) js) ts) means.times means.jobs
        ∙ flat_mapped (λ r. flat_map (matched r) (map row_of m.jobs)) times_row m.times
        ∙ ap (λ f. flat_map f m.times) (fun_ext (λ x. flat_mapped (matched (times_row x)) row_of m.jobs)) in
        let one : (x : Times) (j : Job) → map (output leaving_query) (matched (times_row x) (row_of j)) ≡ cond (goes x j) (shown_of x.job ∷ []) [] = λ x j.
        ap (λ b. map (output leaving_query) (cond b (env x j ∷ []) [])) (passes_so x j) ∙ out_of (goes x j) x j in
        let outs : map (output leaving_query) a.staged ≡ flat_map (λ x. flat_map (λ j. cond (goes x j) (shown_of x.job ∷ []) []) m.jobs) m.times =
        ap (map (output leaving_query)) tables
        ∙ map_flat (output leaving_query) (λ x. flat_map (λ j. matched (times_row x) (row_of j)) m.jobs) m.times
        ∙ ap (λ f. flat_map f m.times) (fun_ext (λ x. map_flat (output leaving_query) (λ j. matched (times_row x) (row_of j)) m.jobs ∙ ap (λ f. flat_map f m.jobs) (fun_ext (one x)))) in
        let by_jobs : flat_map (λ j. flat_map (λ x. cond (goes x j) (shown_of x.job ∷ []) []) m.times) m.jobs ≡ map (λ (j : Job). shown_of j.number) who =
        ap (λ f. flat_map f m.jobs) (fun_ext each_own) ∙ each_passing (leaves_within from before m) (λ (j : Job). shown_of j.number) m.jobs in
        let turned : IsPermutation a.kept (map (λ (j : Job). shown_of j.number) who) =
        subst (λ l. IsPermutation l (map (λ (j : Job). shown_of j.number) who)) (sym (a.distinct ∙ outs))
        (subst (IsPermutation (flat_map (λ x. flat_map (λ j. cond (goes x j) (shown_of x.job ∷ []) []) m.jobs) m.times)) by_jobs
        (flat_swap (λ (x : Times) (j : Job). cond (goes x j) (shown_of x.job ∷ []) []) m.times m.jobs)) in
        a.shown ∙ ordered_so leaving_query numbers_so a.kept a.ordered turned a.same a.sorted
      where
        out_of : (b : Bool) (x : Times) (j : Job) → map (output leaving_query) (cond b (env x j ∷ []) []) ≡ cond b (shown_of x.job ∷ []) []
        out_of true x j = refl
        out_of false x j = refl

-- ---- the same by the jobs that are over

module _ (before : ℕ) where
  abbrev pub over_params : Row
  over_params = number before ∷ []

  abbrev over_env : Job → Times → Env
  over_env j x = over_params ∷ row_of j ∷ times_row x ∷ []

  over_so : (j : Job) (x : Times) → list_all (holds (over_env j x)) over_tests ≡ goes 0 before x j
  over_so j x =
      ap₂ (λ a b. a && b) (is_number x.job j.number)
      (ap₂ (λ a b. a && b) (more_than (phase_number j.phase) 2) (ap₂ (λ a b. a && b) (less_than (phase_number j.phase) 5) (and-true _ ∙ less_than x.ended before))
      ∙ all_three (nat_lt 2 (phase_number j.phase)) (nat_lt (phase_number j.phase) 5) (nat_lt x.ended before)
      ∙ ap (λ b. b && nat_lt x.ended before) (over_phase j.phase))
      ∙ ap₂ (λ a b. a && b) (same_either x.job j.number) (turned (has_ended j.phase) (nat_lt x.ended before) ∙ ap (λ b. (b && nat_lt x.ended before) && has_ended j.phase) (sym (from_0 x.ended)))
    where
      same_either : (a b : ℕ) → (a == b) ≡ (b == a)
      same_either a b = grind (arith, nat_tests)

      turned : (a b : Bool) → (a && b) ≡ (b && a)
      turned true true = refl
      turned true false = refl
      turned false true = refl
      turned false false = refl

  module _ (old new : State) (m : Queue) (k : Ledger) (means : TablesMean old.now m k) where
    pub over_shown : (rows : List Row) → Shown SELECT_LEAVING_OVER.now over_params old new rows → rows ≡ map (λ n. number n ∷ []) (leaving_from 0 before m)
    over_shown rows h =
        let read = reads_as SELECT_LEAVING_OVER.now over_params old new our_tables means.schema _ select_leaving_over.command select_leaving_over.plain select_leaving_over.unlisted rows h in
        let a : IsAnswer over_query (overlay old.now.trees []) over_params rows = read.answer Null in
        let row_test = λ (r s : Row). list_all (holds (over_params ∷ r ∷ s ∷ [])) over_tests in
        let matched = λ (r s : Row). cond (row_test r s) ((over_params ∷ r ∷ s ∷ []) ∷ []) [] in
        let tables : a.staged ≡ flat_map (λ j. flat_map (λ x. matched (row_of j) (times_row x)) m.times) m.jobs =
        a.grouped
        ∙ ap₂ (λ js ts. flat_map (λ r. flat_map (matched r) ts) js) means.jobs means.times
        ∙ flat_mapped (λ r. flat_map (matched r) (map times_row m.times)) row_of m.jobs
        ∙ ap (λ f. flat_map f m.jobs) (fun_ext (λ j. flat_mapped (matched (row_of j)) times_row m.times)) in
        let one : (j : Job) (x : Times) → map (output over_query) (matched (row_of j) (times_row x)) ≡ cond (goes 0 before x j) (shown_of x.job ∷ []) [] = λ j x.
        ap (λ b. map (output over_query) (cond b (over_env j x ∷ []) [])) (over_so j x) ∙ out_of (goes 0 before x j) j x in
        let outs : map (output over_query) a.staged ≡ flat_map (λ j. flat_map (λ x. cond (goes 0 before x j) (shown_of x.job ∷ []) []) m.times) m.jobs =
        ap (map (output over_query)) tables
        ∙ map_flat (output over_query) (λ j. flat_map (λ x. matched (row_of j) (times_row x)) m.times) m.jobs
        ∙ ap (λ f. flat_map f m.jobs) (fun_ext (λ j. map_flat (output over_query) (λ x. matched (row_of j) (times_row x)) m.times ∙ ap (λ f. flat_map f m.times) (fun_ext (one j)))) in
        let by_jobs : flat_map (λ j. flat_map (λ x. cond (goes 0 before x j) (shown_of x.job ∷ []) []) m.times) m.jobs ≡ map (λ (j : Job). shown_of j.number) (filter (leaves_within 0 before m) m.jobs) =
        ap (λ f. flat_map f m.jobs) (fun_ext (each_own 0 before old new m k means)) ∙ each_passing (leaves_within 0 before m) (λ (j : Job). shown_of j.number) m.jobs in
        let turned : IsPermutation a.kept (map (λ (j : Job). shown_of j.number) (filter (leaves_within 0 before m) m.jobs)) =
        subst (λ l. IsPermutation l (map (λ (j : Job). shown_of j.number) (filter (leaves_within 0 before m) m.jobs))) (sym (a.distinct ∙ outs ∙ by_jobs)) (IsPermutation-refl _) in
        a.shown ∙ ordered_so 0 before old new m k means over_query numbers_so a.kept a.ordered turned a.same a.sorted
      where
        out_of : (b : Bool) (j : Job) (x : Times) → map (output over_query) (cond b (over_env j x ∷ []) []) ≡ cond b (shown_of x.job ∷ []) []
        out_of true j x = refl
        out_of false j x = refl
