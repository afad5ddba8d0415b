-- The jobs that wait, read a page at a time.
use Rattle.std.proofs.Common.{◌≡◌, Ok, Err, IsErrAnd, ◌<◌, ◌≤◌, ◌+◌, ◌-◌, ◌⊎◌, inl, inr, ℕ, List, [], ◌∷◌, ◌++◌, map, filter, take, drop, length, All, Bool, true, false, cond, not, ◌&&◌, ◌||◌, leb, refl, sym, ap, ap₂, subst, ◌∙◌, arith, append_assoc, append-nil, take-append-drop, get_or, Ordering, is_lt, is_eq, true≢false, ◌==◌, nat_lt, Result, Vec, Option, Some, None, find, slice_get, IsPermutation, IsSorted, IsSortedBy}
use Rattle.fax_tables.proofs.ResultLemmas.{answered}
use Rattle.fax_tables.specs.declared.fault.StoreFault.{StoreFault}
use Rattle.fax_tables.specs.declared.fault.StoreFault.TheVariants.{Unavailable}
use Rattle.fax_store.specs.Store.{MeansNow, Serves}
use Rattle.fax_store.specs.declared.candidates.Candidates.{Candidates}
use Rattle.std.specs.Vec.Iter.{into_iter_items}
use Rattle.std.specs.declared.vec.IntoIter.{IntoIter}
use Rattle.fax_store.specs.Calls.{Looks, Queries, Recalls, shown as shown_by}
use Rattle.fax_store.specs.declared.store.Store.{Store}
use Rattle.sqlite_trees.specs.declared.store.Store.{Ghosts}
use Rattle.std.proofs.Math.Bool.{or_comm}
use Rattle.std.specs.Cmp.{IsTotalOrder}
use Rattle.std.specs.List.{AllByRecursion}
use Rattle.std.specs.Ordering.{nat_cmp, on, ordering_reverse, then_cmp}
use Rattle.std.proofs.lemmas.Bool.{and_parts, leb-true, cases_Bool}
use Rattle.std.proofs.lemmas.Bool.Decides.{nat_tests}
use Rattle.std.proofs.lemmas.Map.Text.{is_eq-slice_cmp}
use Rattle.std.proofs.lemmas.Cmp.{nat_cmp_total, on_total, then_total}
use Rattle.std.proofs.lemmas.List.{map-append, take-map, nil_from_length, length-map, length-take, length_push, get_or_push}
use Rattle.std.proofs.lemmas.Option.{none-some, same_Some, slice_get_read, slice_get-get_or}
use Rattle.std.proofs.lemmas.List.Elements.{All-take, recursion_from_All, filter_agree, filter_passes}
use Rattle.std.proofs.lemmas.List.Sorted.{All-permutation, IsPermutation-sym, IsPermutation-trans}
use Rattle.sqlite.specs.Effect.{Database}
use Rattle.sqlite.specs.Order.{Row}
use Rattle.sqlite.specs.Program.{overlay}
use Rattle.sqlite.specs.Query.{IsAnswer, Output, output, output_cmp}
use Rattle.sqlite.specs.State.{State, Shown}
use Rattle.sqlite.specs.Tree.{IsTable}
use Rattle.sqlite.specs.declared.types.Value.TheVariants.{Null, Text}
use Rattle.sqlite.proofs.Callers.{reads_as}
use Rattle.sqlite_keyed.specs.Lists.{sort_by}
use Rattle.sqlite_keyed.proofs.SortLemmas.{sorted_is-sort_by, sorted_unique, IsPermutation-sort_by}
use Rattle.sqlite.specs.Collation.TheVariants.{Binary}
use Rattle.sqlite_sql.specs.Ops.{binary, unary, is_true, from_truth}
use Rattle.sqlite_sql.specs.declared.ops.BinaryOp.TheVariants.{Is}
use Rattle.sqlite_sql.specs.declared.ops.UnaryOp.TheVariants.{Not}
use Rattle.sqlite_sql.specs.Term.{Term}
use Rattle.sqlite_value.specs.Order.{value_cmp}
use Rattle.sqlite_value.proofs.OrderLemmas.{value_cmp-Text}
use Rattle.sqlite_trees.specs.Tree.{IsAscending}
use Rattle.sqlite_trees.proofs.ListLemmas.{all_of, all_both, all_weaker, ascending-filter, ascending-get_or, ascending_weaker, filter_all, filter_none, filter_same, filter-filter, IsPermutation-filter, map-map, pull_back}
use Rattle.fax_core.specs.Job.{Job, fields_of}
use Rattle.fax_core.specs.Best.{better}
use Rattle.fax_core.specs.Ledger.{Ledger}
use Rattle.fax_core.specs.Queue.{Queue}
use Rattle.fax_core.specs.State.{is_due}
use Rattle.fax_core.proofs.RecordLemmas.{within_limits_of}
use Rattle.fax_value.specs.Limits.{last_job}
use Rattle.fax_store.specs.Candidates.{AreAsked, IsPage, Reaches, StandsAt, front_of, is_behind, is_beyond, is_last, is_near, is_other, longest_page, next_front, value_of}
use Rattle.fax_store.specs.declared.candidates.Asked.{Asked}
use Rattle.fax_store.specs.Job.{AreWaiting}
use Rattle.fax_store.specs.declared.candidates.Front.{Front}
use Rattle.fax_store.specs.declared.candidates.Front.TheVariants.{First, Number, Time, Priority}
use Rattle.fax_tables.specs.Job.{IsLawfulJob, prospect, prospect_shown}
use Rattle.fax_tables.specs.Row.{number}
use Rattle.fax_schema.specs.Schema.{our_tables, jobs_tree}
use Rattle.fax_tables.specs.Tables.{TablesMean}
use Rattle.fax_layout.proofs.ColumnLemmas.{all_kept}
use Rattle.fax_layout.proofs.SelectLemmas.{each_passing}
use Rattle.fax_tables.proofs.TablesLemmas.{row_of}
use Rattle.fax_store.proofs.JobsLemmas.{ascend, Below}
use Rattle.fax_schema.proofs.StatementTexts.{SelectsPage, page_query, prospect_project}
use Rattle.fax_store.proofs.FrameLemmas.{looks_err}
use Rattle.fax_store.proofs.JobsLemmas as waiting
use Rattle.fax_store.proofs.RisingLemmas.{Comes, HasNoTies, rises_sorted}

-- ---- the order of the choice

abbrev order : Job → Job → Ordering
order = then_cmp (on (λ (j : Job). j.priority) nat_cmp) (then_cmp (on (λ (j : Job). j.tts) nat_cmp) (on (λ (j : Job). j.number) nat_cmp))

-- the order of the choice is total
is_total : IsTotalOrder order
is_total = then_total (on_total (λ (j : Job). j.priority) nat_cmp_total) (then_total (on_total (λ (j : Job). j.tts) nat_cmp_total) (on_total (λ (j : Job). j.number) nat_cmp_total))

-- a job is less in this order where it is the better choice
by_less : (a b : Job) → is_lt (order a b) ≡ better a b
by_less a b = grind (arith, nat_tests)

-- each goes before every later one
abbrev Goes : Job → Job → Type 0
Goes a b = better a b ≡ true

-- ---- all jobs that wait

-- two filters in turn are one of both
filter_two : (p q : Job → Bool) (xs : List Job) → filter q (filter p xs) ≡ filter (λ j. p j && q j) xs
filter_two p q xs =
    let passing = recursion_from_All (λ x. p x ≡ true) (filter p xs) (filter_passes p xs) in
    filter_same q (λ x. p x && q x) (filter p xs) (all_weaker (λ x. p x ≡ true) (λ x. q x ≡ (p x && q x)) (λ x on. rw on refl) (filter p xs) passing)
    ∙ filter-filter (λ x. p x && q x) p (λ x both. (and_parts (p x) (q x) both).0) xs

module _ (db : Database) (m : Queue) (k : Ledger) (means : TablesMean db m k) (t : ℕ) where
  abbrev all_due : List Job
  all_due = filter (λ (j : Job). is_due j t) m.jobs

  -- the jobs of the queue stand with rising numbers
  rises : IsAscending Below m.jobs
  rises = ascend m.jobs (subst IsTable means.jobs means.ordered.jobs.rise)

  -- no two of the jobs that are due tie
  no_ties : HasNoTies order is_total all_due
  no_ties = ascending_weaker Below (λ (a b : Job). is_eq (order a b) ≡ false) (λ a b low. grind (arith, nat_tests)) all_due
      (ascending-filter Below (λ (j : Job). is_due j t) m.jobs rises)

  -- in the order of the choice
  abbrev pub all_wait : List Job
  all_wait = sort_by order all_due

  -- the jobs that wait come each before every later one
  come : IsAscending (Comes order is_total) all_wait
  come = rises_sorted order is_total all_due no_ties

  -- the jobs that are due, sorted, are those that wait
  pub they_wait : AreWaiting t m all_wait
  they_wait = record {
    due = IsPermutation-sym all_wait all_due (IsPermutation-sort_by order is_total all_due);
    ordered = λ i d from low. let a = get_or all_wait i d in
        let b = get_or all_wait (i + 1) d in
        let before = ascending-get_or (Comes order is_total) all_wait i (i + 1) d come (omega arith) (omega (arith, low)) in
        sym (by_less b a) ∙ ap is_lt (is_total.antisymm b a ∙ ap ordering_reverse before);
  }

  -- those that are near, in order, are those of all that wait
  near_order : (near : Job → Bool) (jobs : List Job) → IsPermutation (filter (λ j. is_due j t && near j) m.jobs) jobs → IsSortedBy better jobs → jobs ≡ filter near all_wait
  near_order near jobs same ordered =
      let sorted : IsSorted order jobs = λ i d from low. by_less (get_or jobs (i + 1) d) (get_or jobs i d) ∙ ordered i d from low in
      let due = IsPermutation-filter near all_wait all_due (IsPermutation-sort_by order is_total all_due) in
      let perm : IsPermutation (filter near all_wait) jobs =
      IsPermutation-trans (filter near all_wait) (filter near all_due) jobs due (subst (λ xs. IsPermutation xs jobs) (sym (filter_two (λ (j : Job). is_due j t) near m.jobs)) same) in
      sorted_unique order is_total (filter near all_wait) jobs (ascending-filter (Comes order is_total) near all_wait come) perm sorted

-- ---- all that are asked for

module _ (db : Database) (m : Queue) (k : Ledger) (means : TablesMean db m k) (asked : Asked) where
  abbrev pub all_asked : List Job
  all_asked = filter (is_other asked.but) (all_wait db m k means asked.t)

  -- the jobs that wait, but those to the number left out, are the ones asked for
  pub they_are_asked : AreAsked asked m all_asked
  they_are_asked = record { all = all_wait db m k means asked.t; waiting = they_wait db m k means asked.t; is = refl }

  -- the jobs asked for have one order only
  one_asked : (jobs : List Job) → AreAsked asked m jobs → jobs ≡ all_asked
  one_asked jobs w =
      let sorted : IsSorted order w.all = λ i d from low. by_less (get_or w.all (i + 1) d) (get_or w.all i d) ∙ w.waiting.ordered i d from low in
      w.is ∙ ap (filter (is_other asked.but))
      (sorted_is-sort_by order is_total (all_due db m k means asked.t) w.all (no_ties db m k means asked.t) w.waiting.due sorted)

-- what holds of each job of the queue holds of each that is asked for
pub all_hold : (P : Job → Type 0) (asked : Asked) (m : Queue) (jobs : List Job) → AreAsked asked m jobs → All P m.jobs → All P jobs
all_hold P asked m jobs w all =
    let due = all_kept P (λ (j : Job). is_due j asked.t) m.jobs all in
    let wait = All-permutation P (filter (λ (j : Job). is_due j asked.t) m.jobs) w.all w.waiting.due due in
    subst (All P) (sym w.is) (all_kept P (is_other asked.but) w.all wait)

-- ---- a page

module _ (asked : Asked) (most : ℕ) (more : Row) (tests : List Term) where
  abbrev rest : Row
  rest = number most ∷ value_of asked.but ∷ more

  abbrev pub params : Row
  params = number asked.t ∷ rest

  abbrev passing : Row → Bool
  passing = waiting.is_asked asked.t rest tests prospect_project

  abbrev shown_of : Row → Row
  shown_of = waiting.shown_of asked.t rest tests prospect_project

  abbrev out : Row → Output
  out = waiting.out asked.t rest tests prospect_project

  module _ (old new : State) (m : Queue) (k : Ledger) (means : TablesMean old.now m k) (front : Front) (sql : List ℕ) (selects : SelectsPage sql tests)
      (near : (j : Job) → waiting.is_further asked.t rest tests prospect_project (row_of j) ≡ (is_other asked.but j && is_near front j)) where
    -- rows that pass are put in order, and those shown are a page behind the front
    page_found : (rows : List Row) → Shown sql params old new rows → IsPage asked m front most rows
    page_found rows h =
        let by = output_cmp (waiting.query asked.t rest tests prospect_project) in
        let read = reads_as sql params old new our_tables means.schema _ selects.command selects.plain selects.unlisted rows h in
        let a : IsAnswer (page_query tests) (overlay old.now.trees []) params rows = read.answer Null in
        let staged = a.grouped ∙ each_passing passing (λ (r : Row). params ∷ r ∷ []) (old.now.trees jobs_tree) in
        let kept : a.kept ≡ map out (filter passing (old.now.trees jobs_tree)) = a.distinct ∙ ap (map (output (page_query tests))) staged ∙ map-map _ _ _ in
        let back = pull_back out a.kept a.ordered a.same (filter passing (old.now.trees jobs_tree)) kept in
        let to : rows ≡ take most (map shown_of back.0) = a.shown ∙ ap (take most) (ap (map (λ (o : Output). o.1)) back.2 ∙ map-map _ _ _) in
        let is_wanted = λ (j : Job). is_other asked.but j && is_near front j in
        let it = waiting.are_near asked.t rest tests prospect_project old.now m k means is_wanted near back.0 back.1 (subst (IsSorted by) back.2 a.sorted) in
        let all = all_wait old.now m k means asked.t in
        let is : it.0 ≡ filter (is_near front) (filter (is_other asked.but) all) = near_order old.now m k means asked.t is_wanted it.0 it.2 it.3 ∙ sym (filter_two (is_other asked.but) (is_near front) all) in
        record {
          all = all_asked old.now m k means asked;
          waiting = they_are_asked old.now m k means asked;
          is =
              to ∙ ap (take most) it.1 ∙ take-map (λ (j : Job). prospect_shown (fields_of j)) most it.0
              ∙ ap (λ (js : List Job). map (λ (j : Job). prospect_shown (fields_of j)) (take most js)) is;
        }

-- SQL's NOT of a truth is true where the truth is false
not_is : (b : Bool) → is_true (unary Not (from_truth (Some b))) ≡ not b
unfolding unary
not_is true = refl
not_is false = refl

-- the job's number IS NOT the one left out: the job is to another number
pub is_not : (but : Option (List ℕ)) (j : Job) → is_true (unary Not (binary (Is Binary) (Text j.dial) (value_of but))) ≡ is_other but j
unfolding unary binary value_cmp
is_not None j = refl
is_not (Some dial) j = not_is (is_eq (value_cmp (Text j.dial) (Text dial))) ∙ ap not (ap is_eq (value_cmp-Text j.dial dial) ∙ is_eq-slice_cmp j.dial dial)

-- a text that shows the rows of a page answers one
pub answers_page : {S Z : Type 0} (g : Ghosts S) (asked : Asked) (most : ℕ) (more : Row) (tests : List Term) {old new : Store S}
    {result : Result (Vec Row Z) StoreFault} {sql : List ℕ} {told : Row} {of : Front} (front : Front) → SelectsPage sql tests
    → ((j : Job) → waiting.is_further asked.t (rest asked most more tests) tests prospect_project (row_of j) ≡ (is_other asked.but j && is_near front j))
    → of ≡ front → told ≡ params asked most more tests → Queries g old new result (λ rows. Shown sql told (shown_by g old) (shown_by g new) rows.items)
    → Recalls g old new result (λ m k rows. IsPage asked m of most rows.items)
answers_page g asked most more tests {old} {new} {result} {sql} front selects near is same finds = record {
  leaves = finds.leaves;
  answers = λ m k means s. rw is (answered result _ _ (finds.found s.clean) finds.cause (λ rows h.
      page_found asked most more tests (shown_by g old) (shown_by g new) m k (means (finds.leaves.served s)) front sql selects near rows.items
      (subst (λ p. Shown sql p (shown_by g old) (shown_by g new) rows.items) same h)));
}

-- ---- what one statement finds, and what comes after

abbrev lex : ℕ → ℕ → ℕ → ℕ → ℕ → ℕ → Bool
lex p t n q u k = nat_lt p q || ((p == q) && (nat_lt t u || ((t == u) && nat_lt n k)))

-- what comes after what comes after comes after
through : (p t n q u k r v l : ℕ) → lex p t n q u k ≡ true → lex q u k r v l ≡ true → lex p t n r v l ≡ true
through p t n q u k r v l a b = grind (arith, nat_tests)

-- the same priority and time with a later number, or what is later by these two, is what comes after
same_front : (p t n q u k : ℕ) → (((q == p) && ((u == t) && nat_lt n k)) || (nat_lt p q || ((q == p) && nat_lt t u))) ≡ lex p t n q u k
same_front p t n q u k = grind (arith, nat_tests)

-- behind what comes after nothing is near
after : (f : Front) (a b : Job) → Goes a b → is_beyond f a ≡ true → is_near f b ≡ false
after (Number p t n) a b goes past = grind (arith, nat_tests)
after (Time p t) a b goes past = grind (arith, nat_tests)
after _ a b goes past = absurd (true≢false (sym past))

-- a job beyond a front isn't near it
not_both : (f : Front) (a : Job) → is_beyond f a ≡ true → is_near f a ≡ false
not_both (Number p t n) a past = let e : (nat_lt p a.priority || ((a.priority == p) && nat_lt t a.tts)) ≡ true = past in grind (arith, nat_tests)
not_both (Time p t) a past = let e : nat_lt p a.priority ≡ true = past in grind (arith, nat_tests)
not_both _ a past = absurd (true≢false (sym past))

-- what is behind the next front comes after
next_is : (f : Front) → is_last f ≡ false → (j : Job) → is_beyond f j ≡ is_behind (next_front f) j
next_is (Number p t n) last j = or_comm (nat_lt p j.priority) ((j.priority == p) && nat_lt t j.tts)
next_is (Time p t) last j = or_comm false (nat_lt p j.priority)
next_is _ last j = absurd (true≢false last)

-- beyond the last front is no job
last_is : (f : Front) → is_last f ≡ true → (j : Job) → is_beyond f j ≡ false
last_is (Number p t n) last j = absurd (true≢false (sym last))
last_is (Time p t) last j = absurd (true≢false (sym last))
last_is _ last j = refl

-- in a list in order, what is behind a front is what is near it and then what is beyond
cut : (f : Front) (xs : List Job) → IsAscending Goes xs → filter (is_behind f) xs ≡ filter (is_near f) xs ++ filter (is_beyond f) xs
cut f [] up = refl
cut f (x ∷ xs) up =
    let near = filter (is_near f) xs in
    let beyond = filter (is_beyond f) xs in
    let more = cut f xs up.1 in
    elim (cases_Bool (is_beyond f x)) [
      | inl past ↦
          (let none = filter_none (is_near f) xs (all_weaker (Goes x) (λ b. is_near f b ≡ false) (λ b goes. after f x b goes past) xs up.0) in
          rw (not_both f x past, past, none) (ap (λ l. x ∷ l) (rw none at more)))
      | inr off ↦ rw off (elim (is_near f x) as (λ a. cond (a || false) (x ∷ filter (is_behind f) xs) (filter (is_behind f) xs) ≡ cond a (x ∷ near)
          near ++ beyond) [ true ↦ ap (λ l. x ∷ l) more | false ↦ more ])
    ]

-- ---- behind the last job of a page

-- what holds of each in a list holds of one amid it
amid : {X : Type 0} (P : X → Type 0) (ys : List X) (x : X) (zs : List X) → AllByRecursion P (ys ++ x ∷ zs) → P x
amid P [] x zs all = all.0
amid P (y ∷ ys) x zs all = amid P ys x zs all.1

-- in a list in order, what is worse than one job is the rest behind it
behind_it : (ys : List Job) (x : Job) (zs : List Job) → IsAscending Goes (ys ++ x ∷ zs) → filter (better x) (ys ++ x ∷ zs) ≡ zs
behind_it [] x zs up = let itself : better x x ≡ false = grind (arith, nat_tests) in rw itself (filter_all (better x) zs up.0)
behind_it (y ∷ ys) x zs up =
    let goes = amid (Goes y) ys x zs up.0 in
    let back : better x y ≡ false = grind (arith, nat_tests) in
    rw back (behind_it ys x zs up.1)

-- where a list in order, behind a front, goes to a job and then on, the rest is what is behind this job
rest_behind : (f : Front) (all ys : List Job) (x : Job) (rest : List Job) → IsAscending Goes all → filter (is_behind f) all ≡ (ys ++ x ∷ []) ++ rest → filter (is_behind (front_of (prospect (fields_of x)))) all ≡ rest
rest_behind f all ys x rest up is =
    let whole : filter (is_behind f) all ≡ ys ++ x ∷ rest = is ∙ append_assoc ys (x ∷ []) rest in
    let here : is_behind f x ≡ true = amid (λ (j : Job). is_behind f j ≡ true) ys x rest (subst (AllByRecursion (λ (j : Job). is_behind f j ≡ true)) whole (recursion_from_All _ _ (filter_passes (is_behind f) all))) in
    filter_agree (is_behind (front_of (prospect (fields_of x)))) (better x) (λ j. same_front x.priority x.tts x.number j.priority j.tts j.number) all
    ∙ sym (filter-filter (better x) (is_behind f) (λ b goes. still_behind f x b here goes) all)
    ∙ ap (filter (better x)) whole ∙ behind_it ys x rest (subst (IsAscending Goes) whole (ascending-filter Goes (is_behind f) all up))
  where
    still_behind : (f : Front) (a b : Job) → is_behind f a ≡ true → Goes a b → is_behind f b ≡ true
    still_behind First a b here goes = refl
    still_behind (Number p t n) a b here goes = same_front p t n b.priority b.tts b.number
        ∙ through p t n a.priority a.tts a.number b.priority b.tts b.number (sym (same_front p t n a.priority a.tts a.number) ∙ here) goes
    still_behind (Time p t) a b here goes = grind (arith, nat_tests)
    still_behind (Priority p) a b here goes = grind (arith, nat_tests)

-- ---- where a reading stands

-- no rows are of no jobs
none_shown : {X Y : Type 0} (f : X → Y) (xs : List X) → [] ≡ map f xs → xs ≡ []
none_shown f xs is = nil_from_length xs (omega (arith, length-map xs f, ap length is))

abbrev shown : Job → Row
shown j = prospect_shown (fields_of j)

module _ (db : Database) (m : Queue) (k : Ledger) (means : TablesMean db m k) (asked : Asked) where
  -- nothing was read
  pub stands_first : (most : ℕ) → 0 < most → most ≤ longest_page → StandsAt asked m [] [] First most
  stands_first most some bounded = record {
    all = all_asked db m k means asked;
    waiting = they_are_asked db m k means asked;
    read = [];
    parts = sym (filter_all (is_behind First) (all_asked db m k means asked) (all_of (λ (j : Job). is_behind First j ≡ true) (λ j. refl) (all_asked db m k means asked)));
    shown = refl;
    some = some;
    bounded = bounded;
  }

  module _ (given : List Job) (f : Front) (most : ℕ) (h : StandsAt asked m given [] f most) (rows : List Row) (next : IsPage asked m f most rows) where
    -- the page and the reading are of the same jobs, in the same order
    all_is : next.all ≡ h.all
    all_is = one_asked db m k means asked next.all next.waiting ∙ sym (one_asked db m k means asked h.all h.waiting)

    -- the jobs asked for, in this reading, stand with the better before the worse
    up : IsAscending Goes h.all
    up = subst (IsAscending Goes) (sym (one_asked db m k means asked h.all h.waiting))
        (ascending-filter Goes (is_other asked.but) (all_wait db m k means asked.t)
        (ascending_weaker (Comes order is_total) Goes (λ a b e. sym (by_less a b) ∙ ap is_lt e) _ (come db m k means asked.t)))

    -- they are those given and those behind the front
    left : h.all ≡ given ++ filter (is_behind f) h.all
    left = h.parts ∙ ap (λ (read : List Job). given ++ (read ++ filter (is_behind f) h.all)) (none_shown shown h.read h.shown)

    -- the jobs of the page
    abbrev pub paged : List Job
    paged = take most (filter (is_near f) next.all)

    -- it ends with a job
    pub stands_page : (ys : List Job) (x : Job) → paged ≡ ys ++ x ∷ [] → (then : ℕ) → 0 < then → then ≤ longest_page
        → StandsAt asked m given rows (front_of (prospect (fields_of x))) then
    stands_page ys x is then some bounded =
        let near = filter (is_near f) h.all in
        let front : take most near ≡ ys ++ x ∷ [] = ap (λ (all : List Job). take most (filter (is_near f) all)) (sym all_is) ∙ is in
        let rest = drop most near ++ filter (is_beyond f) h.all in
        let whole : filter (is_behind f) h.all ≡ (ys ++ x ∷ []) ++ rest =
        cut f h.all up ∙ ap (λ (xs : List Job). xs ++ filter (is_beyond f) h.all) (sym (take-append-drop most near) ∙ ap (λ (xs : List Job). xs ++ drop most near) front)
        ∙ append_assoc (ys ++ x ∷ []) (drop most near) (filter (is_beyond f) h.all) in
        record {
          all = h.all;
          waiting = h.waiting;
          read = ys ++ x ∷ [];
          parts = left ∙ ap (λ (xs : List Job). given ++ xs) (whole ∙ ap (λ (xs : List Job). (ys ++ x ∷ []) ++ xs) (sym (rest_behind f h.all ys x rest up whole)));
          shown = next.is ∙ ap (map shown) is;
          some = some;
          bounded = bounded;
        }

    -- where the page is empty, no job is near the front
    nothing_near : rows ≡ [] → filter (is_near f) h.all ≡ []
    nothing_near none =
        let empty = ap (λ (all : List Job). take most (filter (is_near f) all)) (sym all_is) ∙ none_shown shown paged (sym none ∙ next.is) in
        nil_from_length (filter (is_near f) h.all) (omega (arith, h.some, length-take most (filter (is_near f) h.all), ap length empty))

    -- it has no job
    pub stands_on : rows ≡ [] → (then : ℕ) → 0 < then → then ≤ longest_page → StandsAt asked m given rows (next_front f) then
    stands_on none then some bounded = by (is_last f) refl
      where
        same : (g : Front) → filter (is_behind f) h.all ≡ filter (is_behind g) h.all → StandsAt asked m given rows g then
        same g e = record {
          all = h.all;
          waiting = h.waiting;
          read = [];
          parts = left ∙ ap (λ (xs : List Job). given ++ xs) e;
          shown = none;
          some = some;
          bounded = bounded;
        }

        stays : (g : Front) → is_last g ≡ true → next_front g ≡ g
        stays (Number p s n) e = absurd (true≢false (sym e))
        stays (Time p s) e = absurd (true≢false (sym e))
        stays _ e = refl

        by : (b : Bool) → is_last f ≡ b → StandsAt asked m given rows (next_front f) then
        by true e = same (next_front f) (ap (λ (g : Front). filter (is_behind g) h.all) (sym (stays f e)))
        by false e =
            same (next_front f)
            (cut f h.all up ∙ ap (λ (xs : List Job). xs ++ filter (is_beyond f) h.all) (nothing_near none)
            ∙ filter_same (is_beyond f) (is_behind (next_front f)) h.all (all_of (λ (j : Job). is_beyond f j ≡ is_behind (next_front f) j) (next_is f e) h.all))

    -- and none comes after it
    pub all_given : rows ≡ [] → is_last f ≡ true → AreAsked asked m given
    all_given none last =
        let nothing : filter (is_beyond f) h.all ≡ [] = filter_none (is_beyond f) h.all (all_of (λ (j : Job). is_beyond f j ≡ false) (last_is f last) h.all) in
        let whole : h.all ≡ given =
        left ∙ ap (λ (xs : List Job). given ++ xs) (cut f h.all up ∙ ap₂ ◌++◌ (nothing_near none) nothing) ∙ append-nil given in
        subst (AreAsked asked m) whole h.waiting

-- ---- the end of a page

-- a list is empty, or ends with an element
ends : {X : Type 0} (xs : List X) → (xs ≡ []) ⊎ ((ys : List X) × (x : X) × (xs ≡ ys ++ x ∷ []))
ends [] = inl refl
ends (x ∷ xs) = elim (ends xs) [ inl none ↦ inr ([], x, ap (λ l. x ∷ l) none) | inr more ↦ inr (x ∷ more.0, more.1, ap (λ l. x ∷ l) more.2) ]

-- rows with no last one are none
pub page_empty : (rows : List Row) → None ≡ slice_get rows (length rows - 1) → rows ≡ []
page_empty [] none = refl
page_empty (row ∷ rows) none = absurd (none-some _ (none ∙ slice_get-get_or (row ∷ rows) (length (row ∷ rows) - 1) row (omega arith)))

-- where rows have a last one, it is of the last of their jobs
pub page_ends : (rows : List Row) (jobs : List Job) (row : Row) → rows ≡ map shown jobs → Some row ≡ slice_get rows (length rows - 1) → (ys : List Job) × (x : Job) × (jobs ≡ ys ++ x ∷ []) × (row ≡ shown x)
page_ends rows jobs row is last = elim (ends jobs) [
  | inl empty ↦ absurd (none-some row (sym (last ∙ ap (λ (xs : List Row). slice_get xs (length xs - 1)) (is ∙ ap (map shown) empty))))
  | inr it ↦ (
    it.0,
    it.1,
    it.2,
    same_Some row (shown it.1) (last ∙ ap (λ (xs : List Row). slice_get xs (length xs - 1)) (is ∙ ap (map shown) it.2 ∙ map-append shown it.0 (it.1 ∷ []))
        ∙ (let push = length_push (map shown it.0) (shown it.1) in
        slice_get_read (map shown it.0 ++ shown it.1 ∷ []) _ _ (shown it.1) refl (omega (arith, push))
        (sym (get_or_push (map shown it.0) (shown it.1) (shown it.1) _ (omega (arith, push)))))),
  )
]

-- a job of it is lawful
pub page_lawful : (asked : Asked) (m : Queue) (f : Front) (most : ℕ) (all ys : List Job) (x : Job) → All IsLawfulJob m.jobs → AreAsked asked m all → take most (filter (is_near f) all) ≡ ys ++ x ∷ [] → IsLawfulJob x
page_lawful asked m f most all ys x lawful waits is =
    let near = all_kept IsLawfulJob (is_near f) all (all_hold IsLawfulJob asked m all waits lawful) in
    amid IsLawfulJob ys x [] (subst (AllByRecursion IsLawfulJob) is (recursion_from_All IsLawfulJob (take most (filter (is_near f) all)) (All-take IsLawfulJob most (filter (is_near f) all) near)))

-- ---- how often there is more to be read until a page has a job

abbrev pub rank : Front → ℕ
rank (Number p t n) = 2
rank (Time p t) = 1
rank _ = 0

abbrev pub turns_left : List Row → Front → ℕ
turns_left [] f = rank f + 1
turns_left (row ∷ rows) f = 0

-- ---- what is given

-- the first of the page is given
pub one_given : (asked : Asked) (m : Queue) (given : List Job) (row : Row) (page : List Row) (f : Front) (most : ℕ) → StandsAt asked m given (row ∷ page) f most
    → (j : Job) × (row ≡ shown j) × StandsAt asked m (given ++ j ∷ []) page f most
one_given asked m given row page f most h = by h.read h.parts h.shown
  where
    by : (read : List Job) → h.all ≡ given ++ (read ++ filter (is_behind f) h.all) → row ∷ page ≡ map shown read → (j : Job) × (row ≡ shown j) × StandsAt asked m (given ++ j ∷ []) page f most
    by [] parts is = absurd (let e = is in cc)
    by (j ∷ read) parts is = (
      j,
      (let e = is in cc),
      record { all = h.all; waiting = h.waiting; read = read; parts = parts ∙ sym (append_assoc given (j ∷ []) (read ++ filter (is_behind f) h.all)); shown = (let e = is in cc); some = h.some; bounded = h.bounded },
    )

-- ---- a job that is given

-- a lawful job's number is at most the last number
pub within : (j : Job) → IsLawfulJob j → j.number ≤ last_job
within j lawful = let up = (and_parts (leb 1 j.number) (leb j.number last_job) (within_limits_of (fields_of j) lawful.limits).number).1 in leb-true j.number last_job up

-- in a list with rising numbers, each job is found by its number
each_found : (xs : List Job) → IsAscending Below xs → AllByRecursion (λ (j : Job). find (λ (k : Job). k.number == j.number) xs ≡ Some j) xs
each_found [] up = tt
each_found (x ∷ xs) up = (
  (let e : (x.number == x.number) ≡ true = grind (arith, nat_tests) in rw e),
  all_both (Below x) (λ (j : Job). find (λ (k : Job). k.number == j.number) xs ≡ Some j) (λ (j : Job). find (λ (k : Job). k.number == j.number) (x ∷ xs) ≡ Some j)
      (λ j low found. let e : (x.number == j.number) ≡ false = grind (arith, nat_tests) in rw (e, found)) xs up.0 (each_found xs up.1),
)

module _ (db : Database) (m : Queue) (k : Ledger) (means : TablesMean db m k) (asked : Asked) (given : List Job) (j : Job) (page : List Row) (f : Front) (most : ℕ) (h : StandsAt asked m (given ++ j ∷ []) page f most) where
  -- what holds of each job of the queue holds of the one given
  of_all : (P : Job → Type 0) → All P m.jobs → P j
  of_all P all =
      let waits = recursion_from_All P h.all (all_hold P asked m h.all h.waiting all) in
      let rest = h.read ++ filter (is_behind f) h.all in
      amid P given j rest (subst (AllByRecursion P) (h.parts ∙ append_assoc given (j ∷ []) rest) waits)

  -- it is lawful
  pub given_lawful : IsLawfulJob j
  given_lawful = of_all IsLawfulJob means.lawful.jobs

-- ---- what a refusal leaves

-- one that is passed on says nothing of an answer, and is for want of the store alone where that was
module _ {S Z A : Type 0} (g : Ghosts S) {old new : Candidates S (IntoIter Row Z) Asked} {fault : StoreFault}
    (same : new.store.ghost_name ≡ old.store.ghost_name) (asked : new.asked ≡ old.asked) {X : Type 0} {from : Result X StoreFault} (leaves : Looks g old.store.now new.store.now from)
    (why : (m : Queue) (k : Ledger) (given : List Job) → MeansNow (shown_by g old.store.now) m k → Serves (shown_by g new.store.now)
    → StandsAt old.asked m given (into_iter_items old.page) old.front old.most → fault ≡ Unavailable) where
  pub reaches_err : {IsEnd : A → Type 0} {Finds : Queue → List Job → A → Type 0} (result : Result A StoreFault) → IsErrAnd result (λ e. e ≡ fault)
      → Reaches g old new result IsEnd Finds
  reaches_err (Ok a) told = absurd told
  reaches_err (Err e) told = record {
    same_reference = same;
    leaves = looks_err g leaves;
    opens = tt;
    none = tt;
    asked = asked;
    found = λ m k given means s stands. told ∙ why m k given means s stands;
  }
