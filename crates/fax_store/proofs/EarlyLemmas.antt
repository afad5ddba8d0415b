-- Where no job is over that ended at the moment 0, those that leave are found without a look at the jobs that have no end.
use Rattle.std.proofs.Common.{◌≡◌, ◌∙◌, ◌<◌, ◌≤◌, ◌==◌, ◌&&◌, ◌++◌, ℕ, zero, suc, Bool, true, false, cond, List, [], ◌∷◌, map, filter, flat_map, take, Option, Some, None, is_some, All, nat_le, nat_lt, refl, sym, ap, ap₂, subst, arith, inl, inr, slice_get, unwrap_or, IsPermutation}
use Rattle.std.specs.List.{AllByRecursion, list_all}
use Rattle.std.proofs.Math.Bool.{and-true}
use Rattle.std.proofs.Math.Path.{fun_ext}
use Rattle.std.proofs.lemmas.Bool.{cases_Bool}
use Rattle.std.proofs.lemmas.Bool.Decides.{nat_tests}
use Rattle.std.proofs.lemmas.List.Elements.{All-from_recursion, All-map, All-take, recursion_from_All}
use Rattle.std.proofs.lemmas.List.Sorted.{length_permutation}
use Rattle.sqlite.specs.Order.{Row}
use Rattle.sqlite.specs.Program.{overlay}
use Rattle.sqlite.specs.Query.{IsAnswer, Output, output}
use Rattle.sqlite.specs.State.{State, Shown}
use Rattle.sqlite.specs.declared.types.Value.TheVariants.{Null}
use Rattle.sqlite.proofs.Callers.{reads_as}
use Rattle.sqlite_keyed.proofs.ListLemmas.{all-slice_get}
use Rattle.sqlite_rules.specs.Lists.{Has}
use Rattle.sqlite_rules.proofs.ListLemmas.{all_has, has_found}
use Rattle.sqlite_sql.specs.Term.{Env, holds}
use Rattle.sqlite_trees.specs.Tree.{IsAscending}
use Rattle.fax_core.specs.Job.{Job, fields_of}
use Rattle.fax_core.specs.Ledger.{Ledger}
use Rattle.fax_core.specs.Purge.{ends_before, leaving, may_leave}
use Rattle.fax_core.specs.Queue.{Queue, times_numbered}
use Rattle.fax_core.specs.Times.{has_ended}
use Rattle.fax_core.specs.declared.times.Times.{Times}
use Rattle.fax_layout.proofs.ColumnLemmas.{all_kept}
use Rattle.fax_layout.proofs.CompareLemmas.{at_most, is_number, more_than}
use Rattle.fax_schema.proofs.PurgeTexts.{early_query, early_tests, select_ended_at_0}
use Rattle.fax_schema.specs.Schema.{our_tables}
use Rattle.fax_schema.specs.declared.statements.TheConstants.{SELECT_ENDED_AT_0}
use Rattle.fax_store.specs.Purge.{NoneEndedAtZero, ends_within, last_of, leaves_within, leaving_from}
use Rattle.fax_store.specs.Store.{FindsRow}
use Rattle.fax_store.proofs.JobsLemmas.{Below}
use Rattle.fax_store.proofs.LeavingLemmas.{all_three, from_0, less_than, over_phase}
use Rattle.fax_store.proofs.PurgeLemmas.{goes, stays}
use Rattle.fax_tables.specs.Job.{IsLawfulJob}
use Rattle.fax_tables.specs.Row.{number, phase_number, times_row}
use Rattle.fax_tables.specs.Tables.{TablesMean}
use Rattle.fax_tables.proofs.RowLemmas.{fits}
use Rattle.fax_tables.proofs.TablesLemmas.{row_of}

-- ---- lists

-- a list of which the first is none is empty
none_first : {X : Type 0} (xs : List X) → take 1 xs ≡ [] → xs ≡ []
none_first [] none = refl
none_first (x ∷ xs) none = cc

none_mapped : {X Y : Type 0} (f : X → Y) (xs : List X) → map f xs ≡ [] → xs ≡ []
none_mapped f [] none = refl
none_mapped f (x ∷ xs) none = cc

none_before : {X : Type 0} (xs : List X) → IsPermutation xs [] → xs ≡ []
none_before [] same = refl
none_before (x ∷ xs) same = absurd (omega (arith, length_permutation (x ∷ xs) [] same))

-- where nothing is made of all, nothing is made of each
none_left : {X : Type 0} (xs ys : List X) → xs ++ ys ≡ [] → (xs ≡ []) × (ys ≡ [])
none_left [] ys none = (refl, none)
none_left (x ∷ xs) ys none = cc

none_each : {X Y : Type 0} (f : X → List Y) (xs : List X) → flat_map f xs ≡ [] → (x : X) → Has xs x → f x ≡ []
none_each f (y ∷ ys) none x (inl is) = subst (λ z. f z ≡ []) (sym is) (none_left (f y) (flat_map f ys) none).0
none_each f (y ∷ ys) none x (inr has) = none_each f ys (none_left (f y) (flat_map f ys) none).1 x has
none_each f [] none x has = absurd has

none_passes : {X : Type 0} (b : Bool) (x : X) → cond b (x ∷ []) [] ≡ [] → b ≡ false
none_passes true x none = cc
none_passes false x none = refl

mapped_in : {X Y : Type 0} (f : X → Y) (xs : List X) (x : X) → Has xs x → Has (map f xs) (f x)
mapped_in f (y ∷ ys) x (inl is) = inl (ap f is)
mapped_in f (y ∷ ys) x (inr has) = inr (mapped_in f ys x has)
mapped_in f [] x has = absurd has

-- ---- no job is over that ended at the moment 0

module _ (last : ℕ) where
  abbrev pub early_params : Row
  early_params = number last ∷ []

  abbrev env : Job → Times → Env
  env j x = early_params ∷ row_of j ∷ times_row x ∷ []

  -- the times are the job's, which is over, up to that number, and ended then
  abbrev early : Job → Times → Bool
  early j x = (x.job == j.number) && (has_ended j.phase && (nat_le j.number last && nat_lt x.ended 1))

  passes_so : (j : Job) (x : Times) → list_all (holds (env j x)) early_tests ≡ early j x
  passes_so j x =
      ap₂ (λ a b. a && b) (is_number x.job j.number)
      (ap₂ (λ a b. a && b) (more_than (phase_number j.phase) 2)
      (ap₂ (λ a b. a && b) (less_than (phase_number j.phase) 5) (ap₂ (λ a b. a && b) (at_most j.number last) (and-true _ ∙ less_than x.ended 1)))
      ∙ all_three (nat_lt 2 (phase_number j.phase)) (nat_lt (phase_number j.phase) 5) (nat_le j.number last && nat_lt x.ended 1)
      ∙ ap (λ b. b && (nat_le j.number last && nat_lt x.ended 1)) (over_phase j.phase))

  module _ (old new : State) (m : Queue) (k : Ledger) (means : TablesMean old.now m k) where
    -- where none is shown, no job passes with its times
    none_early : Shown SELECT_ENDED_AT_0.now early_params old new [] → (j : Job) → Has m.jobs j → (x : Times) → Has m.times x → early j x ≡ false
    none_early h j has x its =
        let read = reads_as SELECT_ENDED_AT_0.now early_params old new our_tables means.schema _ select_ended_at_0.command select_ended_at_0.plain select_ended_at_0.unlisted [] h in
        let a : IsAnswer early_query (overlay old.now.trees []) early_params [] = read.answer Null in
        let row_test = λ (r s : Row). list_all (holds (early_params ∷ r ∷ s ∷ [])) early_tests in
        let matched = λ (r s : Row). cond (row_test r s) ((early_params ∷ r ∷ s ∷ []) ∷ []) [] in
        let ordered = none_mapped (λ (o : Output). o.1) a.ordered (none_first _ (sym a.shown)) in
        let kept = none_before a.kept (subst (IsPermutation a.kept) ordered a.same) in
        let staged = none_mapped (output early_query) a.staged (sym a.distinct ∙ kept) in
        let none : flat_map (λ r. flat_map (matched r) (map times_row m.times)) (map row_of m.jobs) ≡ [] =
        ap₂ (λ js ts. flat_map (λ r. flat_map (matched r) ts) js) (sym means.jobs) (sym means.times) ∙ sym a.grouped ∙ staged in
        let of_job = none_each (λ r. flat_map (matched r) (map times_row m.times)) (map row_of m.jobs) none (row_of j) (mapped_in row_of m.jobs j has) in
        let of_both = none_each (matched (row_of j)) (map times_row m.times) of_job (times_row x) (mapped_in times_row m.times x its) in
        sym (passes_so j x) ∙ none_passes (row_test (row_of j) (times_row x)) _ of_both

    -- so none is over that ended then
    pub none_ended : Shown SELECT_ENDED_AT_0.now early_params old new [] → NoneEndedAtZero last m
    none_ended h j has low = by (times_numbered j.number m) refl
      where
        all_off : (over low end : Bool) → low ≡ true → (true && (over && (low && end))) ≡ false → (over && end) ≡ false
        all_off true true end is off = off
        all_off false true end is off = refl
        all_off true false end is off = cc
        all_off false false end is off = refl

        by : (o : Option Times) → times_numbered j.number m ≡ o → (has_ended j.phase && ends_within 0 1 o) ≡ false
        by None is = none (has_ended j.phase)
          where
            none : (b : Bool) → (b && false) ≡ false
            none true = refl
            none false = refl
        by (Some x) is =
            let found = has_found (λ (y : Times). y.job == j.number) m.times x is in
            let off = ap (λ b. b && (has_ended j.phase && (nat_le j.number last && nat_lt x.ended 1))) (sym found.1) ∙ none_early h j has x found.0 in
            ap (λ b. has_ended j.phase && (b && nat_lt x.ended 1)) (from_0 x.ended) ∙ all_off (has_ended j.phase) (nat_le j.number last) (nat_lt x.ended 1) (grind (arith, nat_tests, low)) off

    -- so the text says by the lack of a row
    pub none_found : (found : Option Row) → FindsRow SELECT_ENDED_AT_0.now early_params old new found → is_some found ≡ false → NoneEndedAtZero last m
    none_found None h is = none_ended (subst (Shown SELECT_ENDED_AT_0.now early_params old new) h.2 h.1)
    none_found (Some row) h is = cc

-- ---- then the first of those that ended later are the first of all

module _ (p q : Job → Bool) (within : (j : Job) → q j ≡ true → p j ≡ true) where
  abbrev firsts : ℕ → (Job → Bool) → List Job → List ℕ
  firsts n test js = take n (map (λ (j : Job). j.number) (filter test js))

  -- a number of those above another is above it
  above : (c b n i : ℕ) (js : List Job) → AllByRecursion (λ (j : Job). c < j.number) js → slice_get (firsts n q js) i ≡ Some b → c < b
  above c b n i js all is =
      let kept = all_kept (λ (j : Job). c < j.number) q js (All-from_recursion (λ (j : Job). c < j.number) js all) in
      let taken = All-take (λ k. c < k) n _ (All-map (λ k. c < k) (λ (j : Job). j.number) (filter q js) kept) in
      all-slice_get (λ k. c < k) (firsts n q js) i b is (recursion_from_All (λ k. c < k) (firsts n q js) taken)

  -- an element that is dropped by both changes nothing
  dropped : (n : ℕ) (j : Job) (js : List Job) → q j ≡ false → p j ≡ false → firsts n q js ≡ firsts n p js → firsts n q (j ∷ js) ≡ firsts n p (j ∷ js)
  dropped n j js off out same = ap (λ xs. take n (map (λ (i : Job). i.number) xs)) (goes q j js off) ∙ same ∙ ap (λ xs. take n (map (λ (i : Job). i.number) xs)) (sym (goes p j js out))

  -- nor does one that is kept by both
  kept_first : (n : ℕ) (j : Job) (js : List Job) → q j ≡ true → firsts n q js ≡ firsts n p js → firsts (suc n) q (j ∷ js) ≡ firsts (suc n) p (j ∷ js)
  kept_first n j js on same =
      ap (λ xs. take (suc n) (map (λ (i : Job). i.number) xs)) (stays q j js on) ∙ ap (λ l. j.number ∷ l) same ∙ ap (λ xs. take (suc n) (map (λ (i : Job). i.number) xs)) (sym (stays p j js (within j on)))

  -- what is the last of them
  last_kept : (b n : ℕ) (j : Job) (js : List Job) → q j ≡ true → slice_get (firsts (suc n) q (j ∷ js)) n ≡ Some b → slice_get (j.number ∷ firsts n q js) n ≡ Some b
  last_kept b n j js on is = ap (λ xs. slice_get (take (suc n) (map (λ (i : Job). i.number) xs)) n) (sym (stays q j js on)) ∙ is

  last_left : (b n i : ℕ) (j : Job) (js : List Job) → q j ≡ false → slice_get (firsts n q (j ∷ js)) i ≡ Some b → slice_get (firsts n q js) i ≡ Some b
  last_left b n i j js off is = ap (λ xs. slice_get (take n (map (λ (i : Job). i.number) xs)) i) (sym (goes q j js off)) ∙ is

  -- one in front of all these, up to whose last the tests are alike, is dropped by both
  out_too : (b n i : ℕ) (j : Job) (js : List Job) → AllByRecursion (λ (k : Job). j.number < k.number) js → (j.number ≤ b → p j ≡ q j) → q j ≡ false → slice_get (firsts n q js) i ≡ Some b → p j ≡ false
  out_too b n i j js all alike off is = let low = above j.number b n i js all is in alike (omega (arith, low)) ∙ off

  -- where the tests are alike up to the last of as many
  pub same_firsts : (b n : ℕ) (js : List Job) → IsAscending Below js → ((j : Job) → Has js j → j.number ≤ b → p j ≡ q j) → slice_get (firsts (suc n) q js) n ≡ Some b → firsts (suc n) q js ≡ firsts (suc n) p js
  same_firsts b n [] up alike is = refl
  same_firsts b zero (j ∷ js) up alike is = elim (cases_Bool (q j)) [
    | inl on ↦ kept_first zero j js on refl
    | inr off ↦
        (let was = last_left b 1 0 j js off is in
        dropped 1 j js off (out_too b 1 0 j js up.0 (alike j (inl refl)) off was) (same_firsts b zero js up.1 (λ i has. alike i (inr has)) was))
  ]
  same_firsts b (suc n) (j ∷ js) up alike is = elim (cases_Bool (q j)) [
    | inl on ↦ kept_first (suc n) j js on (same_firsts b n js up.1 (λ i has. alike i (inr has)) (last_kept b (suc n) j js on is))
    | inr off ↦
        (let was = last_left b (suc (suc n)) (suc n) j js off is in
        dropped (suc (suc n)) j js off (out_too b (suc (suc n)) (suc n) j js up.0 (alike j (inl refl)) off was) (same_firsts b (suc n) js up.1 (λ i has. alike i (inr has)) was))
  ]

  -- or all of them
  pub same_all : (js : List Job) → ((j : Job) → Has js j → p j ≡ q j) → filter q js ≡ filter p js
  same_all [] alike = refl
  same_all (j ∷ js) alike = elim (cases_Bool (q j)) [
    | inl on ↦ stays q j js on ∙ ap (λ (l : List Job). j ∷ l) (same_all js (λ i has. alike i (inr has))) ∙ sym (stays p j js (alike j (inl refl) ∙ on))
    | inr off ↦ goes q j js off ∙ same_all js (λ i has. alike i (inr has)) ∙ sym (goes p j js (alike j (inl refl) ∙ off))
  ]

-- an end that isn't 0 is one from 1 on
past_0 : (e : ℕ) → nat_le 0 (suc e) ≡ nat_le 1 (suc e)
past_0 e = grind (arith, nat_tests)

later : (over : Bool) (before : ℕ) (o : Option Times) → (over && ends_within 0 1 o) ≡ false → (over && ends_within 0 before o) ≡ (over && ends_within 1 before o)
later false before o none = refl
later true before None none = refl
later true before (Some x) none = by x.ended none
  where
    by : (e : ℕ) → (nat_le 0 e && nat_lt e 1) ≡ false → (nat_le 0 e && nat_lt e before) ≡ (nat_le 1 e && nat_lt e before)
    by zero none = cc
    by (suc e) none = ap (λ b. b && nat_lt (suc e) before) (past_0 e)

weaker : (over : Bool) (before : ℕ) (o : Option Times) → (over && ends_within 1 before o) ≡ true → (over && ends_within 0 before o) ≡ true
weaker false before o on = on
weaker true before None on = on
weaker true before (Some x) on = by x.ended on
  where
    by : (e : ℕ) → (nat_le 1 e && nat_lt e before) ≡ true → (nat_le 0 e && nat_lt e before) ≡ true
    by zero on = cc
    by (suc e) on = ap (λ b. b && nat_lt (suc e) before) (past_0 e) ∙ on

module _ (before : ℕ) (m : Queue) where
  -- those from the moment 0 on are all
  pub leaving_whole : leaving_from 0 before m ≡ leaving before m
  leaving_whole =
      let same : leaves_within 0 before m ≡ may_leave before m = fun_ext (λ (j : Job). ap (λ b. has_ended j.phase && b) (whole_end (times_numbered j.number m))) in
      ap (λ test. take 1000 (map (λ (j : Job). j.number) (filter test m.jobs))) same
    where
      whole_end : (o : Option Times) → ends_within 0 before o ≡ ends_before before o
      whole_end None = refl
      whole_end (Some x) = ap (λ b. b && nat_lt x.ended before) (from_0 x.ended)

  module _ (rise : IsAscending Below m.jobs) (lawful : All IsLawfulJob m.jobs) where
    abbrev every : Job → Bool
    every = leaves_within 0 before m

    abbrev late : Job → Bool
    late = leaves_within 1 before m

    alike : (last : ℕ) → NoneEndedAtZero last m → (j : Job) → Has m.jobs j → j.number ≤ last → every j ≡ late j
    alike last none j has low = later (has_ended j.phase) before (times_numbered j.number m) (none j has low)

    -- where none is over that ended at 0, those that ended later are all
    pub leaving_late : NoneEndedAtZero (last_of (leaving_from 1 before m)) m → leaving_from 1 before m ≡ leaving before m
    leaving_late none = by (slice_get (leaving_from 1 before m) 999) refl none ∙ leaving_whole
      where
        by : (o : Option ℕ) → slice_get (leaving_from 1 before m) 999 ≡ o → NoneEndedAtZero (unwrap_or o 4294967295) m → leaving_from 1 before m ≡ leaving_from 0 before m
        by None is none = ap (λ js. take 1000 (map (λ (j : Job). j.number) js)) (same_all every late (λ j. weaker (has_ended j.phase) before (times_numbered j.number m)) m.jobs (λ j has. alike 4294967295 none j has (low j has)))
          where
            low : (j : Job) → Has m.jobs j → j.number ≤ 4294967295
            low j has = let fit = (fits (fields_of j) (all_has IsLawfulJob m.jobs j (recursion_from_All IsLawfulJob m.jobs lawful) has).limits).number in omega (arith, fit)
        by (Some last) is none = same_firsts every late (λ j. weaker (has_ended j.phase) before (times_numbered j.number m)) last 999 m.jobs rise (alike last none) is
