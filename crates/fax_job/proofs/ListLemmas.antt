-- What a loop over the indices of a list has seen, and what it finds.
use Rattle.std.proofs.Common.{◌≡◌, ℕ, zero, suc, ◌+◌, Bool, true, false, cond, not, ◌&&◌, ◌||◌, List, [], ◌∷◌, ◌++◌, take, refl, sym, ap, ◌∙◌, append_assoc, inl, inr}
use Rattle.std.specs.Prelude.{Option, Some, None, filter, find, slice_get}
use Rattle.std.specs.List.{list_all, list_any}
use Rattle.std.specs.Option.{is_some, option_or}
use Rattle.std.proofs.lemmas.Bool.{cases_Bool, and_from, and_left, and_right}
use Rattle.std.proofs.lemmas.List.{take_more, append-nil, flat_map_more}
use Rattle.std.proofs.lemmas.List.Elements.{filter-append}
use Rattle.std.proofs.lemmas.List.Folds.{find-append, list_all-append}
use Rattle.fax_job.specs.Pair.{Pair, extra_of}
use Rattle.fax_job.specs.Tag.{is_known}
use Rattle.fax_job.specs.Spelling.{printed_pair, printed}
use Rattle.std.proofs.lemmas.Option.{none-some, same_Some, slice_get_within, get_or_from_slice_get}

-- one more taken is the next element
pub take_next : {X : Type 0} (xs : List X) (i : ℕ) (x : X) → slice_get xs i ≡ Some x → take (i + 1) xs ≡ take i xs ++ x ∷ []
take_next xs i x h =
    take_more xs i x (slice_get_within xs i x h) ∙ ap (λ y. take i xs ++ y ∷ []) (get_or_from_slice_get xs i x x h)

-- ---- whether all pass a test

-- two tests that are true are true together
all_of_two : (a b : Bool) → a ≡ true → b ≡ true → (a && (b && true)) ≡ true
all_of_two a b p q = and_from a (b && true) p (and_from b true q refl)

-- where all so far pass, and the next does, all with it pass
pub all_next : {X : Type 0} (test : X → Bool) (xs : List X) (i : ℕ) (x : X) → slice_get xs i ≡ Some x → list_all test (take i xs) ≡ true → test x ≡ true → list_all test (take (i + 1) xs) ≡ true
all_next test xs i x h seen here =
    ap (list_all test) (take_next xs i x h) ∙ list_all-append test (take i xs) (x ∷ []) ∙ all_of_two (list_all test (take i xs)) (test x) seen here

-- where one fails, not all pass
pub all_fails : {X : Type 0} (test : X → Bool) (xs : List X) (i : ℕ) (x : X) → slice_get xs i ≡ Some x → test x ≡ false → list_all test xs ≡ false
all_fails test [] i x h fails = absurd (none-some x h)
all_fails test (y ∷ ys) zero x h fails = and_left (test y) (list_all test ys) (ap test (same_Some y x h) ∙ fails)
all_fails test (y ∷ ys) (suc i) x h fails = and_right (test y) (list_all test ys) (all_fails test ys i x h fails)

-- ---- the first that passes a test

-- a choice that is true picks the first
at_true : {X : Type 0} (b : Bool) (x y : Option X) → b ≡ true → cond b x y ≡ x
at_true b x y h = ap (λ c. cond c x y) h

-- and one that is false the second
at_false : {X : Type 0} (b : Bool) (x y : Option X) → b ≡ false → cond b x y ≡ y
at_false b x y h = ap (λ c. cond c x y) h

-- where none so far passes, nor does the next, none with it passes
pub find_next : {X : Type 0} (test : X → Bool) (xs : List X) (i : ℕ) (x : X) → slice_get xs i ≡ Some x → find test (take i xs) ≡ None → test x ≡ false → find test (take (i + 1) xs) ≡ None
find_next test xs i x h seen here =
    ap (find test) (take_next xs i x h) ∙ find-append test (take i xs) (x ∷ []) ∙ ap (λ o. option_or o (find test (x ∷ []))) seen ∙ at_false (test x) (Some x) None here

-- where none so far passes, and the next does, that is found
pub find_here : {X : Type 0} (test : X → Bool) (xs : List X) (i : ℕ) (x : X) → slice_get xs i ≡ Some x → find test (take i xs) ≡ None → test x ≡ true → find test xs ≡ Some x
find_here test [] i x h seen here = absurd (none-some x h)
find_here test (y ∷ ys) zero x h seen here =
    at_true (test y) (Some y) (find test ys) (ap test (same_Some y x h) ∙ here) ∙ h
find_here test (y ∷ ys) (suc i) x h seen here =
    elim (cases_Bool (test y)) [
      | inl passes ↦ absurd (none-some y (sym seen ∙ at_true (test y) (Some y) (find test (take i ys)) passes))
      | inr fails ↦ at_false (test y) (Some y) (find test ys) fails ∙ find_here test ys i x h (sym (at_false (test y) (Some y) (find test (take i ys)) fails) ∙ seen) here
    ]

-- something is found where the first is or another is
some_at : {X : Type 0} (b : Bool) (x : X) (o : Option X) (c : Bool) → is_some o ≡ c → is_some (cond b (Some x) o) ≡ (b || c)
some_at b x o c h = elim b as (λ v. is_some (cond v (Some x) o) ≡ (v || c)) [ true ↦ refl | false ↦ h ]

-- something is found where one passes
pub is_some-find : {X : Type 0} (test : X → Bool) (xs : List X) → is_some (find test xs) ≡ list_any test xs
is_some-find test [] = refl
is_some-find test (x ∷ xs) = some_at (test x) x (find test xs) (list_any test xs) (is_some-find test xs)

-- ---- extra lines

-- of one more, the filter takes it in or not
filter_next : {X : Type 0} (test : X → Bool) (xs : List X) (i : ℕ) (x : X) (b : Bool) → slice_get xs i ≡ Some x → test x ≡ b → filter test (take (i + 1) xs) ≡ filter test (take i xs) ++ cond b (x ∷ []) []
filter_next test xs i x b h here =
    ap (filter test) (take_next xs i x h) ∙ filter-append test (take i xs) (x ∷ []) ∙ ap (λ c. filter test (take i xs) ++ cond c (x ∷ []) []) here

-- a line with an unknown tag is one more extra line
pub extra_next : (ps : List Pair) (i : ℕ) (p : Pair) → slice_get ps i ≡ Some p → is_known p.tag ≡ false → extra_of (take (i + 1) ps) ≡ extra_of (take i ps) ++ p ∷ []
extra_next ps i p h here = filter_next (λ (q : Pair). not (is_known q.tag)) ps i p true h (ap not here)

-- and one with a known tag isn't
pub extra_over : (ps : List Pair) (i : ℕ) (p : Pair) → slice_get ps i ≡ Some p → is_known p.tag ≡ true → extra_of (take (i + 1) ps) ≡ extra_of (take i ps)
extra_over ps i p h here = filter_next (λ (q : Pair). not (is_known q.tag)) ps i p false h (ap not here) ∙ append-nil (extra_of (take i ps))

-- ---- what is copied or written of them

-- what is copied grows by the next pair
pub copied_next : (front ps : List Pair) (i : ℕ) (p : Pair) → slice_get ps i ≡ Some p → front ++ take (i + 1) ps ≡ front ++ take i ps ++ p ∷ []
copied_next front ps i p h = ap (λ qs. front ++ qs) (take_next ps i p h) ∙ sym (append_assoc front (take i ps) (p ∷ []))

-- what is printed grows by the next pair
pub printed_next : (ps : List Pair) (i : ℕ) (p : Pair) → slice_get ps i ≡ Some p → printed (take (i + 1) ps) ≡ printed (take i ps) ++ printed_pair p
printed_next ps i p h = ap printed (take_next ps i p h) ∙ sym (flat_map_more printed_pair [] (take i ps) p)
