-- Names in order don't depend on the order in which they came.
use Rattle.std.proofs.Common.{◌≡◌, ℕ, Bool, true, false, cond, ◌||◌, List, [], ◌∷◌, ◌++◌, Ordering, Less, Equal, Greater, is_lt, is_gt, is_eq, nat_cmp, IsPermutation, bytes_eq, refl, sym, ap, ◌∙◌, subst, true≢false}
use Rattle.std.specs.Prelude.{⊤}
use Rattle.std.specs.Cmp.{IsTotalOrder}
use Rattle.std.specs.Cmp.Lexicographic.{slice_cmp}
use Rattle.std.specs.List.{AllByRecursion, list_any}
use Rattle.std.specs.Ordering.{ordering_reverse}
use Rattle.std.proofs.lemmas.Cmp.{nat_list_cmp_total, tied_itself}
use Rattle.std.proofs.lemmas.List.Sorted.{list_any-IsPermutation}
use Rattle.std.proofs.lemmas.Map.Lookups.{exact_bytes}
use Rattle.std.proofs.lemmas.Map.Text.{is_eq-slice_cmp}
use Rattle.fax_run.specs.Modems.{with_name, with_names}

abbrev order : List ℕ → List ℕ → Ordering
order = slice_cmp nat_cmp

total : IsTotalOrder order
total = nat_list_cmp_total

-- whether a name is among these
abbrev pub has : List ℕ → List (List ℕ) → Bool
has n names = list_any (λ name. bytes_eq name n) names

-- names, each once, in ascending order
abbrev pub Rises : List (List ℕ) → Type 0
Rises [] = ⊤
Rises (x ∷ xs) = AllByRecursion (λ y. order x y ≡ Less) xs × Rises xs

-- ---- tests

same_itself : (a : List ℕ) → bytes_eq a a ≡ true
same_itself a = sym (is_eq-slice_cmp a a) ∙ ap is_eq (tied_itself total a)

-- a name isn't one that comes before or after it
not_before : (a b : List ℕ) → order a b ≡ Less → bytes_eq a b ≡ false
not_before a b less = sym (is_eq-slice_cmp a b) ∙ ap is_eq less

not_after : (a b : List ℕ) → order a b ≡ Less → bytes_eq b a ≡ false
not_after a b less = sym (is_eq-slice_cmp b a) ∙ ap is_eq (total.antisymm b a ∙ ap ordering_reverse less)

or_swap : (a b c : Bool) → (a || (b || c)) ≡ (b || (a || c))
or_swap true true c = refl
or_swap true false c = refl
or_swap false true c = refl
or_swap false false c = refl

or_twice : (a b : Bool) → (a || (a || b)) ≡ (a || b)
or_twice true b = refl
or_twice false b = refl

or_group : (a b c : Bool) → (a || (b || c)) ≡ ((b || a) || c)
or_group true true c = refl
or_group true false c = refl
or_group false true c = refl
or_group false false c = refl

-- ---- one name

has_put : (n a : List ℕ) (xs : List (List ℕ)) → has n (with_name a xs) ≡ (bytes_eq a n || has n xs)
has_put n a [] = refl
has_put n a (x ∷ xs) = go (order a x) refl (has_put n a xs)
  where
    go : (o : Ordering) → order a x ≡ o → has n (with_name a xs) ≡ (bytes_eq a n || has n xs)
        → has n (cond (is_lt o) (a ∷ x ∷ xs) (cond (is_gt o) (x ∷ with_name a xs) (x ∷ xs))) ≡ (bytes_eq a n || (bytes_eq x n || has n xs))
    go Less e h = refl
    go Equal e h = sym (ap (λ w. bytes_eq w n || (bytes_eq x n || has n xs)) (exact_bytes a x e) ∙ or_twice (bytes_eq x n) (has n xs))
    go Greater e h = ap (λ b. bytes_eq x n || b) h ∙ or_swap (bytes_eq x n) (bytes_eq a n) (has n xs)

all_weaker : (P Q : List ℕ → Type 0) → ((y : List ℕ) → P y → Q y) → (xs : List (List ℕ)) → AllByRecursion P xs → AllByRecursion Q xs
all_weaker P Q f [] h = tt
all_weaker P Q f (x ∷ xs) h = (f x h.0, all_weaker P Q f xs h.1)

all_put : (P : List ℕ → Type 0) (a : List ℕ) (xs : List (List ℕ)) → P a → AllByRecursion P xs → AllByRecursion P (with_name a xs)
all_put P a [] here all = (here, tt)
all_put P a (x ∷ xs) here all = go (order a x) (all_put P a xs here all.1)
  where
    go : (o : Ordering) → AllByRecursion P (with_name a xs) → AllByRecursion P (cond (is_lt o) (a ∷ x ∷ xs) (cond (is_gt o) (x ∷ with_name a xs) (x ∷ xs)))
    go Less more = (here, all)
    go Equal more = all
    go Greater more = (all.0, more)

pub rises_put : (a : List ℕ) (xs : List (List ℕ)) → Rises xs → Rises (with_name a xs)
rises_put a [] up = (tt, tt)
rises_put a (x ∷ xs) up = go (order a x) refl (rises_put a xs up.1)
  where
    go : (o : Ordering) → order a x ≡ o → Rises (with_name a xs) → Rises (cond (is_lt o) (a ∷ x ∷ xs) (cond (is_gt o) (x ∷ with_name a xs) (x ∷ xs)))
    go Less e more = ((e, all_weaker (λ y. order x y ≡ Less) (λ y. order a y ≡ Less) (λ y f. total.trans a x y e f) xs up.0), up)
    go Equal e more = up
    go Greater e more = (all_put (λ y. order x y ≡ Less) a xs (total.antisymm x a ∙ ap ordering_reverse e) up.0, more)

-- ---- names that rise are told by their members

not_in : (a : List ℕ) (xs : List (List ℕ)) → AllByRecursion (λ y. order a y ≡ Less) xs → has a xs ≡ false
not_in a [] h = refl
not_in a (x ∷ xs) h = rw (not_after a x h.0) (not_in a xs h.1)

-- no name before the first is among them
not_below : (a x : List ℕ) (xs : List (List ℕ)) → order a x ≡ Less → Rises (x ∷ xs) → has a (x ∷ xs) ≡ false
not_below a x xs less up = not_in a (x ∷ xs) (less, all_weaker (λ y. order x y ≡ Less) (λ y. order a y ≡ Less) (λ y f. total.trans a x y less f) xs up.0)

has_first : (x : List ℕ) (xs : List (List ℕ)) → has x (x ∷ xs) ≡ true
has_first x xs = ap (λ b. b || has x xs) (same_itself x)

-- without the first, they have the same members still
has_rest : (x : List ℕ) (xs ys : List (List ℕ)) → Rises (x ∷ xs) → Rises (x ∷ ys) → ((n : List ℕ) → has n (x ∷ xs) ≡ has n (x ∷ ys)) → (n : List ℕ) → has n xs ≡ has n ys
has_rest x xs ys up more same n = go (bytes_eq x n) refl (same n)
  where
    go : (b : Bool) → bytes_eq x n ≡ b → (b || has n xs) ≡ (b || has n ys) → has n xs ≡ has n ys
    go false e h = h
    go true e h =
        let is : x ≡ n = exact_bytes x n (equal (order x n) (is_eq-slice_cmp x n ∙ e)) in
        subst (λ w. has w xs ≡ has w ys) is (not_in x xs up.0 ∙ sym (not_in x ys more.0))
      where
        equal : (o : Ordering) → is_eq o ≡ true → o ≡ Equal
        equal Less h = absurd (true≢false (sym h))
        equal Equal h = refl
        equal Greater h = absurd (true≢false (sym h))

alike : (xs ys : List (List ℕ)) → Rises xs → Rises ys → ((n : List ℕ) → has n xs ≡ has n ys) → xs ≡ ys
alike [] [] up more same = refl
alike [] (y ∷ ys) up more same = absurd (true≢false (sym (has_first y ys) ∙ sym (same y)))
alike (x ∷ xs) [] up more same = absurd (true≢false (sym (has_first x xs) ∙ same x))
alike (x ∷ xs) (y ∷ ys) up more same = go (order x y) refl (λ rest. alike xs ys up.1 more.1 rest)
  where
    go : (o : Ordering) → order x y ≡ o → (((n : List ℕ) → has n xs ≡ has n ys) → xs ≡ ys) → x ∷ xs ≡ y ∷ ys
    go Less e tails = absurd (true≢false (sym (has_first x xs) ∙ same x ∙ not_below x y ys e more))
    go Greater e tails = absurd (true≢false (sym (has_first y ys) ∙ sym (same y) ∙ not_below y x xs (total.antisymm y x ∙ ap ordering_reverse e) up))
    go Equal e tails =
        let is : y ≡ x = sym (exact_bytes x y e) in
        let then = subst (λ w. Rises (w ∷ ys)) is more in
        let both = subst (λ w. (n : List ℕ) → has n (x ∷ xs) ≡ has n (w ∷ ys)) is same in
        ap (λ zs. x ∷ zs) (tails (has_rest x xs ys up then both)) ∙ ap (λ w. w ∷ ys) (sym is)

-- ---- many names

has_names : (n : List ℕ) (xs ys : List (List ℕ)) → has n (with_names xs ys) ≡ (has n xs || has n ys)
has_names n [] ys = refl
has_names n (x ∷ xs) ys =
    has_names n xs (with_name x ys) ∙ ap (λ b. has n xs || b) (has_put n x ys) ∙ or_group (has n xs) (bytes_eq x n) (has n ys)

pub rises_names : (xs ys : List (List ℕ)) → Rises ys → Rises (with_names xs ys)
rises_names [] ys up = up
rises_names (x ∷ xs) ys up = rises_names xs (with_name x ys) (rises_put x ys up)

-- so the order of those that are put in doesn't matter
pub names_permuted : (xs ys zs : List (List ℕ)) → Rises zs → IsPermutation xs ys → with_names xs zs ≡ with_names ys zs
names_permuted xs ys zs up same =
    alike (with_names xs zs) (with_names ys zs) (rises_names xs zs up) (rises_names ys zs up)
    (λ n. has_names n xs zs ∙ ap (λ b. b || has n zs) (list_any-IsPermutation (λ name. bytes_eq name n) xs ys same) ∙ sym (has_names n ys zs))

-- one more name
pub names_more : (xs : List (List ℕ)) (x : List ℕ) (ys : List (List ℕ)) → with_names (xs ++ x ∷ []) ys ≡ with_name x (with_names xs ys)
names_more [] x ys = refl
names_more (z ∷ zs) x ys = names_more zs x (with_name z ys)
