-- Looking up by number, in a list where one stands in another's place or comes at the end.
use Rattle.std.proofs.Common.{◌≡◌, ◌≢◌, ◌⊎◌, inl, inr, ℕ, suc, ◌+◌, ◌<◌, ◌≤◌, Bool, true, false, cond, eqb, List, [], ◌∷◌, ◌++◌, map, length, refl, sym, ap, ap₂, subst, ◌∙◌, arith}
use Rattle.std.specs.Prelude.{Option, Some, None, find, filter}
use Rattle.std.specs.Option.{option_map, option_or}
use Rattle.std.proofs.lemmas.Bool.{cond_both, eqb-true, eqb-false, eq-eqb, ne_eqb, true≢false}
use Rattle.std.proofs.lemmas.List.{length-append}
use Rattle.std.proofs.lemmas.List.Folds.{find-append}
use Rattle.fax_core.specs.Sound.{AscendBetween}

-- ---- what is found

-- what is found first or later passes
found_by : {X : Type 0} (p : X → Bool) (y : X) (ys : List X) (x : X) (b : Bool) → p y ≡ b → cond b (Some y) (find p ys) ≡ Some x → (find p ys ≡ Some x → p x ≡ true) → p x ≡ true
found_by {X} p y ys x true e h ih = let same : y ≡ x = cc in subst (λ (z : X). p z ≡ true) same e
found_by p y ys x false e h ih = ih h

-- what is found passes
pub found : {X : Type 0} (p : X → Bool) (xs : List X) (x : X) → find p xs ≡ Some x → p x ≡ true
found p [] x e = cc
found p (y ∷ ys) x e = found_by p y ys x (p y) refl e (found p ys x)

-- a function goes through a choice
push : {X : Type 0} (f : X → X) (b : Bool) (x : X) (o : Option X) → cond b (Some (f x)) (option_map f o) ≡ option_map f (cond b (Some x) o)
push f true x o = refl
push f false x o = refl

-- where it keeps the test, a mapped list finds what the list does, mapped
pub find_map : {X : Type 0} (p : X → Bool) (f : X → X) → ((x : X) → p (f x) ≡ p x) → (xs : List X) → find p (map f xs) ≡ option_map f (find p xs)
find_map p f same [] = refl
find_map p f same (x ∷ xs) = rw (same x, find_map p f same xs) (push f (p x) x (find p xs))

-- what is found in a mapped option is mapped from what was there
pub mapped : {X : Type 0} (f : X → X) (o : Option X) (y : X) → option_map f o ≡ Some y → (x : X) × (o ≡ Some x) × (f x ≡ y)
mapped f None y e = cc
mapped f (Some x) y e = (x, refl, cc)

-- ---- numbers in order

-- where each keeps its number, a mapped list has the numbers of the list
pub numbers_kept : {X : Type 0} (num : X → ℕ) (f : X → X) → ((x : X) → num (f x) ≡ num x) → (xs : List X) → map num (map f xs) ≡ map num xs
numbers_kept num f same [] = refl
numbers_kept num f same (x ∷ xs) = ap₂ ◌∷◌ (same x) (numbers_kept num f same xs)

-- so they ascend as before
pub ascend_mapped : {X : Type 0} (num : X → ℕ) (f : X → X) → ((x : X) → num (f x) ≡ num x) → (low high : ℕ) (xs : List X) → AscendBetween low (map num xs) high → AscendBetween low (map num (map f xs)) high
ascend_mapped num f same low high xs h = subst (λ ns. AscendBetween low ns high) (sym (numbers_kept num f same xs)) h

-- with the upper bound at their end, numbers ascend to the next one
pub ascend_more : {X : Type 0} (num : X → ℕ) (low high : ℕ) (xs : List X) (x : X) → AscendBetween low (map num xs) high → num x ≡ high → AscendBetween low (map num (xs ++ x ∷ [])) (high + 1)
ascend_more num low high [] x h is = (omega (arith, h, is), omega (arith, is))
ascend_more num low high (y ∷ ys) x h is = (h.0, ascend_more num (num y) high ys x h.1 is)

-- there are fewer than lie between the bounds
pub ascend_few : {X : Type 0} (num : X → ℕ) (low high : ℕ) (xs : List X) → AscendBetween low (map num xs) high → low + length xs < high
ascend_few num low high [] h = omega (arith, h)
ascend_few num low high (x ∷ xs) h = let rest = ascend_few num (num x) high xs h.1 in omega (arith, rest, h.0)

pub length_map : {X : Type 0} (f : X → X) (xs : List X) → length (map f xs) ≡ length xs
length_map f [] = refl
length_map f (x ∷ xs) = ap suc (length_map f xs)

pub length_more : {X : Type 0} (xs : List X) (x : X) → length (xs ++ x ∷ []) ≡ length xs + 1
length_more xs x = length-append xs (x ∷ [])

-- from the upper bound on nothing is found
pub absent : {X : Type 0} (num : X → ℕ) (low high n : ℕ) (xs : List X) → AscendBetween low (map num xs) high → high ≤ n → find (λ x. eqb (num x) n) xs ≡ None
absent num low high n [] h past = refl
absent num low high n (x ∷ xs) h past =
    let more = ascend_few num (num x) high xs h.1 in
    let other : eqb (num x) n ≡ false = ne_eqb (num x) n (λ (q : num x ≡ n). omega (arith, more, past, q)) in
    rw other (absent num (num x) high n xs h.1 past)

-- ---- one more at the end

-- what is found is found with one more at the end
pub stays : {X : Type 0} (p : X → Bool) (xs : List X) (x y : X) → find p xs ≡ Some y → find p (xs ++ x ∷ []) ≡ Some y
stays p xs x y e = find-append p xs (x ∷ []) ∙ ap (λ o. option_or o (find p (x ∷ []))) e

-- where nothing is found, one at the end that passes is
pub comes : {X : Type 0} (p : X → Bool) (xs : List X) (x : X) → find p xs ≡ None → p x ≡ true → find p (xs ++ x ∷ []) ≡ Some x
comes p xs x none here = find-append p xs (x ∷ []) ∙ ap (λ o. option_or o (find p (x ∷ []))) none ∙ ap (λ b. cond b (Some x) None) here

-- what is found of one is that one, and it passes
last_by : {X : Type 0} (x y : X) (b : Bool) → cond b (Some x) None ≡ Some y → (b ≡ true) × (x ≡ y)
last_by x y true e = (refl, cc)
last_by x y false e = cc

-- what is found before or at the end was found, or is the last
either_by : {X : Type 0} (o : Option X) (x y : X) (b : Bool) → option_or o (cond b (Some x) None) ≡ Some y → (o ≡ Some y) ⊎ ((b ≡ true) × (x ≡ y))
either_by (Some z) x y b e = inl e
either_by None x y b e = inr (last_by x y b e)

-- what is found with one more at the end was found, or is that one
pub either : {X : Type 0} (p : X → Bool) (xs : List X) (x y : X) → find p (xs ++ x ∷ []) ≡ Some y → (find p xs ≡ Some y) ⊎ ((p x ≡ true) × (x ≡ y))
either p xs x y e = either_by (find p xs) x y (p x) (sym (find-append p xs (x ∷ [])) ∙ e)

-- ---- one in another's place

abbrev pub in_place : {X : Type 0} → (X → ℕ) → X → X → X
in_place num k x = cond (eqb (num x) (num k)) k x

-- one put in another's place has its number
pub in_place_number : {X : Type 0} (num : X → ℕ) (k x : X) → num (in_place num k x) ≡ num x
in_place_number {X} num k x = cond_both (eqb (num x) (num k)) k x (λ (y : X). num y ≡ num x) (λ e. sym (eqb-true (num x) (num k) e)) (λ e. refl)

-- a number finds what it found, or the one put in its place
pub find_placed : {X : Type 0} (num : X → ℕ) (n : ℕ) (k : X) (xs : List X) → find (λ x. eqb (num x) n) (map (in_place num k) xs) ≡ option_map (in_place num k) (find (λ x. eqb (num x) n) xs)
find_placed num n k xs = find_map (λ x. eqb (num x) n) (in_place num k) (λ x. ap (λ (a : ℕ). eqb a n) (in_place_number num k x)) xs

-- what a number finds has it
pub number_found : {X : Type 0} (num : X → ℕ) (n : ℕ) (xs : List X) (x : X) → find (λ x. eqb (num x) n) xs ≡ Some x → num x ≡ n
number_found num n xs x e = eqb-true (num x) n (found (λ x. eqb (num x) n) xs x e)

-- the one that is put in place is found there
pub placed_here : {X : Type 0} (num : X → ℕ) (n : ℕ) (k x : X) (xs : List X) → find (λ x. eqb (num x) n) xs ≡ Some x → num k ≡ n → find (λ x. eqb (num x) n) (map (in_place num k) xs) ≡ Some k
placed_here num n k x xs e here =
    let same : eqb (num x) (num k) ≡ true = eq-eqb (num x) (num k) (number_found num n xs x e ∙ sym here) in
    find_placed num n k xs ∙ ap (option_map (in_place num k)) e ∙ ap (λ b. Some (cond b k x)) same

-- the others stay
pub placed_other : {X : Type 0} (num : X → ℕ) (n : ℕ) (k x : X) (xs : List X) → find (λ x. eqb (num x) n) xs ≡ Some x → num k ≢ n → find (λ x. eqb (num x) n) (map (in_place num k) xs) ≡ Some x
placed_other num n k x xs e other =
    let differs : eqb (num x) (num k) ≡ false = ne_eqb (num x) (num k) (λ q. other (sym q ∙ number_found num n xs x e)) in
    find_placed num n k xs ∙ ap (option_map (in_place num k)) e ∙ ap (λ b. Some (cond b k x)) differs

-- what is found was put there, or was found before
pub record Placed {X : Type 0} (num : X → ℕ) (n : ℕ) (k y : X) (xs : List X) : Type 0 where
  pub before : X
  pub was : find (λ x. eqb (num x) n) xs ≡ Some before
  pub now : ((num k ≡ n) × (y ≡ k)) ⊎ ((num k ≢ n) × (y ≡ before))

-- what stands in a place is the one put there, or the old one
placed_by : {X : Type 0} (num : X → ℕ) (n : ℕ) (k x y : X) (b : Bool) → num x ≡ n → eqb (num x) (num k) ≡ b → cond b k x ≡ y → ((num k ≡ n) × (y ≡ k)) ⊎ ((num k ≢ n) × (y ≡ x))
placed_by num n k x y true e t h = inl (sym (eqb-true (num x) (num k) t) ∙ e, sym h)
placed_by num n k x y false e t h = inr ((λ q. eqb-false (num x) (num k) t (e ∙ sym q)), sym h)

-- what is found in a list with one in its place is that one or was found
pub placed : {X : Type 0} (num : X → ℕ) (n : ℕ) (k y : X) (xs : List X) → find (λ x. eqb (num x) n) (map (in_place num k) xs) ≡ Some y → Placed num n k y xs
placed num n k y xs e =
    let old = mapped (in_place num k) (find (λ x. eqb (num x) n) xs) y (sym (find_placed num n k xs) ∙ e) in
    record { before = old.0; was = old.1; now = placed_by num n k old.0 y (eqb (num old.0) (num k)) (number_found num n xs old.0 old.1) refl old.2 }

-- ---- elements

abbrev pub In : {X : Type 0} → X → List X → Type 0
In x [] = ⊥
In x (y ∷ ys) = (y ≡ x) ⊎ In x ys

-- what is found first or later is in the list
found_in_by : {X : Type 0} (p : X → Bool) (y : X) (ys : List X) (x : X) (b : Bool) → cond b (Some y) (find p ys) ≡ Some x → (find p ys ≡ Some x → In x ys) → (y ≡ x) ⊎ In x ys
found_in_by p y ys x true h ih = inl (cc)
found_in_by p y ys x false h ih = inr (ih h)

-- what is found is in the list
pub found_in : {X : Type 0} (p : X → Bool) (xs : List X) (x : X) → find p xs ≡ Some x → In x xs
found_in p [] x e = cc
found_in p (y ∷ ys) x e = found_in_by p y ys x (p y) e (found_in p ys x)

-- where nothing is found, neither the first passes nor a later one
none_by : {X : Type 0} (p : X → Bool) (y : X) (o : Option X) (b : Bool) → p y ≡ b → cond b (Some y) o ≡ None → (p y ≡ false) × (o ≡ None)
none_by p y o true e h = cc
none_by p y o false e h = (e, h)

-- where nothing is found, nothing in the list passes
pub none_passes : {X : Type 0} (p : X → Bool) (xs : List X) (x : X) → find p xs ≡ None → In x xs → p x ≡ false
none_passes p [] x e i = absurd i
none_passes p (y ∷ ys) x e (inl s) = sym (ap p s) ∙ (none_by p y (find p ys) (p y) refl e).0
none_passes p (y ∷ ys) x e (inr i) = none_passes p ys x (none_by p y (find p ys) (p y) refl e).1 i

-- what passes is in the filtered list, first or later
in_filter_by : {X : Type 0} (p : X → Bool) (y : X) (ys : List X) (x : X) (b : Bool) → p y ≡ b → p x ≡ true → (y ≡ x) ⊎ In x ys → (In x ys → In x (filter p ys)) → In x (cond b (y ∷ filter p ys) (filter p ys))
in_filter_by p y ys x true e h (inl s) ih = inl s
in_filter_by p y ys x true e h (inr i) ih = inr (ih i)
in_filter_by p y ys x false e h (inl s) ih = absurd (true≢false (sym h ∙ sym (ap p s) ∙ e))
in_filter_by p y ys x false e h (inr i) ih = ih i

-- what passes and is in the list is in the filtered one
pub in_filter : {X : Type 0} (p : X → Bool) (xs : List X) (x : X) → p x ≡ true → In x xs → In x (filter p xs)
in_filter p [] x h i = i
in_filter p (y ∷ ys) x h i = in_filter_by p y ys x (p y) refl h i (in_filter p ys x h)

-- what is in the filtered list passes and is in the list, first or later
of_filter_by : {X : Type 0} (p : X → Bool) (y : X) (ys : List X) (x : X) (b : Bool) → p y ≡ b → In x (cond b (y ∷ filter p ys) (filter p ys)) → (In x (filter p ys) → In x ys × (p x ≡ true)) → ((y ≡ x) ⊎ In x ys) × (p x ≡ true)
of_filter_by p y ys x true e (inl s) ih = (inl s, sym (ap p s) ∙ e)
of_filter_by p y ys x true e (inr i) ih = let r = ih i in (inr r.0, r.1)
of_filter_by p y ys x false e i ih = let r = ih i in (inr r.0, r.1)

-- what is in the filtered list is in the list and passes
pub of_filter : {X : Type 0} (p : X → Bool) (xs : List X) (x : X) → In x (filter p xs) → In x xs × (p x ≡ true)
of_filter p [] x i = absurd i
of_filter p (y ∷ ys) x i = of_filter_by p y ys x (p y) refl i (of_filter p ys x)

-- what is in a list whose numbers ascend has one above the lower bound
pub above : {X : Type 0} (num : X → ℕ) (low high : ℕ) (xs : List X) (x : X) → AscendBetween low (map num xs) high → In x xs → low < num x
above num low high [] x h i = absurd i
above num low high (y ∷ ys) x h (inl s) = let same : num y ≡ num x = ap num s in omega (arith, same, h.0)
above num low high (y ∷ ys) x h (inr i) = let more = above num (num y) high ys x h.1 i in omega (arith, more, h.0)

-- an element is found by its number
pub in_found : {X : Type 0} (num : X → ℕ) (low high : ℕ) (xs : List X) (x : X) → AscendBetween low (map num xs) high → In x xs → find (λ y. eqb (num y) (num x)) xs ≡ Some x
in_found num low high [] x h i = absurd i
in_found {X} num low high (y ∷ ys) x h (inl s) =
    let here : eqb (num y) (num x) ≡ true = eq-eqb (num y) (num x) (ap num s) in
    ap (λ b. cond b (Some y) (find (λ y. eqb (num y) (num x)) ys)) here ∙ ap (λ (z : X). Some z) s
in_found num low high (y ∷ ys) x h (inr i) =
    let more = above num (num y) high ys x h.1 i in
    let other : eqb (num y) (num x) ≡ false = ne_eqb (num y) (num x) (λ (q : num y ≡ num x). omega (arith, more, q)) in
    ap (λ b. cond b (Some y) (find (λ y. eqb (num y) (num x)) ys)) other ∙ in_found num (num y) high ys x h.1 i
