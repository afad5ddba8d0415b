-- Lists, and tests.
use Rattle.std.proofs.Common.{◌≡◌, ◌⊎◌, inl, inr, ℕ, zero, suc, ◌<◌, Bool, true, false, not, ◌&&◌, ◌==◌, List, [], ◌∷◌, ◌++◌, get_or, replicate, length, nat_eq, refl, ap, sym, ◌∙◌, arith}
use Rattle.std.proofs.lemmas.Bool.{eq-eqb, eqb-true}
use Rattle.fax_net.specs.Lists.{is_none}

-- numbers that differ don't test as equal
pub unlike : (a b : ℕ) → ¬ (a ≡ b) → nat_eq a b ≡ false
unlike a b n = by (nat_eq a b) refl
  where
    by : (t : Bool) → nat_eq a b ≡ t → nat_eq a b ≡ false
    by true e = absurd (n (eqb-true a b e))
    by false e = e

-- two numbers are the same, or not
pub same_or : (a b : ℕ) → (a ≡ b) ⊎ ¬ (a ≡ b)
same_or a b = by (nat_eq a b) refl
  where
    by : (t : Bool) → nat_eq a b ≡ t → (a ≡ b) ⊎ ¬ (a ≡ b)
    by true e = inl (eqb-true a b e)
    by false e = inr (λ is. absurd (let never = sym e ∙ ap (nat_eq a) (sym is) in let again = eq-eqb a a refl in cc))

-- bytes that test as none are none
pub none_is : (xs : List ℕ) → is_none xs ≡ true → xs ≡ []
none_is [] e = refl
none_is (x ∷ xs) e = absurd cc

-- and others are some
pub some_is : (xs : List ℕ) → is_none xs ≡ false → 0 < length xs
some_is [] e = absurd cc
some_is (x ∷ xs) e = omega arith

-- the front of some bytes is none
pub none_behind : (front back all : List ℕ) → front ++ back ≡ all → (length front == 0) ≡ true → (length back == 0) ≡ is_none all
none_behind [] [] all e n = ap is_none e
none_behind [] (x ∷ xs) all e n = unlike (length (x ∷ xs)) 0 (λ z. omega (arith, z)) ∙ ap is_none e
none_behind (x ∷ xs) back all e n = absurd (let no = sym n ∙ unlike (length (x ∷ xs)) 0 (λ z. omega (arith, z)) in cc)

-- and is some
pub some_in_front : (front back all : List ℕ) → front ++ back ≡ all → (length front == 0) ≡ false → false ≡ is_none all
some_in_front [] back all e n = absurd cc
some_in_front (x ∷ xs) back all e n = ap is_none e

pub both : (a b : Bool) → (a && b) ≡ true → (a ≡ true) × (b ≡ true)
both true true e = (refl, refl)
both true false e = absurd cc
both false b e = absurd cc

pub not_true : (a : Bool) → not a ≡ true → a ≡ false
not_true true e = absurd cc
not_true false e = refl

-- none of a list of flags is set that are made so
pub none_set : (n k : ℕ) → get_or (replicate n false) k false ≡ false
none_set zero k = refl
none_set (suc n) zero = refl
none_set (suc n) (suc k) = none_set n k
