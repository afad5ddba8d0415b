-- The element in a place of a list that is made of each of another.
use Rattle.std.proofs.Common.{◌≡◌, ◌<◌, ◌+◌, ℕ, zero, suc, List, [], ◌∷◌, ◌++◌, All, length, map, take, get_or, refl, ap, subst, add-one, ◌∙◌, arith, inl, inr}
use Rattle.std.proofs.lemmas.List.Elements.{recursion_from_All}
use Rattle.sqlite_rules.specs.Lists.{Has}
use Rattle.sqlite_rules.proofs.ListLemmas.{all_has}

pub length_map : {X Y : Type 0} (f : X → Y) (xs : List X) → length (map f xs) ≡ length xs
length_map f [] = refl
length_map f (x ∷ xs) = ap suc (length_map f xs)

-- what stands in a place of the mapped list is made of the element there
at_index : {X Y : Type 0} (f : X → Y) (xs : List X) (i : ℕ) (y : Y) → i < length (map f xs) → y ≡ get_or (map f xs) i y → (x : X) × Has xs x × (y ≡ f x) × (take (suc i) xs ≡ take i xs ++ x ∷ [])
at_index f [] i y low is = absurd (omega arith)
at_index f (x ∷ xs) zero y low is = (x, inl refl, is, refl)
at_index f (x ∷ xs) (suc i) y low is = let it = at_index f xs i y (omega arith) is in (it.0, inr it.1, it.2, ap (λ more. x ∷ more) it.3)

-- a row of those that show records shows one of them, of which holds what holds of all, and which stands next behind those before it
pub next_shown : {X Y : Type 0} (shown : X → Y) (P : X → Type 0) (rows : List Y) (xs : List X) (i : ℕ) (row : Y) → rows ≡ map shown xs → All P xs → i < length rows → row ≡ get_or rows i row
    → (x : X) × P x × (row ≡ shown x) × (take (i + 1) xs ≡ take i xs ++ x ∷ [])
next_shown shown P rows xs i row is all low there =
    let it = at_index shown xs i row (subst (λ ys. i < length ys) is low) (there ∙ ap (λ ys. get_or ys i row) is) in
    (it.0, all_has P xs it.0 (recursion_from_All P xs all) it.1, it.2, ap (λ n. take n xs) (add-one i) ∙ it.3)
