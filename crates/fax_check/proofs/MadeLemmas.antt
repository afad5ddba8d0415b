-- Lists that are made of records, numbers that rise, and lists that have the same elements.
use Rattle.std.proofs.Common.{◌≡◌, ◌≢◌, inl, inr, ◌<◌, ◌≤◌, ℕ, pos, List, [], ◌∷◌, ◌++◌, map, drop, length, All, refl, sym, ap, ap₂, subst, ◌∙◌, arith}
use Rattle.std.specs.List.Sorted.{IsPermutation}
use Rattle.std.specs.Ordering.{int_cmp}
use Rattle.std.specs.declared.cmp.Ordering.TheVariants.{Less}
use Rattle.std.proofs.lemmas.Bool.Decides.{nat_tests}
use Rattle.std.proofs.lemmas.List.Elements.{All-from_recursion}
use Rattle.std.proofs.lemmas.List.Sorted.{IsPermutation-refl, IsPermutation-sym, IsPermutation-trans, IsPermutation-cons, IsPermutation-middle}
use Rattle.sqlite.specs.Order.{Row}
use Rattle.sqlite.specs.Tree.{rowid, IsTable}
use Rattle.sqlite_rules.specs.Lists.{Has}
use Rattle.sqlite_rules.proofs.ListLemmas.{all_from, all_has}
use Rattle.sqlite_trees.specs.Tree.{IsAscending}
use Rattle.sqlite_trees.proofs.ListLemmas.{along_permutation, ascending_from_map, ascending_weaker}
use Rattle.sqlite_value.specs.Order.{value_cmp}
use Rattle.sqlite_value.proofs.OrderLemmas.{value_cmp-Int}
use Rattle.fax_core.specs.Sound.{AscendBetween}
use Rattle.fax_layout.proofs.EditLemmas.{has_mapped, has_permuted}
use Rattle.fax_tables.specs.Row.{number}

-- ---- lists made of records

-- the records, each with a property, of which the list is made
pub record Made {X Y : Type 0} (make : X → Y) (P : X → Type 0) (ys : List Y) : Type 0 where
  pub of : List X
  pub is : ys ≡ map make of
  pub each : (x : X) → Has of x → P x

-- a list whose elements are each made of such a record is made of such records
pub made : {X Y : Type 0} (make : X → Y) (P : X → Type 0) (ys : List Y) → ((y : Y) → Has ys y → (x : X) × (y ≡ make x) × P x) → Made make P ys
made make P [] from = record { of = []; is = refl; each = λ x none. absurd none }
made make P (y ∷ ys) from =
    let first = from y (inl refl) in
    let rest = made make P ys (λ z has. from z (inr has)) in
    record {
      of = first.0 ∷ rest.of;
      is = ap₂ ◌∷◌ first.1 rest.is;
      each = λ x has. elim has [ inl is ↦ subst P (sym is) first.2 | inr more ↦ rest.each x more ];
    }

-- so are the columns of rows behind their rowids
pub made_columns : {X : Type 0} (columns : X → Row) (P : X → Type 0) (rows : List Row) → ((r : Row) → Has rows r → (x : X) × (drop 1 r ≡ columns x) × P x) → Made columns P (map (drop 1) rows)
made_columns columns P rows from = made columns P (map (drop 1) rows) (λ y has.
    let r = has_mapped (drop 1) rows y has in
    let it = from r.0 r.1 in
    (it.0, r.2 ∙ it.1, it.2))

-- what each element has, all have
pub all_each : {X : Type 0} (P : X → Type 0) (xs : List X) → ((x : X) → Has xs x → P x) → All P xs
all_each P xs each = All-from_recursion P xs (all_from P xs each)

-- ---- how many there are

-- a list that has an element isn't empty
pub some_length : {X : Type 0} (xs : List X) (x : X) → Has xs x → 1 ≤ length xs
some_length [] x has = absurd has
some_length (y ∷ ys) x has = omega arith

-- and one that isn't empty has one
pub one_there : {X : Type 0} (xs : List X) → 1 ≤ length xs → (x : X) × Has xs x
one_there [] some = absurd (omega arith)
one_there (x ∷ xs) some = (x, inl refl)

-- ---- numbers that rise

module _ {X : Type 0} (num : X → ℕ) where
  -- where each lies between two bounds, they ascend between them
  pub ascend : (low high : ℕ) (xs : List X) → IsAscending (λ x y. num x < num y) xs → ((x : X) → Has xs x → (low < num x) × (num x < high)) → low < high → AscendBetween low (map num xs) high
  ascend low high [] rise within base = base
  ascend low high (x ∷ xs) rise within base =
      let first = within x (inl refl) in
      (first.0, ascend (num x) high xs rise.1 (λ y has. (all_has (λ z. num x < num z) xs y rise.0 has, (within y (inr has)).1)) first.1)

-- the numbers of records rise where they stand in rows by number
pub rising : {X : Type 0} (row : X → Row) (num : X → ℕ) → ((x : X) → rowid (row x) ≡ number (num x)) → (xs : List X) → IsTable (map row xs) → IsAscending (λ x y. num x < num y) xs
rising {X} row num ids xs rise =
    ascending_weaker (λ x y. value_cmp (rowid (row x)) (rowid (row y)) ≡ Less) (λ x y. num x < num y) below xs (ascending_from_map (λ a b. value_cmp (rowid a) (rowid b) ≡ Less) row xs rise)
  where
    below : (x y : X) → value_cmp (rowid (row x)) (rowid (row y)) ≡ Less → num x < num y
    below x y less =
        let e : int_cmp (pos (num x)) (pos (num y)) ≡ Less = sym (value_cmp-Int (pos (num x)) (pos (num y))) ∙ sym (ap₂ value_cmp (ids x) (ids y)) ∙ less in
        grind (arith, nat_tests)

-- ---- lists that have the same elements

-- what relates the elements as they stand may be known of elements of the list alone
pub ascending_in : {X : Type 0} (R S : X → X → Type 0) (xs : List X) → IsAscending R xs → ((a b : X) → Has xs a → Has xs b → R a b → S a b) → IsAscending S xs
ascending_in R S [] rise so = tt
ascending_in R S (x ∷ xs) rise so = (
  all_from (S x) xs (λ y has. so x y (inl refl) (inr has) (all_has (R x) xs y rise.0 has)),
  ascending_in R S xs rise.1 (λ a b has_a has_b. so a b (inr has_a) (inr has_b)),
)

-- no two places have the same element
abbrev pub AreApart : {X : Type 0} → List X → Type 0
AreApart xs = IsAscending (λ a b. a ≢ b) xs

-- one list has what the other has, and where that has no element twice, neither has this
abbrev StaysApart : {X : Type 0} → List X → List X → Type 0
StaysApart {X} xs ys = ((x : X) → Has ys x → Has xs x) × (AreApart xs → AreApart ys)

under_head : {X : Type 0} (x : X) (xs ys : List X) → StaysApart xs ys → StaysApart (x ∷ xs) (x ∷ ys)
under_head x xs ys h = (
  (λ z has. elim has [ inl is ↦ inl is | inr more ↦ inr (h.0 z more) ]),
  (λ apart. (all_from (λ z. x ≢ z) ys (λ z has. all_has (λ w. x ≢ w) xs z apart.0 (h.0 z has)), h.1 apart.1)),
)

heads_turned : {X : Type 0} (x y : X) (xs : List X) → StaysApart (x ∷ y ∷ xs) (y ∷ x ∷ xs)
heads_turned x y xs = (
  (λ z has. elim has [ inl is ↦ inr (inl is) | inr more ↦ elim more [ inl is ↦ inl is | inr later ↦ inr (inr later) ] ]),
  (λ apart. (((λ e. apart.0.0 (sym e)), apart.1.0), (apart.0.1, apart.1.1))),
)

-- in any other order they are apart too
pub apart_permuted : {X : Type 0} (xs ys : List X) → IsPermutation xs ys → AreApart xs → AreApart ys
apart_permuted {X} xs ys same =
    (along_permutation {X = X} StaysApart (λ all. ((λ z has. has), (λ apart. apart))) under_head heads_turned
    (λ one two three p q. ((λ z has. p.0 z (q.0 z has)), (λ apart. q.1 (p.1 apart)))) xs ys same).1

-- an element stands in a place
parted : {X : Type 0} (ys : List X) (x : X) → Has ys x → (before : List X) × (behind : List X) × (ys ≡ before ++ x ∷ behind)
parted [] x has = absurd has
parted (y ∷ ys) x (inl is) = ([], ys, ap (λ z. z ∷ ys) (sym is))
parted (y ∷ ys) x (inr more) = let it = parted ys x more in (y ∷ it.0, it.1, ap (λ all. y ∷ all) it.2)

-- lists with the same elements, none of them twice, are the same but for the order
pub same_elements : {X : Type 0} (xs ys : List X) → AreApart xs → AreApart ys → ((x : X) → Has xs x → Has ys x) → ((x : X) → Has ys x → Has xs x) → IsPermutation xs ys
same_elements [] [] once other to back = IsPermutation-refl []
same_elements [] (y ∷ ys) once other to back = absurd (back y (inl refl))
same_elements {X} (x ∷ xs) ys once other to back =
    IsPermutation-trans (x ∷ xs) (x ∷ rest) ys (IsPermutation-cons x xs rest (same_elements xs rest once.1 apart.1 there here)) (IsPermutation-sym ys (x ∷ rest) turned)
  where
    at : (before : List X) × (behind : List X) × (ys ≡ before ++ x ∷ behind)
    at = parted ys x (to x (inl refl))

    rest : List X
    rest = at.0 ++ at.1

    turned : IsPermutation ys (x ∷ rest)
    turned = subst (λ all. IsPermutation all (x ∷ rest)) (sym at.2) (IsPermutation-middle at.0 x at.1)

    apart : AreApart (x ∷ rest)
    apart = apart_permuted ys (x ∷ rest) turned other

    there : (z : X) → Has xs z → Has rest z
    there z has = elim (has_permuted ys (x ∷ rest) z turned (to z (inr has))) [
      | inl is ↦ absurd (all_has (λ w. x ≢ w) xs z once.0 has (sym is))
      | inr more ↦ more
    ]

    here : (z : X) → Has rest z → Has xs z
    here z has = elim (back z (has_permuted (x ∷ rest) ys z (IsPermutation-sym ys (x ∷ rest) turned) (inr has))) [
      | inl is ↦ absurd (all_has (λ w. x ≢ w) rest z apart.0 has (sym is))
      | inr more ↦ more
    ]
