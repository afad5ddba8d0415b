-- Records in rows by number: the one of a number, and what a query by key finds.
use Rattle.std.proofs.Common.{◌≡◌, inl, inr, ℕ, suc, pos, List, [], ◌∷◌, map, filter, All, Bool, true, false, not, ◌&&◌, Option, Some, None, MatchOption, refl, sym, ap, ap₂, subst, ◌∙◌, arith}
use Rattle.std.specs.Prelude.{find, ◌==◌, nat_lt}
use Rattle.std.specs.Option.{option_map}
use Rattle.std.specs.Ordering.{is_eq, int_cmp}
use Rattle.std.specs.declared.cmp.Ordering.TheVariants.{Less, Greater}
use Rattle.std.specs.List.Sorted.{IsPermutation}
use Rattle.std.proofs.lemmas.Bool.{and_parts, cases_Bool, eqb-true, not-true, or_parts}
use Rattle.std.proofs.lemmas.Bool.Decides.{nat_tests}
use Rattle.std.proofs.lemmas.List.Elements.{All-cons, recursion_from_All}
use Rattle.std.proofs.lemmas.List.Sorted.{IsPermutation-refl, IsPermutation-trans, IsPermutation-cons, IsPermutation-swap}
use Rattle.sqlite.specs.Edit.{is_taken, are_fresh}
use Rattle.sqlite.specs.Order.{Row}
use Rattle.sqlite.specs.Tree.{rowid, put_row, IsTable}
use Rattle.sqlite_rules.specs.Lists.{Has}
use Rattle.sqlite_rules.proofs.ListLemmas.{all_has, has_found}
use Rattle.sqlite_rules.proofs.ProbeLemmas.{mapped_has}
use Rattle.sqlite_value.specs.Order.{value_cmp}
use Rattle.sqlite_value.proofs.OrderLemmas.{value_cmp-Int}
use Rattle.fax_tables.specs.Place.{placed}
use Rattle.fax_tables.specs.Row.{number}
use Rattle.fax_layout.proofs.CompareLemmas.{are_equal, same_number, number_same}
use Rattle.fax_layout.proofs.EditLemmas.{has_mapped, shown_one, none_shown}

module _ {X : Type 0} (row : X → Row) (num : X → ℕ) (ids : (x : X) → rowid (row x) ≡ number (num x)) where
  -- no later row has the number of the first
  pub apart : (x y : X) → value_cmp (rowid (row x)) (rowid (row y)) ≡ Less → (num x == num y) ≡ false
  apart x y less =
      let e : int_cmp (pos (num x)) (pos (num y)) ≡ Less = sym (value_cmp-Int (pos (num x)) (pos (num y))) ∙ sym (ap₂ value_cmp (ids x) (ids y)) ∙ less in
      grind (arith, nat_tests)

  -- the record of a number is the only one
  pub only_numbered : (xs : List X) (x : X) → IsTable (map row xs) → Has xs x → find (λ y. num y == num x) xs ≡ Some x
  only_numbered [] x rise has = absurd has
  only_numbered (y ∷ ys) x rise (inl is) = rw is (let same : (num y == num y) ≡ true = grind (arith, nat_tests) in rw same refl)
  only_numbered (y ∷ ys) x rise (inr more) =
      let first = all_has (λ r. value_cmp (rowid (row y)) (rowid r) ≡ Less) (map row ys) (row x) rise.0 (mapped_has row ys x more) in
      rw (apart y x first) (only_numbered ys x rise.1 more)

  -- where no record has the number, none is found
  pub none_numbered : (xs : List X) (n : ℕ) → ((x : X) → Has xs x → (num x == n) ≡ false) → find (λ x. num x == n) xs ≡ None
  none_numbered [] n none = refl
  none_numbered (x ∷ xs) n none = rw (none x (inl refl)) (none_numbered xs n (λ y has. none y (inr has)))

  -- a test of the key alone
  module _ (n : ℕ) (p : Row → Bool) (by_key : (r : Row) → p r ≡ (are_equal (rowid r) (number n) && true)) where
    -- a row that passes is of the record with this number
    pub asked_is : (x : X) → p (row x) ≡ true → num x ≡ n
    asked_is x h = same_number (num x) n (and_parts _ true (ap (λ v. are_equal v (number n) && true) (sym (ids x)) ∙ sym (by_key (row x)) ∙ h)).0

    -- the row of that record passes
    pub is_asked : (x : X) → num x ≡ n → p (row x) ≡ true
    is_asked x e = by_key (row x) ∙ ap (λ v. are_equal v (number n) && true) (ids x) ∙ ap (λ i. are_equal (number i) (number n) && true) e ∙ ap (λ b. b && true) (number_same n)

    -- a row that doesn't pass is of another number
    pub not_asked : (x : X) → p (row x) ≡ false → (num x == n) ≡ false
    not_asked x off = elim (cases_Bool (num x == n)) [
      | inl same ↦ absurd (let e = sym (is_asked x (eqb-true (num x) n same)) ∙ off in cc)
      | inr apart ↦ apart
    ]

    -- what a query with this test finds
    pub numbered_found : (xs : List X) (table rows : List Row) → table ≡ map row xs → IsTable table → (show : Row → Row) → IsPermutation (map show (filter p table)) rows → (found : Option Row) → MatchOption found (rows ≡ []) (Has rows)
        → found ≡ option_map (λ x. show (row x)) (find (λ x. num x == n) xs)
    numbered_found xs table rows is rise show same None empty =
        sym (ap (option_map (λ x. show (row x))) (none_numbered xs n (λ x has. not_asked x (none_shown p show table rows same empty (row x) (subst (λ t. Has t (row x)) (sym is) (mapped_has row xs x has))))))
    numbered_found xs table rows is rise show same (Some found) has =
        let shown = shown_one p show table rows same found has in
        let it = has_mapped row xs shown.0 (subst (λ t. Has t shown.0) is shown.1) in
        let at = asked_is it.0 (subst (λ r. p r ≡ true) it.2 shown.2) in
        let one = only_numbered xs it.0 (subst IsTable is rise) it.1 in
        ap Some (shown.3 ∙ ap show it.2) ∙ sym (ap (option_map (λ x. show (row x))) (subst (λ i. find (λ x. num x == i) xs ≡ Some it.0) at one))

-- ---- what a found row tells

-- a row that was found is of a record that was
pub is_there : {X : Type 0} (shown : X → Row) (o : Option X) (row : Row) → Some row ≡ option_map shown o → (x : X) × (o ≡ Some x) × (row ≡ shown x)
is_there shown None row h = absurd cc
is_there shown (Some x) row h = (x, refl, cc)

-- where no row was found, no record was
pub is_none : {X : Type 0} (shown : X → Row) (o : Option X) → None ≡ option_map shown o → o ≡ None
is_none shown None h = refl
is_none shown (Some x) h = absurd cc

-- what holds of all records holds of the one that is found
pub found_holds : {X : Type 0} (P : X → Type 0) (q : X → Bool) (xs : List X) (x : X) → All P xs → find q xs ≡ Some x → P x
found_holds P q xs x all found = all_has P xs x (recursion_from_All P xs all) (has_found q xs x found).0

-- ---- one more record

-- a rowid that is fresh isn't taken
pub free_of : (rows : List Row) (new : Row) → are_fresh rows (new ∷ []) ≡ true → is_taken rows new ≡ false
free_of rows new fresh = not-true _ (and_parts (not (is_taken rows new)) true fresh).0

-- a row whose rowid is not taken stands in its place among those of records
module _ {X : Type 0} (row : X → Row) (num : X → ℕ) (ids : (x : X) → rowid (row x) ≡ number (num x)) where
  -- the row is put where the record is placed
  pub row_placed : (x : X) (xs : List X) → is_taken (map row xs) (row x) ≡ false → put_row (row x) (map row xs) ≡ map row (placed num x xs)
  row_placed x [] free = refl
  row_placed x (y ∷ ys) free =
      let apart = or_parts _ _ free in
      let rest = row_placed x ys apart.1 in
      let compare = ap₂ value_cmp (ids y) (ids x) ∙ value_cmp-Int (pos (num y)) (pos (num x)) in
      let other : is_eq (int_cmp (pos (num y)) (pos (num x))) ≡ false = sym (ap is_eq compare) ∙ apart.0 in
      elim (cases_Bool (nat_lt (num y) (num x))) [
        | inl below ↦ (let e : int_cmp (pos (num y)) (pos (num x)) ≡ Less = grind (arith, nat_tests) in rw (compare, e, below) (ap (λ rows. row y ∷ rows) rest))
        | inr above ↦ (let e : int_cmp (pos (num y)) (pos (num x)) ≡ Greater = grind (arith, nat_tests) in rw (compare, e, above) refl)
      ]

  -- what holds of the record and of the others holds of all once it is placed
  pub all_placed : (P : X → Type 0) (x : X) (xs : List X) → P x → All P xs → All P (placed num x xs)
  all_placed P x [] own all = All-cons P x [] own all
  all_placed P x (y ∷ ys) own all = elim (cases_Bool (nat_lt (num y) (num x))) [
    | inl below ↦ rw below (All-cons P y (placed num x ys) (all 0 y (omega arith)) (all_placed P x ys own (λ i d low. all (suc i) d (omega arith))))
    | inr above ↦ rw above (All-cons P x (y ∷ ys) own all)
  ]

  -- in place or first, it is one more
  pub placed_permuted : (x : X) (xs : List X) → IsPermutation (x ∷ xs) (placed num x xs)
  placed_permuted x [] = IsPermutation-refl (x ∷ [])
  placed_permuted x (y ∷ ys) = elim (cases_Bool (nat_lt (num y) (num x))) [
    | inl below ↦ rw below (IsPermutation-trans (x ∷ y ∷ ys) (y ∷ x ∷ ys) (y ∷ placed num x ys) (IsPermutation-swap (x ∷ y ∷ ys) (y ∷ x ∷ ys) 0 1 (omega arith) (omega arith) refl) (IsPermutation-cons y (x ∷ ys) (placed num x ys) (placed_permuted x ys)))
    | inr above ↦ rw above (IsPermutation-refl (x ∷ y ∷ ys))
  ]
