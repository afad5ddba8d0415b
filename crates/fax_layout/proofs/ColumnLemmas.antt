-- Rows whose rowids say nothing, and the records that their columns are.
use Rattle.std.proofs.Common.{◌≡◌, List, [], ◌∷◌, map, filter, drop, All, Bool, false, inl, inr, refl, sym, ap, ap₂, subst, ◌∙◌}
use Rattle.std.specs.List.{list_any}
use Rattle.std.specs.List.Sorted.{IsPermutation}
use Rattle.std.proofs.lemmas.Bool.{cases_Bool}
use Rattle.std.proofs.lemmas.List.Elements.{All-from_recursion, recursion_from_All}
use Rattle.std.proofs.lemmas.List.Sorted.{IsPermutation-sym}
use Rattle.sqlite.specs.Order.{Row}
use Rattle.sqlite_rules.specs.Lists.{Has}
use Rattle.sqlite_rules.proofs.ProbeLemmas.{mapped_has}
use Rattle.sqlite_trees.proofs.ListLemmas.{all-filter, filter-map, filter_same, all_of, IsPermutation-filter}
use Rattle.fax_layout.proofs.EditLemmas.{has_mapped, has_permuted}

-- rows and records that stand for each other, in any order
module _ {X : Type 0} (columns : X → Row) (rows : List Row) (xs : List X) (same : IsPermutation (map columns xs) (map (drop 1) rows)) where
  -- a row's columns are those of a record
  pub record_of : (r : Row) → Has rows r → (x : X) × Has xs x × (drop 1 r ≡ columns x)
  record_of r has = has_mapped columns xs (drop 1 r) (has_permuted (map (drop 1) rows) (map columns xs) (drop 1 r) (IsPermutation-sym (map columns xs) (map (drop 1) rows) same) (mapped_has (drop 1) rows r has))

  -- and a record's are those of a row
  pub row_of : (x : X) → Has xs x → (r : Row) × Has rows r × (drop 1 r ≡ columns x)
  row_of x has =
      let it = has_mapped (drop 1) rows (columns x) (has_permuted (map columns xs) (map (drop 1) rows) (columns x) same (mapped_has columns xs x has)) in
      (it.0, it.1, sym it.2)

-- those of which a test holds, in their order
pub kept_columns : {X : Type 0} (columns : X → Row) (p : Row → Bool) (q : X → Bool) → ((r : Row) (x : X) → drop 1 r ≡ columns x → p r ≡ q x) → (rows : List Row) (xs : List X) → map (drop 1) rows ≡ map columns xs
    → map (drop 1) (filter p rows) ≡ map columns (filter q xs)
kept_columns columns p q agree [] [] is = refl
kept_columns columns p q agree [] (x ∷ xs) is = absurd cc
kept_columns columns p q agree (r ∷ rows) [] is = absurd cc
kept_columns columns p q agree (r ∷ rows) (x ∷ xs) is =
    let first : drop 1 r ≡ columns x = cc in
    let rest : map (drop 1) rows ≡ map columns xs = cc in
    elim (cases_Bool (q x)) [
      | inl on ↦ rw (agree r x first ∙ on, on) (ap₂ ◌∷◌ first (kept_columns columns p q agree rows xs rest))
      | inr off ↦ rw (agree r x first ∙ off, off) (kept_columns columns p q agree rows xs rest)
    ]

-- those of which a test holds, in any order
pub kept_permuted : {X : Type 0} (columns : X → Row) (p : Row → Bool) (q : Row → Bool) → ((r : Row) → p r ≡ q (drop 1 r)) → (rows : List Row) (xs : List X) → IsPermutation (map columns xs) (map (drop 1) rows)
    → IsPermutation (map columns (filter (λ x. q (columns x)) xs)) (map (drop 1) (filter p rows))
kept_permuted columns p q agree rows xs same =
    let by_columns = filter-map q (drop 1) rows in
    let by_test = filter_same p (λ r. q (drop 1 r)) rows (all_of (λ r. p r ≡ q (drop 1 r)) agree rows) in
    subst (IsPermutation (map columns (filter (λ x. q (columns x)) xs))) (by_columns ∙ sym (ap (map (drop 1)) by_test))
    (subst (λ all. IsPermutation all (filter q (map (drop 1) rows))) (filter-map q columns xs) (IsPermutation-filter q (map columns xs) (map (drop 1) rows) same))

-- what holds of all records holds of those kept
pub all_kept : {X : Type 0} (P : X → Type 0) (q : X → Bool) (xs : List X) → All P xs → All P (filter q xs)
all_kept P q xs all = All-from_recursion P (filter q xs) (all-filter P q xs (recursion_from_All P xs all))

-- where no element passes, the list has none that passes
pub none_holds : {X : Type 0} (q : X → Bool) (xs : List X) → ((x : X) → Has xs x → q x ≡ false) → list_any q xs ≡ false
none_holds q [] none = refl
none_holds q (x ∷ xs) none = rw (none x (inl refl)) (none_holds q xs (λ y has. none y (inr has)))
