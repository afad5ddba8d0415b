-- A list in which no two tie rises once it is sorted.
use Rattle.std.proofs.Common.{◌≡◌, List, [], ◌∷◌, cond, true, false, Ordering, Less, Equal, Greater, is_eq, is_gt, refl, sym, ap, ◌∙◌, true≢false}
use Rattle.std.specs.Cmp.{IsTotalOrder}
use Rattle.std.specs.List.{AllByRecursion}
use Rattle.std.specs.Ordering.{ordering_reverse}
use Rattle.std.proofs.lemmas.List.Sorted.{IsPermutation-sym}
use Rattle.sqlite_keyed.specs.Lists.{insert_sorted, sort_by}
use Rattle.sqlite_keyed.proofs.SortLemmas.{IsPermutation-sort_by}
use Rattle.sqlite_trees.specs.Tree.{IsAscending}
use Rattle.sqlite_trees.proofs.ListLemmas.{all-permutation, all_weaker}

module _ {X : Type 0} (order : X → X → Ordering) (is_total : IsTotalOrder order) where
  abbrev pub Comes : X → X → Type 0
  Comes a b = order a b ≡ Less

  abbrev pub HasNoTies : List X → Type 0
  HasNoTies = IsAscending (λ (a b : X). is_eq (order a b) ≡ false)

  -- what holds of an element and of each in a list holds of each once it is put into the list
  all_inserted : (P : X → Type 0) (new : X) (xs : List X) → P new → AllByRecursion P xs → AllByRecursion P (insert_sorted order new xs)
  all_inserted P new [] h all = (h, tt)
  all_inserted P new (x ∷ xs) h all =
      elim (is_gt (order new x)) as (λ b. AllByRecursion P (cond b (x ∷ insert_sorted order new xs) (new ∷ x ∷ xs))) [ true ↦ (all.0, all_inserted P new xs h all.1) | false ↦ (h, all) ]

  -- one that ties with none, put into a list that rises, leaves it rising
  rises_inserted : (new : X) (xs : List X) → AllByRecursion (λ y. is_eq (order new y) ≡ false) xs → IsAscending Comes xs → IsAscending Comes (insert_sorted order new xs)
  rises_inserted new [] free up = (tt, tt)
  rises_inserted new (x ∷ xs) free up = go (order new x) refl (rises_inserted new xs free.1 up.1)
    where
      go : (o : Ordering) → order new x ≡ o → IsAscending Comes (insert_sorted order new xs) → IsAscending Comes (cond (is_gt o) (x ∷ insert_sorted order new xs) (new ∷ x ∷ xs))
      go Less e more = ((e, all_weaker _ (Comes new) (λ y. is_total.trans new x y e) xs up.0), up)
      go Equal e more = absurd (true≢false (sym (ap is_eq e) ∙ free.0))
      go Greater e more = (all_inserted (Comes x) new xs (is_total.antisymm x new ∙ ap ordering_reverse e) up.0, more)

  -- a list with no ties rises once it is sorted
  pub rises_sorted : (xs : List X) → HasNoTies xs → IsAscending Comes (sort_by order xs)
  rises_sorted [] free = tt
  rises_sorted (x ∷ xs) free = rises_inserted x _ (all-permutation _ xs (sort_by order xs)
      (IsPermutation-sym (sort_by order xs) xs (IsPermutation-sort_by order is_total xs)) free.0) (rises_sorted xs free.1)
