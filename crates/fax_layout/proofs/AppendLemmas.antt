-- A row whose rowid is chosen comes last.
use Rattle.std.proofs.Common.{◌≡◌, ℤ, pos, negsuc, ◌+ℤ◌, List, [], ◌∷◌, ◌++◌, map, drop, fold, IsTrue, refl, ap, ◌∙◌, arith}
use Rattle.std.specs.declared.cmp.Ordering.TheVariants.{Less}
use Rattle.std.specs.Ordering.{int_cmp}
use Rattle.std.specs.List.{AllByRecursion}
use Rattle.std.proofs.lemmas.List.{map-append}
use Rattle.std.proofs.lemmas.Int.{ints}
use Rattle.std.proofs.lemmas.Bool.Decides.{nat_tests}
use Rattle.sqlite.specs.Order.{Row}
use Rattle.sqlite.specs.Tree.{rowid, put_row, IsTable}
use Rattle.sqlite.specs.View.{is_int}
use Rattle.sqlite.specs.Edit.{id_in, next_rowid}
use Rattle.sqlite.specs.declared.types.Value.TheVariants.{Int}
use Rattle.sqlite_value.specs.Order.{value_cmp}
use Rattle.sqlite_value.proofs.OrderLemmas.{value_cmp-Int, value_cmp_total}
use Rattle.sqlite_rules.proofs.TableLemmas.{int_is}

-- an integer is below one more
next_above : (i : ℤ) → int_cmp i (i +ℤ pos 1) ≡ Less
next_above (pos n) = grind (arith, ints, nat_tests)
next_above (negsuc n) = grind (arith, ints, nat_tests)

-- one above the last of these rowids, or this number
abbrev next_from : ℤ → List Row → ℤ
next_from first = fold (λ _ r. id_in (rowid r) +ℤ pos 1) first

-- a row's rowid is below the one chosen behind it and the rows that follow
below_next : (r : Row) (rows : List Row) → IsTrue (is_int (rowid r)) → AllByRecursion (λ x. IsTrue (is_int (rowid x))) rows → IsTable (r ∷ rows) → value_cmp (rowid r) (Int (next_from (id_in (rowid r) +ℤ pos 1) rows)) ≡ Less
below_next r [] int ints_rest order =
    let is = int_is (rowid r) int in
    ap (λ v. value_cmp v (Int (id_in (rowid r) +ℤ pos 1))) is ∙ value_cmp-Int (id_in (rowid r)) (id_in (rowid r) +ℤ pos 1) ∙ next_above (id_in (rowid r))
below_next r (x ∷ xs) int ints_rest order = value_cmp_total.trans (rowid r) (rowid x) _ order.0.0 (below_next x xs ints_rest.0 ints_rest.1 order.1)

-- and so are all of these
pub all_below : (first : ℤ) (rows : List Row) → AllByRecursion (λ x. IsTrue (is_int (rowid x))) rows → IsTable rows → AllByRecursion (λ r. value_cmp (rowid r) (Int (next_from first rows)) ≡ Less) rows
all_below first [] all order = tt
all_below first (r ∷ rows) all order = (below_next r rows all.0 all.1 order, all_below (id_in (rowid r) +ℤ pos 1) rows all.1 order.1)

-- a row with the chosen rowid is put at the end
put_last : (first : ℤ) (rows : List Row) (columns : Row) → AllByRecursion (λ x. IsTrue (is_int (rowid x))) rows → IsTable rows → put_row (Int (next_from first rows) ∷ columns) rows ≡ rows ++ (Int (next_from first rows) ∷ columns) ∷ []
put_last first [] columns all order = refl
put_last first (r ∷ rows) columns all order = rw (below_next r rows all.0 all.1 order) (ap (λ x. r ∷ x) (put_last (id_in (rowid r) +ℤ pos 1) rows columns all.1 order.1))

-- what stands behind the rowids has one more at its end
pub appended : (rows : List Row) (columns : Row) → AllByRecursion (λ x. IsTrue (is_int (rowid x))) rows → IsTable rows → map (drop 1) (put_row (Int (next_rowid rows) ∷ columns) rows) ≡ map (drop 1) rows ++ columns ∷ []
appended rows columns all order = ap (map (drop 1)) (put_last (pos 1) rows columns all order) ∙ map-append (drop 1) rows _
