-- What an UPDATE and a DELETE of the rows that pass a test leave of a table.
use Rattle.std.proofs.Common.{◌≡◌, ◌⊎◌, inl, inr, ℤ, List, [], ◌∷◌, map, filter, Bool, true, false, not, IsTrue, refl, sym, ap, ap₂, subst, subst₂, ◌∙◌}
use Rattle.std.specs.declared.cmp.Ordering.{Ordering}
use Rattle.std.specs.declared.cmp.Ordering.TheVariants.{Less, Equal, Greater}
use Rattle.std.specs.Ordering.{is_eq}
use Rattle.std.specs.List.{AllByRecursion}
use Rattle.std.specs.List.Sorted.{IsPermutation}
use Rattle.std.proofs.lemmas.Bool.{cases_Bool, not-true, both_ways}
use Rattle.std.proofs.lemmas.Cmp.{tied_itself}
use Rattle.std.proofs.lemmas.List.Sorted.{IsPermutation-sym, Contains-permutation}
use Rattle.sqlite.specs.Order.{Row}
use Rattle.sqlite.specs.Tree.{rowid, has_rowid, put_row, without_rowid, IsTable}
use Rattle.sqlite.specs.View.{is_int}
use Rattle.sqlite.specs.Edit.{id_in, put_all, without_all, are_fresh}
use Rattle.sqlite.specs.declared.types.Value.TheVariants.{Int}
use Rattle.sqlite_rules.specs.Calls.{ids_of}
use Rattle.sqlite_rules.specs.Lists.{Has}
use Rattle.sqlite_rules.proofs.ListLemmas.{all_has, has_filtered, has_kept, has_contained, contains_had}
use Rattle.sqlite_rules.proofs.PlaceLemmas.{tied_same}
pub use Rattle.sqlite_rules.proofs.ProbeLemmas.{has_mapped}
use Rattle.sqlite_rules.proofs.ProbeLemmas.{mapped_has}
use Rattle.sqlite_rules.proofs.TableLemmas.{int_is, put_all_has, put_all_keeps, put_all_adds}
use Rattle.sqlite_trees.proofs.ListLemmas.{all-filter, all-map, all_from_map, all_weaker, ascending-filter, ascending-map, ascending_from_map, ascending_weaker}
use Rattle.sqlite_trees.proofs.TreeLemmas.{IsTable-put_row}
use Rattle.sqlite_value.specs.Order.{value_cmp}
use Rattle.sqlite_value.proofs.OrderLemmas.{value_cmp_total}
use Rattle.fax_layout.specs.ByRowid.{IsByRowid}

-- ---- lists and what they have

-- what a list has, it has in any order
pub has_permuted : {X : Type 0} (xs ys : List X) (x : X) → IsPermutation xs ys → Has xs x → Has ys x
has_permuted xs ys x same has = has_contained ys x (Contains-permutation xs ys x same (contains_had xs x has))

-- no two rowids are each below the other
never_both : (a b : Row) → value_cmp (rowid a) (rowid b) ≡ Less → value_cmp (rowid b) (rowid a) ≡ Less → ⊥
never_both a b low high = let e = sym (value_cmp_total.trans (rowid a) (rowid b) (rowid a) low high) ∙ tied_itself value_cmp_total (rowid a) in absurd cc

-- tables that have the same rows are one
pub same_rows : (xs ys : List Row) → IsTable xs → IsTable ys → ((r : Row) → Has xs r → Has ys r) → ((r : Row) → Has ys r → Has xs r) → xs ≡ ys
same_rows [] [] up rise to from = refl
same_rows [] (y ∷ ys) up rise to from = absurd (from y (inl refl))
same_rows (x ∷ xs) [] up rise to from = absurd (to x (inl refl))
same_rows (x ∷ xs) (y ∷ ys) up rise to from = ap₂ ◌∷◌ first (same_rows xs ys up.1 rise.1 (λ r has. later r has (to r (inr has))) (λ r has. earlier r has (from r (inr has))))
  where
    firsts : (x ≡ y) ⊎ Has ys x → (y ≡ x) ⊎ Has xs y → x ≡ y
    firsts (inl is) other = is
    firsts (inr has) (inl is) = sym is
    firsts (inr has) (inr had) = absurd (never_both x y (all_has _ xs y up.0 had) (all_has _ ys x rise.0 has))

    first : x ≡ y
    first = firsts (to x (inl refl)) (from y (inl refl))

    past : (z r : Row) → value_cmp (rowid z) (rowid r) ≡ Less → r ≡ z → ⊥
    past z r low is = let e = subst (λ a. value_cmp (rowid z) (rowid a) ≡ Less) is low in never_both z z e e

    later : (r : Row) → Has xs r → (r ≡ y) ⊎ Has ys r → Has ys r
    later r has (inl is) = absurd (past x r (all_has _ xs r up.0 has) (is ∙ sym first))
    later r has (inr there) = there

    earlier : (r : Row) → Has ys r → (r ≡ x) ⊎ Has xs r → Has xs r
    earlier r has (inl is) = absurd (past y r (all_has _ ys r rise.0 has) (is ∙ first))
    earlier r has (inr there) = there

-- ---- rows that are shown

-- a row that is shown is of one that passes
pub shown_one : (p : Row → Bool) (show : Row → Row) (table rows : List Row) → IsPermutation (map show (filter p table)) rows → (x : Row) → Has rows x → (r : Row) × Has table r × (p r ≡ true) × (x ≡ show r)
shown_one p show table rows shows x has =
    let it = has_mapped show (filter p table) x (has_permuted rows (map show (filter p table)) x (IsPermutation-sym (map show (filter p table)) rows shows) has) in
    let kept = has_filtered p table it.0 it.1 in
    (it.0, kept.0, kept.1, it.2)

-- a row that passes is shown
pub one_shown : (p : Row → Bool) (show : Row → Row) (table rows : List Row) → IsPermutation (map show (filter p table)) rows → (r : Row) → Has table r → p r ≡ true → Has rows (show r)
one_shown p show table rows shows r has on = has_permuted (map show (filter p table)) rows (show r) shows (mapped_has show (filter p table) r (has_kept p table r has on))

-- where none is shown, none passes
pub none_shown : (p : Row → Bool) (show : Row → Row) (table rows : List Row) → IsPermutation (map show (filter p table)) rows → rows ≡ [] → (r : Row) → Has table r → p r ≡ false
none_shown p show table rows shows empty r has = elim (cases_Bool (p r)) [
  | inl on ↦ absurd (subst (λ all. Has all (show r)) empty (one_shown p show table rows shows r has on))
  | inr off ↦ off
]

-- ---- rows that are taken out

is_equal : (o : Ordering) → is_eq o ≡ true → o ≡ Equal
is_equal Less h = absurd cc
is_equal Equal h = refl
is_equal Greater h = absurd cc

abbrev Lacks : List ℤ → Row → Type 0
Lacks ids x = (id : ℤ) → Has ids id → has_rowid id x ≡ false

-- a row that is left was there, and has none of these rowids
left_from : (ids : List ℤ) (rows : List Row) (x : Row) → Has (without_all rows ids) x → Has rows x × Lacks ids x
left_from [] rows x has = (has, λ id none. absurd none)
left_from (id ∷ ids) rows x has =
    let more = left_from ids (without_rowid id rows) x has in
    let was = has_filtered (λ y. not (has_rowid id y)) rows x more.0 in
    (was.0, λ other had. elim had [ inl is ↦ subst (λ i. has_rowid i x ≡ false) (sym is) (not-true _ was.1) | inr later ↦ more.1 other later ])

-- a row that was there and has none of these rowids is left
left_has : (ids : List ℤ) (rows : List Row) (x : Row) → Has rows x → Lacks ids x → Has (without_all rows ids) x
left_has [] rows x has lacks = has
left_has (id ∷ ids) rows x has lacks = left_has ids (without_rowid id rows) x (has_kept (λ y. not (has_rowid id y)) rows x has (ap not (lacks id (inl refl)))) (λ other had. lacks other (inr had))

-- what is left of a table is one
left_rises : (ids : List ℤ) (rows : List Row) → IsTable rows → IsTable (without_all rows ids)
left_rises [] rows up = up
left_rises (id ∷ ids) rows up = left_rises ids (without_rowid id rows) (ascending-filter _ (λ y. not (has_rowid id y)) rows up)

-- a table with rows put in is one
put_rises : (news rows : List Row) → IsTable rows → IsTable (put_all rows news)
put_rises [] rows up = up
put_rises (n ∷ news) rows up = put_rises news (put_row n rows) (IsTable-put_row n rows up)

-- rows are shown of those that pass a test, with the rowids that they have
module _ (table : List Row) (by : IsByRowid table) (p : Row → Bool) (show : Row → Row) (same_id : (r : Row) → rowid (show r) ≡ rowid r) (rows : List Row) (shows : IsPermutation (map show (filter p table)) rows) where
  abbrev pub left : List Row
  left = without_all table (ids_of rows)

  -- a row that passes is shown
  shown_has : (r : Row) → Has table r → p r ≡ true → Has rows (show r)
  shown_has = one_shown p show table rows shows

  -- a row that is shown is of one that passes
  shown_of : (x : Row) → Has rows x → (r : Row) × Has table r × (p r ≡ true) × (x ≡ show r)
  shown_of = shown_one p show table rows shows

  -- a row has the rowid with which it is shown
  id_of : (r : Row) → Has table r → rowid r ≡ Int (id_in (rowid (show r)))
  id_of r has = int_is (rowid r) (all_has _ table r by.integers has) ∙ ap (λ v. Int (id_in v)) (sym (same_id r))

  -- a row that is left was in the table and doesn't pass
  left_is : (x : Row) → Has left x → Has table x × (p x ≡ false)
  left_is x has = (was.0, elim (cases_Bool (p x)) [ inl on ↦ absurd (both_ways _ (was.1 (id_in (rowid (show x))) (mapped_has (λ (r : Row). id_in (rowid r)) rows (show x) (shown_has x was.0 on))) itself) | inr off ↦ off ])
    where
      was : Has table x × Lacks (ids_of rows) x
      was = left_from (ids_of rows) table x has

      itself : has_rowid (id_in (rowid (show x))) x ≡ true
      itself = subst (λ v. is_eq (value_cmp (rowid x) v) ≡ true) (id_of x was.0) (ap is_eq (tied_itself value_cmp_total (rowid x)))

  -- a row in the table that doesn't pass is left
  is_left : (x : Row) → Has table x → p x ≡ false → Has left x
  is_left x has off = left_has (ids_of rows) table x has lacks
    where
      other : (r : Row) → Has table r → p r ≡ true → has_rowid (id_in (rowid (show r))) x ≡ true → ⊥
      other r had on same =
          let tied : value_cmp (rowid x) (rowid r) ≡ Equal = subst (λ v. value_cmp (rowid x) v ≡ Equal) (sym (id_of r had)) (is_equal _ same) in
          both_ways (p x) off (subst (λ y. p y ≡ true) (sym (tied_same table x r by.rise has had tied)) on)

      lacks : Lacks (ids_of rows) x
      lacks id had =
          let at = has_mapped (λ (r : Row). id_in (rowid r)) rows id had in
          let it = shown_of at.0 at.1 in
          elim (cases_Bool (has_rowid id x)) [
            | inl same ↦ absurd (other it.0 it.1 it.2 (subst (λ i. has_rowid i x ≡ true) (at.2 ∙ ap (λ (r : Row). id_in (rowid r)) it.3) same))
            | inr off ↦ off
          ]

  -- what is left is what doesn't pass
  pub cleared : left ≡ filter (λ r. not (p r)) table
  cleared = same_rows left (filter (λ r. not (p r)) table) (left_rises (ids_of rows) table by.rise) (ascending-filter _ (λ r. not (p r)) table by.rise)
      (λ r has. let it = left_is r has in has_kept (λ r. not (p r)) table r it.0 (ap not it.1))
      (λ r has. let it = has_filtered (λ r. not (p r)) table r has in is_left r it.0 (not-true _ it.1))

  -- each row that passes became that of its record, changed
  module _ {X : Type 0} (row : X → Row) (f : X → X) (xs : List X) (is : table ≡ map row xs) (make : Row → Row) (same_number : (x : X) → rowid (row (f x)) ≡ rowid (row x))
      (on : (x : X) → Has xs x → p (row x) ≡ true → make (show (row x)) ≡ row (f x)) (off : (x : X) → Has xs x → p (row x) ≡ false → row x ≡ row (f x))
      (fresh : are_fresh left (map make rows) ≡ true) where
    -- where the rows are in order, so are those that they became
    rises : IsTable (map row xs) → IsTable (map row (map f xs))
    rises up =
        let Below = λ (a b : Row). value_cmp (rowid a) (rowid b) ≡ Less in
        let still = λ (x y : X) (less : Below (row x) (row y)). subst₂ (λ i j. value_cmp i j ≡ Less) (sym (same_number x)) (sym (same_number y)) less in
        ascending-map Below row (map f xs) (ascending-map _ f xs (ascending_weaker _ (λ x y. Below (row (f x)) (row (f y))) still xs (ascending_from_map Below row xs up)))

    -- where their rowids are integers, so are the others'
    integers : AllByRecursion (λ r. IsTrue (is_int (rowid r))) (map row xs) → AllByRecursion (λ r. IsTrue (is_int (rowid r))) (map row (map f xs))
    integers all =
        let IsKeyed = λ (r : Row). IsTrue (is_int (rowid r)) in
        let still = λ (x : X) (int : IsKeyed (row x)). subst (λ i. IsTrue (is_int i)) (sym (same_number x)) int in
        all-map IsKeyed row (map f xs) (all-map (λ x. IsKeyed (row x)) f xs (all_weaker _ (λ x. IsKeyed (row (f x))) still xs (all_from_map IsKeyed row xs all)))

    -- so the rows that they became stand by rowid
    pub changed_by : IsByRowid (map row (map f xs))
    changed_by = record { rise = rises (subst IsTable is by.rise); integers = integers (subst (AllByRecursion (λ r. IsTrue (is_int (rowid r)))) is by.integers) }

    abbrev after : List Row
    after = map row (map f xs)

    -- a row of the table is of a record
    record_of : (r : Row) → Has table r → (x : X) × Has xs x × (r ≡ row x)
    record_of r has = has_mapped row xs r (subst (λ rows. Has rows r) is has)

    -- the row of what a record became is among them
    after_has : (x : X) → Has xs x → Has after (row (f x))
    after_has x has = mapped_has row (map f xs) (f x) (mapped_has f xs x has)

    -- what was put in and what was left are among them
    came : (r : Row) → Has (map make rows) r ⊎ Has left r → Has after r
    came r (inl new) =
        let at = has_mapped make rows r new in
        let it = shown_of at.0 at.1 in
        let x = record_of it.0 it.1 in
        let made : r ≡ row (f x.0) = at.2 ∙ ap make (it.3 ∙ ap show x.2) ∙ on x.0 x.1 (subst (λ y. p y ≡ true) x.2 it.2) in
        subst (Has after) (sym made) (after_has x.0 x.1)
    came r (inr old) =
        let it = left_is r old in
        let x = record_of r it.0 in
        subst (Has after) (sym (x.2 ∙ off x.0 x.1 (subst (λ y. p y ≡ false) x.2 it.1))) (after_has x.0 x.1)

    -- and each of them was put in or left
    went : (r : Row) → Has after r → Has (put_all left (map make rows)) r
    went r has =
        let at = has_mapped row (map f xs) r has in
        let it = has_mapped f xs at.0 at.1 in
        let there : Has table (row it.0) = subst (λ rows. Has rows (row it.0)) (sym is) (mapped_has row xs it.0 it.1) in
        let now : r ≡ row (f it.0) = at.2 ∙ ap row it.2 in
        elim (cases_Bool (p (row it.0))) [
          | inl passes ↦
              (let made : r ≡ make (show (row it.0)) = now ∙ sym (on it.0 it.1 passes) in
              put_all_adds (map make rows) left r fresh (subst (Has (map make rows)) (sym made) (mapped_has make rows (show (row it.0)) (shown_has (row it.0) there passes))))
          | inr stays ↦
              (let kept : r ≡ row it.0 = now ∙ sym (off it.0 it.1 stays) in
              put_all_keeps (map make rows) left r fresh (subst (Has left) (sym kept) (is_left (row it.0) there stays)))
        ]

    -- so the rows that were put in, with those left, are they
    pub changed : put_all left (map make rows) ≡ map row (map f xs)
    changed = same_rows (put_all left (map make rows)) after (put_rises (map make rows) left (left_rises (ids_of rows) table by.rise)) changed_by.rise (λ r has. came r (put_all_has (map make rows) left r has)) went

-- fewer rows stand as they did
pub fewer_by : (p : Row → Bool) (rows : List Row) → IsByRowid rows → IsByRowid (filter p rows)
fewer_by p rows by = record { rise = ascending-filter _ p rows by.rise; integers = all-filter _ p rows by.integers }
