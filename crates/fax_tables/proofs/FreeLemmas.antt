-- A row whose keys are free keeps the keys of its table apart.
use Rattle.std.proofs.Common.{◌≡◌, inl, inr, ℕ, ℤ, pos, List, [], ◌∷◌, map, filter, Bool, true, false, not, ◌&&◌, None, refl, sym, ap, ap₂, subst, ◌∙◌, arith}
use Rattle.std.specs.Prelude.{find, ◌==◌, if◌then◌else◌}
use Rattle.std.specs.List.{AllByRecursion, list_any}
use Rattle.std.specs.Ordering.{is_eq}
use Rattle.std.proofs.lemmas.Bool.{and_left, and_right, cases_Bool, eq-eqb, false_from_ne_true, ne_eqb, or_from}
use Rattle.std.proofs.lemmas.Bool.Decides.{nat_tests}
use Rattle.std.proofs.lemmas.Cmp.{tied_itself}
use Rattle.sqlite.specs.Edit.{are_fresh, is_taken, next_rowid}
use Rattle.sqlite.specs.Order.{Row}
use Rattle.sqlite.specs.Tree.{Trees, rowid, put_row, with_tree}
use Rattle.sqlite_trees.specs.Tree.{IsAscending}
use Rattle.sqlite.specs.declared.types.Value.TheVariants.{Int}
use Rattle.sqlite_rules.specs.Lists.{Has}
use Rattle.sqlite_rules.proofs.ProbeLemmas.{mapped_has}
use Rattle.sqlite_rules.proofs.ListLemmas.{all_has, has_kept, some_from, test_from}
use Rattle.sqlite_rules.proofs.RuleLemmas.{Turns, unique_kept}
use Rattle.sqlite_rules.proofs.TableLemmas.{put_has, put_all_adds, put_all_has, put_all_keeps}
use Rattle.sqlite_schema.specs.Rules.{agree, differ, clashes, guards, Keeps}
use Rattle.sqlite_schema.specs.declared.schema.Constraint.TheVariants.{Unique}
use Rattle.sqlite_schema.specs.declared.schema.Index.{Index}
use Rattle.sqlite_schema.specs.declared.schema.Schema.{Schema}
use Rattle.sqlite_schema.specs.declared.schema.Table.{Table}
use Rattle.sqlite_sql.specs.declared.ops.CompareOp.TheVariants.{Ne}
use Rattle.sqlite_sql.specs.Ops.{test}
use Rattle.sqlite_value.specs.Order.{value_cmp}
use Rattle.sqlite_value.proofs.OrderLemmas.{value_cmp-Int, value_cmp_total}
use Rattle.fax_layout.specs.ByRowid.{IsByRowid}
use Rattle.fax_layout.proofs.AppendLemmas.{all_below}
use Rattle.fax_layout.proofs.ColumnLemmas.{none_holds}
use Rattle.fax_layout.proofs.CompareLemmas.{compared}
use Rattle.fax_layout.proofs.EditLemmas.{has_mapped}
use Rattle.fax_tables.specs.Row.{number}

-- a rowid is its own
no_other : (id : ℤ) → differ (Int id) (Int id) ≡ false
no_other id = compared Ne (Int id) (Int id) refl refl ∙ ap (test Ne) (tied_itself value_cmp_total (Int id))

-- a rowid that is chosen is free
pub chosen_free : (rows : List Row) (columns : Row) → IsByRowid rows → is_taken rows (Int (next_rowid rows) ∷ columns) ≡ false
chosen_free rows columns by =
    let below = all_below (pos 1) rows by.integers by.rise in
    none_holds (λ r. is_eq (value_cmp (rowid r) (Int (next_rowid rows)))) rows (λ r has. ap is_eq (all_has _ rows r below has))

-- what holds of the indexes of a table's keys holds of all that are such
guarded : (P : Index → Type 0) (table : Table) (indexes : List Index) → AllByRecursion P (filter (λ i. guards i table) indexes) → AllByRecursion (λ i. guards i table ≡ true → P i) indexes
guarded P table [] all = tt
guarded P table (i ∷ is) all = elim (cases_Bool (guards i table)) [
  | inl on ↦ (let those : AllByRecursion P (i ∷ filter (λ j. guards j table) is) = rw on at all in ((λ _. those.0), guarded P table is those.1))
  | inr off ↦ (let those : AllByRecursion P (filter (λ j. guards j table) is) = rw off at all in ((λ on. absurd (let no = sym off ∙ on in cc)), guarded P table is those))
]

-- a row whose rowid isn't taken, and which agrees with none of its table in a key
module _ (schema : Schema) (apart : IsAscending (λ a b. a.tree ≡ b.tree → ⊥) schema.tables) (db : Trees) (was : Keeps Unique schema db) (table : Table) (listed : Has schema.tables table)
    (id : ℤ) (columns : Row) (fresh : is_taken (db table.tree) (Int id ∷ columns) ≡ false)
    (alone : AllByRecursion (λ (i : Index). (x : Row) → Has (db table.tree) x → agree i.order i.columns x i.columns (Int id ∷ columns) ≡ false) (filter (λ i. guards i table) schema.indexes)) where
  abbrev new : Row
  new = Int id ∷ columns

  abbrev put : List Row
  put = put_row new (db table.tree)

  abbrev after : Trees
  after = with_tree db table.tree put

  here : after table.tree ≡ put
  here = ap (λ b. if b then put else db table.tree) (eq-eqb table.tree table.tree refl)

  -- the table has its rows and this one, and the others have theirs
  turns : Turns schema db after table (db table.tree) [] (new ∷ [])
  turns =
      let kept : are_fresh (db table.tree) (new ∷ []) ≡ true = ap (λ b. not b && true) fresh in
      record {
        apart = apart;
        listed = listed;
        others = λ t known other. ap (λ b. if b then put else db t.tree) (ne_eqb t.tree table.tree other);
        from = λ r has. put_all_has (new ∷ []) (db table.tree) r (subst (λ rows. Has rows r) here has);
        stays = λ r has. subst (λ rows. Has rows r) (sym here) (put_all_keeps (new ∷ []) (db table.tree) r kept has);
        added = λ r has. subst (λ rows. Has rows r) (sym here) (put_all_adds (new ∷ []) (db table.tree) r kept has);
        was = λ r has. has;
        split = λ r has. inl has;
      }

  -- it clashes with none
  unclashed : (i : Index) → Has schema.indexes i → not (guards i table && list_any (clashes i.order i.columns (after table.tree)) (new ∷ [])) ≡ true
  unclashed i known = elim (cases_Bool (guards i table)) [
    | inr off ↦ ap not (and_left _ _ off)
    | inl on ↦
        let free = all_has _ (filter (λ i. guards i table) schema.indexes) i alone (has_kept _ schema.indexes i known on) in
        let none = none_holds (λ x. agree i.order i.columns x i.columns new && differ (rowid x) (rowid new)) put (λ x has. elim (put_has new (db table.tree) x has) [
          | inl is ↦ and_right _ _ (ap (λ y. differ (rowid y) (rowid new)) is ∙ no_other id)
          | inr had ↦ and_left _ _ (free x had)
        ]) in
        ap not (and_right _ _ (or_from _ false (ap (λ rows. clashes i.order i.columns rows new) here ∙ none) refl))
  ]

  -- so it breaks no rule of uniqueness
  pub unique_still : Keeps Unique schema after
  unique_still = unique_kept schema db after table (db table.tree) [] (new ∷ []) turns (test_from _ schema.indexes unclashed) was

-- ---- keys that are free

-- what no element passes, this one doesn't
pub none_of : {X : Type 0} (q : X → Bool) (xs : List X) (x : X) → list_any q xs ≡ false → Has xs x → q x ≡ false
none_of q xs x none has = false_from_ne_true (q x) (λ on. let e = sym (some_from q xs x has on) ∙ none in cc)

-- where none is found, an element doesn't pass
pub none_found : {X : Type 0} (q : X → Bool) (xs : List X) (x : X) → find q xs ≡ None → Has xs x → q x ≡ false
none_found q [] x none has = absurd has
none_found q (y ∷ ys) x none has = elim (cases_Bool (q y)) [
  | inl on ↦ absurd (let e = rw on at none in cc)
  | inr off ↦ elim has [ inl is ↦ ap q is ∙ off | inr more ↦ none_found q ys x (rw off at none) more ]
]

-- a record whose number none has
module _ {X : Type 0} (row : X → Row) (num : X → ℕ) (ids : (x : X) → rowid (row x) ≡ number (num x)) where
  -- rowids are equal just where the numbers are
  same_id : (x y : X) → is_eq (value_cmp (rowid (row y)) (rowid (row x))) ≡ (num y == num x)
  same_id x y = ap is_eq (ap₂ value_cmp (ids y) (ids x) ∙ value_cmp-Int (pos (num y)) (pos (num x))) ∙ grind (arith, nat_tests)

  -- where its rowid isn't taken
  pub untaken : (x : X) (xs : List X) → is_taken (map row xs) (row x) ≡ false → (y : X) → Has xs y → (num y == num x) ≡ false
  untaken x xs free y has = sym (same_id x y) ∙ none_of (λ r. is_eq (value_cmp (rowid r) (rowid (row x)))) (map row xs) (row y) free (mapped_has row xs y has)

  -- where no record has the number, the rowid isn't taken
  pub free_row : (x : X) (xs : List X) → find (λ y. num y == num x) xs ≡ None → is_taken (map row xs) (row x) ≡ false
  free_row x xs none =
      none_holds (λ r. is_eq (value_cmp (rowid r) (rowid (row x)))) (map row xs) (λ r has.
      let it = has_mapped row xs r has in
      ap (λ z. is_eq (value_cmp (rowid z) (rowid (row x)))) it.2 ∙ same_id x it.0 ∙ none_found (λ y. num y == num x) xs it.0 none it.1)
