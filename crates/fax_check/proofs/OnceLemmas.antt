-- A value of a UNIQUE column stands in one row.
use Rattle.std.proofs.Common.{◌≡◌, inl, inr, ℕ, suc, List, [], ◌∷◌, drop, slice_get, Some, Bool, true, false, not, ◌&&◌, refl, sym, ap, ap₂, subst, ◌∙◌}
use Rattle.std.specs.Ordering.{is_ne}
use Rattle.std.specs.declared.cmp.Ordering.{Ordering}
use Rattle.std.specs.declared.cmp.Ordering.TheVariants.{Less, Equal, Greater}
use Rattle.std.proofs.lemmas.Bool.{and_cases, and_parts, both_ways, not-true}
use Rattle.std.proofs.lemmas.Slice.Eq.{bytes_eq-Decides}
use Rattle.sqlite.specs.Collation.TheVariants.{Binary}
use Rattle.sqlite.specs.Effect.{Database, IsDatabase}
use Rattle.sqlite.specs.Order.{Row, column}
use Rattle.sqlite.specs.Tree.{rowid}
use Rattle.sqlite.specs.declared.types.Value.{Value}
use Rattle.sqlite.specs.declared.types.Value.TheVariants.{Text}
use Rattle.sqlite_rules.specs.Lists.{Has}
use Rattle.sqlite_rules.proofs.ListLemmas.{all_has, some_from, test_has}
use Rattle.sqlite_rules.proofs.RuleLemmas.{keeps_at}
use Rattle.sqlite_rules.proofs.PlaceLemmas.{tied_same}
use Rattle.sqlite_rules.proofs.TableLemmas.{int_is}
use Rattle.sqlite_schema.specs.Rules.{Keeps, agree, differ, equal, clashes, guards}
use Rattle.sqlite_schema.specs.declared.schema.Index.{Index}
use Rattle.sqlite_schema.specs.declared.schema.Table.{Table}
use Rattle.sqlite_schema.specs.declared.schema.Constraint.TheVariants.{Unique}
use Rattle.sqlite_sql.specs.Ops.{is_null}
use Rattle.sqlite_sql.specs.declared.ops.CompareOp.TheVariants.{Ne}
use Rattle.sqlite_value.specs.Keys.{plain}
use Rattle.sqlite_value.specs.Order.{value_cmp}
use Rattle.sqlite_value.proofs.KeyLemmas.{first_key-plain}
use Rattle.fax_layout.specs.ByRowid.{IsByRowid}
use Rattle.fax_schema.specs.Schema as schema
use Rattle.fax_schema.specs.Schema.{our_tables, floors_tree, holds_tree}
use Rattle.fax_layout.proofs.RowsLemmas.{listed_at}
use Rattle.fax_layout.proofs.CompareLemmas.{are_equal, compared, equal_texts}

-- ---- columns

-- a column is one of those behind the rowid
pub behind : (r : Row) (at : ℕ) → column r (suc at) ≡ column (drop 1 r) at
behind [] at = refl
behind (v ∷ r) at = refl

-- a text is equal to itself
pub text_same : (text : List ℕ) → are_equal (Text text) (Text text) ≡ true
text_same text = equal_texts text text ∙ (bytes_eq-Decides text text).1 refl

-- ---- a value in one row

-- where no row clashes with another in its place, rows that have it there are one
module _ (rows : List Row) (by : IsByRowid rows) (place : ℕ) (no_clash : (r : Row) → Has rows r → clashes plain (place ∷ []) rows r ≡ false)
    (v : Value) (itself : are_equal v v ≡ true) (r s : Row) (there : Has rows r) (also : Has rows s) (of_r : column r place ≡ v) (of_s : column s place ≡ v) where
  -- they agree in it
  agrees : agree plain (place ∷ []) s (place ∷ []) r ≡ true
  agrees =
      ap (λ key. equal key.collation (column s place) (column r place) && true) first_key-plain
      ∙ ap₂ (λ a b. equal Binary a b && true) of_s of_r
      ∙ ap (λ b. b && true) itself

  -- no rowid is NULL
  whole : (x : Row) → Has rows x → is_null (rowid x) ≡ false
  whole x has = ap is_null (int_is (rowid x) (all_has _ rows x by.integers has))

  -- rowids differ where they don't compare as equal
  differs : differ (rowid s) (rowid r) ≡ is_ne (value_cmp (rowid s) (rowid r))
  differs = compared Ne (rowid s) (rowid r) (whole s also) (whole r there)

  -- theirs don't differ
  apart : is_ne (value_cmp (rowid s) (rowid r)) ≡ true → ⊥
  apart other = both_ways _ (no_clash r there) (some_from (λ o. agree plain (place ∷ []) o (place ∷ []) r && differ (rowid o) (rowid r)) rows s also (rw (agrees, differs, other) refl))

  -- so they are one, however their rowids compare
  by_order : (o : Ordering) → value_cmp (rowid s) (rowid r) ≡ o → s ≡ r
  by_order Less e = absurd (apart (ap is_ne e))
  by_order Equal e = tied_same rows s r by.rise also there e
  by_order Greater e = absurd (apart (ap is_ne e))

  pub one_of_key : s ≡ r
  one_of_key = by_order (value_cmp (rowid s) (rowid r)) refl

-- ---- the tables with such columns

module _ (db : Database) (has : db.schema ≡ our_tables) (sound : IsDatabase db) where
  -- the rules of uniqueness hold
  keeps : Keeps Unique our_tables db.trees
  keeps = subst (λ s. Keeps Unique s db.trees) has (sound.obeys.rules Unique)

  abbrev clash : ℕ → Row → Bool
  clash place r = clashes plain (place ∷ []) (db.trees holds_tree) r

  -- no row of holds clashes with another in its modem, its job or its grant
  unclashed : (r : Row) → Has (db.trees holds_tree) r → (not (clash 1 r) ≡ true) × (not (clash 2 r) ≡ true) × (not (clash 3 r) ≡ true)
  unclashed r there =
      let modem = and_parts (not (clash 1 r)) _ (all_has _ (db.trees holds_tree) r keeps.1.1.0 there) in
      let job = and_parts (not (clash 2 r)) _ modem.1 in
      let grant = and_parts (not (clash 3 r)) _ job.1 in
      (modem.0, job.0, grant.0)

  pub modems_once : (r : Row) → Has (db.trees holds_tree) r → clashes plain (1 ∷ []) (db.trees holds_tree) r ≡ false
  modems_once r there = not-true _ (unclashed r there).0

  pub jobs_once : (r : Row) → Has (db.trees holds_tree) r → clashes plain (2 ∷ []) (db.trees holds_tree) r ≡ false
  jobs_once r there = not-true _ (unclashed r there).1

  pub grants_once : (r : Row) → Has (db.trees holds_tree) r → clashes plain (3 ∷ []) (db.trees holds_tree) r ≡ false
  grants_once r there = not-true _ (unclashed r there).2

  -- no row of a table clashes with another under the index of one of its keys
  pub key_apart : (t : Table) (at : ℕ) (i : Index) (place : ℕ) → slice_get our_tables.tables at ≡ Some t → slice_get our_tables.indexes place ≡ Some i → guards i t ≡ true → (r : Row) → Has (db.trees t.tree) r
      → clashes i.order i.columns (db.trees t.tree) r ≡ false
  key_apart t at i place there listed guard r has =
      let all = keeps_at Unique our_tables db.trees t r keeps (listed_at our_tables.tables at t there) has in
      let one = not-true _ (test_has (λ (j : Index). not (guards j t && clashes j.order j.columns (db.trees t.tree) r)) our_tables.indexes i all (listed_at our_tables.indexes place i listed)) in
      elim (and_cases (guards i t) _ one) [ inl off ↦ absurd (let no = sym guard ∙ off in cc) | inr free ↦ free ]

  -- so no row of floors in its client
  pub clients_once : (r : Row) → Has (db.trees floors_tree) r → clashes plain (1 ∷ []) (db.trees floors_tree) r ≡ false
  clients_once = key_apart schema.floors 6 schema.floors_index 5 refl refl refl
