-- What an UPDATE and a DELETE of rows of one of the tables of a store leave of it.
use Rattle.std.proofs.Common.{◌≡◌, ℕ, List, [], ◌∷◌, map, filter, drop, not, true, false, Option, Some, None, slice_get, subst, sym, ◌∙◌}
use Rattle.sqlite.specs.Cast.{cast_row}
use Rattle.sqlite.specs.Command.TheVariants.{Update, Delete}
use Rattle.sqlite.specs.Order.{Row}
use Rattle.sqlite.specs.Program.{overlay}
use Rattle.sqlite.specs.State.{State, Writes}
use Rattle.sqlite.specs.Tree.{rowid}
use Rattle.sqlite_rules.specs.Lists.{Has}
use Rattle.sqlite_schema.specs.declared.program.Program.{Program}
use Rattle.sqlite_schema.specs.declared.schema.Column.{Column}
use Rattle.sqlite_sql.specs.Term.{Term, col}
use Rattle.sqlite_value.specs.declared.keys.Order.{Order}
use Rattle.fax_schema.specs.Schema.{table_of, our_tables}
use Rattle.fax_layout.specs.ByRowid.{IsByRowid}
use Rattle.fax_layout.proofs.EditLemmas as edit
use Rattle.fax_layout.proofs.EditLemmas.{fewer_by}
use Rattle.fax_layout.proofs.SelectLemmas.{rows_where, passes, show, answers}
use Rattle.fax_layout.proofs.WriteLemmas.{KeepsOthers, updates, deletes}
use Rattle.fax_schema.proofs.OursLemmas.{unreferred}

-- the query of the rows that an UPDATE or a DELETE is of
abbrev pub program_of : ℕ → List Term → List Term → Program
program_of tree tests project = record { lets = []; body = rows_where tree tests project }

-- a DELETE shows the rowids alone
abbrev pub gone_project : List Term
gone_project = col 1 0 ∷ []

module _ (name : List ℕ) (tree : ℕ) (columns : List Column) (key : Option ℕ) (primary : List ℕ) (uniques : List (List ℕ)) (orders : List Order) (checks : List Term) (at : ℕ)
    (found : slice_get our_tables.tables at ≡ Some (table_of name tree columns key primary uniques orders checks)) (old new : State) (has : old.now.schema ≡ our_tables) (plain : overlay old.now.trees [] tree ≡ old.now.trees tree)
    (by : IsByRowid (old.now.trees tree)) (tests project : List Term) (params : Row) (same_id : (r : Row) → rowid (show tree tests project params r) ≡ rowid r) (text : List ℕ) (count : ℕ) where
  -- each row that passes becomes that of its record, changed
  module _ {X : Type 0} (row : X → Row) (f : X → X) (xs : List X) (is : old.now.trees tree ≡ map row xs) (same_number : (x : X) → rowid (row (f x)) ≡ rowid (row x))
      (on : (x : X) → Has xs x → passes tree tests project params (row x) ≡ true → cast_row (table_of name tree columns key primary uniques orders checks) (drop 1 (show tree tests project params (row x))) ≡ row (f x))
      (off : (x : X) → Has xs x → passes tree tests project params (row x) ≡ false → row x ≡ row (f x)) where
    pub updated : Writes old new None (Update at (program_of tree tests project)) text params count → KeepsOthers our_tables tree old new × (new.now.trees tree ≡ map row (map f xs)) × IsByRowid (new.now.trees tree)
    updated w =
        let did = updates our_tables unreferred name tree columns key primary uniques orders checks at found old new has params text count (program_of tree tests project) w in
        let make = λ (s : Row). cast_row (table_of name tree columns key primary uniques orders checks) (drop 1 s) in
        let same = answers tree tests project params (record { schema = our_tables; trees = old.now.trees }) (old.now.trees tree) plain [] did.0 did.1 in
        let after = did.2.rows ∙ edit.changed (old.now.trees tree) by (passes tree tests project params) (show tree tests project params) same_id did.0 same row f xs is make same_number on off did.2.fresh in (
          did.2.keeps,
          after,
          subst IsByRowid (sym after) (edit.changed_by (old.now.trees tree) by (passes tree tests project params) (show tree tests project params) same_id did.0 same row f xs is make same_number on off did.2.fresh),
        )

  -- the rows that pass are gone
  pub deleted : Writes old new None (Delete at (program_of tree tests project)) text params count
      → KeepsOthers our_tables tree old new × (new.now.trees tree ≡ filter (λ r. not (passes tree tests project params r)) (old.now.trees tree)) × IsByRowid (new.now.trees tree)
  deleted w =
      let did = deletes our_tables unreferred name tree columns key primary uniques orders checks at found old new has params text count (program_of tree tests project) w in
      let same = answers tree tests project params (record { schema = our_tables; trees = old.now.trees }) (old.now.trees tree) plain [] did.0 did.1 in
      let after = did.3 ∙ edit.cleared (old.now.trees tree) by (passes tree tests project params) (show tree tests project params) same_id did.0 same in
      (did.2, after, subst IsByRowid (sym after) (fewer_by (λ r. not (passes tree tests project params r)) (old.now.trees tree) by))
