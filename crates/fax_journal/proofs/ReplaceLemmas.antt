-- What an INSERT OR REPLACE of one row makes of a database where no foreign key acts.
use Rattle.std.proofs.Common.{◌≡◌, ◌≢◌, inl, inr, ℕ, ℤ, ◌/◌, List, [], ◌∷◌, length, slice_get, true, Option, Some, None, Ok, sym, ap, subst, ◌∙◌, append-nil}
use Rattle.std.specs.List.{AllByRecursion}
use Rattle.sqlite.specs.Order.{Row}
use Rattle.sqlite.specs.Tree.{Trees, put_row, rowid}
use Rattle.sqlite.specs.Effect.{Database, value_rows}
use Rattle.sqlite.specs.State.{State, Writes, mode_of}
use Rattle.sqlite.specs.Does.{Tally, Does, OnRows, AtPlace}
use Rattle.sqlite.specs.Rows.{Clears, Judged, count_of, Puts, Task, Tries, TriesEach, Written, mended, nothing}
use Rattle.sqlite.specs.Edit.{edit_of, id_in, put_all, taken_by, without_all, are_fresh, with_rowid}
use Rattle.sqlite.specs.Cast.{cast_row}
use Rattle.sqlite.specs.Rowids.TheVariants.{Chosen, Given}
use Rattle.sqlite.specs.Command.TheVariants.{InsertOr}
use Rattle.sqlite.specs.Source.TheVariants.{Values}
use Rattle.sqlite.proofs.Callers.{one_step}
use Rattle.sqlite_rules.specs.Action.{works}
use Rattle.sqlite_rules.specs.Calls.{ids_of}
use Rattle.sqlite_rules.specs.Keys.{AreConflicts, conflicts}
use Rattle.sqlite_rules.specs.Lists.{Has}
use Rattle.sqlite_rules.specs.declared.error.Refusal.{Refusal}
use Rattle.sqlite_schema.specs.declared.command.Conflict.TheVariants.{Replace}
use Rattle.sqlite_schema.specs.declared.schema.Column.{Column}
use Rattle.sqlite_schema.specs.declared.schema.Keys.TheVariants.{Enforced}
use Rattle.sqlite_schema.specs.declared.schema.Schema.{Schema}
use Rattle.sqlite_schema.specs.declared.schema.Table.{Table}
use Rattle.sqlite_sql.specs.Term.{Term}
use Rattle.sqlite_value.specs.declared.keys.Order.{Order}
use Rattle.fax_layout.specs.Tables.{table_of}
use Rattle.fax_layout.proofs.EditLemmas.{has_mapped}
use Rattle.fax_layout.proofs.WriteLemmas.{KeepsOthers, same_value, went}

-- rows that conflict with the new one are taken out, and it is put in
pub record Replaces (schema : Schema) (table : Table) (old new : State) (row : Row) : Type 0 where
  pub keeps : KeepsOthers schema table.tree old new
  pub gone : List ℤ
  pub conflicts : (id : ℤ) → Has gone id → (r : Row) × Has (old.now.trees table.tree) r × (conflicts None schema.indexes table row r ≡ true) × (id ≡ id_in (rowid r))
  pub fresh : are_fresh (without_all (old.now.trees table.tree) gone) (row ∷ []) ≡ true
  pub rows : new.now.trees table.tree ≡ put_row row (without_all (old.now.trees table.tree) gone)

-- where one step leaves the other tables as they were and then another does, both do
others_then : (tables : List Table) (tree : ℕ) (a b c : Trees) → AllByRecursion (λ t. t.tree ≢ tree → b t.tree ≡ a t.tree) tables → AllByRecursion (λ t. t.tree ≢ tree → c t.tree ≡ b t.tree) tables
    → AllByRecursion (λ t. t.tree ≢ tree → c t.tree ≡ a t.tree) tables
others_then [] tree a b c first next = tt
others_then (t ∷ ts) tree a b c first next = (λ off. next.0 off ∙ first.0 off, others_then ts tree a b c first.1 next.1)

module _ (schema : Schema) (bare : (tree : ℕ) (olds news : List Row) → works schema Enforced 0 tree olds news ≡ []) (name : List ℕ) (tree : ℕ) (columns : List Column) (key : Option ℕ) (primary : List ℕ)
    (uniques : List (List ℕ)) (orders : List Order) (checks : List Term) (at : ℕ) (found : slice_get schema.tables at ≡ Some (table_of name tree columns key primary uniques orders checks)) (old new : State)
    (has : old.now.schema ≡ schema) (params : Row) (text : List ℕ) (count : ℕ) where
  abbrev table : Table
  table = table_of name tree columns key primary uniques orders checks

  abbrev task : Task
  task = record { limit = old.step_limit; keys = Enforced; schema = schema; table = table; params = params }

  -- one step: a row is put in among those that are left
  record PutsIn (db next : Trees) (row : Row) : Type 0 where
    others : AllByRecursion (λ t. t.tree ≢ tree → next t.tree ≡ db t.tree) schema.tables
    fresh : are_fresh (db tree) (row ∷ []) ≡ true
    rows : next tree ≡ put_row row (db tree)

  module _ (row : Row) (stored : cast_row table row ≡ row) where
    puts : (db : Trees) (w : Written) → Puts task row db (Ok w) → PutsIn db w.trees row
    puts db w h =
        let put = went h in
        let edit = edit_of db table [] Given 0 (row ∷ []) in
        let step = one_step schema Enforced db put.0 edit (bare tree (taken_by db edit) edit.news) put.1 in
        let news : edit.news ≡ row ∷ [] = ap (λ r. r ∷ []) stored in
        let same : w.trees ≡ put.0 = ap (λ (it : Written). it.trees) (same_value put.2) in
        record {
          others = subst (λ (ts : Trees). AllByRecursion (λ t. t.tree ≢ tree → ts t.tree ≡ db t.tree) schema.tables) (sym same) step.tables;
          fresh = subst (λ n. are_fresh (db tree) n ≡ true) news step.fresh;
          rows = ap (λ (ts : Trees). ts tree) same ∙ step.rows ∙ ap (put_all (db tree)) news;
        }

    -- rows are taken out, and then the row is put in
    record ClearsFor (db next : Trees) (gone : List ℤ) : Type 0 where
      others : AllByRecursion (λ t. t.tree ≢ tree → next t.tree ≡ db t.tree) schema.tables
      fresh : are_fresh (without_all (db tree) gone) (row ∷ []) ≡ true
      rows : next tree ≡ put_row row (without_all (db tree) gone)

    clears : (db : Trees) (w : Written) (which : List Row) → Clears task Replace row db which (Ok w) → ClearsFor db w.trees (ids_of which)
    clears db w [] h = let put = puts db w h in record { others = put.others; fresh = put.fresh; rows = put.rows }
    clears db w (x ∷ more) h =
        let cleared = went h in
        let edit = edit_of db table (ids_of (x ∷ more)) Given 0 [] in
        let step = one_step schema Enforced db cleared.0 edit (bare tree (taken_by db edit) edit.news) cleared.1 in
        let put = puts cleared.0 w cleared.2 in
        record {
          others = others_then schema.tables tree db cleared.0 w.trees step.tables put.others;
          fresh = subst (λ rows. are_fresh rows (row ∷ []) ≡ true) step.rows put.fresh;
          rows = put.rows ∙ ap (put_row row) step.rows;
        }

    -- the row is judged and tried
    tried : (db : Trees) (w : Written) → Tries task Replace [] row db (Ok w) → (which : List Row) × AreConflicts None schema.indexes table (db tree) row which × ClearsFor db w.trees (ids_of which)
    tried db w (inl (big, refused)) = absurd (let e = refused in cc)
    tried db w (inr (verdict, is_judged, judged)) = by verdict judged
      where
        by : (verdict : Option Refusal) → Judged task Replace [] row db verdict (Ok w) → (which : List Row) × AreConflicts None schema.indexes table (db tree) row which × ClearsFor db w.trees (ids_of which)
        by None h = (h.0, h.1, clears db w h.0 h.2)
        by (Some why) h = absurd (let e = h in cc)

  -- the row is put in for those that conflict with it
  pub replaces : (terms : List Term) (width : ℕ) (source row : Row) → value_rows params width (length terms / width) terms ≡ source ∷ [] → mended Replace table source ≡ source
      → with_rowid Chosen (old.now.trees tree) (cast_row table source) ≡ row → cast_row table row ≡ row
      → Writes old new None (InsertOr at Replace (Values terms width) []) text params count → Replaces schema table old new row
  replaces terms width source row is_source is_mended is_row stored w =
      let command = InsertOr at Replace (Values terms width) [] in
      let db = old.now.trees in
      let out = Ok (w.tally, new.now) in
      let does = subst (λ s. Does old.step_limit (mode_of old) params (record old.now { schema = s }) text None command out) has w.changed in
      let on : OnRows task (mode_of old) None command db out = subst (λ o. AtPlace (λ t. OnRows (record task { table = t }) (mode_of old) None command db) o out) found does in
      let done = went on in
      let now = ap (λ (p : Tally × Database). p.1) (same_value (went (went done.2).2).2) in
      let given = went done.1 in
      let counter = went given.2 in
      let each = went counter.2 in
      let counted = went each.2 in
      let trees : done.0.trees ≡ each.0.0.trees = ap (λ (it : Written). it.trees) (same_value counted.2) ∙ same_value counted.1 in
      let sources : given.0 ≡ source ∷ [] = given.1.1 ∙ ap (λ p. value_rows p width (length terms / width) terms) (append-nil params) ∙ is_source in
      let one = went (subst (λ rows. TriesEach task Replace [] rows (count_of counter.0) (nothing db) (Ok each.0)) sources each.1) in
      let is : with_rowid Chosen (db tree) (cast_row table (mended Replace table source)) ≡ row = ap (λ s. with_rowid Chosen (db tree) (cast_row table s)) is_mended ∙ is_row in
      let it = tried row stored db one.0 (subst (λ r. Tries task Replace [] r db (Ok one.0)) is one.1) in
      let last : each.0.0.trees ≡ one.0.trees = ap (λ (p : Written × ℤ). p.0.trees) (same_value one.2) in
      let same : new.now.trees ≡ one.0.trees = ap (λ (d : Database). d.trees) now ∙ trees ∙ last in
      record {
        keeps = record {
          schema_is = ap (λ (d : Database). d.schema) now;
          others = subst (λ (ts : Trees). AllByRecursion (λ t. t.tree ≢ tree → ts t.tree ≡ db t.tree) schema.tables) (sym same) it.2.others;
          sound = w.sound;
          shown = w.shown;
        };
        gone = ids_of it.0;
        conflicts = λ id in_gone. let x = has_mapped (λ (r : Row). id_in (rowid r)) it.0 id in_gone in
            let r = it.1.sound x.0 x.1 in
            (r.0, r.1, r.2, x.2 ∙ ap (λ (v : Row). id_in (rowid v)) r.3);
        fresh = it.2.fresh;
        rows = ap (λ (ts : Trees). ts tree) same ∙ it.2.rows;
      }
