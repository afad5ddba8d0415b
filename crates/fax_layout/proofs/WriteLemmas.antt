-- What one INSERT of a row, an UPDATE and a DELETE make of a database where no foreign key acts.
use Rattle.std.proofs.Common.{◌≡◌, ◌≢◌, ◌⊎◌, inl, inr, ℕ, ◌/◌, List, [], ◌∷◌, map, drop, length, slice_get, true, Option, Some, None, Ok, Err, Result, sym, ap, subst, ◌∙◌, append-nil, if◌then◌else◌}
use Rattle.std.specs.List.{AllByRecursion}
use Rattle.sqlite.specs.Order.{Row}
use Rattle.sqlite.specs.Tree.{Trees, put_row}
use Rattle.sqlite.specs.Effect.{Database, IsDatabase, value_rows, Answers}
use Rattle.sqlite.specs.State.{State, Writes, Shows, mode_of}
use Rattle.sqlite.specs.Does.{Tally, Does, OnRows, AtPlace}
use Rattle.sqlite.specs.Rows.{Task, Written}
use Rattle.sqlite.specs.Edit.{edit_of, put_all, taken_by, without_all, have_rowids, are_fresh, with_rowid}
use Rattle.sqlite.specs.Cast.{cast_row}
use Rattle.sqlite.specs.Rowids.TheVariants.{Chosen, Given}
use Rattle.sqlite.specs.Command.TheVariants.{Insert, Update, Delete}
use Rattle.sqlite.specs.Source.TheVariants.{Values}
use Rattle.sqlite_schema.specs.declared.schema.Schema.{Schema}
use Rattle.sqlite_schema.specs.declared.schema.Table.{Table}
use Rattle.sqlite_schema.specs.declared.schema.Column.{Column}
use Rattle.sqlite_schema.specs.declared.schema.Keys.TheVariants.{Enforced}
use Rattle.sqlite_schema.specs.declared.program.Program.{Program}
use Rattle.sqlite_value.specs.declared.keys.Order.{Order}
use Rattle.sqlite_sql.specs.Term.{Term}
use Rattle.sqlite_rules.specs.Action.{works}
use Rattle.sqlite_rules.specs.Calls.{ids_of}
use Rattle.sqlite_rules.proofs.PlaceLemmas.{given}
use Rattle.sqlite.proofs.Callers.{one_step}
use Rattle.fax_layout.specs.Tables.{table_of}

-- a part that gave a value did not stop on the way
pub went : {B E R : Type 0} {b : B} {Stops : E → Type 0} → ((stop : E) × Stops stop × (Ok b ≡ Err stop)) ⊎ R → R
went (inl stopped) = absurd (let e = stopped.2 in cc)
went (inr on) = on

pub same_value : {B E : Type 0} {a b : B} → ◌≡◌ {A = Result B E} (Ok a) (Ok b) → a ≡ b
same_value e = cc

-- no row of another table changes, and the database obeys its schema
pub record KeepsOthers (schema : Schema) (tree : ℕ) (old new : State) : Type 0 where
  pub schema_is : new.now.schema ≡ schema
  pub others : AllByRecursion (λ t. t.tree ≢ tree → new.now.trees t.tree ≡ old.now.trees t.tree) schema.tables
  pub sound : IsDatabase new.now
  pub shown : Shows old new new.now (if old.in_transaction then old.committed else new.now) old.in_transaction

pub record InsertsRow (schema : Schema) (tree : ℕ) (old new : State) (row : Row) : Type 0 where
  pub keeps : KeepsOthers schema tree old new
  pub keyed : have_rowids (row ∷ []) ≡ true
  pub fresh : are_fresh (old.now.trees tree) (row ∷ []) ≡ true
  pub rows : new.now.trees tree ≡ put_row row (old.now.trees tree)

-- rows that were shown are taken out, and what is made of them is put in
pub record ChangesRows (schema : Schema) (tree : ℕ) (make : Row → Row) (old new : State) (shown : List Row) : Type 0 where
  pub keeps : KeepsOthers schema tree old new
  pub fresh : are_fresh (without_all (old.now.trees tree) (ids_of shown)) (map make shown) ≡ true
  pub rows : new.now.trees tree ≡ put_all (without_all (old.now.trees tree) (ids_of shown)) (map make shown)

module _ (schema : Schema) (bare : (tree : ℕ) (olds news : List Row) → works schema Enforced 0 tree olds news ≡ []) (name : List ℕ) (tree : ℕ) (columns : List Column) (key : Option ℕ) (primary : List ℕ)
    (uniques : List (List ℕ)) (orders : List Order) (checks : List Term) (at : ℕ) (found : slice_get schema.tables at ≡ Some (table_of name tree columns key primary uniques orders checks)) (old new : State)
    (has : old.now.schema ≡ schema) (params : Row) (text : List ℕ) (count : ℕ) where
  abbrev table : Table
  table = table_of name tree columns key primary uniques orders checks

  abbrev task : Task
  task = record { limit = old.step_limit; keys = Enforced; schema = schema; table = table; params = params }

  -- an INSERT of one row puts it in, with the rowid that is chosen
  pub inserts : (terms : List Term) (width : ℕ) (source row : Row) → value_rows params width (length terms / width) terms ≡ source ∷ [] → with_rowid Chosen (old.now.trees tree) (cast_row table source) ≡ row
      → Writes old new None (Insert at (Values terms width)) text params count → InsertsRow schema tree old new row
  inserts terms width source row is_source is_row w =
      let command = Insert at (Values terms width) in
      let db = old.now.trees in
      let out = Ok (w.tally, new.now) in
      let does = subst (λ s. Does old.step_limit (mode_of old) params (record old.now { schema = s }) text None command out) has w.changed in
      let on : OnRows task (mode_of old) None command db out = subst (λ o. AtPlace (λ t. OnRows (record task { table = t }) (mode_of old) None command db) o out) found does in
      let done = went on in
      let now = ap (λ (p : Tally × Database). p.1) (same_value (went (went done.2).2).2) in
      let given = went done.1 in
      let written = went (went given.2).2 in
      let counted = went written.2 in
      let trees : done.0.trees ≡ written.0 = ap (λ (it : Written). it.trees) (same_value counted.2) ∙ same_value counted.1 in
      let sources : given.0 ≡ source ∷ [] = given.1.1 ∙ ap (λ p. value_rows p width (length terms / width) terms) (append-nil params) ∙ is_source in
      let edit = edit_of db table [] Chosen 0 given.0 in
      let step = one_step schema Enforced db written.0 edit (bare tree (taken_by db edit) edit.news) written.1 in
      let news : edit.news ≡ row ∷ [] = ap (λ all. (edit_of db table [] Chosen 0 all).news) sources ∙ ap (λ r. r ∷ []) is_row in
      let same : new.now.trees ≡ written.0 = ap (λ (d : Database). d.trees) now ∙ trees in
      record {
        keeps = record {
          schema_is = ap (λ (d : Database). d.schema) now;
          others = subst (λ (ts : Trees). AllByRecursion (λ t. t.tree ≢ tree → ts t.tree ≡ db t.tree) schema.tables) (sym same) step.tables;
          sound = w.sound;
          shown = w.shown;
        };
        keyed = subst (λ n. have_rowids n ≡ true) news step.keyed;
        fresh = subst (λ n. are_fresh (db tree) n ≡ true) news step.fresh;
        rows = ap (λ (ts : Trees). ts tree) same ∙ step.rows ∙ ap (put_all (db tree)) news;
      }

  -- what a row that is shown is stored as
  abbrev pub made : Row → Row
  made s = cast_row table (drop 1 s)

  -- an UPDATE takes out the rows that it shows, and puts in what is made of them
  pub updates : (q : Program) → Writes old new None (Update at q) text params count → (shown : List Row) × Answers (record { schema = schema; trees = old.now.trees }) q params shown × ChangesRows schema tree made old new shown
  updates q w =
      let command = Update at q in
      let db = old.now.trees in
      let out = Ok (w.tally, new.now) in
      let does = subst (λ s. Does old.step_limit (mode_of old) params (record old.now { schema = s }) text None command out) has w.changed in
      let on : OnRows task (mode_of old) None command db out = subst (λ o. AtPlace (λ t. OnRows (record task { table = t }) (mode_of old) None command db) o out) found does in
      let done = went on in
      let now = ap (λ (p : Tally × Database). p.1) (same_value (went (went done.2).2).2) in
      let shown = went done.1 in
      let written = went shown.2 in
      let trees : done.0.trees ≡ written.0 = ap (λ (it : Written). it.trees) (same_value written.2) in
      let edit = edit_of db table (ids_of shown.0) Given 1 shown.0 in
      let step = one_step schema Enforced db written.0 edit (bare tree (taken_by db edit) edit.news) written.1 in
      let news : edit.news ≡ map made shown.0 = given (without_all (db tree) (ids_of shown.0)) (map made shown.0) in
      let same : new.now.trees ≡ written.0 = ap (λ (d : Database). d.trees) now ∙ trees in (
        shown.0,
        shown.1,
        record {
          keeps = record {
            schema_is = ap (λ (d : Database). d.schema) now;
            others = subst (λ (ts : Trees). AllByRecursion (λ t. t.tree ≢ tree → ts t.tree ≡ db t.tree) schema.tables) (sym same) step.tables;
            sound = w.sound;
            shown = w.shown;
          };
          fresh = subst (λ n. are_fresh (without_all (db tree) (ids_of shown.0)) n ≡ true) news step.fresh;
          rows = ap (λ (ts : Trees). ts tree) same ∙ step.rows ∙ ap (put_all (without_all (db tree) (ids_of shown.0))) news;
        },
      )

  -- a DELETE takes out the rows that it shows
  pub deletes : (q : Program) → Writes old new None (Delete at q) text params count
      → (shown : List Row) × Answers (record { schema = schema; trees = old.now.trees }) q params shown × KeepsOthers schema tree old new × (new.now.trees tree ≡ without_all (old.now.trees tree) (ids_of shown))
  deletes q w =
      let command = Delete at q in
      let db = old.now.trees in
      let out = Ok (w.tally, new.now) in
      let does = subst (λ s. Does old.step_limit (mode_of old) params (record old.now { schema = s }) text None command out) has w.changed in
      let on : OnRows task (mode_of old) None command db out = subst (λ o. AtPlace (λ t. OnRows (record task { table = t }) (mode_of old) None command db) o out) found does in
      let done = went on in
      let now = ap (λ (p : Tally × Database). p.1) (same_value (went (went done.2).2).2) in
      let shown = went done.1 in
      let written = went shown.2 in
      let trees : done.0.trees ≡ written.0 = ap (λ (it : Written). it.trees) (same_value written.2) in
      let edit = edit_of db table (ids_of shown.0) Given 0 [] in
      let step = one_step schema Enforced db written.0 edit (bare tree (taken_by db edit) edit.news) written.1 in
      let same : new.now.trees ≡ written.0 = ap (λ (d : Database). d.trees) now ∙ trees in (
        shown.0,
        shown.1,
        record {
          schema_is = ap (λ (d : Database). d.schema) now;
          others = subst (λ (ts : Trees). AllByRecursion (λ t. t.tree ≢ tree → ts t.tree ≡ db t.tree) schema.tables) (sym same) step.tables;
          sound = w.sound;
          shown = w.shown;
        },
        ap (λ (ts : Trees). ts tree) same ∙ step.rows,
      )
