-- What the texts that make the tables leave.
use Rattle.std.proofs.Common.{◌≡◌, ◌≤◌, ℕ, pos, List, [], true, false, IsTrue, None, Ok, Err, Result, refl, sym, ap, ap₂, subst, subst₂, ◌∙◌, if◌then◌else◌}
use Rattle.std.specs.List.{AllByRecursion}
use Rattle.sqlite.specs.Tree.{Trees, put_row}
use Rattle.sqlite.specs.Cast.{cast_row}
use Rattle.sqlite.specs.Edit.{with_rowid}
use Rattle.sqlite.specs.Rowids.TheVariants.{Chosen}
use Rattle.sqlite.specs.Effect.{Database, IsDatabase, RefusesToAlter}
use Rattle.sqlite.specs.Listing.{understood}
use Rattle.sqlite.specs.State.{State, Executes, KeepsCommit, Shows, mode_of}
use Rattle.sqlite.specs.declared.error.Error.{Error}
use Rattle.std.specs.Bool.{MatchBool}
use Rattle.sqlite.specs.Rows.{Outcome, Task}
use Rattle.sqlite.specs.Does.{AtPlace, Defines, Does, Drops, Empties, Leaves, MakesIndex, MakesTable, Tally, Uncounts, lacks_sequence, sequence_text}
use Rattle.sqlite.specs.Compile.{table_defined_by, index_defined_by}
use Rattle.sqlite.specs.Command.TheVariants.{CreateTable, CreateIndex, DropIndex, DropTable}
use Rattle.sqlite.proofs.Callers.{runs_as, statement_of}
use Rattle.sqlite.proofs.InsideLemmas.{fails_whole, unchanged_keeps}
use Rattle.sqlite_schema.specs.declared.schema.Index.{Index}
use Rattle.sqlite_schema.specs.declared.schema.Table.{Table}
use Rattle.sqlite_schema.specs.declared.schema.Schema.{Schema}
use Rattle.sqlite_catalog.specs.Calls.{RefusesToDropIndex}
use Rattle.sqlite_catalog.specs.Change.{created, indexed, next_tree, without_index, KeepsRows}
use Rattle.sqlite_schema.specs.declared.schema.Keys.TheVariants.{Enforced}
use Rattle.fax_schema.specs.declared.statements.TheConstants.{INSERT_META}
use Rattle.fax_core.specs.Ledger.{empty_ledger}
use Rattle.fax_core.specs.Queue.{empty_queue}
use Rattle.fax_schema.specs.Schema as schema
use Rattle.fax_schema.specs.Schema.{no_tables, first_bare, first_list, second_list, both_list, added_list, core_list, second_bare, bare_tables, our_tables, has_floors, has_times, floors_tree, times_tree, meta_tree}
use Rattle.fax_tables.specs.Row.{meta_row}
use Rattle.fax_tables.specs.Tables.{GoesOn, HasEmptyTables, Renews, TablesMean, added_in, has_added}
use Rattle.fax_tables.proofs.TablesLemmas.{Name, founded, is_ours, meta, rows_kept, tree_of}
use Rattle.fax_schema.proofs.CreateTexts.{AddsIndex, LosesIndex, TakesAway}
use Rattle.fax_schema.proofs.StatementForms.{Makes}
use Rattle.fax_layout.proofs.CompareLemmas.{same_row, cast_int, cast_null}
use Rattle.fax_schema.proofs.StatementTexts.{insert_meta}
use Rattle.fax_layout.proofs.RowsLemmas.{all_behind, all_front, at_tree}
pub use Rattle.fax_layout.proofs.RowsLemmas.{kept_rows}
use Rattle.fax_layout.proofs.WriteLemmas.{went, inserts}
use Rattle.fax_schema.proofs.OursLemmas.{unreferred}

same_ok : {A E : Type 0} {a b : A} → ◌≡◌ {A = Result A E} (Ok a) (Ok b) → a ≡ b
same_ok e = cc

-- a transaction that goes on commits nothing
pub goes_on : (a b c : State) → GoesOn a b → GoesOn b c → GoesOn a c
goes_on a b c first next = record { was_open = first.was_open; is_open = next.is_open; now_is = refl; committed_is = next.committed_is ∙ first.committed_is; mode = next.mode }

-- in a transaction that went on, a commit that is kept behind it was kept from the start
pub commit_kept : (a b c : State) → GoesOn a b → KeepsCommit b c → KeepsCommit a c
commit_kept a b c first next = record { was_open = λ _. first.was_open; committed = λ is_open. next.committed is_open ∙ first.committed_is }

-- and what a refused statement leaves is committed still
pub refused_keeps : (old new : State) (sql : List ℕ) (e : Error) → Executes sql [] old new (Err e) → KeepsCommit old new
refused_keeps old new sql e h = unchanged_keeps old new (fails_whole old new false sql [] e h)

-- inside a transaction a statement that is done lets it go on
pub inside_shown : (old new : State) (now : Database) → IsTrue old.in_transaction → Shows old new now (if old.in_transaction then old.committed else new.now) old.in_transaction → GoesOn old new
inside_shown old new now inside h = record {
  was_open = h.was_open;
  is_open = h.is_open;
  now_is = refl;
  committed_is = h.committed_is ∙ ap (λ b. if b then old.committed else new.now) inside;
  mode = h.mode ∙ inside;
}

-- one more table, with no rows, beside the rows that there were
pub added : (old new : State) (before after : Schema) (sql : List ℕ) (table : Table) (count : ℕ) → Makes before sql table → created before table ≡ after → lacks_sequence after ≡ false
    → Executes sql [] old new (Ok count) → IsTrue old.in_transaction → old.now.schema ≡ before
    → GoesOn old new × (new.now.schema ≡ after) × IsDatabase new.now × KeepsRows before.tables old.now.trees new.now.trees × (new.now.trees (next_tree before) ≡ [])
added old new before after sql table count makes is none h inside has =
    let ran = runs_as sql [] old new before has CreateTable makes.command makes.plain count h in
    let on = went ran.changed in
    let it = went on.1 in
    let now : new.now ≡ on.0 = ap (λ p. p.1) (same_ok on.2) in
    let text = ap table_defined_by makes.statement ∙ makes.defined in
    let defined : it.1.table ≡ record table { tree = 0 } = same_ok (sym it.1.defined ∙ text) in
    let schema_is : it.0.schema ≡ after = it.1.is ∙ ap₂ created has defined ∙ is in
    let rest : on.0 ≡ it.0 = same_ok (subst (λ b. MatchBool b (MakesTable sequence_text it.0 (Ok on.0)) (◌≡◌ {A = Outcome Database} (Ok on.0) (Ok it.0))) (ap lacks_sequence schema_is ∙ none) it.2) in
    let made_is : new.now ≡ it.0 = now ∙ rest in
    let fresh : new.now.trees (next_tree before) ≡ [] = ap (λ d. d.trees (next_tree before)) made_is ∙ ap it.0.trees (ap next_tree (sym has)) ∙ it.1.empty in
    let kept : KeepsRows before.tables old.now.trees new.now.trees = subst₂ (λ ts d. KeepsRows ts old.now.trees d.trees) (ap (λ s. s.tables) has) (sym made_is) it.1.others in
    (inside_shown old new _ inside ran.shown, ap (λ d. d.schema) made_is ∙ schema_is, ran.sound, kept, fresh)

-- a table is gone, to which no other refers, and the rows of the others stay
pub dropped : (old new : State) (before after : Schema) (sql : List ℕ) (count : ℕ) → TakesAway before sql after → Executes sql [] old new (Ok count) → IsTrue old.in_transaction
    → old.now.schema ≡ before
    → GoesOn old new × (new.now.schema ≡ after) × IsDatabase new.now × KeepsRows after.tables old.now.trees new.now.trees
dropped old new before after sql count takes h inside has =
    let ran = runs_as sql [] old new before has (DropTable takes.at) takes.command takes.plain count h in
    let out = Ok (ran.tally, new.now) in
    let task = λ (t : Table). the_task t in
    let does = subst (λ s. Does old.step_limit (mode_of old) [] (record old.now { schema = s }) (statement_of sql (understood before sql)) None (DropTable takes.at) out) has ran.changed in
    let on = subst (λ t. AtPlace (λ (u : Table). Drops (task u) (mode_of old) old.now.trees) t out) takes.has does in
    let emptied = went on in
    let first : emptied.0 ≡ old.now.trees = same_ok (emptied_as emptied.0 emptied.1) in
    let lessened = went emptied.2 in
    let second : lessened.0 ≡ emptied.0 = same_ok (uncounted_as emptied.0 lessened.0 lessened.1) in
    let tested = went lessened.2 in
    let left = went tested.2 in
    let now : new.now ≡ left.0 = ap (λ (p : Tally × Database). p.1) (same_ok left.2) in (
      inside_shown old new _ inside ran.shown,
      ap (λ (d : Database). d.schema) now ∙ left.1.0 ∙ takes.left,
      ran.sound,
      subst₂ (λ (ts : Trees) (d : Database). KeepsRows after.tables ts d.trees) (second ∙ first) (sym now) (subst (λ (s : Schema). KeepsRows s.tables lessened.0 left.0.trees) takes.left left.1.1),
    )
  where
    the_task : Table → Task
    the_task t = record { limit = old.step_limit; keys = Enforced; schema = before; table = t; params = [] }

    emptied_as : (e : Trees) → Empties (the_task takes.table) old.now.trees (Ok e) → ◌≡◌ {A = Outcome Trees} (Ok e) (Ok old.now.trees)
    emptied_as e h = rw takes.unacted at h

    uncounted_as : (e l : Trees) → Uncounts (the_task takes.table) e (Ok l) → ◌≡◌ {A = Outcome Trees} (Ok l) (Ok e)
    uncounted_as e l h = rw takes.uncounted at h

-- an index is gone, and the rows stay
pub lost_index : (old new : State) (before after : Schema) (sql : List ℕ) (count : ℕ) → LosesIndex before sql after → Executes sql [] old new (Ok count) → IsTrue old.in_transaction
    → old.now.schema ≡ before
    → GoesOn old new × (new.now.schema ≡ after) × IsDatabase new.now × KeepsRows after.tables old.now.trees new.now.trees
lost_index old new before after sql count loses h inside has =
    let ran = runs_as sql [] old new before has (DropIndex loses.at) loses.command loses.plain count h in
    let out = Ok (ran.tally, new.now) in
    let does = subst (λ s. Does old.step_limit (mode_of old) [] (record old.now { schema = s }) (statement_of sql (understood before sql)) None (DropIndex loses.at) out) has ran.changed in
    let on = subst (λ i. AtPlace (λ (x : Index). Defines (mode_of old) (Leaves (without_index before x.tree) old.now.trees (RefusesToAlter (RefusesToDropIndex x)))) i out) loses.has does in
    let left = went on in
    let now : new.now ≡ left.0 = ap (λ (p : Tally × Database). p.1) (same_ok left.2) in (
      inside_shown old new _ inside ran.shown,
      ap (λ (d : Database). d.schema) now ∙ left.1.0 ∙ loses.left,
      ran.sound,
      subst (λ (d : Database). KeepsRows after.tables old.now.trees d.trees) (sym now) (subst (λ (s : Schema). KeepsRows s.tables old.now.trees left.0.trees) loses.left left.1.1),
    )

-- one more index, and the rows that there were
pub made_index : (old new : State) (before after : Schema) (sql : List ℕ) (count : ℕ) → AddsIndex before sql after → Executes sql [] old new (Ok count) → IsTrue old.in_transaction
    → old.now.schema ≡ before
    → GoesOn old new × (new.now.schema ≡ after) × IsDatabase new.now × KeepsRows before.tables old.now.trees new.now.trees
made_index old new before after sql count makes h inside has =
    let ran = runs_as sql [] old new before has (CreateIndex makes.at) makes.command makes.plain count h in
    let out = Ok (ran.tally, new.now) in
    let does = subst (λ s. Does old.step_limit (mode_of old) [] (record old.now { schema = s }) (statement_of sql (understood before sql)) None (CreateIndex makes.at) out) has ran.changed in
    let on = subst (λ t. AtPlace (λ (table : Table). Defines (mode_of old) (MakesIndex (statement_of sql (understood before sql)) (record old.now { schema = before }) table)) t out) makes.has does in
    let made = went on in
    let now : new.now ≡ made.0 = ap (λ (p : Tally × Database). p.1) (same_ok made.2) in
    let text = ap (index_defined_by makes.table) makes.statement ∙ makes.defined in
    let defined : made.1.index ≡ record (makes.index) { tree = 0; table = (makes.table).tree } = same_ok (sym made.1.defined ∙ text) in (
      inside_shown old new _ inside ran.shown,
      ap (λ (d : Database). d.schema) now ∙ made.1.is ∙ ap (indexed before makes.table) defined ∙ makes.is,
      ran.sound,
      subst (λ (d : Database). KeepsRows before.tables old.now.trees d.trees) (sym now) made.1.rows,
    )

-- ---- all rows but those of `calls`

-- where a table that came later is there, the rows are those of its tree
pub added_there : (db : Database) (schema : Schema) (tree : ℕ) → db.schema ≡ schema → has_added schema tree ≡ true → added_in db tree ≡ db.trees tree
added_there db schema tree is there = ap (λ b. if b then db.trees tree else []) (ap (λ (s : Schema). has_added s tree) is ∙ there)

-- and where it isn't, there are none
pub added_none : (db : Database) (schema : Schema) (tree : ℕ) → db.schema ≡ schema → has_added schema tree ≡ false → added_in db tree ≡ []
added_none db schema tree is none = ap (λ b. if b then db.trees tree else []) (ap (λ (s : Schema). has_added s tree) is ∙ none)

-- Of such a table: it is in both and has its rows, or in neither, or it came with none.
abbrev pub AddedStays : Database → Database → ℕ → Type 0
AddedStays db after tree = added_in after tree ≡ added_in db tree

stays_there : (db after : Database) (a c : Schema) (tree : ℕ) → db.schema ≡ a → after.schema ≡ c → has_added a tree ≡ true → has_added c tree ≡ true → after.trees tree ≡ db.trees tree → AddedStays db after tree
stays_there db after a c tree was is there still same = added_there after c tree is still ∙ same ∙ sym (added_there db a tree was there)

stays_none : (db after : Database) (a c : Schema) (tree : ℕ) → db.schema ≡ a → after.schema ≡ c → has_added a tree ≡ false → has_added c tree ≡ false → AddedStays db after tree
stays_none db after a c tree was is none still = added_none after c tree is still ∙ sym (added_none db a tree was none)

came : (db after : Database) (a c : Schema) (tree : ℕ) → db.schema ≡ a → after.schema ≡ c → has_added a tree ≡ false → has_added c tree ≡ true → after.trees tree ≡ [] → AddedStays db after tree
came db after a c tree was is none there empty = added_there after c tree is there ∙ empty ∙ sym (added_none db a tree was none)

abbrev Same : Database → Database → Table → Type 0
Same db after t = after.trees t.tree ≡ db.trees t.tree

-- of the first version, which stays
pub renews_first : (db after : Database) (a c : Schema) → has_floors a ≡ false → has_times a ≡ false → has_floors c ≡ false → has_times c ≡ false → db.schema ≡ a → after.schema ≡ c → KeepsRows first_list db.trees after.trees → Renews db after
renews_first db after a c no_floors no_times still_none none was is rows = record {
  rows = rows;
  added = (stays_none db after a c floors_tree was is no_floors still_none, (stays_none db after a c times_tree was is no_times none, tt));
}

-- of the second
pub renews_second : (db after : Database) (a c : Schema) → has_floors a ≡ true → has_times a ≡ false → has_floors c ≡ true → has_times c ≡ false → db.schema ≡ a → after.schema ≡ c → KeepsRows both_list db.trees after.trees → Renews db after
renews_second db after a c floors no_times still none was is rows = record {
  rows = all_front (Same db after) first_list second_list rows;
  added = (stays_there db after a c floors_tree was is floors still (all_behind (Same db after) first_list second_list rows).0, (stays_none db after a c times_tree was is no_times none, tt));
}

-- of the third
pub renews_core : (db after : Database) (a c : Schema) → has_floors a ≡ true → has_times a ≡ true → has_floors c ≡ true → has_times c ≡ true → db.schema ≡ a → after.schema ≡ c → KeepsRows core_list db.trees after.trees → Renews db after
renews_core db after a c floors times still_floors still_times was is rows =
    let there = all_behind (Same db after) first_list added_list rows in
    record {
      rows = all_front (Same db after) first_list added_list rows;
      added = (stays_there db after a c floors_tree was is floors still_floors there.0, (stays_there db after a c times_tree was is times still_times there.1.0, tt));
    }

-- of the first, to which floors come, with no rows
pub renews_raised : (db after : Database) → db.schema ≡ first_bare → after.schema ≡ second_bare → KeepsRows first_list db.trees after.trees → after.trees floors_tree ≡ [] → Renews db after
renews_raised db after was is rows none = record {
  rows = rows;
  added = (came db after first_bare second_bare floors_tree was is refl refl none, (stays_none db after first_bare second_bare times_tree was is refl refl, tt));
}

-- of the second, to which times come, with no rows
pub renews_timed : (db after : Database) → db.schema ≡ second_bare → after.schema ≡ bare_tables → KeepsRows both_list db.trees after.trees → after.trees times_tree ≡ [] → Renews db after
renews_timed db after was is rows none = record {
  rows = all_front (Same db after) first_list second_list rows;
  added = (
    stays_there db after second_bare bare_tables floors_tree was is refl refl (all_behind (Same db after) first_list second_list rows).0,
    (came db after second_bare bare_tables times_tree was is refl refl none, tt),
  );
}

-- and then again
pub renews_then : (a b c : Database) → Renews a b → Renews b c → Renews a c
renews_then a b c first next = record {
  rows = kept_rows first_list a.trees b.trees c.trees first.rows next.rows;
  added = kept_rows added_list (added_in a) (added_in b) (added_in c) first.added next.added;
}

-- ---- tables with no rows

-- the row of meta of an empty store is stored as it is
stored_meta : cast_row schema.meta (meta_row empty_queue) ≡ meta_row empty_queue
stored_meta = same_row (cast_int (pos 1)) (same_row cast_null (same_row (cast_int (pos 0)) (same_row (cast_int (pos 1)) (same_row (cast_int (pos 1)) (same_row (cast_int (pos 3)) refl)))))

-- the one row of meta makes the empty store of empty tables
pub filled : (old new : State) (count : ℕ) → Executes INSERT_META.now [] old new (Ok count) → HasEmptyTables our_tables old → GoesOn old new × TablesMean new.now empty_queue empty_ledger
filled old new count h was =
    let ran = runs_as INSERT_META.now [] old new our_tables was.schema_is _ insert_meta.is insert_meta.plain count h in
    let done = inserts our_tables unreferred schema.meta.name meta_tree schema.meta.columns schema.meta.key schema.meta.primary schema.meta.uniques schema.meta.orders schema.meta.checks 5 refl old new was.schema_is [] _ count
    _ 6 (meta_row empty_queue) (meta_row empty_queue) refl (ap (with_rowid Chosen (old.now.trees meta_tree)) stored_meta) ran in
    let empty = λ (name : Name). at_tree (λ tree. old.now.trees tree ≡ []) our_tables.tables (tree_of name) (is_ours name)
    (subst (λ (s : Schema). AllByRecursion (λ t. old.now.trees t.tree ≡ []) s.tables) was.schema_is was.empty) in (
      inside_shown old new _ was.inside done.keeps.shown,
      founded old.now new.now done.keeps.schema_is done.keeps.sound (done.rows ∙ ap (put_row (meta_row empty_queue)) (empty meta)) empty (rows_kept old new meta_tree done.keeps),
    )

-- a database with no tables has none with rows
pub none_at_first : (s : State) → IsTrue s.is_open → IsTrue s.in_transaction → s.now.schema ≡ no_tables → HasEmptyTables no_tables s
none_at_first s is_open inside none =
    record { is_open = is_open; inside = inside; schema_is = none; empty = subst (λ (a : Schema). AllByRecursion (λ t. s.now.trees t.tree ≡ []) a.tables) (sym none) tt }
