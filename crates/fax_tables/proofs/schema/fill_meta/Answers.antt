use Rattle.std.proofs.Common.{ℕ, [], Ok, Err, Result}
use Rattle.sqlite.specs.Held.{Held, state}
use Rattle.sqlite.specs.State.{HasCleanDisk, CommitsBy, Executes, Survives}
use Rattle.sqlite.specs.declared.error.Error.{Error}
use Rattle.sqlite_trees.specs.declared.store.Store.{Ghosts}
use Rattle.fax_schema.specs.declared.statements.TheConstants.{INSERT_META}
use Rattle.fax_schema.specs.Schema.{our_tables}
use Rattle.fax_schema.proofs.StatementTexts.{insert_meta}
use Rattle.fax_core.specs.Ledger.{empty_ledger}
use Rattle.fax_core.specs.Queue.{empty_queue}
use Rattle.fax_tables.specs.Tables.{HasEmptyTables, TablesMean}
use Rattle.fax_tables.proofs.CreateLemmas.{filled}
use Rattle.fax_layout.proofs.StopLemmas.{step_holds_back}
use Rattle.fax_tables.specs.Making.{Alters, Always}
use Rattle.fax_tables.proofs.AlterLemmas.{alters_done, alters_refused, statement}
use Rattle.fax_tables.proofs.schema.fill_meta.Goals as goal

step : {S : Type 0} (g : Ghosts S) (a b : Held S) (r : Result ℕ Error) → Survives (state g a) (state g b) (CommitsBy INSERT_META.now [] (state g a)) → (HasCleanDisk (state g b) → Executes INSERT_META.now [] (state g a) (state g b) r)
    → Alters g (HasEmptyTables our_tables) Always (λ old new. TablesMean new.now empty_queue empty_ledger) a b r
step g a b r survives runs =
    statement g a b INSERT_META.now r (HasEmptyTables our_tables) (λ old new. TablesMean new.now empty_queue empty_ledger)
    (λ n ran was. filled (state g a) (state g b) n ran was)
    (step_holds_back (state g a) (state g b) (HasEmptyTables our_tables) our_tables INSERT_META.now _ insert_meta.is (λ e. e) (λ was. (was.inside, was.schema_is)) survives) survives runs

pub returns-in_err-execute : goal.returns-in_err-execute
returns-in_err-execute g c =
    alters_refused g.S.Store _ _ _ _ _ _ _ c.in_err-execute.field-0.0 c.from_residual.result c.from_residual.ensures.0 (λ was. tt)
    (step g.S.Store c.args.conn.now c.execute.new.self (Err c.in_err-execute.field-0.0) c.execute.ensures.survives c.in_err-execute.ensures.runs)

pub returns : goal.returns
returns g c = alters_done g.S.Store _ _ _ _ _ _ _ _ (step g.S.Store c.args.conn.now c.execute.new.self (Ok c.in_ok-execute.field-0) c.execute.ensures.survives c.in_ok-execute.ensures.runs)
