use Rattle.std.proofs.Common.{Ok, Err}
use Rattle.fax_tables.proofs.AlterLemmas.{alters_done, alters_refused}
use Rattle.fax_tables.proofs.MakingLemmas.{calls_made}
use Rattle.fax_tables.proofs.schema.create_calls.Goals as goal

pub returns-in_err-execute : goal.returns-in_err-execute
returns-in_err-execute g c =
    alters_refused g.S.Store _ _ _ _ _ _ _ c.in_err-execute.field-0.0 c.from_residual.result c.from_residual.ensures.0 (λ was. was)
    (calls_made g.S.Store c.args.conn.now c.execute.new.self (Err c.in_err-execute.field-0.0) c.execute.ensures.survives c.in_err-execute.ensures.runs)

pub returns : goal.returns
returns g c = alters_done g.S.Store _ _ _ _ _ _ _ _ (calls_made g.S.Store c.args.conn.now c.execute.new.self (Ok c.in_ok-execute.field-0) c.execute.ensures.survives c.in_ok-execute.ensures.runs)
