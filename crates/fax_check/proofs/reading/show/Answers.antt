use Rattle.sqlite.specs.Values.{bound}
use Rattle.fax_check.proofs.TellsLemmas.{shown_tells, unshown_tells}
use Rattle.fax_check.proofs.reading.show.Goals as goal

pub returns-in_err-rows : goal.returns-in_err-rows
returns-in_err-rows g c = unshown_tells _ _ c.args.sql.now (bound c.args.params.now) c.requires c.query_all.ensures.survives c.in_err-rows.field-0.0 c.from_residual.result _ c.in_err-rows.ensures.err c.from_residual.ensures.1

pub returns : goal.returns
returns g c = shown_tells _ _ c.args.sql.now (bound c.args.params.now) c.requires c.query_all.ensures.survives c.in_ok-rows.rows c.in_ok-rows.ensures.ok
