use Rattle.fax_tables.proofs.AlterLemmas.{alters_refused}
use Rattle.fax_tables.proofs.MakingLemmas.{gained, lost, renewed}
use Rattle.fax_tables.proofs.schema.renew_tables.Goals as goal

pub returns-in_err-take_steps : goal.returns-in_err-take_steps
returns-in_err-take_steps g c =
    alters_refused g.S.Store _ _ _ _ _ _ _ c.in_err-take_steps.field-0.0 c.from_residual.result c.from_residual.ensures.0 (λ was. was) (lost g.S.Store c.args.way _ _ _ c.in_err-take_steps.ensures)

pub returns-in_err-take_steps-2 : goal.returns-in_err-take_steps-2
returns-in_err-take_steps-2 g c =
    alters_refused g.S.Store _ _ _ _ _ _ _ c.in_err-take_steps-2.field-0.0 c.from_residual-in_err-take_steps-2.result c.from_residual-in_err-take_steps-2.ensures.0 (λ was. was)
    (gained g.S.Store c.args.way _ _ _ _ c.in_ok-take_steps.ensures c.in_err-take_steps-2.ensures)

pub returns : goal.returns
returns g c = renewed g.S.Store c.args.way _ _ _ _ _ c.in_ok-take_steps.ensures c.in_ok-take_steps-2.ensures c.create_calls.ensures
