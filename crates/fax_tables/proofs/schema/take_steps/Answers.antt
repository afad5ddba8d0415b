use Rattle.std.proofs.Common.{◌≤◌, length, rules}
use Rattle.fax_tables.proofs.AlterLemmas.{alters_done, alters_refused}
use Rattle.fax_tables.proofs.MakingLemmas.{first_of, nothing_left, way_all, way_none, way_on}
use Rattle.fax_tables.proofs.schema.take_steps.Goals as goal

pub loop-steps-init : goal.loop-steps-init
loop-steps-init g c to = way_none g.S.Store c.args.conn.now c.args.steps.now to

pub returns-in_err-take_step : goal.returns-in_err-take_step
returns-in_err-take_step g c to =
    let steps = c.loop-steps.steps.now in
    let some : 1 ≤ length steps = search rules in
    alters_refused g.S.Store _ _ _ _ _ _ _ c.in_err-take_step.field-0.0 c.from_residual.result c.from_residual.ensures.0 (λ was. was)
    (way_on g.S.Store c.args.steps.now to c.args.conn.now c.loop-steps.conn c.take_step.new.conn _ _ _ _ (first_of steps _ some) (c.loop-steps.invariant to) c.in_err-take_step.ensures)

pub loop-steps-preserved : goal.loop-steps-preserved
loop-steps-preserved g c to =
    let steps = c.loop-steps.steps.now in
    let some : 1 ≤ length steps = search rules in
    alters_done g.S.Store _ _ _ _ _ _ _ _ (way_on g.S.Store c.args.steps.now to c.args.conn.now c.loop-steps.conn c.take_step.new.conn _ _ _ _ (first_of steps _ some) (c.loop-steps.invariant to) c.in_ok-take_step.ensures)

pub returns : goal.returns
returns g c to = way_all g.S.Store c.args.steps.now to c.args.conn.now c.loop-steps.conn _ (nothing_left c.loop-steps.steps.now (search rules)) (c.loop-steps.invariant to)
