use Rattle.std.proofs.Common.{◌≤◌, length, Ok, Err, rules}
use Rattle.fax_tables.proofs.AlterLemmas.{alters_done, alters_refused}
use Rattle.fax_tables.proofs.MakingLemmas.{along, along_all, along_none, first_and_rest, none_left}
use Rattle.fax_tables.proofs.schema.take_step.Goals as goal

pub loop-texts-init : goal.loop-texts-init
loop-texts-init g c to = along_none g.S.Store c.args.step to c.args.conn.now _ c.texts-texts.ensures

pub returns-in_err-execute : goal.returns-in_err-execute
returns-in_err-execute g c to =
    let texts = c.loop-texts.texts.now in
    let some : 1 ≤ length texts = search rules in
    alters_refused g.S.Store _ _ _ _ _ _ _ c.in_err-execute.field-0.0 c.from_residual.result c.from_residual.ensures.0 (λ was. was)
    (along g.S.Store c.args.step to c.args.conn.now c.loop-texts.conn c.execute.new.self _ _ _ (Err c.in_err-execute.field-0.0) (first_and_rest (λ text. text.now) texts _ some) (c.loop-texts.invariant to)
    c.execute.ensures.survives c.in_err-execute.ensures.runs)

pub loop-texts-preserved : goal.loop-texts-preserved
loop-texts-preserved g c to =
    let texts = c.loop-texts.texts.now in
    let some : 1 ≤ length texts = search rules in
    alters_done g.S.Store _ _ _ _ _ _ _ _
    (along g.S.Store c.args.step to c.args.conn.now c.loop-texts.conn c.execute.new.self _ _ _ (Ok c.in_ok-execute.field-0) (first_and_rest (λ text. text.now) texts _ some) (c.loop-texts.invariant to)
    c.execute.ensures.survives c.in_ok-execute.ensures.runs)

pub returns : goal.returns
returns g c to = along_all g.S.Store c.args.step to c.args.conn.now c.loop-texts.conn _ (none_left (λ text. text.now) c.loop-texts.texts.now (search rules)) (c.loop-texts.invariant to)
