use Rattle.std.proofs.Common.{ap, option_copied, sym, ◌∙◌}
use Rattle.fax_client.specs.Working.{workers}
use Rattle.fax_client.proofs.CourseLemmas.{stopped}
use Rattle.fax_client.proofs.SavedLemmas.{fails}
use Rattle.fax_client.proofs.WorkingLemmas.{concludes_taken, not_taken, took}
use Rattle.fax_client.proofs.working.finish.Goals as goal

pub returns-in_err-answer : goal.returns-in_err-answer
returns-in_err-answer g c kept first before at =
    let un = sym c.unanswered.ensures ∙ ap option_copied c.in-Some.is in
    let asked = c.in_err-answer.ensures kept first before un at in
    fails _ _ c.from_residual.result c.from_residual.ensures.0 (stopped g.S.Store g.L.Line.carries g.L.Line.pauses (workers kept) first asked.0 _ c.args.worker _ asked.1.1)

pub returns-in_err-take_answer : goal.returns-in_err-take_answer
returns-in_err-take_answer g c kept first before at =
    let un = sym c.unanswered.ensures ∙ ap option_copied c.in-Some.is in
    let asked = c.in_ok-answer.ensures kept first before un at in
    let taken = c.in_err-take_answer.ensures kept first.journal _ un asked.1.1.saved in
    fails _ _ c.from_residual-in_err-take_answer.result c.from_residual-in_err-take_answer.ensures.0
    (not_taken g.S.Store g.L.Line.carries g.L.Line.pauses kept first before asked.0 _ c.args.worker taken.0 _ _ _ _ _ asked.1 asked.2 taken.1 taken.2)

pub returns : goal.returns
returns g c kept first before at =
    let un = sym c.unanswered.ensures ∙ ap option_copied c.in-Some.is in
    let asked = c.in_ok-answer.ensures kept first before un at in
    let taken = c.in_ok-take_answer.ensures kept first.journal _ un asked.1.1.saved in (
      _,
      took g.S.Store g.L.Line.carries g.L.Line.pauses kept first before asked.0 _ c.args.worker _ _ _ _ _ _ asked.1 asked.2 taken.0 taken.1,
      concludes_taken c.args.worker.unanswered _ asked.0 _ _ c.conclusion_of-conclusion.result un c.conclusion_of-conclusion.ensures,
    )
