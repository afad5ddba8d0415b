use Rattle.std.proofs.Common.{ap, inl, inr, option_copied, refl, sym, ◌∙◌}
use Rattle.fax_client.specs.Working.{workers}
use Rattle.fax_client.proofs.CourseLemmas.{further, none_more, stopped}
use Rattle.fax_client.proofs.SavedLemmas.{fails, mapped}
use Rattle.fax_client.proofs.WorkingLemmas.{began, not_begun, not_taken, took}
use Rattle.fax_client.proofs.working.give_up.Goals as goal

pub returns-in_err-worker : goal.returns-in_err-worker
returns-in_err-worker g c kept first before at =
    let b = c.in_err-worker.ensures kept first.journal at.saved in
    fails _ _ c.from_residual.result c.from_residual.ensures.0 (not_begun g.S.Store g.L.Line.carries g.L.Line.pauses kept first before _ c.args.worker b.0 _ _ _ at b.1 b.2)

pub returns-in_default : goal.returns-in_default
returns-in_default g c kept first before at =
    let b = c.in_ok-worker.ensures kept first.journal at.saved in
    (_, began g.S.Store g.L.Line.carries g.L.Line.pauses kept first before before _ c.args.worker _ _ _ _ b.0 (none_more before, at) b.1 b.2, (b.0, inl refl))

pub returns-in-Ok : goal.returns-in-Ok
returns-in-Ok g c kept first before at =
    let b = c.in_ok-worker.ensures kept first.journal at.saved in
    let begun = began g.S.Store g.L.Line.carries g.L.Line.pauses kept first before before _ c.args.worker _ _ _ _ b.0 (none_more before, at) b.1 b.2 in
    let un = sym c.unanswered.ensures ∙ ap option_copied c.in-Some.is in
    let asked = c.in-Ok.ensures kept first _ un begun.1 in
    let all = further g.S.Store g.L.Line.carries g.L.Line.pauses (workers kept) first before _ asked.0 _ _ _ _ _ _ begun asked.1 in
    mapped c.take_answer.result _ _ _ _
    (λ w taken. (_, took g.S.Store g.L.Line.carries g.L.Line.pauses kept first before asked.0 _ c.in_ok-worker.worker w _ _ _ _ _ all asked.2 taken.0 taken.1, (b.0, inr (asked.1.0 _ (inl refl)))))
    (λ taken. not_taken g.S.Store g.L.Line.carries g.L.Line.pauses kept first before asked.0 _ c.in_ok-worker.worker taken.0 _ _ _ _ _ all asked.2 taken.1 taken.2)
    (c.take_answer.ensures kept first.journal _ un all.1.saved)

pub returns-in-Err-Later : goal.returns-in-Err-Later
returns-in-Err-Later g c kept first before at =
    let b = c.in_ok-worker.ensures kept first.journal at.saved in
    let begun = began g.S.Store g.L.Line.carries g.L.Line.pauses kept first before before _ c.args.worker _ _ _ _ b.0 (none_more before, at) b.1 b.2 in
    let un = sym c.unanswered.ensures ∙ ap option_copied c.in-Some.is in
    let asked = c.in-Err-Later.ensures kept first _ un begun.1 in
    (asked.0, further g.S.Store g.L.Line.carries g.L.Line.pauses (workers kept) first before _ asked.0 _ _ _ _ _ _ begun asked.1, (b.0, asked.1.0 _ (inl refl)))

pub returns-in-Err : goal.returns-in-Err
returns-in-Err g c kept first before at =
    let b = c.in_ok-worker.ensures kept first.journal at.saved in
    let begun = began g.S.Store g.L.Line.carries g.L.Line.pauses kept first before before _ c.args.worker _ _ _ _ b.0 (none_more before, at) b.1 b.2 in
    let un = sym c.unanswered.ensures ∙ ap option_copied c.in-Some.is in
    let asked = c.in-Err.ensures kept first _ un begun.1 in
    stopped g.S.Store g.L.Line.carries g.L.Line.pauses (workers kept) first asked.0 _ c.in_ok-worker.worker _ asked.1.1
