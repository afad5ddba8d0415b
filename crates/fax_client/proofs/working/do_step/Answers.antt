use Rattle.std.proofs.Common.{inl, inr, sym, ◌∙◌}
use Rattle.fax_client.specs.Working.{workers}
use Rattle.fax_client.proofs.CourseLemmas.{further, none_more}
use Rattle.fax_client.proofs.WorkingLemmas.{began, begun_asks, not_begun, says, shows_answer}
use Rattle.fax_client.proofs.working.do_step.Goals as goal

pub returns-in_err-worker : goal.returns-in_err-worker
returns-in_err-worker g c kept first events at =
    let b = c.in_err-worker.ensures kept first.journal at.saved in
    inr (c.from_residual.ensures.0, not_begun g.S.Store g.L.Line.carries g.L.Line.pauses kept first events _ c.args.worker b.0 _ _ _ at b.1 b.2)

pub returns-in_err-worker-2 : goal.returns-in_err-worker-2
returns-in_err-worker-2 g c kept first events at =
    let b = c.in_ok-worker.ensures kept first.journal at.saved in
    let begun = began g.S.Store g.L.Line.carries g.L.Line.pauses kept first events events _ c.args.worker _ _ _ _ b.0 (none_more events, at) b.1 b.2 in
    inr (c.from_residual-in_err-worker-2.ensures.0, c.in_err-worker-2.ensures kept first _ begun.1)

pub returns : goal.returns
returns g c kept first events at =
    let b = c.in_ok-worker.ensures kept first.journal at.saved in
    let begun = began g.S.Store g.L.Line.carries g.L.Line.pauses kept first events events _ c.args.worker _ _ _ _ b.0 (none_more events, at) b.1 b.2 in
    let settled = c.in_ok-worker-2.ensures kept first _ begun.1 in
    let asked = begun_asks c.args.step c.in-Some.action c.args.worker c.in_ok-worker.worker b.0 (sym c.in-Some.is ∙ c.action.ensures) b.1 in
    inl (
      settled.0,
      c.in_ok-worker-2.worker,
      further g.S.Store g.L.Line.carries g.L.Line.pauses (workers kept) first events _ settled.0 _ _ _ _ _ _ begun settled.1,
      says c.args.step settled.0 _ c.shown.result c.requires (inl (shows_answer c.args.step settled.0 _ c.shown.result c.in_ok-worker.worker.unanswered asked.0 c.in_ok-worker-2.conclusion c.is_next-is_next.result asked.1 asked.2 settled.2 settled.3 c.is_next-is_next.ensures c.shown.ensures)),
    )
