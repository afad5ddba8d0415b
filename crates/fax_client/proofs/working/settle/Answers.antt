use Rattle.fax_client.specs.Working.{workers}
use Rattle.fax_client.proofs.CourseLemmas.{further}
use Rattle.fax_client.proofs.WorkingLemmas.{after_any, concludes_more}
use Rattle.fax_client.proofs.working.settle.Goals as goal

pub returns : goal.returns
returns g c kept first before at =
    let finished = c.in_ok-worker.ensures kept first before at in
    let gave = c.in_ok-give_up.ensures kept first finished.0 finished.1.1 in (
      gave.0,
      further g.S.Store g.L.Line.carries g.L.Line.pauses (workers kept) first before finished.0 gave.0 _ _ _ _ _ _ finished.1 gave.1,
      concludes_more c.args.worker.unanswered finished.0 gave.0 _ gave.1.0 finished.2,
      after_any _ gave.0 gave.2,
    )
