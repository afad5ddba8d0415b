use Rattle.std.proofs.Common.{rules, ◌≡◌, ◌<◌, Some, None}
use Rattle.fax_worker.proofs.ActingLemmas.{begun}
use Rattle.fax_worker.specs.Acting.{request_of}
use Rattle.fax_worker.proofs.worker.Worker.begin.Goals as goal

pub returns-clause-begun : goal.returns-clause-begun
returns-clause-begun c =
    let answered : c.self.inside.unanswered ≡ None = search rules in
    let new : c.self.inside.last < c.args.number = search rules in
    let ask : request_of c.args.action c.self.inside.last c.self.inside.held ≡ Some c.in-Some.ask = search rules in
    rw (← c.self.view_is, c.of.ensures) (begun _ c.args.action c.args.number c.in-Some.ask answered new ask)
