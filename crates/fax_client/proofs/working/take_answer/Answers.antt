use Rattle.fax_journal.specs.Calls.{shown}
use Rattle.fax_worker.specs.Answer.{answer_of}
use Rattle.fax_worker.specs.Worker.{IsAnswered}
use Rattle.fax_client.specs.Saved.{HasWorker, IsBetween, IsKept}
use Rattle.fax_client.proofs.WorkingLemmas.{moved}
use Rattle.fax_client.proofs.working.take_answer.Goals as goal

pub returns : goal.returns
returns g c kept first p unanswered is =
    moved c.save.result _ (λ w. IsKept (HasWorker kept w) (shown g.S.Store first) (shown g.S.Store c.save.new.journal))
    (λ w. IsBetween (HasWorker kept c.args.worker) (HasWorker kept w) (shown g.S.Store first) (shown g.S.Store c.save.new.journal))
    c.save.ensures.same (c.save.ensures.saves kept c.args.worker first is)
    (λ w. IsAnswered c.args.worker p.number p.ask (answer_of c.args.answer) c.args.look w) (c.answered.ensures.answered p unanswered)
