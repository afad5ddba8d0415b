use Rattle.std.proofs.Common.{inl, refl}
use Rattle.fax_journal.specs.Calls.{shown}
use Rattle.fax_client.specs.Saved.{HasWorker, IsBetween, IsKept}
use Rattle.fax_client.proofs.SavedLemmas.{fails, unwritten}
use Rattle.fax_client.proofs.WorkingLemmas.{begun}
use Rattle.fax_client.proofs.working.begin.Goals as goal

pub returns-then-is_some : goal.returns-then-is_some
returns-then-is_some g c kept first is = (c.args.worker, inl refl, unwritten (HasWorker kept c.args.worker) _ _ is)

pub returns-in_default : goal.returns-in_default
returns-in_default g c kept first is = (c.args.worker, inl refl, unwritten (HasWorker kept c.args.worker) _ _ is)

pub returns-in_err-begin : goal.returns-in_err-begin
returns-in_err-begin g c kept first is =
    fails _ _ c.from_residual.result c.from_residual.ensures.0 (c.args.worker, inl refl, unwritten (HasWorker kept c.args.worker) _ _ is)

pub returns : goal.returns
returns g c kept first is =
    begun c.save.result _ (λ w. IsKept (HasWorker kept w) (shown g.S.Store first) (shown g.S.Store c.save.new.journal))
    (λ w. IsBetween (HasWorker kept c.args.worker) (HasWorker kept w) (shown g.S.Store first) (shown g.S.Store c.save.new.journal))
    c.save.ensures.same (c.save.ensures.saves kept c.args.worker first is)
    c.args.worker c.args.action c.in-Some.number c.in_ok-begin.ensures.begun
