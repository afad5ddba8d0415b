use Rattle.fax_core.specs.Machine.{with_grant}
use Rattle.fax_core.specs.Ledger.{Ledger}
use Rattle.fax_store.specs.Grant.{IsReport}
use Rattle.fax_store.proofs.FrameLemmas.{calls_by, steps_where}
use Rattle.fax_store.proofs.work.Work.put_report.Goals as goal

pub returns-clause-changes : goal.returns-clause-changes
returns-clause-changes g c =
    rw (c.if-self.false, c.is_err-self.ensures.value)
    (steps_where _ _ (IsReport c.args.grant.now) c.write_report-done.result (with_grant c.args.grant.now) (λ (k : Ledger). k) c.write_report-done.ensures.written)

pub returns-clause-leaves : goal.returns-clause-leaves
returns-clause-leaves g c = calls_by g.S.Store c.if-self.false c.is_err-self.ensures.value c.write_report-done.ensures.leaves
