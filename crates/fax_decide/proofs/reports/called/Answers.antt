use Rattle.std.proofs.Common.{refl}
use Rattle.fax_core.specs.Machine.{call_reply}
use Rattle.fax_decide.specs.declared.effect.Effect.TheVariants.{Reported}
use Rattle.fax_decide.proofs.DecisionLemmas.{taken_or}
use Rattle.fax_decide.proofs.ReportLemmas.{report_taken}
use Rattle.fax_decide.proofs.reports.called.Goals as goal

pub returns : goal.returns
returns c m before there same number few goes keeps =
    taken_or (Reported c.in_ok-job.job c.args.grant) _ _ c.answered.result _ c.take.ensures c.answered.ensures (λ r told.
    report_taken m c.args.t c.args.change c.args.job c.in_ok-job.job before c.args.grant (call_reply c.args.t) r there same number few c.in_ok-job.ensures.after goes (λ n b. refl)
    (λ n. rw c.stops.ensures at told))

pub returns-in_err-job : goal.returns-in_err-job
returns-in_err-job c m before there same number few goes keeps = absurd (let no = c.in_err-job.ensures.kept keeps in cc)
