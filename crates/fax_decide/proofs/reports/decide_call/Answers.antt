use Rattle.std.proofs.Common.{◌≡◌, false, refl, Some, sym, ap, subst, ◌∙◌}
use Rattle.fax_core.specs.Ageing.{aged}
use Rattle.fax_core.specs.Job.{job_of}
use Rattle.fax_core.specs.Machine.{call_reply}
use Rattle.fax_store.specs.Grant.{IsSameGrant}
use Rattle.fax_decide.specs.Decision.{Decides}
use Rattle.fax_decide.specs.Fault.{OrNoAnswer}
use Rattle.fax_decide.specs.Records.{job_in}
use Rattle.fax_decide.proofs.DecisionLemmas.{report_refused}
use Rattle.fax_decide.proofs.LinesLemmas.{both_lined, call_lined}
use Rattle.fax_ask.specs.Detail.{has_detail}
use Rattle.fax_core.proofs.RefusalLemmas.{call_refused}
use Rattle.fax_decide.proofs.ReportLemmas.{reported_on, same_given, was_open}
use Rattle.fax_decide.proofs.KeptLemmas.{call_keeps}
use Rattle.fax_decide.proofs.reports.decide_call.Goals as goal

pub returns-in-Ok-clause-decided : goal.returns-in-Ok-clause-decided
returns-in-Ok-clause-decided c m there few fit =
    reported_on (λ step. OrNoAnswer c.called.result (Decides step m c.args.t)) (aged c.args.t m) (call_reply c.args.t) _ (job_of c.args.job) c.in-Ok.change _ c.with_call.result _ _
    c.with_call.ensures c.in-Ok.ensures (call_lined _ c.args.said (job_of c.args.job) c.args.grant)
    (c.called.ensures m c.args.grant there (subst (IsSameGrant c.args.grant) (sym c.with_call.ensures) (same_given c.args.grant (Some c.args.said) _))
    (cc) (rw c.with_call.ensures few.1) (fit (was_open c.args.grant _ _ c.in-Ok.ensures)).1
    (call_keeps c.args.job c.args.grant _ c.in-Ok.change (fit (was_open c.args.grant _ _ c.in-Ok.ensures)).0 c.args.said c.in-Ok.ensures))

pub returns-in-Err-clause-decided : goal.returns-in-Err-clause-decided
returns-in-Err-clause-decided c m there few fit =
    report_refused (aged c.args.t m) (call_reply c.args.t) (job_in (aged c.args.t m) c.args.job) _ c.in-Err.refusal c.refused.result
    (call_refused (λ e. has_detail e ≡ false) refl refl c.args.said (job_of c.args.job) _ c.in-Err.refusal (sym c.in-Err.ensures)) c.refused.ensures
    (ap (both_lined _) c.in-Err.ensures ∙ call_lined _ c.args.said (job_of c.args.job) c.args.grant)
