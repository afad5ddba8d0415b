use Rattle.std.proofs.Common.{sym, ap, subst, option_map, ◌∙◌}
use Rattle.fax_core.specs.Ageing.{aged}
use Rattle.fax_core.specs.Queue.{job_numbered}
use Rattle.fax_tables.specs.Tables.{IsLawfulGrant}
use Rattle.fax_decide.specs.Decision.{Decides}
use Rattle.fax_decide.specs.Fault.{OrNoAnswer, fault_of}
use Rattle.fax_decide.specs.Records.{job_in}
use Rattle.fax_decide.specs.Settings.{settings_of}
use Rattle.fax_decide.proofs.FaultLemmas.{always_answered}
use Rattle.fax_decide.proofs.KeptLemmas.{job_there}
use Rattle.fax_decide.proofs.LookingLemmas.{both, gives, goes_on, stops}
use Rattle.fax_decide.proofs.RecordLemmas.{holds_found}
use Rattle.fax_decide.proofs.ReportLemmas.{are_there, on_grant_is}
use Rattle.fax_decide.proofs.reports.decide_report.Goals as goal

pub returns-in-Some-2 : goal.returns-in-Some-2
returns-in-Some-2 g c = gives (both (both c.in_ok-grant.ensures.consults c.in_ok-job.ensures.consults) c.report_on.ensures.consults) (λ m k at calls sound.
    let s = settings_of c.args.office.now.setup c.args.office.now.controls in
    let grant = sym calls.0.0 ∙ c.in-Some.is in
    let job = ap (λ n. job_numbered n (aged c.args.t m)) (sym c.from.ensures) ∙ sym calls.0.1 ∙ ap (option_map (job_in (aged c.args.t m))) c.in-Some-2.is in
    let few = (holds_found IsLawfulGrant _ m.grants c.in-Some.grant at.lawful.grants grant).limits.pages in
    subst (λ step. OrNoAnswer c.report_on.result (Decides step m c.args.t))
    (on_grant_is s (aged c.args.t m) c.args.t c.args.number c.args.report c.in-Some.grant _ grant job)
    (calls.1 sound (are_there m c.args.t c.args.number c.in-Some.grant c.in-Some-2.job grant job) (few.0, few.3)))

pub returns-in-None : goal.returns-in-None
returns-in-None g c = goes_on (both c.in_ok-grant.ensures.consults c.in_ok-job.ensures.consults) (λ m k at calls sound.
    let s = settings_of c.args.office.now.setup c.args.office.now.controls in
    let grant = sym calls.0 ∙ c.in-Some.is in
    let job = ap (λ n. job_numbered n (aged c.args.t m)) (sym c.from.ensures) ∙ sym calls.1 ∙ ap (option_map (job_in (aged c.args.t m))) c.in-None.is in
    subst (λ step. OrNoAnswer c.without_job.result (Decides step m c.args.t))
    (on_grant_is s (aged c.args.t m) c.args.t c.args.number c.args.report c.in-Some.grant _ grant job)
    (always_answered c.without_job.result _ (c.without_job.ensures.decided m c.args.t)
    (λ err. job_there m c.args.t c.args.number c.in-Some.grant sound grant (c.without_job.ensures.misfit.0 err) job)))

pub returns-in_err-job : goal.returns-in_err-job
returns-in_err-job g c = stops c.from_residual-in_err-job.ensures.1 (both c.in_ok-grant.ensures.consults c.in_err-job.ensures.consults)
    (λ m out why sound. out _ (ap fault_of why.1))
