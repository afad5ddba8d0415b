use Rattle.std.proofs.Common.{◌≡◌, false, ℕ, ◌+◌, ◌≤◌, refl, sym, ap, ◌∙◌, arith}
use Rattle.fax_core.specs.Ageing.{aged}
use Rattle.fax_core.specs.Decisions.{outcome}
use Rattle.fax_core.specs.Job.{job_of}
use Rattle.fax_core.specs.Machine.{outcome_reply}
use Rattle.fax_decide.specs.Decision.{Decides}
use Rattle.fax_decide.specs.Records.{job_in}
use Rattle.fax_decide.specs.Settings.{settings_of}
use Rattle.fax_decide.proofs.DecisionLemmas.{report_refused}
use Rattle.fax_decide.proofs.LinesLemmas.{both_lined, outcome_lined}
use Rattle.fax_ask.specs.Detail.{has_detail}
use Rattle.fax_core.proofs.RefusalLemmas.{outcome_refused}
use Rattle.fax_decide.proofs.ReportLemmas.{reported_on, was_open}
use Rattle.fax_decide.specs.Fault.{OrNoAnswer}
use Rattle.fax_decide.proofs.LookingLemmas.{gives, goes_on, no_call}
use Rattle.fax_decide.proofs.KeptLemmas.{fits_there, outcome_keeps}
use Rattle.fax_decide.proofs.reports.decide_outcome.Goals as goal

pub returns-in-Ok-clause-consults : goal.returns-in-Ok-clause-consults
returns-in-Ok-clause-consults g c = gives c.ended.ensures (λ m k at ended sound there.
    let s = settings_of c.args.office.now.setup c.args.office.now.controls in
    let is_open = was_open c.args.grant _ _ c.in-Ok.ensures in
    let late : c.args.t + c.delay-delay.result ≤ 4102531200 = omega (arith, c.seconds-seconds.ensures.seconds, c.seconds-seconds.ensures.bound, c.delay-delay.ensures.bound) in
    let delayed = λ (delay : ℕ). outcome c.args.said (job_in (aged c.args.t m) c.args.job) c.args.grant delay c.args.t in
    let keeps = outcome_keeps c.args.job c.args.grant _ c.in-Ok.change (fits_there m c.args.t c.args.job c.args.grant sound there is_open) c.args.said c.delay-delay.result c.args.t late c.in-Ok.ensures in
    reported_on (λ step. OrNoAnswer c.ended.result (Decides step m c.args.t)) (aged c.args.t m) (outcome_reply s c.args.t) _ (job_of c.args.job) c.in-Ok.change _ _ _ _
    refl c.in-Ok.ensures (outcome_lined _ c.args.said (job_of c.args.job) c.args.grant c.delay-delay.result c.args.t ∙ ap delayed c.delay-delay.ensures.seconds)
    (ended sound there is_open keeps))

pub returns-in-Err-clause-consults : goal.returns-in-Err-clause-consults
returns-in-Err-clause-consults g c = goes_on no_call (λ m k at none sound there.
    report_refused (aged c.args.t m) (outcome_reply (settings_of c.args.office.now.setup c.args.office.now.controls) c.args.t)
    (job_in (aged c.args.t m) c.args.job) _ c.in-Err.refusal c.refused.result
    (outcome_refused (λ e. has_detail e ≡ false) refl refl refl refl refl c.args.said (job_of c.args.job) _ c.delay-delay.result c.args.t c.in-Err.refusal
    (sym c.in-Err.ensures)) c.refused.ensures
    (ap (both_lined _) c.in-Err.ensures ∙ outcome_lined _ c.args.said (job_of c.args.job) c.args.grant c.delay-delay.result c.args.t
    ∙ ap (λ (delay : ℕ). outcome c.args.said (job_in (aged c.args.t m) c.args.job) c.args.grant delay c.args.t) c.delay-delay.ensures.seconds))
