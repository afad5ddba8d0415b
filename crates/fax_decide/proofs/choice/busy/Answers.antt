use Rattle.std.proofs.Common.{◌≡◌, ap, ap₂, subst, ◌∙◌, is_some}
use Rattle.fax_ask.specs.Answer.{grant_told}
use Rattle.fax_ask.specs.Response.{refused_response}
use Rattle.fax_core.specs.Ageing.{aged}
use Rattle.fax_core.specs.Machine.{dial_of, handed, held_by}
use Rattle.fax_core.specs.Queue.{job_numbered}
use Rattle.fax_core.specs.Reply.{HeldGrant}
use Rattle.fax_core.specs.declared.grants.Grant.{Grant}
use Rattle.fax_job.specs.declared.refusal.Refusal.TheVariants.{ModemBusy}
use Rattle.fax_decide.specs.declared.decision.Decision.TheVariants.{Refused}
use Rattle.fax_decide.proofs.LookingLemmas.{goes_on, stops}
use Rattle.fax_decide.proofs.choice.busy.Goals as goal

pub returns-in_err-grant-clause-found : goal.returns-in_err-grant-clause-found
returns-in_err-grant-clause-found g c =
    stops c.from_residual.ensures.1 c.in_err-grant.ensures.found (λ m out held t one sound is same.
    out _ (held t one sound (ap (λ n. held_by n m) c.as_str.ensures.text ∙ is) same))

pub returns-clause-found : goal.returns-clause-found
returns-clause-found g c = goes_on c.in_ok-grant.ensures.found (λ m k at held t one sound is same.
    let it = held t one sound (ap (λ n. held_by n m) c.as_str.ensures.text ∙ is) same in
    let Told = λ (x : Grant). Refused c.in_ok-refused_with.field-0 ≡ Refused (refused_response ModemBusy (HeldGrant (is_some x.call) (handed x (aged t m)))) in
    let dialed = ap (λ (x : Grant). dial_of (job_numbered x.job (aged t m))) it.0 ∙ it.1 in
    subst Told it.0 (ap (λ reply. Refused reply) (c.in_ok-refused_with.ensures.reply
    ∙ ap₂ (λ called held. refused_response ModemBusy (HeldGrant called held)) c.is_some.ensures (c.handed.ensures (aged t m) dialed))))

pub returns-clause-misfit : goal.returns-clause-misfit
returns-clause-misfit g c = (c.is_some.result, grant_told c.handed.result, ap (λ reply. Refused reply) c.in_ok-refused_with.ensures.reply)
