use Rattle.std.proofs.Common.{◌≡◌, ◌+◌, ℕ, length, min, sym, ap, subst, ◌∙◌, arith}
use Rattle.fax_core.specs.Ageing.{aged}
use Rattle.fax_core.specs.Change.{changed}
use Rattle.fax_core.specs.Job.{job_of}
use Rattle.fax_core.specs.Machine.{page_reply}
use Rattle.fax_core.specs.declared.grants.Grant.{Grant}
use Rattle.fax_store.specs.Grant.{IsSameGrant}
use Rattle.fax_decide.specs.Decision.{Decides}
use Rattle.fax_decide.specs.Fault.{OrNoAnswer}
use Rattle.fax_decide.proofs.FaultLemmas.{or_weaker}
use Rattle.fax_decide.proofs.LinesLemmas.{both_lined, page_lined}
use Rattle.fax_decide.proofs.ReportLemmas.{page_refused_is, reported_on, same_given, was_open}
use Rattle.fax_decide.proofs.KeptLemmas.{page_goes, page_keeps}
use Rattle.fax_decide.proofs.reports.decide_page.Goals as goal

pub returns-in-Ok-clause-decided : goal.returns-in-Ok-clause-decided
returns-in-Ok-clause-decided c m there few fit =
    let one : min (c.args.grant.confirmed + 1) 65535 ≡ c.args.grant.confirmed + 1 = let low = few.1 in omega (arith, low) in
    let next : c.with_page.result ≡ record c.args.grant { confirmed = c.args.grant.confirmed + 1 } = c.with_page.ensures ∙ ap (λ (n : ℕ). record c.args.grant { confirmed = n }) one in
    let far = subst (λ (g : Grant). g.first_page + g.confirmed ≡ length (changed c.in-Ok.change (job_of c.args.job)).sent + 1) (sym next)
    (page_goes c.args.said c.args.job c.args.grant c.in-Ok.change (λ is_open. (fit is_open).0) c.in-Ok.ensures) in
    reported_on (λ step. OrNoAnswer c.confirmed.result (Decides step m c.args.t)) (aged c.args.t m) (page_reply c.args.t) _ (job_of c.args.job) c.in-Ok.change _ c.with_page.result _ _
    next c.in-Ok.ensures (page_lined _ c.args.said (job_of c.args.job) c.args.grant)
    (c.confirmed.ensures m c.args.grant there (subst (IsSameGrant c.args.grant) (sym next) (same_given c.args.grant _ (c.args.grant.confirmed + 1)))
    (ap (λ (g : Grant). g.number) next) few.0 far (fit (was_open c.args.grant _ _ c.in-Ok.ensures)).1
    (page_keeps c.args.job c.args.grant _ c.in-Ok.change (fit (was_open c.args.grant _ _ c.in-Ok.ensures)).0 c.args.said c.in-Ok.ensures))

pub returns-in-Err-clause-decided : goal.returns-in-Err-clause-decided
returns-in-Err-clause-decided c m there few fit =
    or_weaker c.page_refused.result _ _ (λ d told. subst (Decides _ m c.args.t) (sym told)
    (page_refused_is (aged c.args.t m) c.args.t _ (job_of c.args.job) _ c.in-Err.refusal
    (ap (both_lined _) c.in-Err.ensures ∙ page_lined _ c.args.said (job_of c.args.job) c.args.grant))) c.page_refused.ensures.reply
