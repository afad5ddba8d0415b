use Rattle.std.proofs.Common.{◌∙◌, ap, rules}
use Rattle.fax_ask.specs.Response.{Response}
use Rattle.fax_decide.specs.declared.decision.Decision.TheVariants.{Refused}
use Rattle.fax_decide.proofs.FaultLemmas.{or_weaker}
use Rattle.fax_decide.proofs.ReportLemmas.{order_keys}
use Rattle.fax_decide.proofs.reports.page_refused.Goals as goal

pub returns-then-eq-clause-reply : goal.returns-then-eq-clause-reply
returns-then-eq-clause-reply c =
    or_weaker c.page_order.result _ _ (λ d same. same ∙ ap (λ (reply : Response). Refused reply) (order_keys c.args.job.now c.args.refusal (search rules)))
    c.page_order.ensures
