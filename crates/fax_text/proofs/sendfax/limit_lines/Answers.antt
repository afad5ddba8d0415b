use Rattle.std.proofs.Common.{◌∙◌}
use Rattle.std.specs.Fmt.{decimal}
use Rattle.std.proofs.lemmas.Result.{IfOk-weaker}
use Rattle.fax_text.proofs.SendfaxLemmas.{limits_are}
use Rattle.fax_text.proofs.sendfax.limit_lines.Goals as goal

pub returns : goal.returns
returns c =
    let plan = c.args.plan.now in
    IfOk-weaker c.format.result _ _ (λ s h. h ∙ limits_are (decimal plan.priority) (decimal plan.pages) (decimal plan.tries) (decimal plan.dials)) c.format.ensures.ok
