use Rattle.std.proofs.Common.{◌∙◌}
use Rattle.std.proofs.lemmas.Result.{IfOk-weaker}
use Rattle.fax_text.proofs.SendfaxLemmas.{body_is}
use Rattle.fax_text.proofs.sendfax.body.Goals as goal

pub returns : goal.returns
returns c =
    let a = c.args in
    IfOk-weaker c.format.result _ _
    (λ s h. h ∙ body_is a.plan.now a.dial.now a.at a.kill a.tag.now _ _ _ _ _ c.text-number.ensures.text c.in_ok-tts.ensures c.in_ok-killtime.ensures c.in_ok-limits.ensures c.in_ok-jobtag.ensures)
    c.format.ensures.ok
