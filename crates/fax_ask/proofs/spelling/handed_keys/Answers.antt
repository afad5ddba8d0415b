use Rattle.std.proofs.Common.{◌∙◌}
use Rattle.std.proofs.lemmas.Result.{IfOk-weaker}
use Rattle.fax_ask.specs.Answer.{grant_told}
use Rattle.fax_ask.proofs.SpellingLemmas.{handed_is}
use Rattle.fax_ask.proofs.spelling.handed_keys.Goals as goal

pub returns : goal.returns
returns c =
    IfOk-weaker c.format.result _ _ (λ s h. h ∙ handed_is (grant_told c.args.handed.now) _ c.in_ok-number.ensures) c.format.ensures.ok
