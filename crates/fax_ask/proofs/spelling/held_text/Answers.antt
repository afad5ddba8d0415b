use Rattle.std.proofs.Common.{◌∙◌}
use Rattle.std.proofs.lemmas.Result.{IfOk-weaker}
use Rattle.fax_ask.specs.Answer.{grant_told}
use Rattle.fax_ask.proofs.SpellingLemmas.{held_is}
use Rattle.fax_ask.proofs.spelling.held_text.Goals as goal

pub returns : goal.returns
returns c =
    IfOk-weaker c.format.result _ _ (λ s h. h ∙ held_is _ _ _ _ c.args.called (grant_told c.args.handed.now) c.bool_text-called.ensures c.in_ok-keys.ensures ∙ cc (c.number-no.ensures, c.word-word.ensures)) c.format.ensures.ok
