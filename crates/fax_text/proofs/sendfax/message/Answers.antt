use Rattle.std.proofs.Common.{◌∙◌}
use Rattle.std.proofs.lemmas.Result.{IfOk-weaker}
use mathlib.Core.List.{append_assoc}
use Rattle.fax_text.proofs.sendfax.message.Goals as goal

pub returns : goal.returns
returns c =
    IfOk-weaker c.format.result _ _ (λ s h. h ∙ simp (append_assoc, c.as_str-client.ensures.text, c.get-number.ensures.number)) c.format.ensures.ok
