use Rattle.std.proofs.Common.{◌∙◌}
use Rattle.std.proofs.lemmas.Result.{IfOk-weaker}
use mathlib.Core.List.{append_assoc}
use Rattle.fax_client.proofs.message.post_head.Goals as goal

pub returns : goal.returns
returns c =
    IfOk-weaker c.format.result _ _ (λ s h. h ∙ simp (append_assoc, c.get-number.ensures.number)) c.format.ensures.ok
