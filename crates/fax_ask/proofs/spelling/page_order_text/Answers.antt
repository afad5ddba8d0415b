use Rattle.std.proofs.Common.{◌∙◌}
use Rattle.std.proofs.lemmas.Result.{IfOk-weaker}
use mathlib.Core.List.{append_assoc}
use Rattle.fax_ask.proofs.spelling.page_order_text.Goals as goal

pub returns : goal.returns
returns c = IfOk-weaker c.format.result _ _ (λ s h. h ∙ simp (append_assoc, c.number-no.ensures, c.word-word.ensures)) c.format.ensures.ok
