use Rattle.std.proofs.Common.{◌∙◌}
use Rattle.std.proofs.lemmas.Result.{IfOk-weaker}
use mathlib.Core.List.{append_assoc}
use Rattle.fax_client.proofs.shown.held_line.Goals as goal

pub returns : goal.returns
returns c =
    IfOk-weaker c.format.result _ _
    (λ s h. h ∙ simp (append_assoc, c.in-Some.is, c.grant-grant.ensures, c.job-job.ensures, c.number-number.ensures.number, c.next_page-first.ensures, c.last_page-last.ensures, c.call.ensures, c.result_word-call.ensures))
    c.format.ensures.ok
