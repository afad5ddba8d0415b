use Rattle.std.proofs.Common.{◌≡◌, refl, ap, ◌∙◌, append_assoc, arith}
use Rattle.std.specs.Prelude.{codes}
use Rattle.std.specs.Str.{IsUtf8}
use Rattle.fax_job.specs.declared.job.JobFields.{JobFields}
use Rattle.fax_job.specs.JobLines.{job_lines}
use Rattle.fax_job.proofs.JobLemmas.{unknown_of_lawful, ArePairs-job_lines}
use Rattle.fax_job.proofs.PairLemmas.{pair_of_number, pair_of_state}
use Rattle.fax_job.proofs.job.Job.lines_at.Goals as goal

pub from_text-requires : goal.from_text-requires
from_text-requires c =
    let job = c.self.inside.fields in
    let lines : c.push_copies.new.text ≡ job_lines job c.args.state = rw (c.in_ok-push_copies.ensures, c.in_ok-push.ensures.ok, c.in_ok-push_number.ensures.pushed, c.in_ok-push_counters.ensures.pushed, c.in_ok-push_order.ensures.pushed, c.new-lines.ensures, c.text.ensures.text, c.as_text.ensures.lines, c.from.ensures) (simp append_assoc) in
    let utf8 : IsUtf8 job.status = rw c.text.ensures.text at c.push.ensures.utf8 in
    let state = pair_of_number (codes "state") c.args.state refl refl refl (omega (arith, c.push_number.ensures.bound, c.from.ensures)) in
    rw lines (ArePairs-job_lines job c.args.state c.in_ok-push_order.ensures.formed c.in_ok-push_counters.ensures.formed state (pair_of_state job.status c.text.ensures.formed utf8) c.as_text.ensures.lawful (unknown_of_lawful job c.self.invariant))

pub returns : goal.returns
returns c =
    let job = c.self.inside.fields in
    let lines : c.push_copies.new.text ≡ job_lines job c.args.state = rw (c.in_ok-push_copies.ensures, c.in_ok-push.ensures.ok, c.in_ok-push_number.ensures.pushed, c.in_ok-push_counters.ensures.pushed, c.in_ok-push_order.ensures.pushed, c.new-lines.ensures, c.text.ensures.text, c.as_text.ensures.lines, c.from.ensures) (simp append_assoc) in
    c.from_text.ensures ∙ lines ∙ ap (λ (j : JobFields). job_lines j c.args.state) c.self.view_is
