use Rattle.std.proofs.Common.{refl, sym, ◌∙◌}
use Rattle.fax_core.specs.Machine.{page_reply}
use Rattle.fax_core.proofs.FitsLemmas.{record_again}
use Rattle.fax_decide.proofs.KeptLemmas.{confirmed_within}
use Rattle.fax_decide.specs.declared.effect.Effect.TheVariants.{Reported}
use Rattle.fax_decide.proofs.DecisionLemmas.{taken_or}
use Rattle.fax_decide.proofs.ReportLemmas.{report_taken}
use Rattle.fax_decide.proofs.reports.confirmed.Goals as goal

pub returns : goal.returns
returns c m before there same number begins far goes keeps =
    taken_or (Reported c.in_ok-job.job c.args.grant) _ _ c.answered.result _ c.take.ensures c.answered.ensures (λ r told.
    report_taken m c.args.t c.args.change c.args.job c.in_ok-job.job before c.args.grant (page_reply c.args.t) r there same number
    (confirmed_within before c.args.grant c.args.change c.args.job c.in_ok-job.job c.fields.ensures.lawful c.in_ok-job.ensures.after same begins far)
    c.in_ok-job.ensures.after goes (λ n b. refl)
    (λ n. rw (c.fields.ensures.fields ∙ sym (record_again c.in_ok-job.job), c.stops.ensures) at told))

pub returns-in_err-job : goal.returns-in_err-job
returns-in_err-job c m before there same number begins far goes keeps = absurd (let no = c.in_err-job.ensures.kept keeps in cc)
