use Rattle.std.proofs.Common.{refl}
use Rattle.fax_core.specs.Reply.{Submitted}
use Rattle.fax_decide.proofs.KeptLemmas.{job_within}
use Rattle.fax_decide.proofs.NewJobLemmas.{new_taken}
use Rattle.fax_decide.specs.declared.effect.Effect.TheVariants.{NewJob}
use Rattle.fax_decide.proofs.DecisionLemmas.{taken_or}
use Rattle.fax_decide.proofs.submission.taken.Goals as goal

pub returns : goal.returns
returns c m t rule sound next =
    taken_or (NewJob c.args.job) _ _ c.answered.result _ c.take.ensures c.answered.ensures
    (λ r told. new_taken m t c.args.job (Submitted c.args.job.job) r sound next (job_within c.args.job c.fields.ensures.lawful).1 refl
    (rw c.fields.ensures.fields at told))
