use Rattle.std.proofs.Common.{refl, ℕ, sym, subst}
use Rattle.fax_core.specs.Ageing.{aged}
use Rattle.fax_core.specs.Job.{job_of}
use Rattle.fax_core.specs.Machine.{with_new_job}
use Rattle.fax_core.specs.Reply.{Brought, Taken}
use Rattle.fax_decide.specs.Decision.{IsTaken}
use Rattle.fax_decide.specs.Settings.{settings_of}
use Rattle.fax_decide.specs.declared.effect.Effect.TheVariants.{NewJob}
use Rattle.fax_decide.proofs.KeptLemmas.{job_within}
use Rattle.fax_decide.proofs.LookingLemmas.{takes}
use Rattle.fax_decide.proofs.DecisionLemmas.{taken_or}
use Rattle.fax_decide.proofs.NewJobLemmas.{new_taken, state_new}
use Rattle.fax_decide.proofs.import.brought.Goals as goal

pub returns : goal.returns
returns g c =
    let t = c.args.t in
    let f = c.args.job in
    let effect = NewJob f in
    takes effect c.told-reply.result _ c.take.ensures c.told-reply.ensures.consults
    (λ m told rule sound next. taken_or effect _ _ c.told-reply.result _ c.take.ensures told (λ r told.
    subst (λ (n : ℕ). IsTaken (Taken (with_new_job (job_of f) (aged t m)) (Brought f.job n)) m t effect r)
    (sym (state_new (settings_of c.args.office.now.setup c.args.office.now.controls) m t (job_of f) sound))
    (new_taken m t f _ r sound next (job_within f c.told-reply.ensures.lawful).1 refl told)))
