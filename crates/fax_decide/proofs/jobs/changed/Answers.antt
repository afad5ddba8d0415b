use Rattle.std.proofs.Common.{◌≡◌, refl, rules}
use Rattle.fax_decide.specs.Settings.{settings_of}
use Rattle.fax_decide.proofs.FaultLemmas.{if_answered, only_no_answer}
use Rattle.fax_decide.specs.declared.effect.Effect.TheVariants.{ChangedJob}
use Rattle.fax_decide.proofs.DecisionLemmas.{taken_or}
use Rattle.fax_decide.proofs.JobLemmas.{job_taken}
use Rattle.fax_decide.proofs.LookingLemmas.{no_call, stops, takes}
use Rattle.fax_decide.proofs.jobs.changed.Goals as goal

pub returns : goal.returns
returns g c =
    let effect = ChangedJob c.in_ok-job.job in
    takes effect c.stands-reply.result _ c.take.ensures c.stands-reply.ensures (λ m told. (
      λ is goes. if_answered c.take.result _ (taken_or effect _ _ c.stands-reply.result _ c.take.ensures told
          (λ r told. job_taken m c.args.t c.args.change c.args.job c.in_ok-job.job is c.in_ok-job.ensures.after goes
          (settings_of c.args.office.now.setup c.args.office.now.controls) r told)),
      λ keeps. only_no_answer c.take.result (λ d. d ≡ d) (taken_or effect _ (λ d. d ≡ d) c.stands-reply.result _ c.take.ensures told (λ r told. refl)),
    ))

pub returns-in_err-job : goal.returns-in_err-job
returns-in_err-job g c = stops c.from_residual.ensures.1 no_call (λ m out none. (λ is goes. search rules, λ keeps. absurd (let no = c.in_err-job.ensures.kept keeps in cc)))
