use Rattle.std.proofs.Common.{refl, ap, subst, sym, option_map, IfOk, ◌∙◌}
use Rattle.fax_core.specs.Ageing.{aged}
use Rattle.fax_core.specs.Job.{job_of}
use Rattle.fax_core.specs.Machine.{on_job}
use Rattle.fax_core.proofs.DecisionLemmas.{asked_goes}
use Rattle.fax_decide.specs.Decision.{Decides}
use Rattle.fax_decide.specs.Fault.{fault_of}
use Rattle.fax_decide.specs.Records.{job_in}
use Rattle.fax_decide.specs.Settings.{settings_of}
use Rattle.fax_decide.specs.declared.decision.Decision.TheVariants.{Refused}
use Rattle.fax_decide.proofs.DecisionLemmas.{refused_as}
use Rattle.fax_decide.proofs.FaultLemmas.{both_sides}
use Rattle.fax_decide.proofs.JobLemmas.{on_job_is}
use Rattle.fax_decide.proofs.KeptLemmas.{job_keeps}
use Rattle.fax_decide.proofs.LookingLemmas.{both, gives, goes_on, stops}
use Rattle.fax_decide.proofs.RecordLemmas.{found_itself}
use Rattle.fax_decide.proofs.jobs.decide_on_job.Goals as goal

pub returns-in-Ok : goal.returns-in-Ok
returns-in-Ok g c = gives (both c.in_ok-job.ensures.consults c.changed.ensures) (λ m k at both.
    let there = sym both.0 ∙ ap (option_map (job_in (aged c.args.t m))) c.in-Some.is in (
      subst (λ step. IfOk c.changed.result (Decides step m c.args.t))
          (on_job_is (settings_of c.args.office.now.setup c.args.office.now.controls) m c.args.t c.args.ask c.args.number _ c.in-Some.job there c.in-Ok.ensures)
          (both.1.0 (found_itself (aged c.args.t m) c.args.number c.in-Some.job there) (asked_goes c.args.ask c.args.t (job_of c.in-Some.job) _ (sym c.in-Ok.ensures))),
      λ read. both.1.1 (job_keeps c.args.ask c.args.t c.in-Some.job c.in-Ok.change read c.in-Ok.ensures),
    ))

pub returns-in-Err : goal.returns-in-Err
returns-in-Err g c = goes_on c.in_ok-job.ensures.consults (λ m k at found.
    let there = sym found ∙ ap (option_map (job_in (aged c.args.t m))) c.in-Some.is in (
      subst (λ step. Decides step m c.args.t (Refused c.refused-in-Err.result))
          (on_job_is (settings_of c.args.office.now.setup c.args.office.now.controls) m c.args.t c.args.ask c.args.number _ c.in-Some.job there c.in-Err.ensures)
          (refused_as refl c.refused-in-Err.ensures),
      λ read. tt,
    ))

pub returns-in_err-job : goal.returns-in_err-job
returns-in_err-job g c = stops c.from_residual.ensures.1 c.in_err-job.ensures.consults (λ m out found. both_sides c.from_residual.result _ (out _ (ap fault_of found)))

pub returns-in_default : goal.returns-in_default
returns-in_default g c = goes_on c.in_ok-job.ensures.consults (λ m k at found. (
  subst (λ job. Decides (on_job (settings_of c.args.office.now.setup c.args.office.now.controls) (aged c.args.t m) c.args.t c.args.ask job) m c.args.t (Refused c.refused.result))
      (sym (sym found ∙ ap (option_map (job_in (aged c.args.t m))) c.in_default.is)) (refused_as refl c.refused.ensures),
  λ read. tt,
))
