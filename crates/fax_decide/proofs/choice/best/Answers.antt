use Rattle.std.proofs.Common.{ap, option_map, sym, ◌∙◌, Some}
use Rattle.std.proofs.lemmas.Option.{MatchOption-at_none, MatchOption-at_some, none-some, same_Some}
use Rattle.fax_core.specs.Job.{Job, fields_of, job_of}
use Rattle.fax_core.proofs.FitsLemmas.{job_again}
use Rattle.fax_job.specs.declared.job.JobFields.{JobFields}
use Rattle.fax_decide.specs.Fault.{fault_of}
use Rattle.fax_decide.proofs.ChoiceLemmas.{first_read}
use Rattle.fax_decide.proofs.LookingLemmas.{by_reading, goes_on, no_call, stops}
use Rattle.fax_decide.proofs.choice.best.Goals as goal

pub returns-in_default-clause-found : goal.returns-in_default-clause-found
returns-in_default-clause-found g c = goes_on no_call (λ m k at nothing s t modem sound first.
    MatchOption-at_none _ _ c.in_default.is (first_read s m t modem sound at.lawful.jobs _ first))

pub returns-in-Some-2-clause-found : goal.returns-in-Some-2-clause-found
returns-in-Some-2-clause-found g c = goes_on (by_reading c.in_ok-job.ensures.leaves c.in_ok-job.ensures.answers) (λ m k at found s t modem sound first.
    let it = MatchOption-at_some _ _ c.in-Some.number c.in-Some.is (first_read s m t modem sound at.lawful.jobs _ first) in
    ap (λ (f : JobFields). Some (job_of f)) (same_Some _ _ (sym c.in-Some-2.is ∙ found ∙ ap (option_map fields_of) it.1))
    ∙ ap (λ (j : Job). Some j) (job_again it.0 it.2.pages) ∙ it.3)

pub returns-in-None-clause-found : goal.returns-in-None-clause-found
returns-in-None-clause-found g c = goes_on (by_reading c.in_ok-job.ensures.leaves c.in_ok-job.ensures.answers) (λ m k at found s t modem sound first.
    let it = MatchOption-at_some _ _ c.in-Some.number c.in-Some.is (first_read s m t modem sound at.lawful.jobs _ first) in
    absurd (none-some (fields_of it.0) (sym c.in-None.is ∙ found ∙ ap (option_map fields_of) it.1)))

pub returns-in_err-job-clause-found : goal.returns-in_err-job-clause-found
returns-in_err-job-clause-found g c =
    stops c.from_residual.ensures.1 (by_reading c.in_err-job.ensures.leaves c.in_err-job.ensures.answers)
    (λ m out why s t modem sound first. out _ (ap fault_of why))
