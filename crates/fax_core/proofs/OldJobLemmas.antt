-- The record that is made of a job that is brought in.
use Rattle.std.proofs.Common.{◌≡◌, Bool, true, false, cond, refl, sym, ap, ◌∙◌}
use Rattle.std.specs.Prelude.{Some, None, Ok, Err}
use Rattle.fax_job.specs.declared.job.JobFields.{JobFields}
use Rattle.fax_job.specs.declared.refusal.Refusal.TheVariants.{Unavailable}
use Rattle.fax_job.specs.Job.{is_lawful}
use Rattle.fax_core.specs.Job.{Job, job_of}
use Rattle.fax_core.specs.Submission.{recorded}
use Rattle.fax_core.proofs.FitsLemmas.{record_again}
use Rattle.fax_core.proofs.NewJobLemmas.{made}

-- a job of a record is recorded just where the record is lawful
recorded_again : (f : JobFields) → recorded (Ok (job_of f)) ≡ cond (is_lawful f) (Ok (job_of f)) (Err Unavailable)
recorded_again f = ap (λ (g : JobFields). cond (is_lawful g) (Ok (job_of f)) (Err Unavailable)) (record_again f)

-- the job that is made of the record of a job is that job, where a lawful record holds it
pub made_of : (j : Job) (f g : JobFields) → job_of f ≡ j → cond (is_lawful f) (Some f) None ≡ Some g → Ok (job_of g) ≡ recorded (Ok j)
made_of j f g same e = made (job_of f) f g (is_lawful f) refl e ∙ sym (recorded_again f) ∙ ap (λ (k : Job). recorded (Ok k)) same

-- where no record is made, a choice by its lawfulness is the other
not_made : {A : Type 0} (lawful : Bool) (f : JobFields) (x y : A) → cond lawful (Some f) None ≡ None → cond lawful x y ≡ y
not_made true f x y e = cc
not_made false f x y e = refl

-- where none is made, no lawful record holds it
pub unmade : (j : Job) (f : JobFields) → job_of f ≡ j → cond (is_lawful f) (Some f) None ≡ None → Err Unavailable ≡ recorded (Ok j)
unmade j f same e = sym (recorded_again f ∙ not_made (is_lawful f) f (Ok (job_of f)) (Err Unavailable) e) ∙ ap (λ (k : Job). recorded (Ok k)) same
