use Rattle.std.proofs.Common.{◌∙◌, ap, sym}
use Rattle.fax_core.specs.Job.{job_of}
use Rattle.fax_core.proofs.NewJobLemmas.{new_again}
use Rattle.fax_core.proofs.OldJobLemmas.{made_of, unmade}
use Rattle.fax_core.proofs.submission.new_job.Goals as goal

pub returns-in-Some : goal.returns-in-Some
returns-in-Some c = made_of _ _ _ (ap job_of c.new_fields.ensures ∙ new_again c.args.order c.args.job c.args.t) (sym c.new.ensures ∙ c.in-Some.is)

pub returns-in-None : goal.returns-in-None
returns-in-None c = unmade _ _ (ap job_of c.new_fields.ensures ∙ new_again c.args.order c.args.job c.args.t) (sym c.new.ensures ∙ c.in-None.is)
