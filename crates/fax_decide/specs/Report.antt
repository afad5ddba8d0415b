-- A grant and its job, as a report finds them.
use Rattle.std.specs.Prelude.{◌≡◌, ◌≤◌, ℕ, Some}
use Rattle.fax_value.specs.Limits.{most_pages}
use Rattle.fax_job.specs.declared.job.JobFields.{JobFields}
use Rattle.fax_core.specs.Ageing.{aged}
use Rattle.fax_core.specs.Queue.{Queue, job_numbered, grant_numbered}
use Rattle.fax_core.specs.declared.grants.Grant.{Grant}
use Rattle.fax_decide.specs.Records.{job_in}

-- the grant begins at a page, and no more of its pages are confirmed than there may be
abbrev pub ArePagesWithin : Grant → Type 0
ArePagesWithin g = (1 ≤ g.first_page) × (g.confirmed ≤ most_pages)

-- the records of a grant and of its job, as it is at t, which may lack its extra lines
pub record AreThere (m : Queue) (t : ℕ) (job : JobFields) (grant : Grant) : Type 0 where
  pub of_job : grant.job ≡ job.job
  pub job_there : job_numbered job.job (aged t m) ≡ Some (job_in (aged t m) job)
  pub grant_there : grant_numbered grant.number m ≡ Some grant
