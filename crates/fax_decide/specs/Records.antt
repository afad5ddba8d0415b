-- Jobs by the numbers that requests name, and changes of them.
use Rattle.fax_core.specs.Change.{changed}
use Rattle.fax_core.specs.Job.{Job, job_of}
use Rattle.fax_core.specs.Laws.{HasRecord}
use Rattle.fax_core.specs.Queue.{Queue}
use Rattle.fax_core.specs.declared.change.Change.{Change}
use Rattle.fax_job.specs.declared.job.JobFields.{JobFields}
use Rattle.fax_store.specs.Job.{with_its_lines}

-- the job of a record that may lack its extra lines, with those that it has in the queue
abbrev pub job_in : Queue → JobFields → Job
job_in m f = with_its_lines m (job_of f)

-- a lawful record holds the changed job where one held the job, as after each change that is decided of it
abbrev pub KeepsRecord : Change → JobFields → Type 0
KeepsRecord change job = HasRecord (job_of job) → HasRecord (changed change (job_of job))
