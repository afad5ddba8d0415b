-- The jobs that are read to list the newest.
use Rattle.std.specs.Prelude.{◌≡◌, ◌⊎◌, ◌≤◌, ℕ, List, length, map}
use Rattle.fax_core.specs.Job.{Job, fields_of}
use Rattle.fax_core.specs.Queue.{Queue}
use Rattle.fax_job.specs.declared.job.JobFields.{JobFields}
use Rattle.fax_store.specs.Job.{jobs_from}
use Rattle.fax_tables.specs.Job.{brief}

-- these jobs, without their extra lines
abbrev pub InBrief : List Job → List JobFields → Type 0
InBrief jobs records = records ≡ map (λ j. brief (fields_of j)) jobs

-- all from some number on, and 200 at least
pub record AreEnough (m : Queue) (records : List JobFields) : Type 0 where
  pub first : ℕ
  pub are : InBrief (jobs_from first m) records
  pub enough : 200 ≤ length records

-- that, or all
abbrev pub HasNewest : Queue → List JobFields → Type 0
HasNewest m records = AreEnough m records ⊎ InBrief m.jobs records
