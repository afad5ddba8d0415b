-- What is made of the jobs of a queue, and which of them wait.
use Rattle.std.specs.Prelude.{◌≡◌, ℕ, Bool, not, List, [], ◌∷◌, ◌++◌, map, filter, nat_le, Option, Some, None, if◌then◌else◌}
use Rattle.std.specs.Ordering.{is_lt}
use Rattle.std.specs.List.{range_with_len}
use Rattle.std.specs.List.Sorted.{IsPermutation, IsSortedBy}
use Rattle.sqlite.specs.Effect.{Database}
use Rattle.sqlite.specs.Order.{Row, column}
use Rattle.sqlite_value.specs.Order.{value_cmp}
use Rattle.fax_core.specs.Job.{Job}
use Rattle.fax_core.specs.Ageing.{aged_job}
use Rattle.fax_core.specs.Best.{better}
use Rattle.fax_core.specs.State.{is_due}
use Rattle.fax_core.specs.Machine.{with_job}
use Rattle.fax_core.specs.Queue.{Queue, job_numbered}
use Rattle.fax_core.specs.Stamp.{stamp}
use Rattle.fax_job.specs.Pair.{Pair}
use Rattle.fax_value.specs.Status.{kill_time_expired}
use Rattle.fax_job.specs.declared.job.JobFields.{JobFields}
use Rattle.fax_job.specs.declared.job.Phase.{Phase}
use Rattle.fax_job.specs.declared.job.Phase.TheVariants.{Failed}
use Rattle.fax_schema.specs.Schema.{jobs_tree}
use Rattle.fax_store.specs.Store.{HasRow}
use Rattle.fax_store.specs.Times.{IsUntimed, is_expired, is_over_as, with_came, with_ends}
use Rattle.fax_tables.specs.Job.{brief_shown, job_shown}
use Rattle.fax_tables.specs.Place.{placed}
use Rattle.fax_tables.specs.Row.{number}

-- the queue with one more job
abbrev pub with_placed : Job → Queue → Queue
with_placed j m = record m { jobs = placed (λ k. k.number) j m.jobs }

-- the queue with one more job, which came in at t
abbrev pub with_one_more_job : ℕ → Job → Queue → Queue
with_one_more_job t j m = with_came t j (with_placed j m)

-- no job has its number, and no times
abbrev pub IsNewJob : Job → Queue → Type 0
IsNewJob j m = (job_numbered j.number m ≡ None) × IsUntimed j m

-- what no change of a job may set
pub record IsSameOrder (j k : Job) : Type 0 where
  pub dial : j.dial ≡ k.dial
  pub totpages : j.totpages ≡ k.totpages

-- the extra lines of a job, if there is one
abbrev pub lines_of : Option Job → List Pair
lines_of None = []
lines_of (Some j) = j.extra

-- the job with the extra lines that the one of its number has in the queue
abbrev pub with_its_lines : Queue → Job → Job
with_its_lines m j = record j { extra = lines_of (job_numbered j.number m) }

-- the queue with the job set, whose extra lines stay as they are there
abbrev pub with_set : Job → Queue → Queue
with_set j m = with_job (with_its_lines m j) m

-- the same, and where the job is over it ends at t
abbrev pub with_change : ℕ → Job → Queue → Queue
with_change t j m = with_ends t (is_over_as j) (with_set j m)

-- the job of that number, where there is one, is of the same order
abbrev pub IsChange : Job → Queue → Type 0
IsChange j m = (k : Job) → job_numbered j.number m ≡ Some k → IsSameOrder k j

-- the queue with the jobs as time leaves them
abbrev pub with_expired : ℕ → Queue → Queue
with_expired t m = stamp t m (record m { jobs = map (aged_job t) m.jobs })

-- the job, failed where it is in this phase and its kill time is past
abbrev pub expired_in : Phase → ℕ → Job → Job
expired_in phase t j = if is_expired phase t (Some j) then record j { phase = Failed; status = kill_time_expired } else j

-- the queue with these jobs failed, and their ends as they are
abbrev pub with_failed_in : Phase → ℕ → Queue → Queue
with_failed_in phase t m = record m { jobs = map (expired_in phase t) m.jobs }

-- the queue with the jobs of this phase as time leaves them
abbrev pub with_expired_in : Phase → ℕ → Queue → Queue
with_expired_in phase t m = with_failed_in phase t (with_ends t (λ n. is_expired phase t (job_numbered n m)) m)

-- the jobs that are due at t, in the order of the choice: none is better than the one before it
pub record AreWaiting (t : ℕ) (m : Queue) (jobs : List Job) : Type 0 where
  pub due : IsPermutation (filter (λ j. is_due j t) m.jobs) jobs
  pub ordered : IsSortedBy better jobs

-- the jobs from this number on
abbrev pub jobs_from : ℕ → Queue → List Job
jobs_from first m = filter (λ j. nat_le first j.number) m.jobs

-- ---- the rows, whatever they say

-- where a row of jobs has what a query for a job in brief shows, in that order
abbrev pub brief_places : List ℕ
brief_places = 0 ∷ range_with_len 2 4 ++ range_with_len 7 14

-- the same of a whole job
abbrev pub job_places : List ℕ
job_places = brief_places ++ 6 ∷ []

-- a row of jobs has this number
abbrev pub HasJobRow : Database → ℕ → Type 0
HasJobRow db n = HasRow db jobs_tree (0 ∷ []) (number n ∷ [])

-- the job is of this number, and stands in a row
abbrev pub JobStands : Database → ℕ → JobFields → Type 0
JobStands db n job = (job.job ≡ n) × HasRow db jobs_tree job_places (job_shown job)

-- the same of a job without its extra lines
abbrev pub BriefStands : Database → ℕ → JobFields → Type 0
BriefStands db n job = (job.job ≡ n) × (job.extra ≡ []) × HasRow db jobs_tree brief_places (brief_shown job)

-- there are as many jobs as rows, and each is in its row, without its extra lines, in any order
abbrev pub AreInRows : List Row → List JobFields → Type 0
AreInRows rows jobs = IsPermutation (map (λ row. map (column row) brief_places) rows) (map brief_shown jobs)

abbrev pub BriefsStand : Database → List JobFields → Type 0
BriefsStand db jobs = AreInRows (db.trees jobs_tree) jobs

-- the row of jobs has this number or a greater one
abbrev pub is_from : ℕ → Row → Bool
is_from first row = not (is_lt (value_cmp (column row 0) (number first)))

-- the same of the rows from this number on
abbrev pub BriefsStandFrom : Database → ℕ → List JobFields → Type 0
BriefsStandFrom db first jobs = AreInRows (filter (is_from first) (db.trees jobs_tree)) jobs
