-- What an accepted request changes in the queue at t, beside ageing it and setting the clock.
use Rattle.std.specs.Prelude.{ℕ, ◌+◌, ◌≤◌, Option, Some, None, ⊤}
use Rattle.fax_core.specs.Job.{job_of}
use Rattle.fax_core.specs.Machine.{with_grant, with_mark}
use Rattle.fax_core.specs.Purge.{without_jobs}
use Rattle.fax_core.specs.Queue.{Queue}
use Rattle.fax_value.specs.Limits.{most_pages}
use Rattle.fax_store.specs.Grant.{IsNewGrant, IsReport, with_closed, with_placed}
use Rattle.fax_store.specs.Job.{IsChange, IsNewJob, with_change, with_expired, with_one_more_job, with_set}
use Rattle.fax_store.specs.Meta.{IsGrantLeft, IsJobLeft, with_clock}
use Rattle.fax_store.specs.Purge.{HaveNoCalls}
use Rattle.fax_tables.specs.Grant.{IsOpenGrant}
use Rattle.fax_tables.specs.Tables.{HasJob}
use Rattle.fax_tables.specs.declared.meta.Meta.{Meta}
use Rattle.fax_decide.specs.declared.effect.Effect.{Effect}
use Rattle.fax_decide.specs.declared.effect.Effect.TheVariants.{Nothing, NewJob, ChangedJob, Marked, NewGrant, Reported, Closed, GivenUp, Purged}

-- The queue afterwards, but for the clock and the next numbers. The extra lines of a job that was there stay as they are.
abbrev pub written : ℕ → Effect → Queue → Queue
written t Nothing m = m
written t (NewJob job) m = with_one_more_job t (job_of job) m
written t (ChangedJob job) m = with_change t (job_of job) m
written t (Marked modem down) m = with_mark modem down m
written t (NewGrant job grant) m = with_placed grant (with_change t (job_of job) m)
written t (Reported job grant) m = with_grant grant (with_change t (job_of job) m)
written t (Closed job grant) m = with_closed grant (with_change t (job_of job) m)
written t (GivenUp upto) m = m
written t (Purged jobs) m = without_jobs jobs.items m

-- the clock and the next numbers afterwards
abbrev pub numbered : ℕ → Effect → Meta → Meta
numbered t Nothing meta = record meta { clock = t }
numbered t (NewJob job) meta = record meta { clock = t; next_job = meta.next_job + 1 }
numbered t (ChangedJob job) meta = record meta { clock = t }
numbered t (Marked modem down) meta = record meta { clock = t }
numbered t (NewGrant job grant) meta = record meta { clock = t; next_grant = meta.next_grant + 1 }
numbered t (Reported job grant) meta = record meta { clock = t }
numbered t (Closed job grant) meta = record meta { clock = t }
numbered t (GivenUp upto) meta = record meta { clock = t }
numbered t (Purged jobs) meta = record meta { clock = t }

-- a changed job keeps its order, a grant that was reported on what it was given, and a job that leaves has no open grant
abbrev pub Suits : Effect → Queue → Type 0
Suits Nothing m = ⊤
Suits (NewJob job) m = ⊤
Suits (ChangedJob job) m = IsChange (job_of job) m
Suits (Marked modem down) m = ⊤
Suits (NewGrant job grant) m = IsChange (job_of job) m
Suits (Reported job grant) m = IsChange (job_of job) m × IsReport grant m
Suits (Closed job grant) m = IsChange (job_of job) m
Suits (GivenUp upto) m = ⊤
Suits (Purged jobs) m = HaveNoCalls jobs.items m

-- A new job or grant has a number that none has. Neither the modem nor the job of a new grant holds one, and its job is there.
abbrev pub IsFree : Effect → Queue → Type 0
IsFree Nothing m = ⊤
IsFree (NewJob job) m = IsNewJob (job_of job) m
IsFree (ChangedJob job) m = ⊤
IsFree (Marked modem down) m = ⊤
IsFree (NewGrant job grant) m = IsNewGrant grant m × HasJob (with_set (job_of job) m) grant
IsFree (Reported job grant) m = ⊤
IsFree (Closed job grant) m = ⊤
IsFree (GivenUp upto) m = ⊤
IsFree (Purged jobs) m = ⊤

-- a new grant is open, and no more pages are confirmed than a grant can have
abbrev pub IsWithin : Effect → Type 0
IsWithin Nothing = ⊤
IsWithin (NewJob job) = ⊤
IsWithin (ChangedJob job) = ⊤
IsWithin (Marked modem down) = ⊤
IsWithin (NewGrant job grant) = IsOpenGrant grant
IsWithin (Reported job grant) = grant.confirmed ≤ most_pages
IsWithin (Closed job grant) = ⊤
IsWithin (GivenUp upto) = ⊤
IsWithin (Purged jobs) = ⊤

-- the next number is left, where it is taken
abbrev pub IsNumberLeft : Effect → Queue → Type 0
IsNumberLeft (NewJob job) m = IsJobLeft m
IsNumberLeft (NewGrant job grant) m = IsGrantLeft m
IsNumberLeft effect m = ⊤

-- through which number the client gives up its replies, if it does
abbrev pub given_in : Effect → Option ℕ
given_in (GivenUp upto) = Some upto
given_in effect = None

-- The tables take the change: it suits the queue, no key of what is new is taken, and all is within its limits.
pub record IsWritable (effect : Effect) (m : Queue) : Type 0 where
  pub suits : Suits effect m
  pub free : IsFree effect m
  pub within : IsWithin effect

-- the next number is one greater where it was taken
abbrev pub with_next : Effect → Queue → Queue
with_next (NewJob job) m = record m { next_job = m.next_job + 1 }
with_next (NewGrant job grant) m = record m { next_grant = m.next_grant + 1 }
with_next effect m = m

-- the queue is aged, the change is made, and the clock and the next numbers are set
abbrev pub accepted : ℕ → Effect → Queue → Queue
accepted t effect m = with_clock t (with_next effect (written t effect (with_expired t m)))
