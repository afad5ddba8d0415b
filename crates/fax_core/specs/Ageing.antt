-- What time alone does to the queue.
use Rattle.std.specs.Prelude.{ℕ, Bool, true, false, ◌&&◌, map, nat_le, Option, Some, None, if◌then◌else◌}
use Rattle.fax_job.specs.declared.job.Phase.{Phase}
use Rattle.fax_job.specs.declared.job.Phase.TheVariants.{Held, Waiting, Failed}
use Rattle.fax_value.specs.Status.{kill_time_expired}
use Rattle.fax_core.specs.declared.ageing.Aging.{Aging}
use Rattle.fax_core.specs.declared.ageing.Aging.TheVariants.{Stays, Expires}
use Rattle.fax_core.specs.Job.{Job}
use Rattle.fax_core.specs.Queue.{Queue}
use Rattle.fax_core.specs.Stamp.{stamp}

-- a kill time from 1 to t
abbrev pub is_past : Option ℕ → ℕ → Bool
is_past None t = false
is_past (Some killtime) t = nat_le 1 killtime && nat_le killtime t

-- a held or a waiting job fails when its kill time comes; a granted one goes on
abbrev pub expires : Phase → Bool
expires Held = true
expires Waiting = true
expires other = false

-- what time does to a job
abbrev pub aged_job : ℕ → Job → Job
aged_job t j = if expires j.phase && is_past j.killtime t then record j { phase = Failed; status = kill_time_expired } else j

-- the queue at t: what expires ends at t
abbrev pub aged : ℕ → Queue → Queue
aged t m = stamp t m (record m { jobs = map (aged_job t) m.jobs; clock = t })

-- ---- what ageing says of a job

-- the job afterwards
abbrev pub aged_by : Aging → Job → Job
aged_by Stays j = j
aged_by Expires j = record j { phase = Failed; status = kill_time_expired }

-- by phase and kill time: a job that failed before doesn't expire again
abbrev pub aging : Phase → Option ℕ → ℕ → Aging
aging phase killtime t = if expires phase && is_past killtime t then Expires else Stays
