-- The times of jobs after a change of the queue.
use Rattle.std.specs.Prelude.{◌&&◌, ◌++◌, ℕ, Bool, false, not, List, drop, length, map, Option, Some, if◌then◌else◌}
use Rattle.fax_core.specs.Job.{Job}
use Rattle.fax_core.specs.Queue.{Queue, job_numbered}
use Rattle.fax_core.specs.Times.{has_ended}
use Rattle.fax_core.specs.declared.times.Times.{Times}

-- a job that wasn't over before the change is over after it
abbrev pub ends : Option Job → Option Job → Bool
ends (Some j) (Some k) = not (has_ended j.phase) && has_ended k.phase
ends _ _ = false

-- the times of a job that ends at t, where this holds of its number
abbrev pub ended_where : ℕ → (ℕ → Bool) → Times → Times
ended_where t p x = if p x.job then record x { ended = t } else x

-- the times of a job after a change at t, by which it may end
abbrev pub end_of : ℕ → Queue → Queue → Times → Times
end_of t before after = ended_where t (λ n. ends (job_numbered n before) (job_numbered n after))

-- those of a job that came in at t, and may be over already
abbrev pub came : ℕ → Job → Times
came t j = record { job = j.number; submitted = t; ended = if has_ended j.phase then t else 0 }

-- the jobs behind those that were there; where jobs leave, none comes
abbrev pub new_jobs : Queue → Queue → List Job
new_jobs before after = drop (length before.jobs) after.jobs

-- the queue after a change at t, with the times of its jobs
abbrev pub stamp : ℕ → Queue → Queue → Queue
stamp t before after = record after { times = map (end_of t before after) after.times ++ map (came t) (new_jobs before after) }
