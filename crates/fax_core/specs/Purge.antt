-- A purge: jobs that are over leave, each with its times and all its grants.
use Rattle.std.specs.Prelude.{ℕ, ◌==◌, Bool, false, not, ◌&&◌, List, map, filter, take, length, nat_lt, Option, Some, None, if◌then◌else◌}
use Rattle.std.specs.List.{list_any}
use Rattle.fax_job.specs.declared.refusal.Refusal.TheVariants.{PurgeHigh}
use Rattle.fax_core.specs.Job.{Job}
use Rattle.fax_core.specs.Queue.{Queue, times_numbered}
use Rattle.fax_core.specs.Reply.{NoKeys, Purged, Step, Taken, Refused}
use Rattle.fax_core.specs.Times.{has_ended}
use Rattle.fax_core.specs.declared.times.Times.{Times}

-- how many jobs leave at a time
abbrev pub most_purged : ℕ
most_purged = 1000

-- the end, 0 where there is none, is before that moment
abbrev pub ends_before : ℕ → Option Times → Bool
ends_before moment None = false
ends_before moment (Some x) = nat_lt x.ended moment

-- the job is over, and ended before that moment
abbrev pub may_leave : ℕ → Queue → Job → Bool
may_leave moment m j = has_ended j.phase && ends_before moment (times_numbered j.number m)

-- the numbers of the first of them
abbrev pub leaving : ℕ → Queue → List ℕ
leaving moment m = take most_purged (map (λ j. j.number) (filter (may_leave moment m) m.jobs))

-- the number isn't among these
abbrev pub is_none_of : List ℕ → ℕ → Bool
is_none_of numbers n = not (list_any (λ other. other == n) numbers)

-- the queue without the jobs of these numbers
abbrev pub without_jobs : List ℕ → Queue → Queue
without_jobs numbers m = record m {
  jobs = filter (λ j. is_none_of numbers j.number) m.jobs;
  grants = filter (λ g. is_none_of numbers g.job) m.grants;
  times = filter (λ x. is_none_of numbers x.job) m.times;
}

-- purge, before a moment that isn't later than t
abbrev pub purged : Queue → ℕ → ℕ → Step
purged m t before =
    if nat_lt t before then Refused PurgeHigh NoKeys
    else Taken (without_jobs (leaving before m) m) (Purged (length (leaving before m)))
