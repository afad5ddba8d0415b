-- How a queue loses jobs, each with its times and all its grants.
use Rattle.std.specs.Prelude.{◌≡◌, ℕ, ◌==◌, ◌≤◌, ◌&&◌, Bool, not, true, false, List, filter, map, take, nat_le, nat_lt, Option, Some, None, slice_get, unwrap_or}
use Rattle.sqlite_rules.specs.Lists.{Has}
use Rattle.fax_core.specs.Job.{Job}
use Rattle.fax_core.specs.Purge.{is_none_of, most_purged}
use Rattle.fax_core.specs.Queue.{Queue, open_grants, times_numbered}
use Rattle.fax_core.specs.Times.{has_ended}
use Rattle.fax_core.specs.declared.grants.Grant.{Grant}
use Rattle.fax_core.specs.declared.times.Times.{Times}

-- the end, 0 where there is none, is not before the one moment, and before the other
abbrev pub ends_within : ℕ → ℕ → Option Times → Bool
ends_within from before None = false
ends_within from before (Some x) = nat_le from x.ended && nat_lt x.ended before

-- the job is over, and ended then
abbrev pub leaves_within : ℕ → ℕ → Queue → Job → Bool
leaves_within from before m j = has_ended j.phase && ends_within from before (times_numbered j.number m)

-- the numbers of the first of them
abbrev pub leaving_from : ℕ → ℕ → Queue → List ℕ
leaving_from from before m = take most_purged (map (λ j. j.number) (filter (leaves_within from before m) m.jobs))

-- the last of as many numbers as leave at a time. Where they are fewer, it is one that no job is past.
abbrev pub last_of : List ℕ → ℕ
last_of numbers = unwrap_or (slice_get numbers 999) 4294967295

-- no job up to this number is over and ended at the moment 0
abbrev pub NoneEndedAtZero : ℕ → Queue → Type 0
NoneEndedAtZero last m = (j : Job) → Has m.jobs j → j.number ≤ last → leaves_within 0 1 m j ≡ false

-- the queue without the grants of the job of this number
abbrev pub without_grants : ℕ → Queue → Queue
without_grants n m = record m { grants = filter (λ g. not (g.job == n)) m.grants }

-- without its times
abbrev pub without_times : ℕ → Queue → Queue
without_times n m = record m { times = filter (λ x. not (x.job == n)) m.times }

-- without the job itself
abbrev pub without_row : ℕ → Queue → Queue
without_row n m = record m { jobs = filter (λ j. not (j.number == n)) m.jobs }

-- and without all of it
abbrev pub without_job : ℕ → Queue → Queue
without_job n m = without_row n (without_times n (without_grants n m))

-- no open grant is of the job of this number
abbrev pub HasNoCall : ℕ → Queue → Type 0
HasNoCall n m = (g : Grant) → Has (open_grants m) g → (g.job == n) ≡ false

-- no open grant is of a job of one of these numbers
abbrev pub HaveNoCalls : List ℕ → Queue → Type 0
HaveNoCalls numbers m = (g : Grant) → Has (open_grants m) g → is_none_of numbers g.job ≡ true
