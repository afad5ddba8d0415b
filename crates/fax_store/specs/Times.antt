-- What is made of the times of jobs.
use Rattle.std.specs.Prelude.{◌≡◌, ℕ, ◌==◌, ◌&&◌, Bool, false, List, [], ◌∷◌, map, None, Option, Some}
use Rattle.std.specs.List.{list_any}
use Rattle.sqlite.specs.Effect.{Database}
use Rattle.fax_job.specs.declared.job.Phase.{Phase}
use Rattle.fax_core.specs.Ageing.{is_past}
use Rattle.fax_core.specs.Job.{Job}
use Rattle.fax_core.specs.Queue.{Queue, times_numbered}
use Rattle.fax_core.specs.Stamp.{came, ended_where}
use Rattle.fax_core.specs.Times.{has_ended}
use Rattle.fax_core.specs.declared.times.Times.{Times}
use Rattle.fax_schema.specs.Schema.{times_tree}
use Rattle.fax_store.specs.Store.{HasRow}
use Rattle.fax_tables.specs.Place.{placed}
use Rattle.fax_tables.specs.Row.{number, phase_number, times_shown}

-- no times are those of its number
abbrev pub IsUntimed : Job → Queue → Type 0
IsUntimed j m = times_numbered j.number m ≡ None

-- a row of times has this number
abbrev pub HasTimesRow : Database → ℕ → Type 0
HasTimesRow db n = HasRow db times_tree (0 ∷ []) (number n ∷ [])

-- the times are those of this number, and stand in a row
abbrev pub TimesStand : Database → ℕ → Times → Type 0
TimesStand db n x = (x.job ≡ n) × HasRow db times_tree (0 ∷ 2 ∷ 3 ∷ []) (times_shown x)

-- the queue with the times of a job that came in at t
abbrev pub with_came : ℕ → Job → Queue → Queue
with_came t j m = record m { times = placed (λ x. x.job) (came t j) m.times }

-- the queue where the jobs end at t of whose numbers this holds
abbrev pub with_ends : ℕ → (ℕ → Bool) → Queue → Queue
with_ends t p m = record m { times = map (ended_where t p) m.times }

-- the number is this job's, which is over
abbrev pub is_over_as : Job → ℕ → Bool
is_over_as j n = has_ended j.phase && n == j.number

-- it is one of these
abbrev pub is_among : List ℕ → ℕ → Bool
is_among numbers n = list_any (λ other. n == other) numbers

-- a job is in this phase, and its kill time is past
abbrev pub is_expired : Phase → ℕ → Option Job → Bool
is_expired phase t None = false
is_expired phase t (Some j) = phase_number j.phase == phase_number phase && is_past j.killtime t
