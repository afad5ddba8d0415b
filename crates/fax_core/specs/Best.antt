-- Which job goes next.
use Rattle.std.specs.Prelude.{◌≡◌, ℕ, ◌<◌, ◌==◌, Bool, true, not, ◌&&◌, ◌||◌, ◌⊎◌, List, nat_lt, filter, find, Option, Some}
use Rattle.std.specs.List.{list_all}
use Rattle.fax_core.specs.Job.{Job}
use Rattle.fax_core.specs.Queue.{Queue, job_numbered}
use Rattle.fax_core.specs.Settings.{Settings}
use Rattle.fax_core.specs.State.{state, state_number}
use Rattle.fax_core.specs.declared.state.State.TheVariants.{Ready}

-- sendq(5): a lower priority goes first; then the earlier time to send, then the lower number
abbrev pub better : Job → Job → Bool
better j k = nat_lt j.priority k.priority || (j.priority == k.priority && (nat_lt j.tts k.tts || (j.tts == k.tts && nat_lt j.number k.number)))

-- the job is ready, and its modem value admits the modem
abbrev pub may_go : Settings → Queue → ℕ → List ℕ → Job → Bool
may_go s m t modem j = (state s m t j == state_number Ready) && s.admits j.modem modem

-- all jobs that may go
abbrev pub going : Settings → Queue → ℕ → List ℕ → List Job
going s m t modem = filter (may_go s m t modem) m.jobs

-- none of the jobs is better
abbrev pub is_least : List Job → Job → Bool
is_least js j = list_all (λ k. not (better k j)) js

-- the least of all jobs that may go
abbrev pub best : Settings → Queue → ℕ → List ℕ → Option Job
best s m t modem = find (is_least (going s m t modem)) (going s m t modem)

-- ---- the same as a relation

-- less in priority, then time to send, then number
abbrev pub Precedes : Job → Job → Type 0
Precedes j k = (j.priority < k.priority) ⊎ ((j.priority ≡ k.priority) × ((j.tts < k.tts) ⊎ ((j.tts ≡ k.tts) × (j.number < k.number))))

-- a job of the queue is ready, and its modem value admits the modem
pub record MayGo (s : Settings) (m : Queue) (t : ℕ) (modem : List ℕ) (j : Job) : Type 0 where
  pub there : job_numbered j.number m ≡ Some j
  pub ready : state s m t j ≡ state_number Ready
  pub admitted : s.admits j.modem modem ≡ true

-- a job that may go, such that no other does that precedes it
pub record IsBest (s : Settings) (m : Queue) (t : ℕ) (modem : List ℕ) (j : Job) : Type 0 where
  pub goes : MayGo s m t modem j
  pub least : (k : Job) → MayGo s m t modem k → ¬ Precedes k j
