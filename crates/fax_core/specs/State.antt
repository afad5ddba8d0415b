-- The state of a job, by sendq(5).
use Rattle.std.specs.Prelude.{ℕ, Bool, true, false, not, ◌&&◌, List, length, filter, nat_le, nat_lt, Option, Some, None, if◌then◌else◌}
use Rattle.std.specs.Str.{bytes_eq}
use Rattle.fax_job.specs.declared.job.Phase.{Phase}
use Rattle.fax_job.specs.declared.job.Phase.TheVariants.{Held, Waiting, Granted, Done, Failed}
use Rattle.fax_core.specs.declared.state.State.{State}
use Rattle.fax_core.specs.declared.state.State.TheVariants as sendq
use Rattle.fax_core.specs.Ageing.{is_past}
use Rattle.fax_core.specs.Job.{Job}
use Rattle.fax_core.specs.Queue.{Queue, open_grants, job_numbered}
use Rattle.fax_core.specs.Settings.{Settings}

-- the number of a state
abbrev pub state_number : State → ℕ
state_number sendq.Suspended = 1
state_number sendq.Pending = 2
state_number sendq.Sleeping = 3
state_number sendq.Blocked = 4
state_number sendq.Ready = 5
state_number sendq.Active = 6
state_number sendq.Done = 7
state_number sendq.Failed = 8

-- the job is to that canonical number
abbrev pub is_of_number : List ℕ → Option Job → Bool
is_of_number dial None = false
is_of_number dial (Some j) = bytes_eq j.dial dial

-- how many grants are open of jobs to the same canonical number, whatever their rule
abbrev pub calls_to : List ℕ → Queue → ℕ
calls_to dial m = length (filter (λ g. is_of_number dial (job_numbered g.job m)) (open_grants m))

-- of a waiting job that hasn't expired: its times, its hours, then the calls to its number
abbrev pub waiting_state : Job → Bool → ℕ → ℕ → ℕ → ℕ
waiting_state j in_hours calls limit t =
    if nat_lt t j.tts then state_number sendq.Pending
    else if nat_lt t j.next then state_number sendq.Sleeping
    else if not in_hours then state_number sendq.Pending
    else if nat_le limit calls then state_number sendq.Blocked
    else state_number sendq.Ready

-- by the phase; a kill time that is past shows before it is stored
abbrev pub state_in : Phase → Job → Bool → ℕ → ℕ → ℕ → ℕ
state_in Done j in_hours calls limit t = state_number sendq.Done
state_in Failed j in_hours calls limit t = state_number sendq.Failed
state_in Granted j in_hours calls limit t = state_number sendq.Active
state_in Held j in_hours calls limit t = if is_past j.killtime t then state_number sendq.Failed else state_number sendq.Suspended
state_in Waiting j in_hours calls limit t = if is_past j.killtime t then state_number sendq.Failed else waiting_state j in_hours calls limit t

-- of a job, where it is told whether its rule's hours have t, how many calls there are to its number, and how many there may be
abbrev pub state_at : Job → Bool → ℕ → ℕ → ℕ → ℕ
state_at j in_hours calls limit t = state_in j.phase j in_hours calls limit t

-- of a job in the queue, by the rule of its number
abbrev pub state : Settings → Queue → ℕ → Job → ℕ
state s m t j = state_at j ((s.rule j.dial).hours t) (calls_to j.dial m) (s.rule j.dial).calls t

-- the job waits
abbrev pub is_waiting : Phase → Bool
is_waiting Waiting = true
is_waiting other = false

-- what a job says for itself of being ready: it waits, no kill time is past, and its times have come
abbrev pub is_due : Job → ℕ → Bool
is_due j t = is_waiting j.phase && not (is_past j.killtime t) && nat_le j.tts t && nat_le j.next t
