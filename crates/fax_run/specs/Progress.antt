-- What may come next: no modem and no job is stuck but by its worker, its times or its number's rule.
use Rattle.std.specs.Prelude.{◌≡◌, ◌<◌, ◌≤◌, ℕ, false, true, List, None, Some, is_some}
use Rattle.fax_job.specs.declared.job.Phase.TheVariants.{Waiting}
use Rattle.fax_job.specs.declared.refusal.Refusal.TheVariants.{ModemBusy}
use Rattle.fax_core.specs.Ageing.{aged, is_past}
use Rattle.fax_core.specs.Best.{MayGo}
use Rattle.fax_core.specs.Job.{Job}
use Rattle.fax_core.specs.Machine.{handed, held_by, is_down, step}
use Rattle.fax_core.specs.Queue.{Queue, grant_numbered}
use Rattle.fax_core.specs.Reply.{Given, Handed, HeldGrant, Refused, Reply, Taken}
use Rattle.fax_core.specs.Settings.{Settings, has_modem}
use Rattle.fax_core.specs.Sound.{IsOpen, Sound}
use Rattle.fax_core.specs.State.{calls_to, state, state_number}
use Rattle.fax_core.specs.declared.ask.Ask.TheVariants.{Next, OnGrant}
use Rattle.fax_core.specs.declared.grants.Grant.{Grant}
use Rattle.fax_core.specs.declared.report.Outcome.{Outcome}
use Rattle.fax_core.specs.declared.report.Report.TheVariants as report
use Rattle.fax_core.specs.declared.state.State.TheVariants.{Ready}

-- the modem is one of the setup, and isn't down
pub record IsUp (s : Settings) (m : Queue) (modem : List ℕ) : Type 0 where
  pub known : has_modem s modem ≡ true
  pub up : is_down modem m ≡ false

-- a modem that is up and holds no grant is given a job where one may go to it, as long as a number for its grant is left
abbrev pub FreeModemsAreServed : Type 0
FreeModemsAreServed = (s : Settings) (m : Queue) (t : ℕ) (modem : List ℕ) (j : Job)
    → IsUp s m modem → held_by modem m ≡ None → m.next_grant ≤ s.max_grants → MayGo s (aged t m) t modem j
    → (n : Queue) × (h : Handed) × (step s m t (Next modem) ≡ Taken n (Given h))

-- one that holds a grant is told that grant
abbrev pub BusyModemsFindTheirs : Type 0
BusyModemsFindTheirs = (s : Settings) (m : Queue) (t : ℕ) (modem : List ℕ) (g : Grant)
    → IsUp s m modem → held_by modem m ≡ Some g → step s m t (Next modem) ≡ Refused ModemBusy (HeldGrant (is_some g.call) (handed g (aged t m)))

-- each open grant has an outcome that is taken, and closes it
abbrev pub OpenGrantsCanEnd : Type 0
OpenGrantsCanEnd = (s : Settings) (m : Queue) (t number : ℕ) (g : Grant) → Sound m → IsOpen m number g
    → (o : Outcome) × (n : Queue) × (reply : Reply) × (step s m t (OnGrant number (report.Outcome o)) ≡ Taken n reply)
    × ((h : Grant) → grant_numbered number n ≡ Some h → h.is_open ≡ false)

-- A job that waits is ready from the later of its time to send and its next time on, in the hours of its number's rule, before its kill time and while fewer calls to its number are open than the rule allows.
abbrev pub WaitingJobsGetReady : Type 0
WaitingJobsGetReady = (s : Settings) (m : Queue) (t : ℕ) (j : Job)
    → j.phase ≡ Waiting → is_past j.killtime t ≡ false → j.tts ≤ t → j.next ≤ t
    → (s.rule j.dial).hours t ≡ true → calls_to j.dial m < (s.rule j.dial).calls → state s m t j ≡ state_number Ready
