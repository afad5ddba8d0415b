-- Which of the jobs that wait goes.
use Rattle.std.specs.Prelude.{◌≡◌, ◌<◌, ◌≤◌, ℕ, ◌==◌, Bool, false, ◌&&◌, List, [], ◌∷◌, ◌++◌, length, nat_lt, Option, IfSome, find, if◌then◌else◌}
use Rattle.std.specs.Str.{bytes_eq}
use Rattle.sqlite_rules.specs.Lists.{Has}
use Rattle.fax_value.specs.Limits.{last_grant}
use Rattle.fax_ask.specs.Response.{refused_response}
use Rattle.fax_job.specs.declared.job.JobFields.{JobFields}
use Rattle.fax_job.specs.declared.refusal.Refusal.TheVariants.{ModemBusy}
use Rattle.std.specs.Option.{option_map}
use Rattle.fax_core.specs.Best.{may_go}
use Rattle.fax_core.specs.Decisions.{granted}
use Rattle.fax_core.specs.Job.{Job, job_of}
use Rattle.fax_core.specs.Queue.{Queue}
use Rattle.fax_core.specs.Reply.{Handed, HeldGrant}
use Rattle.fax_core.specs.Settings.{Settings}
use Rattle.fax_core.specs.State.{calls_to}
use Rattle.fax_store.specs.Candidates.{AreAsked}
use Rattle.fax_store.specs.Job.{AreWaiting}
use Rattle.fax_core.specs.declared.grants.Grant.{Grant}
use Rattle.fax_store.specs.declared.candidates.Asked.{Asked}
use Rattle.fax_dest.specs.Finder.{IsFinderOf}
use Rattle.fax_hours.specs.Zone.{week_minute_at}
use Rattle.fax_decide.specs.Settings.{settings_of}
use Rattle.fax_decide.specs.State.{may_call}
use Rattle.fax_decide.specs.declared.choice.Learned.{Learned}
use Rattle.fax_decide.specs.declared.decision.Decision.{Decision}
use Rattle.fax_decide.specs.declared.office.Office.{Office}
use Rattle.fax_decide.specs.declared.decision.Decision.TheVariants.{Refused}

-- no call to this number may begin, where there is one
abbrev pub IsBusy : Settings → Queue → ℕ → Option (List ℕ) → Type 0
IsBusy s m t busy = IfSome busy (λ dial. may_call s dial (calls_to dial m) t ≡ false)

-- no call to any of these numbers may begin
abbrev pub AreBusy : Settings → Queue → ℕ → List (List ℕ) → Type 0
AreBusy s m t numbers = (dial : List ℕ) → Has numbers dial → may_call s dial (calls_to dial m) t ≡ false

-- what a look for work at t has learned of numbers: it looks them up in the office's rules, and to the busy ones no call may begin
abbrev pub HasLearned : Office → Queue → ℕ → Learned → Type 0
HasLearned office m t learned =
    IsFinderOf office.controls learned.finder × AreBusy (settings_of office.setup office.controls) m t learned.busy.items
    × (learned.minute ≡ week_minute_at office.setup.zone t)

-- a number is remembered too, unless 16 are
abbrev pub with_number : List (List ℕ) → List ℕ → List (List ℕ)
with_number numbers dial = if nat_lt (length numbers) 16 then numbers ++ dial ∷ [] else numbers

-- the number of the first that may go, of the jobs that wait, in the order of the choice
abbrev pub IsFirst : Settings → Queue → ℕ → List ℕ → Option ℕ → Type 0
IsFirst s m t modem found = (jobs : List Job) × AreWaiting t m jobs × (found ≡ option_map (λ j. j.number) (find (may_go s m t modem) jobs))

-- the same, of those that are asked for
abbrev pub IsFirstAsked : Settings → Asked → Queue → List ℕ → Option ℕ → Type 0
IsFirstAsked s asked m modem found = (jobs : List Job) × AreAsked asked m jobs × (found ≡ option_map (λ j. j.number) (find (may_go s m asked.t modem) jobs))

-- a grant is open, of that job, and the modem's
abbrev pub is_held_by : List ℕ → JobFields → Grant → Bool
is_held_by modem job g = g.is_open && (g.job == job.job) && bytes_eq g.modem modem

-- the modem is refused as busy, with a grant that it holds
abbrev pub IsBusyModem : Decision → Type 0
IsBusyModem decision = (called : Bool) × (held : Handed) × (decision ≡ Refused (refused_response ModemBusy (HeldGrant called held)))

-- a new grant of the pages that a job has left, of which there is one, under a number within the limits
pub record IsGrantOf (job : JobFields) (g : Grant) : Type 0 where
  pub is : g ≡ (granted (job_of job) g.modem g.number).grant
  pub page : job.npages < job.totpages
  pub last : g.number ≤ last_grant
