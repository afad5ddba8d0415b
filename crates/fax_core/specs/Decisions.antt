-- Each request, decided on the records that it is about: what they become, or why it is refused. Refusals stand in the order in which they are looked for.
use Rattle.std.specs.Prelude.{ℕ, ◌+◌, ◌==◌, Bool, true, false, not, ◌&&◌, ◌||◌, List, [], ◌∷◌, ◌++◌, length, nat_le, nat_lt, is_some, is_none, unwrap_or, Option, Some, None, Result, Ok, Err, if◌then◌else◌}
use Rattle.fax_job.specs.declared.alter.Alter.{Alter}
use Rattle.fax_job.specs.declared.job.Call.{Call}
use Rattle.fax_job.specs.declared.job.Call.TheVariants.{Connected}
use Rattle.fax_job.specs.declared.job.Phase.{Phase}
use Rattle.fax_job.specs.declared.job.Phase.TheVariants as phase
use Rattle.fax_job.specs.declared.job.Wish.{Wish}
use Rattle.fax_job.specs.declared.job.Wish.TheVariants as wish
use Rattle.fax_job.specs.declared.order.Order.{Order}
use Rattle.fax_job.specs.declared.refusal.Refusal.{Refusal}
use Rattle.fax_job.specs.declared.refusal.Refusal.TheVariants.{Rejected, TooManyPages, JobOver, JobActive, NotSuspended, LimitReached, GrantClosed, CallKnown, NotConnected, PageOrder, CallMissing, PagesMismatch, PagesLeft, Full}
use Rattle.fax_value.specs.Limits.{tries_of_page}
use Rattle.fax_value.specs.Status.{killed, kill_time_expired, too_many_dials, too_many_tries, unable_to_transmit}
use Rattle.fax_core.specs.declared.ask.JobAsk.{JobAsk}
use Rattle.fax_core.specs.declared.ask.JobAsk.TheVariants as ask
use Rattle.fax_core.specs.declared.grants.Grant.{Grant}
use Rattle.fax_core.specs.declared.report.Ending.{Ending}
use Rattle.fax_core.specs.declared.report.Ending.TheVariants as ending
use Rattle.fax_core.specs.declared.report.Report.{Report}
use Rattle.fax_core.specs.declared.report.Report.TheVariants as report
use Rattle.fax_core.specs.Ageing.{is_past}
use Rattle.fax_core.specs.declared.report.Outcome.{Outcome}
use Rattle.fax_core.specs.Job.{Job, pages_to}
use Rattle.fax_core.specs.Settings.{Rule}

-- a job and a grant of it
pub record JobAndGrant : Type 0 where
  pub job : Job
  pub grant : Grant

-- one refusal in a chain of them
infix 5 refuse_if◌because◌otherwise◌
abbrev pub refuse_if◌because◌otherwise◌ : {A : Type 0} → Bool → Refusal → Result A Refusal → Result A Refusal
refuse_if b because refusal otherwise next = if b then Err refusal else next

-- ---- submission

-- more pages than the rule allows
abbrev pub is_over : ℕ → Option ℕ → Bool
is_over pages None = false
is_over pages (Some limit) = nat_lt limit pages

-- a new job waits with all its pages left; without a time to send it may go at once
abbrev pub new_job : Order → ℕ → ℕ → Job
new_job o number t = record {
  number = number;
  dial = o.dial;
  modem = o.modem;
  jobtag = o.jobtag;
  tts = unwrap_or o.tts t;
  killtime = o.killtime;
  priority = o.priority;
  totpages = o.totpages;
  maxtries = o.maxtries;
  maxdials = o.maxdials;
  extra = o.extra;
  sent = [];
  left = pages_to o.totpages;
  ntries = 0;
  tottries = 0;
  ndials = 0;
  totdials = 0;
  phase = phase.Waiting;
  wish = wish.Go;
  next = 0;
  status = [];
}

-- by the rule of its number, the next job number and its limit
abbrev pub submit : Order → Rule → ℕ → ℕ → ℕ → Result Job Refusal
submit o rule next_job max_jobs t =
    refuse_if is_some rule.notice because Rejected otherwise
    refuse_if is_over o.totpages rule.pages because TooManyPages otherwise
    refuse_if nat_lt max_jobs next_job because Full otherwise
    Ok (new_job o next_job t)

-- ---- a client's requests on a job, by its phase, and its wish while it is granted

-- a waiting job is held; a granted one is to be held when it comes back
abbrev pub suspend_in : Phase → Wish → Job → Result Job Refusal
suspend_in phase.Held w j = Ok j
suspend_in phase.Waiting w j = Ok (record j { phase = phase.Held })
suspend_in phase.Granted wish.Go j = Ok (record j { wish = wish.Hold })
suspend_in phase.Granted wish.Hold j = Ok j
suspend_in phase.Granted wish.Kill j = Err JobActive
suspend_in phase.Done w j = Err JobOver
suspend_in phase.Failed w j = Err JobOver

-- suspend
abbrev pub suspend : Job → Result Job Refusal
suspend j = suspend_in j.phase j.wish j

-- a held job waits; a granted one that was to be held isn't any more
abbrev pub resume_in : Phase → Wish → Job → Result Job Refusal
resume_in phase.Held w j = Ok (record j { phase = phase.Waiting })
resume_in phase.Waiting w j = Err NotSuspended
resume_in phase.Granted wish.Go j = Err JobActive
resume_in phase.Granted wish.Hold j = Ok (record j { wish = wish.Go })
resume_in phase.Granted wish.Kill j = Err JobActive
resume_in phase.Done w j = Err JobOver
resume_in phase.Failed w j = Err JobOver

-- resume: nothing else changes, and the next time stays
abbrev pub resume : Job → Result Job Refusal
resume j = resume_in j.phase j.wish j

-- a held or a waiting job fails; a granted one fails when it comes back
abbrev pub kill_in : Phase → Job → Result Job Refusal
kill_in phase.Held j = Ok (record j { phase = phase.Failed; status = killed })
kill_in phase.Waiting j = Ok (record j { phase = phase.Failed; status = killed })
kill_in phase.Granted j = Ok (record j { wish = wish.Kill })
kill_in phase.Done j = Err JobOver
kill_in phase.Failed j = Err JobOver

-- kill
abbrev pub kill : Job → Result Job Refusal
kill j = kill_in j.phase j

-- not said: the time stays, whatever it is; said as empty: now
abbrev pub new_tts : Option (Option ℕ) → ℕ → ℕ → ℕ
new_tts None old t = old
new_tts (Some said) old t = unwrap_or said t

-- what is said is set, and all else stays
abbrev pub altered : Alter → Job → ℕ → Job
altered a j t = record j {
  modem = unwrap_or a.modem j.modem;
  jobtag = unwrap_or a.jobtag j.jobtag;
  tts = new_tts a.tts j.tts t;
  killtime = unwrap_or a.killtime j.killtime;
  priority = unwrap_or a.priority j.priority;
  maxtries = unwrap_or a.maxtries j.maxtries;
  maxdials = unwrap_or a.maxdials j.maxdials;
}

-- a dial and a try are left
abbrev pub within_limits : Job → Result Job Refusal
within_limits j = refuse_if nat_le j.maxdials j.totdials || nat_le j.maxtries j.tottries because LimitReached otherwise Ok j

-- a held job alone can be altered
abbrev pub alter_in : Phase → Alter → Job → ℕ → Result Job Refusal
alter_in phase.Held a j t = within_limits (altered a j t)
alter_in phase.Waiting a j t = Err NotSuspended
alter_in phase.Granted a j t = Err JobActive
alter_in phase.Done a j t = Err JobOver
alter_in phase.Failed a j t = Err JobOver

-- alter
abbrev pub alter : Alter → Job → ℕ → Result Job Refusal
alter a j t = alter_in j.phase a j t

-- what a client asks of a job at t
abbrev pub job_asked : JobAsk → ℕ → Job → Result Job Refusal
job_asked ask.Suspend t j = suspend j
job_asked ask.Resume t j = resume j
job_asked ask.Kill t j = kill j
job_asked (ask.Alter changes) t j = alter changes j t

-- ---- a grant

-- the job is granted, and its pages from the one after those sent to the last go to the modem
abbrev pub granted : Job → List ℕ → ℕ → JobAndGrant
granted j modem number = record {
  job = record j { phase = phase.Granted; wish = wish.Go };
  grant = record { number = number; job = j.number; modem = modem; first_page = length j.sent + 1; last_page = j.totpages; call = None; confirmed = 0; is_open = true };
}

-- by the next grant number and its limit
abbrev pub grant : Job → List ℕ → ℕ → ℕ → Result JobAndGrant Refusal
grant j modem next_grant max_grants = refuse_if nat_lt max_grants next_grant because Full otherwise Ok (granted j modem next_grant)

-- ---- a worker's reports on a grant

-- a connected call is a try, and ends a row of dials that came to nothing
abbrev pub after_call : Call → Job → Job
after_call Connected j = record j { totdials = j.totdials + 1; ndials = 0; tottries = j.tottries + 1; ntries = j.ntries + 1 }
after_call _ j = record j { totdials = j.totdials + 1; ndials = j.ndials + 1 }

-- a call report: a grant has one call
abbrev pub call : Call → Job → Grant → Result JobAndGrant Refusal
call c j g =
    refuse_if not g.is_open because GrantClosed otherwise
    refuse_if is_some g.call because CallKnown otherwise
    Ok (record { job = after_call c j; grant = record g { call = Some c } })

-- the call is known, and it connected
abbrev pub is_connected : Option Call → Bool
is_connected (Some Connected) = true
is_connected _ = false

-- the page that is named is the first that is left; it becomes the last that is sent
abbrev pub page_of : List ℕ → ℕ → Job → Grant → Result JobAndGrant Refusal
page_of [] n j g = Err PageOrder
page_of (p ∷ rest) n j g =
    refuse_if not (p == n) because PageOrder otherwise
    Ok (record { job = record j { sent = j.sent ++ p ∷ []; left = rest; ntries = 0 }; grant = record g { confirmed = g.confirmed + 1 } })

-- a page report, on a connected call
abbrev pub page : ℕ → Job → Grant → Result JobAndGrant Refusal
page n j g =
    refuse_if not g.is_open because GrantClosed otherwise
    refuse_if not (is_connected g.call) because NotConnected otherwise
    page_of j.left n j g

-- the client wishes the job killed
abbrev pub is_kill : Wish → Bool
is_kill wish.Kill = true
is_kill other = false

-- a job that was suspended while it was granted is held when it comes back (one that was killed fails before this is asked)
abbrev pub phase_after : Wish → Phase
phase_after wish.Hold = phase.Held
phase_after other = phase.Waiting

-- the job fails, and its status says why
abbrev pub failed : Job → List ℕ → Job
failed j status = record j { phase = phase.Failed; wish = wish.Go; status = status }

-- the first that holds: killed, expired, too many dials, too many tries, three tries of one page; else it goes on after the delay
abbrev pub retried : Job → List ℕ → ℕ → ℕ → Job
retried j reason delay t =
    if is_kill j.wish then failed j killed
    else if is_past j.killtime t then failed j kill_time_expired
    else if nat_le j.maxdials j.totdials then failed j too_many_dials
    else if nat_le j.maxtries j.tottries then failed j too_many_tries
    else if nat_le tries_of_page j.ntries then failed j unable_to_transmit
    else record j { phase = phase_after j.wish; wish = wish.Go; next = t + delay; status = reason }

-- with pages left (then `done` is refused before this is asked)
abbrev pub ended_by : Ending → Job → List ℕ → ℕ → ℕ → Job
ended_by ending.Done j reason delay t = failed j reason
ended_by ending.Fail j reason delay t = failed j reason
ended_by ending.Retry j reason delay t = retried j reason delay t

-- all pages confirmed is done, whatever the outcome says
abbrev pub ended : List ℕ → Outcome → Job → ℕ → ℕ → Job
ended [] o j delay t = record j { phase = phase.Done; wish = wish.Go; status = [] }
ended (p ∷ rest) o j delay t = ended_by o.ending j o.reason delay t

-- the outcome says that all pages are sent
abbrev pub is_done : Ending → Bool
is_done ending.Done = true
is_done other = false

-- no pages
abbrev pub is_empty : List ℕ → Bool
is_empty [] = true
is_empty (p ∷ rest) = false

-- an outcome: what it says of its grant has to be so; it closes the grant
abbrev pub outcome : Outcome → Job → Grant → ℕ → ℕ → Result JobAndGrant Refusal
outcome o j g delay t =
    refuse_if not g.is_open because GrantClosed otherwise
    refuse_if not o.dialed && is_some g.call because CallKnown otherwise
    refuse_if o.dialed && is_none g.call because CallMissing otherwise
    refuse_if not (o.pages == g.confirmed) because PagesMismatch otherwise
    refuse_if is_done o.ending && not (is_empty j.left) because PagesLeft otherwise
    Ok (record { job = ended j.left o j delay t; grant = record g { is_open = false } })

-- what a worker reports on a grant at t, with the delay behind each call
abbrev pub grant_reported : Report → (Option Call → ℕ) → ℕ → Job → Grant → Result JobAndGrant Refusal
grant_reported (report.Call c) delay t j g = call c j g
grant_reported (report.Page n) delay t j g = page n j g
grant_reported (report.Outcome o) delay t j g = outcome o j g (delay g.call) t

-- the client lets the job go on
abbrev pub is_go : Wish → Bool
is_go wish.Go = true
is_go other = false

-- whether the worker is told to stop
abbrev pub stops : Job → ℕ → Bool
stops j t = not (is_go j.wish) || is_past j.killtime t
