-- The laws of the machine. They range over all settings, queues, moments and requests. The queue before a step is meant as it is aged at the step's moment.
use Rattle.std.specs.Prelude.{◌≡◌, ◌≢◌, ◌⊎◌, ℕ, ◌+◌, ◌-◌, ◌<◌, ◌≤◌, Bool, true, false, List, [], ◌∷◌, ◌++◌, length, Option, Some, None, is_some, Decides, Ok, IfOk}
use Rattle.std.specs.List.{AllByRecursion, range_with_len}
use Rattle.fax_job.specs.Alter.{alter_of}
use Rattle.fax_job.specs.Job.{is_lawful}
use Rattle.fax_value.specs.Limits.{last_next}
use Rattle.fax_job.specs.Pair.{Pair}
use Rattle.fax_job.specs.declared.alter.Alter.{Alter}
use Rattle.fax_job.specs.declared.import.Import.{Import}
use Rattle.fax_job.specs.declared.job.Call.{Call}
use Rattle.fax_job.specs.declared.job.JobFields.{JobFields}
use Rattle.fax_job.specs.declared.refusal.Refusal.{Refusal}
use Rattle.fax_job.specs.Refusal.{refusal_number}
use Rattle.fax_core.specs.declared.grants.Grant.{Grant}
use Rattle.fax_core.specs.declared.report.Outcome.{Outcome}
use Rattle.fax_core.specs.declared.report.Report.TheVariants.{Page}
use Rattle.fax_core.specs.Ageing.{aged}
use Rattle.fax_core.specs.Ask.{IsLawfulAsk}
use Rattle.fax_core.specs.declared.ask.Ask.{Ask}
use Rattle.fax_core.specs.declared.ask.Ask.TheVariants.{Bring, Next, OnGrant, Purge}
use Rattle.fax_core.specs.Best.{MayGo, IsBest}
use Rattle.fax_core.specs.Clock.{decided_at}
use Rattle.fax_core.specs.Decisions.{JobAndGrant, suspend, resume, kill, alter, grant, call, page, outcome}
use Rattle.fax_core.specs.Fits.{fits}
use Rattle.fax_core.specs.Job.{Job, HasPages, job_of, fields_of}
use Rattle.fax_core.specs.Machine.{step}
use Rattle.fax_core.specs.Queue.{Queue, grant_numbered, job_numbered, times_numbered}
use Rattle.fax_core.specs.Refusals.{may_meet, goes_with}
use Rattle.fax_core.specs.Reply.{Reply, Handed, Submitted, Brought, NoneToSend, Given, Keys, HeldGrant, Taken, Refused}
use Rattle.fax_core.specs.Run.{Request, decided, left_by, queue_after, AreLawful}
use Rattle.fax_core.specs.Settings.{Settings}
use Rattle.fax_core.specs.Sound.{Fits, IsJob, IsOpen, Sound}
use Rattle.fax_core.specs.State.{state, is_due, state_number}
use Rattle.fax_core.specs.Times.{has_ended}
use Rattle.fax_core.specs.declared.times.Times.{Times}
use Rattle.fax_core.specs.declared.state.State.TheVariants.{Ready}

-- ---- soundness

-- a taken step from a sound queue leaves a sound queue
abbrev pub StepsStaySound : Type 0
StepsStaySound =
    (s : Settings) (m n : Queue) (t : ℕ) (ask : Ask) (reply : Reply)
    → Sound m → IsLawfulAsk ask
    → step s m t ask ≡ Taken n reply
    → Sound n

-- so does every run
abbrev pub RunsStaySound : Type 0
RunsStaySound = (s : Settings) (m : Queue) (rs : List Request) → Sound m → AreLawful rs → Sound (queue_after s m rs)

-- ---- one modem, one job

-- two open grants of one modem, or of one job, are one grant
abbrev pub HoldsOnce : Queue → Type 0
HoldsOnce m = (a b : ℕ) (g h : Grant) → IsOpen m a g → IsOpen m b h → (g.modem ≡ h.modem) ⊎ (g.job ≡ h.job) → a ≡ b

-- so it is after every run
abbrev pub RunsHoldOnce : Type 0
RunsHoldOnce = (s : Settings) (m : Queue) (rs : List Request) → Sound m → AreLawful rs → HoldsOnce (queue_after s m rs)

-- a job is given to a modem: neither held an open grant, the new one is theirs, and its pages are those that were left
pub record GivesJob (before after : Queue) (modem : List ℕ) (h : Handed) : Type 0 where
  pub modem_free : (n : ℕ) (g : Grant) → IsOpen before n g → g.modem ≢ modem
  pub job_free : (n : ℕ) (g : Grant) → IsOpen before n g → g.job ≢ h.job
  pub grant : Grant
  pub open_grant : IsOpen after h.grant grant
  pub of_modem : grant.modem ≡ modem
  pub of_job : grant.job ≡ h.job
  pub first_page : grant.first_page ≡ h.from
  pub last_page : grant.last_page ≡ h.to
  pub job : Job
  pub was_there : IsJob before h.job job
  pub dial : h.dial ≡ job.dial
  pub first : h.from ≡ length job.sent + 1
  pub pages : range_with_len h.from (h.to + 1 - h.from) ≡ job.left

-- so it is whenever a job is given
abbrev pub GivenJobsAreFree : Type 0
GivenJobsAreFree =
    (s : Settings) (m n : Queue) (t : ℕ) (modem : List ℕ) (h : Handed)
    → Sound m
    → step s m t (Next modem) ≡ Taken n (Given h)
    → GivesJob (aged t m) n modem h

-- ---- pages

-- a page is confirmed: it was the first that was left, and is the last that is sent
pub record ConfirmsPage (before after : Queue) (number page : ℕ) : Type 0 where
  pub grant : Grant
  pub open_grant : IsOpen before number grant
  pub old : Job
  pub was_there : IsJob before grant.job old
  pub new : Job
  pub there : IsJob after grant.job new
  pub rest : List ℕ
  pub left : old.left ≡ page ∷ rest
  pub left_now : new.left ≡ rest
  pub sent_now : new.sent ≡ old.sent ++ page ∷ []

-- each page report that is taken is such
abbrev pub PageReportsConfirm : Type 0
PageReportsConfirm =
    (s : Settings) (m n : Queue) (t grant page : ℕ) (reply : Reply)
    → step s m t (OnGrant grant (Page page)) ≡ Taken n reply
    → ConfirmsPage (aged t m) n grant page

-- the job of a number has sent these pages first, in this order
pub record HasSent (m : Queue) (n : ℕ) (pages : List ℕ) : Type 0 where
  pub job : Job
  pub there : IsJob m n job
  pub more : List ℕ
  pub begins : job.sent ≡ pages ++ more

-- the job of a number has left for good: it isn't there, and no new job gets its number
pub record IsGone (m : Queue) (n : ℕ) : Type 0 where
  pub absent : job_numbered n m ≡ None
  pub given : n < m.next_job

-- no step takes a page from those that are sent, unless their job leaves
abbrev pub StepsKeepSent : Type 0
StepsKeepSent =
    (s : Settings) (m n : Queue) (t : ℕ) (ask : Ask) (reply : Reply) (number : ℕ) (j : Job)
    → Sound m
    → step s m t ask ≡ Taken n reply
    → IsJob m number j → HasSent n number j.sent ⊎ IsGone n number

-- nor does any run
abbrev pub RunsKeepSent : Type 0
RunsKeepSent =
    (s : Settings) (m : Queue) (rs : List Request) (number : ℕ) (j : Job)
    → Sound m → AreLawful rs
    → IsJob m number j → HasSent (queue_after s m rs) number j.sent ⊎ IsGone (queue_after s m rs) number

-- a page that was confirmed is in no grant that its job gets after whatever requests: it lies before the grant's first page
abbrev pub PagesAreGrantedNoMore : Type 0
PagesAreGrantedNoMore =
    (s : Settings) (m n : Queue) (t grant page : ℕ) (reply : Reply) (g : Grant) (rs : List Request) (u : ℕ) (modem : List ℕ) (l : Queue) (h : Handed)
    → Sound m → AreLawful rs
    → step s m t (OnGrant grant (Page page)) ≡ Taken n reply
    → step s (queue_after s n rs) u (Next modem) ≡ Taken l (Given h)
    → grant_numbered grant m ≡ Some g → h.job ≡ g.job
    → page < h.from

-- nor is a page in one that came in as sent with its job
abbrev pub BroughtPagesAreNotGranted : Type 0
BroughtPagesAreNotGranted =
    (s : Settings) (m n : Queue) (t : ℕ) (i : Import) (job state : ℕ) (rs : List Request) (u : ℕ) (modem : List ℕ) (l : Queue) (h : Handed)
    → Sound m → IsLawfulAsk (Bring i) → AreLawful rs
    → step s m t (Bring i) ≡ Taken n (Brought job state)
    → step s (queue_after s n rs) u (Next modem) ≡ Taken l (Given h)
    → h.job ≡ job
    → i.npages < h.from

-- a page that is confirmed after it, on whichever grant of the job, comes after it
abbrev pub PagesRise : Type 0
PagesRise =
    (s : Settings) (m n : Queue) (t grant page : ℕ) (reply : Reply) (g : Grant) (rs : List Request) (u other later : ℕ) (l : Queue) (answer : Reply) (h : Grant)
    → Sound m → AreLawful rs
    → step s m t (OnGrant grant (Page page)) ≡ Taken n reply
    → step s (queue_after s n rs) u (OnGrant other (Page later)) ≡ Taken l answer
    → grant_numbered grant m ≡ Some g → grant_numbered other (queue_after s n rs) ≡ Some h → h.job ≡ g.job
    → page < later

-- ---- jobs that leave

-- there is a job of that number
abbrev pub IsThere : Queue → ℕ → Type 0
IsThere m number = (j : Job) × IsJob m number j

-- a job leaves by a purge: it is over, and ended before the purge's moment, which isn't yet to come
pub record LeavesByPurge (m : Queue) (t : ℕ) (ask : Ask) (number : ℕ) (j : Job) : Type 0 where
  pub before : ℕ
  pub purge : ask ≡ Purge before
  pub past : before ≤ t
  pub over : has_ended j.phase ≡ true
  pub times : Times
  pub its : times_numbered number m ≡ Some times
  pub ended : times.ended < before

-- a job that a step takes out leaves so
abbrev pub OnlyTheOverLeave : Type 0
OnlyTheOverLeave =
    (s : Settings) (m n : Queue) (t : ℕ) (ask : Ask) (reply : Reply) (number : ℕ) (j : Job)
    → Sound m
    → step s m t ask ≡ Taken n reply
    → IsJob (aged t m) number j → job_numbered number n ≡ None
    → LeavesByPurge (aged t m) t ask number j

-- so does one with one of these requests
abbrev pub LeavesIn : Settings → Queue → List Request → ℕ → Type 0
LeavesIn s m [] number = ⊥
LeavesIn s m (r ∷ rs) number =
    ((j : Job) × LeavesByPurge (aged (decided_at m.clock r.moment) m) (decided_at m.clock r.moment) r.ask number j)
    ⊎ LeavesIn s (left_by m (decided s m r)) rs number

-- after every run a job is there, or left with a purge
abbrev pub RunsKeepJobs : Type 0
RunsKeepJobs =
    (s : Settings) (m : Queue) (rs : List Request) (number : ℕ)
    → Sound m → AreLawful rs
    → IsThere m number → IsThere (queue_after s m rs) number ⊎ LeavesIn s m rs number

-- a job that isn't over loses no grant
abbrev pub GrantsStay : Type 0
GrantsStay =
    (s : Settings) (m n : Queue) (t : ℕ) (ask : Ask) (reply : Reply) (number : ℕ) (g : Grant) (j : Job)
    → Sound m
    → step s m t ask ≡ Taken n reply
    → grant_numbered number m ≡ Some g → IsJob (aged t m) g.job j → has_ended j.phase ≡ false
    → (h : Grant) × (grant_numbered number n ≡ Some h) × (h.job ≡ g.job)

-- each grant's job is there
abbrev pub GrantsHaveJobs : Queue → Type 0
GrantsHaveJobs m = (a : ℕ) (g : Grant) → grant_numbered a m ≡ Some g → IsThere m g.job

-- so it is after a step
abbrev pub StepsKeepGrantsWithJobs : Type 0
StepsKeepGrantsWithJobs = (s : Settings) (m n : Queue) (t : ℕ) (ask : Ask) (reply : Reply) → Sound m → GrantsHaveJobs m → step s m t ask ≡ Taken n reply → GrantsHaveJobs n

-- and after every run
abbrev pub RunsKeepGrantsWithJobs : Type 0
RunsKeepGrantsWithJobs = (s : Settings) (m : Queue) (rs : List Request) → Sound m → AreLawful rs → GrantsHaveJobs m → GrantsHaveJobs (queue_after s m rs)

-- the number of a job that came in, by the reply
abbrev pub new_job_in : Reply → Option ℕ
new_job_in (Submitted job) = Some job
new_job_in (Brought job state) = Some job
new_job_in other = None

-- such a job is there
abbrev pub NewJobsAreThere : Type 0
NewJobsAreThere =
    (s : Settings) (m n : Queue) (t : ℕ) (ask : Ask) (reply : Reply) (number : ℕ)
    → Sound m
    → step s m t ask ≡ Taken n reply
    → new_job_in reply ≡ Some number → IsThere n number

-- what has left stays away
abbrev pub GoneStaysGone : Type 0
GoneStaysGone = (s : Settings) (m : Queue) (rs : List Request) (number : ℕ) → IsGone m number → IsGone (queue_after s m rs) number

-- ---- refusals

-- a refusal is one that the request may meet
abbrev pub RefusalsAreMet : Type 0
RefusalsAreMet =
    (s : Settings) (m : Queue) (t : ℕ) (ask : Ask) (refusal : Refusal) (keys : Keys)
    → Sound m
    → step s m t ask ≡ Refused refusal keys
    → may_meet ask refusal ≡ true

-- and what is told with it goes with it
abbrev pub KeysGoWithRefusals : Type 0
KeysGoWithRefusals =
    (s : Settings) (m : Queue) (t : ℕ) (ask : Ask) (refusal : Refusal) (keys : Keys)
    → Sound m
    → step s m t ask ≡ Refused refusal keys
    → goes_with keys (refusal_number refusal) ≡ true

-- what a busy modem is told is the open grant that it holds, with the number of its job
pub record TellsHeld (m : Queue) (modem : List ℕ) (called : Bool) (h : Handed) : Type 0 where
  pub grant : Grant
  pub open_grant : IsOpen m h.grant grant
  pub of_modem : grant.modem ≡ modem
  pub of_job : grant.job ≡ h.job
  pub first_page : grant.first_page ≡ h.from
  pub last_page : grant.last_page ≡ h.to
  pub call : is_some grant.call ≡ called
  pub job : Job
  pub there : IsJob m h.job job
  pub dial : h.dial ≡ job.dial

-- so it is whenever a modem is told that it is busy
abbrev pub BusyModemsAreTold : Type 0
BusyModemsAreTold =
    (s : Settings) (m : Queue) (t : ℕ) (modem : List ℕ) (refusal : Refusal) (called : Bool) (h : Handed)
    → Sound m
    → step s m t (Next modem) ≡ Refused refusal (HeldGrant called h)
    → TellsHeld (aged t m) modem called h

-- ---- the choice

-- the job that is given is the best
abbrev pub BestIsGiven : Type 0
BestIsGiven =
    (s : Settings) (m n : Queue) (t : ℕ) (modem : List ℕ) (h : Handed)
    → Sound m
    → step s m t (Next modem) ≡ Taken n (Given h)
    → (j : Job) × (IsBest s (aged t m) t modem j × (j.number ≡ h.job))

-- there is one best at most
abbrev pub OneIsBest : Type 0
OneIsBest = (s : Settings) (m : Queue) (t : ℕ) (modem : List ℕ) (j k : Job) → IsBest s m t modem j → IsBest s m t modem k → j ≡ k

-- where nothing is given, no job may go
abbrev pub NothingIsLeftOut : Type 0
NothingIsLeftOut =
    (s : Settings) (m n : Queue) (t : ℕ) (modem : List ℕ) (j : Job)
    → Sound m
    → step s m t (Next modem) ≡ Taken n NoneToSend
    → ¬ MayGo s (aged t m) t modem j

-- a ready job is due, so who looks for the best may pass over jobs that aren't
abbrev pub ReadyJobsAreDue : Type 0
ReadyJobsAreDue = (s : Settings) (m : Queue) (t : ℕ) (j : Job) → state s m t j ≡ state_number Ready → is_due j t ≡ true

-- ---- numbers

-- a new job or grant has the next number, and the next number is one more; no other reply changes a next number
abbrev pub NumbersAfter : Queue → Queue → Reply → Type 0
NumbersAfter before after (Submitted job) = (job ≡ before.next_job) × (after.next_job ≡ before.next_job + 1) × (after.next_grant ≡ before.next_grant)
NumbersAfter before after (Brought job state) = (job ≡ before.next_job) × (after.next_job ≡ before.next_job + 1) × (after.next_grant ≡ before.next_grant)
NumbersAfter before after (Given handed) = (handed.grant ≡ before.next_grant) × (after.next_grant ≡ before.next_grant + 1) × (after.next_job ≡ before.next_job)
NumbersAfter before after other = (after.next_job ≡ before.next_job) × (after.next_grant ≡ before.next_grant)

-- so each taken step numbers what it makes
abbrev pub StepsNumberNext : Type 0
StepsNumberNext = (s : Settings) (m n : Queue) (t : ℕ) (ask : Ask) (reply : Reply) → step s m t ask ≡ Taken n reply → NumbersAfter m n reply

-- and no run lowers a next number, so no number is given twice
abbrev pub NextNumbersRise : Type 0
NextNumbersRise = (s : Settings) (m : Queue) (rs : List Request) → (m.next_job ≤ (queue_after s m rs).next_job) × (m.next_grant ≤ (queue_after s m rs).next_grant)

-- ---- the clock

-- a taken step sets the clock to its moment
abbrev pub TakenStepsSetTheClock : Type 0
TakenStepsSetTheClock = (s : Settings) (m n : Queue) (t : ℕ) (ask : Ask) (reply : Reply) → step s m t ask ≡ Taken n reply → n.clock ≡ t

-- a request at a moment is decided at the later of it and the clock
abbrev pub RequestsSetTheClock : Type 0
RequestsSetTheClock = (s : Settings) (m n : Queue) (r : Request) (reply : Reply) → decided s m r ≡ Taken n reply → n.clock ≡ decided_at m.clock r.moment

-- the clock never goes back
abbrev pub ClocksGoForward : Type 0
ClocksGoForward = (s : Settings) (m : Queue) (rs : List Request) → m.clock ≤ (queue_after s m rs).clock

-- no job came in later than that, or ended
abbrev pub ArePast : ℕ → List Times → Type 0
ArePast t xs = AllByRecursion (λ x. (x.submitted ≤ t) × (x.ended ≤ t)) xs

-- a taken step leaves no times that are yet to come, where it found none
abbrev pub StepsKeepTimesPast : Type 0
StepsKeepTimesPast =
    (s : Settings) (m n : Queue) (t : ℕ) (ask : Ask) (reply : Reply)
    → m.clock ≤ t → ArePast m.clock m.times
    → step s m t ask ≡ Taken n reply
    → ArePast n.clock n.times

-- nor does any run
abbrev pub RunsKeepTimesPast : Type 0
RunsKeepTimesPast = (s : Settings) (m : Queue) (rs : List Request) → ArePast m.clock m.times → ArePast (queue_after s m rs).clock (queue_after s m rs).times

-- ---- records of code

-- a record of code is a job, and back again it is the same record
abbrev pub RecordsAreJobs : Type 0
RecordsAreJobs = (f : JobFields) → fields_of (job_of f) ≡ f

-- a job with its pages in order is a record, and back again it is the same job
abbrev pub JobsAreRecords : Type 0
JobsAreRecords = (j : Job) → HasPages j → job_of (fields_of j) ≡ j

-- the test on a record decides whether its job fits the open grant, or none
abbrev pub FitsIsDecided : Type 0
FitsIsDecided = (f : JobFields) (o : Option Grant) → Decides (fits f o) (Fits (job_of f) o)

-- ---- lawful records: no change that is decided is refused as unlawful

-- a lawful record holds the job
abbrev pub HasRecord : Job → Type 0
HasRecord j = is_lawful (fields_of j) ≡ true

-- one holds the job of a grant that is decided
abbrev pub HasJobRecord : JobAndGrant → Type 0
HasJobRecord both = HasRecord both.job

-- a job that is held, let go or killed
abbrev pub RequestsKeepRecords : Type 0
RequestsKeepRecords = (j : Job) → HasRecord j → IfOk (suspend j) HasRecord × IfOk (resume j) HasRecord × IfOk (kill j) HasRecord

-- a job that is altered by what was read
abbrev pub AlterationsKeepRecords : Type 0
AlterationsKeepRecords = (ps : List Pair) (a : Alter) (j : Job) (t : ℕ) → alter_of ps ≡ Ok a → HasRecord j → IfOk (alter a j t) HasRecord

-- a job that is granted
abbrev pub GrantsKeepRecords : Type 0
GrantsKeepRecords = (j : Job) (modem : List ℕ) (number greatest : ℕ) → HasRecord j → IfOk (grant j modem number greatest) HasJobRecord

-- a job whose open grant is reported on; its next time is at most a day past the last moment
abbrev pub ReportsKeepRecords : Type 0
ReportsKeepRecords =
    (j : Job) (g : Grant) → Fits j (Some g) → HasRecord j
    → ((c : Call) → IfOk (call c j g) HasJobRecord)
    × ((n : ℕ) → IfOk (page n j g) HasJobRecord)
    × ((o : Outcome) (delay t : ℕ) → t + delay ≤ last_next → IfOk (outcome o j g delay t) HasJobRecord)
