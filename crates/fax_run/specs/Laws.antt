-- What is proved of the definitions.
use Rattle.std.specs.Prelude.{true, false, ⊤, ◌⊎◌, ◌≡◌, ◌≢◌, ◌≤◌, ◌<◌, ℕ, List, [], ◌∷◌, All, ◌++◌, None, Some, Ok}
use Rattle.fax_job.specs.declared.import.Import.{Import}
use Rattle.fax_job.specs.declared.refusal.Refusal.TheVariants.{Unavailable}
use Rattle.fax_ask.specs.Response.{Response, refused_response}
use Rattle.fax_core.specs.Ask.{IsLawfulAsk}
use Rattle.fax_core.specs.Job.{Job}
use Rattle.fax_core.specs.Laws.{HoldsOnce, IsGone}
use Rattle.fax_core.specs.Ledger.{Ledger, with_reply, kept_for, entry, IsKeptStatus, IsLawfulEntry}
use Rattle.fax_core.specs.Queue.{Queue, empty_queue, grant_numbered}
use Rattle.fax_core.specs.Reply.{Brought, Given, Handed, NoKeys, Reply, Taken}
use Rattle.fax_core.specs.declared.ask.Ask.TheVariants.{Bring, Next, OnGrant}
use Rattle.fax_core.specs.declared.report.Report.TheVariants.{Page}
use Rattle.fax_core.specs.declared.ask.Ask.{Ask}
use Rattle.fax_core.specs.declared.grants.Grant.{Grant}
use Rattle.fax_core.specs.Settings.{Settings}
use Rattle.fax_core.specs.Sound.{IsJob, Sound}
use Rattle.fax_run.specs.Arrival.{number_of, said_of}
use Rattle.fax_run.specs.Reading.{Post, Reading, Posts, IsReading, post_of}
use Rattle.fax_run.specs.Counts.{brought_with, counters_of, counts, reports_of}
use Rattle.fax_run.specs.Run.{Fed, Start, IsRun, end_of, is_taken, kept_after, queue_after, reply_at, step_of, taken, takes, under}
use Rattle.fax_run.specs.Verdict.{Verdict, Told, Repeated, Accepted, IsVerdict, reply_of, verdict, without_given}
use Rattle.fax_run.specs.declared.arrival.Arrival.{Arrival}

-- an arrival says one thing at most
abbrev pub OneReading : Type 0
OneReading = (a : Arrival) (r q : Reading) → IsReading a r → IsReading a q → r ≡ q

-- so it comes to one thing at most
abbrev pub OneVerdict : Type 0
OneVerdict = (settings : Settings) (a : Arrival) (m : Queue) (k : Ledger) (v w : Verdict) → IsVerdict settings a m k v → IsVerdict settings a m k w → v ≡ w

-- an arrival says something, so it comes to something
abbrev pub HasVerdict : Arrival → Type 0
HasVerdict a = (settings : Settings) (m : Queue) (k : Ledger) → (v : Verdict) × IsVerdict settings a m k v

-- at a sound queue with lawful kept replies no arrival comes to 503, which stands for want of memory or of the store
abbrev pub NoVerdictIsUnavailable : Type 0
NoVerdictIsUnavailable = (settings : Settings) (a : Arrival) (m : Queue) (k : Ledger) (v : Verdict) → Sound m → All IsLawfulEntry k.replies → IsVerdict settings a m k v → (reply_of v).status ≢ 503

-- The arrival has a client and a number above its floor, that had no kept reply. The reply is kept for them, and no other changes but those that the client gives up.
abbrev pub IsKeptOnce : Arrival → Ledger → Ledger → Response → Type 0
IsKeptOnce a k kept reply =
    (number : ℕ) × (ask : Ask) × IsReading a (Posts (post_of a number ask)) × (k.floor a.client.now < number) × (kept_for a.client.now number k.replies ≡ None)
    × (kept ≡ with_reply (entry a.client.now number (said_of a) reply.status reply.body) (without_given a.client.now ask k))

-- what is accepted is kept once
abbrev pub AcceptedOnce : Type 0
AcceptedOnce = (settings : Settings) (a : Arrival) (m : Queue) (k : Ledger) (after : Queue) (kept : Ledger) (reply : Response)
    → IsVerdict settings a m k (Accepted after kept reply) → IsKeptOnce a k kept reply

-- the same client says the same under the same number, at whatever moment
pub record SaysTheSame (a b : Arrival) : Type 0 where
  pub client : a.client.now ≡ b.client.now
  pub number : a.number.now ≡ b.number.now
  pub method : a.method ≡ b.method
  pub path : a.path.now ≡ b.path.now
  pub body : a.body.now ≡ b.body.now

-- what is kept for the arrival's number of its client is there still, and the client hasn't given it up since
pub record IsThereStill (a : Arrival) (kept later : Ledger) : Type 0 where
  pub number : ℕ
  pub its : number_of a ≡ Ok number
  pub same : kept_for a.client.now number later.replies ≡ kept_for a.client.now number kept.replies
  pub above : later.floor a.client.now < number

-- A repeat of what was accepted gets the reply to it, byte for byte, and changes nothing: whatever its moment, and whatever was accepted since, as long as the client hasn't given it up.
abbrev pub RepeatsGetTheirReply : Type 0
RepeatsGetTheirReply = (settings : Settings) (a b : Arrival) (m after queue : Queue) (k kept later : Ledger) (reply : Response)
    → IsVerdict settings a m k (Accepted after kept reply) → SaysTheSame a b → IsThereStill a kept later
    → IsVerdict settings b queue later (Repeated reply)

-- ---- whole runs

-- where a verdict leads
abbrev pub left_of : Start → Verdict → Start
left_of start (Told reply) = start
left_of start (Repeated reply) = start
left_of start (Accepted after kept reply) = record { queue = after; kept = kept }

-- looking back leads where taking one arrival after the other leads
abbrev pub RunsThread : Type 0
RunsThread = (s : Settings) (start : Start) (past : List Reading) (r : Reading) →
    let here = end_of s start past in
    end_of s start (r ∷ past) ≡ left_of here (verdict s here.queue here.kept r)

-- What is taken, answered and left of a run is that of its beginning, and then that of the rest from where the beginning leads.
abbrev pub RunsSplit : Type 0
RunsSplit = (s : Settings) (start : Start) (rest beginning : List Reading) (r : Reading) →
    let later = end_of s start beginning in
    (taken s start (rest ++ beginning) ≡ taken s later rest ++ taken s start beginning)
    × (end_of s start (rest ++ beginning) ≡ end_of s later rest)
    × (reply_at s start (rest ++ beginning) r ≡ reply_at s later rest r)

-- the reply doesn't say that memory or the store gave out
abbrev pub IsAvailable : Response → Type 0
IsAvailable reply = reply ≢ refused_response Unavailable NoKeys

abbrev pub AreAvailable : List Response → Type 0
AreAvailable replies = All IsAvailable replies

-- Two runs of the same arrivals from the same start, in which no reply is 27, hear the same and answer the same: so they lead to the same end.
abbrev pub OneRun : Type 0
OneRun = (s : Settings) (start : Start) (arrivals : List Arrival) (replies others : List Response) (heard also_heard : List Reading)
    → IsRun s start [] arrivals replies heard → IsRun s start [] arrivals others also_heard → AreAvailable replies → AreAvailable others
    → (replies ≡ others) × (heard ≡ also_heard)

-- the post is taken behind that past
abbrev pub IsTakenAt : Settings → Start → List Reading → Post → Type 0
IsTakenAt s start past p = is_taken start (taken s start past) (under s p) ≡ true

-- all else is left and answered as if that had not been heard
abbrev pub LeavesNoTrace : Settings → Start → List Reading → List Reading → Reading → Type 0
LeavesNoTrace s start later past r =
    (end_of s start (later ++ r ∷ past) ≡ end_of s start (later ++ past))
    × ((x : Reading) → reply_at s start (later ++ r ∷ past) x ≡ reply_at s start (later ++ past) x)

-- what is not taken leaves no trace
abbrev pub UntakenLeaveNoTrace : Type 0
UntakenLeaveNoTrace = (s : Settings) (start : Start) (later past : List Reading) (r : Reading)
    → taken s start (r ∷ past) ≡ taken s start past → LeavesNoTrace s start later past r

-- nor does what comes under a number that was taken, wherever it comes behind it, at whatever moment: so no copy of what was taken does
abbrev pub CopiesLeaveNoTrace : Type 0
CopiesLeaveNoTrace = (s : Settings) (start : Start) (later between past : List Reading) (p q : Post)
    → IsTakenAt s start past p → q.client ≡ p.client → q.number ≡ p.number → LeavesNoTrace s start later (between ++ Posts p ∷ past) (Posts q)

-- and who is answered 200 or 201 under that number is answered what was answered when it was taken
abbrev pub NumbersHaveOneReply : Type 0
NumbersHaveOneReply = (s : Settings) (start : Start) (later past : List Reading) (p q : Post)
    → IsTakenAt s start past p → q.client ≡ p.client → q.number ≡ p.number
    → IsKeptStatus (reply_at s start (later ++ Posts p ∷ past) (Posts q)).status
    → reply_at s start (later ++ Posts p ∷ past) (Posts q) ≡ reply_at s start past (Posts p)

-- ---- counters

-- each of these requests was taken behind the earlier ones, and what it asks for is lawful
abbrev pub AreTaken : Queue → List Fed → Type 0
AreTaken m [] = ⊤
AreTaken m (f ∷ earlier) = IsLawfulAsk f.post.request.ask × (takes (step_of (queue_after m earlier) f) ≡ true) × AreTaken m earlier

-- the same, and its number was new there
abbrev pub AreAccepted : Start → List Fed → Type 0
AreAccepted start [] = ⊤
AreAccepted start (f ∷ earlier) = IsLawfulAsk f.post.request.ask × (is_taken start earlier f ≡ true) × AreAccepted start earlier

-- from the empty queue the counters of each job are what it came in with and the counts of its reports, whatever the settings of each step
abbrev pub CountersAreCounts : Type 0
CountersAreCounts = (fed : List Fed) → AreTaken empty_queue fed
    → (number : ℕ) (j : Job) → IsJob (queue_after empty_queue fed) number j
    → counters_of j ≡ counts (brought_with empty_queue number fed) (reports_of empty_queue number fed)

-- ---- modems, jobs and pages

-- after each run the queue is sound, so a modem holds one open grant at most, and so does a job
abbrev pub RunsAreSound : Type 0
RunsAreSound = (m : Queue) (fed : List Fed) → Sound m → AreTaken m fed → Sound (queue_after m fed) × HoldsOnce (queue_after m fed)

-- The grant is as it was given: its number, its job, its modem and its pages. Pages confirmed under it may have come. Once it is closed, nothing of it changes.
pub record IsSameGrant (g h : Grant) : Type 0 where
  pub number : h.number ≡ g.number
  pub job : h.job ≡ g.job
  pub modem : h.modem ≡ g.modem
  pub first_page : h.first_page ≡ g.first_page
  pub last_page : h.last_page ≡ g.last_page
  pub confirmed : g.confirmed ≤ h.confirmed
  pub closed : g.is_open ≡ false → h ≡ g

-- each grant of the one queue is in the other, unless its job has left
abbrev pub KeepsGrants : Queue → Queue → Type 0
KeepsGrants m n = (number : ℕ) (g : Grant) → grant_numbered number m ≡ Some g → ((h : Grant) × (grant_numbered number n ≡ Some h) × IsSameGrant g h) ⊎ IsGone n g.job

-- what is given in a run stays there with its job, as it was given
abbrev pub RunsKeepGrants : Type 0
RunsKeepGrants = (m : Queue) (later earlier : List Fed) → Sound m → AreTaken m (later ++ earlier)
    → KeepsGrants (queue_after m earlier) (queue_after m (later ++ earlier))

-- the request reports this page of this grant
abbrev pub IsConfirmed : Queue → Fed → ℕ → ℕ → Grant → Type 0
IsConfirmed m f grant page g = (f.post.request.ask ≡ OnGrant grant (Page page)) × (grant_numbered grant m ≡ Some g)

-- where the request is given the job, its pages lie behind that page; where it reports a page of the job, that lies behind it too
pub record GoesBehind (m : Queue) (f : Fed) (job page : ℕ) : Type 0 where
  pub given : (modem : List ℕ) (n : Queue) (handed : Handed)
      → f.post.request.ask ≡ Next modem → step_of m f ≡ Taken n (Given handed) → handed.job ≡ job → page < handed.from
  pub confirmed : (grant more : ℕ) (n : Queue) (told : Reply) (g : Grant)
      → f.post.request.ask ≡ OnGrant grant (Page more) → step_of m f ≡ Taken n told → grant_numbered grant m ≡ Some g → g.job ≡ job → page < more

-- behind each page report that was taken, each request that was taken goes behind its page: no page is confirmed twice, and none that was is granted again
abbrev pub NoPageTwice : Queue → List Fed → Type 0
NoPageTwice m fed = (newer between earlier : List Fed) (e f : Fed) (grant page : ℕ) (g : Grant)
    → fed ≡ newer ++ f ∷ (between ++ e ∷ earlier) → IsConfirmed (queue_after m earlier) e grant page g
    → GoesBehind (queue_after m (between ++ e ∷ earlier)) f g.job page

abbrev pub RunsSendOnce : Type 0
RunsSendOnce = (m : Queue) (fed : List Fed) → Sound m → AreTaken m fed → NoPageTwice m fed

-- the request was taken: it brings in a job, under this number and with so many pages sent
pub record BringsIn (m : Queue) (f : Fed) (job pages : ℕ) : Type 0 where
  pub it : Import
  pub asks : f.post.request.ask ≡ Bring it
  pub state : ℕ
  pub after : Queue
  pub taken : step_of m f ≡ Taken after (Brought job state)
  pub npages : it.npages ≡ pages

-- after each import that was taken, each request that was taken goes past the pages that the job came in with as sent: none of them is granted or confirmed
abbrev pub NoImportedPage : Queue → List Fed → Type 0
NoImportedPage m fed = (newer between earlier : List Fed) (e f : Fed) (job pages : ℕ)
    → fed ≡ newer ++ f ∷ (between ++ e ∷ earlier) → BringsIn (queue_after m earlier) e job pages
    → GoesBehind (queue_after m (between ++ e ∷ earlier)) f job pages

abbrev pub RunsSendNoImportedPage : Type 0
RunsSendNoImportedPage = (m : Queue) (fed : List Fed) → Sound m → AreTaken m fed → NoImportedPage m fed

-- the clock never goes back
abbrev pub ClockRises : Queue → List Fed → Type 0
ClockRises m fed = (later earlier : List Fed) → fed ≡ later ++ earlier → (queue_after m earlier).clock ≤ (queue_after m fed).clock

-- and no floor of a client falls
abbrev pub FloorsRise : Start → List Fed → Type 0
FloorsRise start fed = (client : List ℕ) (later earlier : List Fed) → fed ≡ later ++ earlier
    → (kept_after start earlier).floor client ≤ (kept_after start fed).floor client

-- What holds after requests that were taken: the queue is sound, a modem and a job hold one open grant at most, no page goes twice, also none that came in as
-- sent, each grant is as it was given, clock and floors only rise, and from the empty queue on the counters count.
pub record GoesWell (start : Start) (fed : List Fed) : Type 0 where
  pub sound : Sound (queue_after start.queue fed)
  pub held_once : HoldsOnce (queue_after start.queue fed)
  pub sent_once : NoPageTwice start.queue fed
  pub imported : NoImportedPage start.queue fed
  pub grants_stay : (later earlier : List Fed) → fed ≡ later ++ earlier → KeepsGrants (queue_after start.queue earlier) (queue_after start.queue fed)
  pub clock : ClockRises start.queue fed
  pub floors : FloorsRise start fed
  pub counted : start.queue ≡ empty_queue → (number : ℕ) (j : Job) → IsJob (queue_after start.queue fed) number j
      → counters_of j ≡ counts (brought_with empty_queue number fed) (reports_of empty_queue number fed)
