-- What is proved of a worker and its queue.
use Rattle.std.specs.Prelude.{◌≤◌, ◌+◌, ◌≡◌, ◌⊎◌, ℕ, true, List, [], ◌∷◌, length, Some, None}
use Rattle.fax_job.specs.declared.job.Phase.TheVariants as phase
use Rattle.fax_core.specs.declared.ask.Ask.TheVariants.{OnGrant}
use Rattle.fax_core.specs.declared.grants.Grant.{Grant}
use Rattle.fax_core.specs.declared.report.Report.{Report}
use Rattle.fax_core.specs.Job.{Job}
use Rattle.fax_core.specs.Queue.{Queue}
use Rattle.fax_core.specs.Reply.{Reply}
use Rattle.fax_core.specs.Run.{Answer, Replied}
use Rattle.fax_core.specs.Sound.{IsJob, IsOpen}
use Rattle.fax_core.specs.Settings.{Settings}
use Rattle.fax_run.specs.Reading.{Post}
use Rattle.fax_run.specs.Run.{under}
use Rattle.fax_worker.specs.Trace.{Event, Has, IsFirst, IsTrace, Transmits, World, answer_to, begun, fed, queue_at, sent_answers, worker_at}
use Rattle.fax_worker.specs.Transmitted.{AreUndisturbed, deaths, pages_after, pages_of, sent_before, transmitted}
use Rattle.fax_worker.specs.Worker.{Held, Pending}

-- the grant that a worker holds is its modem's open grant, of the job with that number to dial; the queue has the same call and as many pages confirmed
pub record Agrees (m : Queue) (modem : List ℕ) (h : Held) : Type 0 where
  pub grant : Grant
  pub open_grant : IsOpen m h.grant grant
  pub of_modem : grant.modem ≡ modem
  pub of_job : grant.job ≡ h.job
  pub first_page : grant.first_page ≡ h.first_page
  pub last_page : grant.last_page ≡ h.last_page
  pub call : grant.call ≡ h.call
  pub pages : grant.confirmed ≡ h.pages
  pub job : Job
  pub there : IsJob m h.job job
  pub dial : job.dial ≡ h.dial

-- whenever nothing is unanswered, a worker that holds a grant and the queue agree about it
abbrev pub WorkersAgree : World → List Event → Type 0
WorkersAgree first trace = (modem : List ℕ) (h : Held) → first.has modem ≡ true
    → (worker_at first trace modem).unanswered ≡ None → (worker_at first trace modem).held ≡ Some h → Agrees (queue_at first trace) modem h

-- every answer that the queue has sent to an unanswered report accepts it
abbrev pub ReportsAreAccepted : World → List Event → Type 0
ReportsAreAccepted first trace = (modem : List ℕ) (number grant : ℕ) (r : Report) (answer : Answer) → first.has modem ≡ true
    → (worker_at first trace modem).unanswered ≡ Some (record { number = number; ask = OnGrant grant r })
    → Has (record { number = number; ask = OnGrant grant r; answer = answer }) (sent_answers first.start trace (first.worker modem).client) → (reply : Reply) × (answer ≡ Replied reply)

-- so it is in each trace
abbrev pub TracesAgree : Type 0
TracesAgree = (first : World) (trace : List Event) → IsFirst first → IsTrace first trace → WorkersAgree first trace × ReportsAreAccepted first trace

-- the post is the worker's request, as the worker sends it
pub record IsSentBy (first : World) (modem : List ℕ) (request : Pending) (p : Post) : Type 0 where
  pub client : p.client ≡ (first.worker modem).client
  pub number : p.number ≡ request.number
  pub ask : p.request.ask ≡ request.ask
  pub said : p.said ≡ first.says request.ask

-- whenever an unanswered report reaches the queue, at any moment and under any settings, it is accepted
abbrev pub ReportsWillBeAccepted : Type 0
ReportsWillBeAccepted = (first : World) (trace : List Event) → IsFirst first → IsTrace first trace
    → (modem : List ℕ) (request : Pending) (grant : ℕ) (r : Report) (s : Settings) (p : Post) → first.has modem ≡ true
    → (worker_at first trace modem).unanswered ≡ Some request → request.ask ≡ OnGrant grant r → IsSentBy first modem request p
    → (reply : Reply) × (answer_to first.start (fed first.start trace) (under s p) ≡ Replied reply)

-- no worker begins two requests under one number
abbrev pub NumbersAreUsedOnce : Type 0
NumbersAreUsedOnce = (first : World) (trace : List Event) → IsFirst first → IsTrace first trace
    → (modem : List ℕ) (p q : Pending) → first.has modem ≡ true → Has p (begun trace modem) → Has q (begun trace modem) → p.number ≡ q.number → p ≡ q

-- ---- at the receiver

-- A page that is transmitted is the first of its job that isn't confirmed. So none that was confirmed, or came in as sent, is transmitted any more.
abbrev pub TransmitsTheNext : Type 0
TransmitsTheNext = (first : World) (earlier : List Event) (modem : List ℕ) (job page : ℕ) → IsFirst first → IsTrace first (Transmits modem job page ∷ earlier)
    → (j : Job) × IsJob (queue_at first earlier) job j × (page ≡ length j.sent + 1)

-- Each page of each job is transmitted once at most, and once more for each time that its driver died between a transmission of that page and its begun report.
abbrev pub OnceAtTheReceiver : Type 0
OnceAtTheReceiver = (first : World) (trace : List Event) → IsFirst first → IsTrace first trace → (job page : ℕ) → transmitted job page trace ≤ 1 + deaths job page trace

-- Of a job the pages after those sent before are transmitted, each once and in order, through the last confirmed one or the one after it; and through the last page where the job is done.
pub record PagesGoInOrder (first : World) (trace : List Event) (job : ℕ) (j : Job) : Type 0 where
  pub before : sent_before first (fed first.start trace) job ≤ length j.sent
  pub pages : let before = sent_before first (fed first.start trace) job in
      (pages_of job trace ≡ pages_after before (length j.sent)) ⊎ (pages_of job trace ≡ pages_after before (length j.sent + 1))
  pub all : j.phase ≡ phase.Done → pages_of job trace ≡ pages_after (sent_before first (fed first.start trace) job) j.totpages

-- a job that is done has no page left
abbrev pub DoneJobsAreSent : Queue → Type 0
DoneJobsAreSent m = (n : ℕ) (j : Job) → IsJob m n j → j.phase ≡ phase.Done → j.left ≡ []

-- so it is in each trace that nothing disturbs
abbrev pub InOrderAtTheReceiver : Type 0
InOrderAtTheReceiver = (first : World) (trace : List Event) → IsFirst first → DoneJobsAreSent first.start.queue → IsTrace first trace → AreUndisturbed first trace
    → (job : ℕ) (j : Job) → IsJob (queue_at first trace) job j → PagesGoInOrder first trace job j
