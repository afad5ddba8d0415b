-- What happens at a queue and at its modems' workers. The newest event comes first.
use Rattle.std.specs.Prelude.{◌≡◌, ◌⊎◌, ◌≤◌, ◌<◌, ⊤, ℕ, Bool, true, nat_lt, List, [], ◌∷◌, Option, Some, None, if◌then◌else◌}
use Rattle.std.specs.Str.{bytes_eq}
use Rattle.fax_job.specs.declared.job.Call.TheVariants.{Connected}
use Rattle.fax_job.specs.declared.refusal.Refusal.TheVariants.{FloorHigh, GivenUp, NumberReused}
use Rattle.fax_core.specs.Ask.{IsLawfulAsk}
use Rattle.fax_core.specs.declared.ask.Ask.{Ask}
use Rattle.fax_core.specs.declared.ask.Ask.TheVariants.{OnGrant}
use Rattle.fax_core.specs.declared.grants.Grant.{Grant}
use Rattle.fax_core.specs.declared.report.Report.{Report}
use Rattle.fax_core.specs.declared.report.Report.TheVariants as report
use Rattle.fax_core.specs.Ledger.{kept_for}
use Rattle.fax_core.specs.Queue.{Queue, grant_numbered}
use Rattle.fax_core.specs.Reply.{Keys, NoKeys, HeldGrant}
use Rattle.fax_core.specs.Run.{Answer, Replied, Denied, answer_of}
use Rattle.fax_core.specs.Settings.{Settings}
use Rattle.fax_core.specs.Sound.{IsOpen, Sound}
use Rattle.fax_run.specs.Reading.{Post, Posts}
use Rattle.fax_run.specs.Run.{Fed, Start, floors_after, is_of, queue_after, step_of, under, with_taken}
use Rattle.fax_run.specs.Verdict.{is_too_high, raised}
use Rattle.fax_worker.specs.Worker as worker
use Rattle.fax_worker.specs.Worker.{Held, Look, Pending, Worker, next_page, with_answer, with_request}

-- where a trace begins: the queue and its kept replies, and the workers by their modems
pub record World : Type 0 where
  pub start : Start
  -- whether the modem has a worker
  pub has : List ℕ → Bool
  pub worker : List ℕ → Worker
  -- path and body that a worker sends for a request
  pub says : Ask → List ℕ

pub data Event : Type 0 where
  -- the queue gets a request, under the settings of that time; the network may lose, double and reorder requests and replies
  Handles : (settings : Settings) (post : Post) → Event
  -- a modem's worker begins a request under a number
  Begins : (modem : List ℕ) (number : ℕ) (ask : Ask) → Event
  -- it gets the answer
  Answered : (modem : List ℕ) (number : ℕ) (ask : Ask) (answer : Answer) (look : Look) → Event
  -- the receiver confirms a page
  Transmits : (modem : List ℕ) (job page : ℕ) → Event
  -- the modem's driver dies; its journal stays, and another driver goes on
  Dies : (modem : List ℕ) → Event

-- ---- the queue's side

-- the requests that the queue has accepted, each with the settings of its time
abbrev pub fed : Start → List Event → List Fed
fed start [] = []
fed start (Handles s p ∷ earlier) = with_taken s start (fed start earlier) (Posts p)
fed start (other ∷ earlier) = fed start earlier

-- the queue
abbrev pub queue_at : World → List Event → Queue
queue_at first trace = queue_after first.start.queue (fed first.start trace)

-- a new request is decided
abbrev pub new_answer : Start → List Fed → Fed → Answer
new_answer start earlier f =
    if is_too_high f.post.number f.post.request.ask then Denied FloorHigh NoKeys
    else answer_of (step_of (queue_after start.queue earlier) (under f.settings (raised (floors_after start earlier f.post.client) f.post)))

-- the same request gets the answer that it got when it was accepted, and under its number nothing else is accepted
abbrev pub repeated : Start → List Fed → Post → Answer → Answer
repeated start [] p new = new
repeated start (f ∷ earlier) p new =
    if is_of p.client p.number f then (if bytes_eq f.post.said p.said then new_answer start earlier f else Denied NumberReused NoKeys)
    else repeated start earlier p new

-- the queue's answer to a request after these, where its number had no kept reply at the start
abbrev pub answer_to : Start → List Fed → Fed → Answer
answer_to start earlier f =
    if nat_lt (floors_after start earlier f.post.client) f.post.number then repeated start earlier f.post (new_answer start earlier f)
    else Denied GivenUp NoKeys

-- an answer that the queue sent to a request
pub record SentAnswer : Type 0 where
  pub number : ℕ
  pub ask : Ask
  pub answer : Answer

-- all answers that the queue sent to a client
abbrev pub sent_answers : Start → List Event → List ℕ → List SentAnswer
sent_answers start [] client = []
sent_answers start (Handles s p ∷ earlier) client =
    if bytes_eq p.client client then record { number = p.number; ask = p.request.ask; answer = answer_to start (fed start earlier) (under s p) } ∷ sent_answers start earlier client
    else sent_answers start earlier client
sent_answers start (other ∷ earlier) client = sent_answers start earlier client

-- ---- the workers' side

-- a modem's worker
abbrev pub worker_at : World → List Event → List ℕ → Worker
worker_at first [] modem = first.worker modem
worker_at first (Begins m number ask ∷ earlier) modem = if bytes_eq m modem then with_request number ask (worker_at first earlier modem) else worker_at first earlier modem
worker_at first (Answered m number ask answer look ∷ earlier) modem = if bytes_eq m modem then with_answer ask answer look (worker_at first earlier modem) else worker_at first earlier modem
worker_at first (other ∷ earlier) modem = worker_at first earlier modem

-- the requests that it has begun
abbrev pub begun : List Event → List ℕ → List Pending
begun [] modem = []
begun (Begins m number ask ∷ earlier) modem = if bytes_eq m modem then record { number = number; ask = ask } ∷ begun earlier modem else begun earlier modem
begun (other ∷ earlier) modem = begun earlier modem

-- a page of a job
pub record PageOf : Type 0 where
  pub job : ℕ
  pub page : ℕ

-- the page that the modem's newest event transmitted, if it did: its report isn't begun yet
abbrev pub window : List Event → List ℕ → Option PageOf
window [] modem = None
window (Handles s p ∷ earlier) modem = window earlier modem
window (Begins m number ask ∷ earlier) modem = if bytes_eq m modem then None else window earlier modem
window (Answered m number ask answer look ∷ earlier) modem = if bytes_eq m modem then None else window earlier modem
window (Transmits m job page ∷ earlier) modem = if bytes_eq m modem then Some (record { job = job; page = page }) else window earlier modem
window (Dies m ∷ earlier) modem = if bytes_eq m modem then None else window earlier modem

-- ---- what may come next

abbrev pub Has : {A : Type 0} → A → List A → Type 0
Has x [] = ⊥
Has x (y ∷ ys) = (y ≡ x) ⊎ Has x ys

-- The request is valid. Under a worker's name comes only what it has begun, as it sends it. On the open grant of its modem only the worker reports.
pub record MayHandle (first : World) (earlier : List Event) (p : Post) : Type 0 where
  pub valid : IsLawfulAsk p.request.ask
  pub own : (modem : List ℕ) → first.has modem ≡ true → p.client ≡ (first.worker modem).client
      → Has (record { number = p.number; ask = p.request.ask }) (begun earlier modem) × (p.said ≡ first.says p.request.ask)
  pub alone : (n : ℕ) (g : Grant) (r : Report) → p.request.ask ≡ OnGrant n r → IsOpen (queue_at first earlier) n g → first.has g.modem ≡ true
      → p.client ≡ (first.worker g.modem).client

-- the report of this page, or anything where there is none
abbrev pub ReportsIt : Option PageOf → Ask → Type 0
ReportsIt None ask = ⊤
ReportsIt (Some sent) ask = (grant : ℕ) × (ask ≡ OnGrant grant (report.Page sent.page))

-- a worker begins what its record allows; a driver that transmitted a page and lives reports it next
pub record MayBegin (first : World) (earlier : List Event) (modem : List ℕ) (number : ℕ) (ask : Ask) : Type 0 where
  pub works : first.has modem ≡ true
  pub action : worker.Action
  pub begins : worker.Begins modem (worker_at first earlier modem) action number ask (with_request number ask (worker_at first earlier modem))
  pub reports : ReportsIt (window earlier modem) ask

-- what a worker sees is what the queue has for the grant
abbrev pub ShowsGrant : Queue → Keys → Look → Type 0
ShowsGrant m (HeldGrant true h) look = (g : Grant) × (grant_numbered h.grant m ≡ Some g) × (look ≡ record { call = g.call; pages = g.confirmed })
ShowsGrant m other look = ⊤

abbrev pub Shows : Queue → Answer → Look → Type 0
Shows m (Replied reply) look = ⊤
Shows m (Denied refusal keys) look = ShowsGrant m keys look

-- a worker gets an answer that the queue has sent to its unanswered request
pub record MayAnswer (first : World) (earlier : List Event) (modem : List ℕ) (number : ℕ) (ask : Ask) (answer : Answer) (look : Look) : Type 0 where
  pub works : first.has modem ≡ true
  pub answered : worker.IsAnswered (worker_at first earlier modem) number ask answer look (with_answer ask answer look (worker_at first earlier modem))
  pub sent : Has (record { number = number; ask = ask; answer = answer }) (sent_answers first.start earlier (first.worker modem).client)
  pub looked : Shows (queue_at first earlier) answer look

-- a page is transmitted when nothing is unanswered and a connected call was reported; it is the next page of the held grant, and no other page waits for its report
pub record MayTransmit (first : World) (earlier : List Event) (modem : List ℕ) (job page : ℕ) : Type 0 where
  pub works : first.has modem ≡ true
  pub answered : (worker_at first earlier modem).unanswered ≡ None
  pub held : Held
  pub holds : (worker_at first earlier modem).held ≡ Some held
  pub connected : held.call ≡ Some Connected
  pub of_job : held.job ≡ job
  pub next : next_page held ≡ page
  pub left : page ≤ held.last_page
  pub reported : window earlier modem ≡ None

abbrev pub May : World → List Event → Event → Type 0
May first earlier (Handles s p) = MayHandle first earlier p
May first earlier (Begins modem number ask) = MayBegin first earlier modem number ask
May first earlier (Answered modem number ask answer look) = MayAnswer first earlier modem number ask answer look
May first earlier (Transmits modem job page) = MayTransmit first earlier modem job page
May first earlier (Dies modem) = ⊤

-- each event may come after those before it
abbrev pub IsTrace : World → List Event → Type 0
IsTrace first [] = ⊤
IsTrace first (e ∷ earlier) = May first earlier e × IsTrace first earlier

-- ---- how it begins

-- a grant with no call has no page confirmed
abbrev pub CallsComeFirst : Queue → Type 0
CallsComeFirst m = (n : ℕ) (g : Grant) → grant_numbered n m ≡ Some g → g.call ≡ None → g.confirmed ≡ 0

-- a worker with a new journal: it holds nothing, and its numbers are above those that the queue knows of its name
pub record IsNew (start : Start) (w : Worker) : Type 0 where
  pub answered : w.unanswered ≡ None
  pub holds : w.held ≡ None
  pub unused : (number : ℕ) → w.last < number → kept_for w.client number start.kept.replies ≡ None
  pub floor : start.kept.floor w.client ≤ w.last

-- the queue is sound, and each worker new
pub record IsFirst (first : World) : Type 0 where
  pub sound : Sound first.start.queue
  pub calls : CallsComeFirst first.start.queue
  pub workers : (modem : List ℕ) → first.has modem ≡ true → IsNew first.start (first.worker modem)
