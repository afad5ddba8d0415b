-- A worker acts for one modem. Its record is what its journal has.
use Rattle.std.specs.Prelude.{◌≡◌, ◌≤◌, ◌<◌, ◌+◌, ℕ, Bool, true, false, List, Option, Some, None, is_some, if◌then◌else◌}
use Rattle.fax_job.specs.declared.job.Call.{Call}
use Rattle.fax_job.specs.declared.job.Call.TheVariants.{Connected}
use Rattle.fax_job.specs.declared.refusal.Refusal.{Refusal}
use Rattle.fax_job.specs.declared.refusal.Refusal.TheVariants.{NoGrant, GrantClosed}
use Rattle.fax_core.specs.declared.ask.Ask.{Ask}
use Rattle.fax_core.specs.declared.ask.Ask.TheVariants.{Next, OnGrant, GiveUp}
use Rattle.fax_core.specs.declared.report.Ending.{Ending}
use Rattle.fax_core.specs.declared.report.Ending.TheVariants.{Done}
use Rattle.fax_core.specs.declared.report.Outcome.{Outcome}
use Rattle.fax_core.specs.declared.report.Report.{Report}
use Rattle.fax_core.specs.declared.report.Report.TheVariants as report
use Rattle.fax_core.specs.Reply.{Handed, Reply, Given, Keys, HeldGrant}
use Rattle.fax_core.specs.Run.{Answer, Replied, Denied}

-- a grant that a worker holds, and what the queue has accepted of it
pub record Held : Type 0 where
  pub grant : ℕ
  pub job : ℕ
  -- the number to dial
  pub dial : List ℕ
  pub first_page : ℕ
  pub last_page : ℕ
  -- how the call went, once it is reported
  pub call : Option Call
  -- how many pages are reported
  pub pages : ℕ

-- a request under its number
pub record Pending : Type 0 where
  pub number : ℕ
  pub ask : Ask

pub record Worker : Type 0 where
  -- its name as a client
  pub client : List ℕ
  -- the last number that it used
  pub last : ℕ
  -- the request that isn't answered yet
  pub unanswered : Option Pending
  pub held : Option Held

-- what a worker may do
pub data Action : Type 0 where
  AsksForWork : Action
  ReportsCall : (call : Call) → Action
  ReportsPage : Action
  ReportsOutcome : (ending : Ending) (reason : List ℕ) → Action
  -- it gives up the replies to all its numbers so far
  GivesUp : Action

-- ---- a request begins

-- the first page that isn't reported
abbrev pub next_page : Held → ℕ
next_page h = h.first_page + h.pages

-- an outcome states whether a call was reported, and how many pages
abbrev pub outcome_of : Held → Ending → List ℕ → Outcome
outcome_of h ending reason = record { dialed = is_some h.call; pages = h.pages; ending = ending; reason = reason }

-- The action may come now, and this is its request. A worker that holds a grant doesn't ask for work. A call is reported once, and a page on a connected call while one is left.
-- An outcome may be reported at any time, but Done only when no page is left.
abbrev pub IsRequest : List ℕ → ℕ → Action → Option Held → Ask → Type 0
IsRequest modem last AsksForWork None ask = ask ≡ Next modem
IsRequest modem last (ReportsCall call) (Some h) ask = (h.call ≡ None) × (ask ≡ OnGrant h.grant (report.Call call))
IsRequest modem last ReportsPage (Some h) ask = (h.call ≡ Some Connected) × (next_page h ≤ h.last_page) × (ask ≡ OnGrant h.grant (report.Page (next_page h)))
IsRequest modem last (ReportsOutcome ending reason) (Some h) ask = (ending ≡ Done → h.last_page < next_page h) × (ask ≡ OnGrant h.grant (report.Outcome (outcome_of h ending reason)))
IsRequest modem last GivesUp held ask = ask ≡ GiveUp last
IsRequest modem last other held ask = ⊥

-- the request is the unanswered one, and its number the last
abbrev pub with_request : ℕ → Ask → Worker → Worker
with_request number ask w = record w { last = number; unanswered = Some (record { number = number; ask = ask }) }

-- nothing is unanswered, and the request of the action is begun under a new number
pub record Begins (modem : List ℕ) (w : Worker) (action : Action) (number : ℕ) (ask : Ask) (after : Worker) : Type 0 where
  pub answered : w.unanswered ≡ None
  pub new : w.last < number
  pub request : IsRequest modem w.last action w.held ask
  pub becomes : after ≡ with_request number ask w

-- ---- a request is answered

-- What a worker sees of its modem's grant. Where `next` is refused with `called` true, its journal was lost. It then needs to see, after that refusal, the call
-- and the number of pages that the queue has for the grant: `GET /modems` shows them.
pub record Look : Type 0 where
  pub call : Option Call
  pub pages : ℕ

-- a grant as it was handed out, with that call and so many pages reported
abbrev pub held_of : Handed → Option Call → ℕ → Held
held_of h call pages = record { grant = h.grant; job = h.job; dial = h.dial; first_page = h.from; last_page = h.to; call = call; pages = pages }

-- a new grant has no call and no page reported
abbrev pub given : Reply → Option Held
given (Given h) = Some (held_of h None 0)
given other = None

-- a grant that the modem holds has none either, or what the look shows, by whether a call was reported
abbrev pub found : Bool → Handed → Look → Held
found false h look = held_of h None 0
found true h look = held_of h look.call look.pages

-- a modem that is busy holds the grant that the refusal shows; any other refusal of `next` leaves no grant
abbrev pub found_by : Keys → Look → Option Held
found_by (HeldGrant called h) look = Some (found called h look)
found_by other look = None

-- an accepted report
abbrev pub after_report : Report → Held → Option Held
after_report (report.Call call) h = Some (record h { call = Some call })
after_report (report.Page page) h = Some (record h { pages = h.pages + 1 })
after_report (report.Outcome outcome) h = None

abbrev pub reported : Report → Option Held → Option Held
reported r None = None
reported r (Some h) = after_report r h

-- the grant isn't there or is closed
abbrev pub is_gone : Refusal → Bool
is_gone NoGrant = true
is_gone GrantClosed = true
is_gone other = false

-- what is held after an answer
abbrev pub held_after : Ask → Answer → Look → Option Held → Option Held
held_after (Next modem) (Replied reply) look held = given reply
held_after (Next modem) (Denied refusal keys) look held = found_by keys look
held_after (OnGrant grant r) (Replied reply) look held = reported r held
held_after (OnGrant grant r) (Denied refusal keys) look held = if is_gone refusal then None else held
held_after other answer look held = held

-- nothing is unanswered any more, and this is held
abbrev pub with_answer : Ask → Answer → Look → Worker → Worker
with_answer ask answer look w = record w { unanswered = None; held = held_after ask answer look w.held }

-- the unanswered request gets this answer
pub record IsAnswered (w : Worker) (number : ℕ) (ask : Ask) (answer : Answer) (look : Look) (after : Worker) : Type 0 where
  pub unanswered : w.unanswered ≡ Some (record { number = number; ask = ask })
  pub becomes : after ≡ with_answer ask answer look w
