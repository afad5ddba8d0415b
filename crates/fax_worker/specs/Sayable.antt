-- What a worker can say, and what it keeps to so that it can say what comes next.
use Rattle.std.specs.Prelude.{◌≡◌, ◌≤◌, ◌<◌, ◌^◌, ⊤, ℕ, List, true, Option, IfSome}
use Rattle.std.specs.Str.{IsUtf8}
use Rattle.fax_value.specs.Dial.{IsCanonical}
use Rattle.fax_value.specs.Limits.{last_grant, last_job, most_pages}
use Rattle.fax_value.specs.Name.{IsName}
use Rattle.fax_ask.specs.Report.{is_reason}
use Rattle.fax_core.specs.declared.ask.Ask.{Ask}
use Rattle.fax_core.specs.declared.ask.Ask.TheVariants.{Next, OnGrant, GiveUp}
use Rattle.fax_core.specs.declared.report.Outcome.{Outcome}
use Rattle.fax_core.specs.declared.report.Report.{Report}
use Rattle.fax_core.specs.declared.report.Report.TheVariants as report
use Rattle.fax_core.specs.Reply.{Handed}
use Rattle.fax_worker.specs.Worker.{Held, Pending, Worker}

-- ---- requests

-- a reason of an outcome: UTF-8 of at most 200 bytes, no control character, no space in front, no `\` at the end
pub record IsReason (text : List ℕ) : Type 0 where
  pub utf8 : IsUtf8 text
  pub reason : is_reason text ≡ true

-- an outcome that a body can state
pub record IsSayableOutcome (o : Outcome) : Type 0 where
  pub pages : o.pages ≤ most_pages
  pub reason : IsReason o.reason

-- a report that a body can state
abbrev pub IsSayableReport : Report → Type 0
IsSayableReport (report.Call call) = ⊤
IsSayableReport (report.Page page) = (1 ≤ page) × (page ≤ most_pages)
IsSayableReport (report.Outcome outcome) = IsSayableOutcome outcome

-- a number of 1 to 18 digits, the first not 0
pub record IsNumbered (number : ℕ) : Type 0 where
  pub least : 1 ≤ number
  pub below : number < 10 ^ 18

-- a worker asks for work, reports on a grant, or gives up replies
abbrev pub IsSayable : Ask → Type 0
IsSayable (Next modem) = IsName modem
IsSayable (OnGrant grant r) = IsNumbered grant × IsSayableReport r
IsSayable (GiveUp upto) = IsNumbered upto
IsSayable other = ⊥

-- ---- grants

-- a grant as a queue hands it out
pub record IsHanded (h : Handed) : Type 0 where
  pub grant : 1 ≤ h.grant
  pub last_grant : h.grant ≤ last_grant
  pub job : 1 ≤ h.job
  pub last_job : h.job ≤ last_job
  pub dial : IsCanonical h.dial
  pub from : 1 ≤ h.from
  pub pages : h.from ≤ h.to
  pub to : h.to ≤ most_pages

-- a grant whose pages a worker can report
pub record IsHeld (h : Held) : Type 0 where
  pub grant : 1 ≤ h.grant
  pub last_grant : h.grant ≤ last_grant
  pub first_page : 1 ≤ h.first_page
  pub order : h.first_page ≤ h.last_page
  pub last_page : h.last_page ≤ most_pages
  pub pages : h.pages ≤ most_pages

-- the report of a page leaves room to count it
abbrev pub CountsReport : Report → Held → Type 0
CountsReport (report.Page page) h = h.pages < most_pages
CountsReport other h = ⊤

abbrev pub CountsPage : Ask → Held → Type 0
CountsPage (OnGrant grant r) h = CountsReport r h
CountsPage other h = ⊤

-- an unanswered report of a page leaves room to count it
abbrev pub AreSteady : Option Pending → Option Held → Type 0
AreSteady unanswered held = IfSome unanswered (λ p. IfSome held (λ h. CountsPage p.ask h))

abbrev pub IsSteady : Worker → Type 0
IsSteady w = AreSteady w.unanswered w.held
