-- What a worker's code does, in the machine's words.
use Rattle.std.specs.Prelude.{◌≡◌, ⊤, ℕ, Bool, true, false, ◌&&◌, List, Option, Some, None, is_some, nat_le, if◌then◌else◌}
use Rattle.fax_job.specs.declared.job.Call.{Call}
use Rattle.fax_job.specs.declared.job.Call.TheVariants.{Connected}
use Rattle.fax_core.specs.declared.ask.Ask.{Ask}
use Rattle.fax_core.specs.declared.ask.Ask.TheVariants.{Next, OnGrant, GiveUp}
use Rattle.fax_core.specs.declared.report.Ending.{Ending}
use Rattle.fax_core.specs.declared.report.Ending.TheVariants.{Done}
use Rattle.fax_core.specs.declared.report.Report.TheVariants as report
use Rattle.fax_core.specs.declared.report.Report.{Report}
use Rattle.fax_core.specs.Run.{Answer, Replied, Denied}
use Rattle.fax_worker.specs.declared.worker.Action.{Action as Act}
use Rattle.fax_worker.specs.declared.worker.Action.TheVariants as act
use Rattle.fax_worker.specs.Worker.{Action, AsksForWork, ReportsCall, ReportsPage, ReportsOutcome, GivesUp, Begins, Held, Look, Worker, found_by, given, is_gone, next_page, outcome_of, reported}

-- the machine's action
abbrev pub meant : Act → Action
meant (act.AsksForWork modem) = AsksForWork
meant (act.ReportsCall call) = ReportsCall call
meant act.ReportsPage = ReportsPage
meant (act.ReportsOutcome ending reason) = ReportsOutcome ending reason
meant act.GivesUp = GivesUp

-- the action is one of the modem's worker: it asks for work for that modem
abbrev pub IsOf : List ℕ → Act → Type 0
IsOf modem (act.AsksForWork name) = name ≡ modem
IsOf modem other = ⊤

-- the request of the action is begun
pub record HasBegun (w : Worker) (action : Act) (number : ℕ) (after : Worker) : Type 0 where
  pub ask : Ask
  pub begins : (modem : List ℕ) → IsOf modem action → Begins modem w (meant action) number ask after

-- no request of the action may begin
abbrev pub CannotBegin : Worker → Act → ℕ → Type 0
CannotBegin w action number = (modem : List ℕ) (ask : Ask) (after : Worker) → IsOf modem action → Begins modem w (meant action) number ask after → ⊥

-- ---- for private clauses: the request as it is computed

abbrev pub is_connected : Option Call → Bool
is_connected (Some Connected) = true
is_connected other = false

abbrev pub is_done : Ending → Bool
is_done Done = true
is_done other = false

abbrev pub has_page_left : Held → Bool
has_page_left h = nat_le (next_page h) h.last_page

abbrev pub call_report : Held → Call → Option Ask
call_report h call = if is_some h.call then None else Some (OnGrant h.grant (report.Call call))

abbrev pub page_report : Held → Option Ask
page_report h = if is_connected h.call && has_page_left h then Some (OnGrant h.grant (report.Page (next_page h))) else None

abbrev pub outcome_report : Held → Ending → List ℕ → Option Ask
outcome_report h ending reason = if is_done ending && has_page_left h then None else Some (OnGrant h.grant (report.Outcome (outcome_of h ending reason)))

abbrev pub request_of : Act → ℕ → Option Held → Option Ask
request_of (act.AsksForWork modem) last None = Some (Next modem)
request_of (act.ReportsCall call) last (Some h) = call_report h call
request_of act.ReportsPage last (Some h) = page_report h
request_of (act.ReportsOutcome ending reason) last (Some h) = outcome_report h ending reason
request_of act.GivesUp last held = Some (GiveUp last)
request_of other last held = None

-- what is held after the answer to a request for work
abbrev pub found_after : Answer → Look → Option Held
found_after (Replied reply) look = given reply
found_after (Denied refusal keys) look = found_by keys look

-- what is held after the answer to a report
abbrev pub reported_after : Report → Answer → Option Held → Option Held
reported_after r (Replied reply) held = reported r held
reported_after r (Denied refusal keys) held = if is_gone refusal then None else held
