-- What a step asks.
use Rattle.std.specs.Prelude.{◌≡◌, ⊤, ℕ, List, Bool, true, false, Option, Some, None}
use Rattle.fax_core.specs.declared.ask.Ask.{Ask}
use Rattle.fax_core.specs.declared.ask.Ask.TheVariants as ask
use Rattle.fax_core.specs.declared.report.Report.{Report}
use Rattle.fax_core.specs.declared.report.Report.TheVariants as report
use Rattle.fax_worker.specs.declared.worker.Action.{Action}
use Rattle.fax_worker.specs.declared.worker.Action.TheVariants as act
use Rattle.fax_client.specs.declared.step.Step.{Step}
use Rattle.fax_client.specs.declared.step.Step.TheVariants.{Next, Call, Page, End, Show}

abbrev pub is_next : Step → Bool
is_next (Next modem) = true
is_next other = false

abbrev pub Reports : Step → Report → Type 0
Reports (Call call) (report.Call said) = said ≡ call
Reports Page (report.Page page) = ⊤
Reports (End ending reason) (report.Outcome outcome) = outcome.ending ≡ ending
Reports step other = ⊥

abbrev pub is_show : Step → Bool
is_show Show = true
is_show other = false

-- what the worker does for it
abbrev pub action_of : Step → Option Action
action_of (Next modem) = Some (act.AsksForWork modem)
action_of (Call call) = Some (act.ReportsCall call)
action_of Page = Some act.ReportsPage
action_of (End ending reason) = Some (act.ReportsOutcome ending reason)
action_of Show = None

-- the request is one of the step
abbrev pub Asks : Step → Ask → Type 0
Asks Show ask = ⊥
Asks (Next modem) (ask.Next other) = ⊤
Asks step (ask.OnGrant grant r) = Reports step r
Asks step other = ⊥

-- the client is that of the modem that asks for work
abbrev pub IsOwn : Step → List ℕ → Type 0
IsOwn (Next modem) client = modem ≡ client
IsOwn other client = ⊤
