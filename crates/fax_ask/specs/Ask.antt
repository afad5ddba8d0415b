-- What is asked for: by method, path and body.
use Rattle.std.specs.Prelude.{◌≡◌, ◌≤◌, ℕ, List, Result, Ok, Err, ⊤, IfSome, MatchOption}
use Rattle.fax_job.specs.declared.alter.Alter as alter
use Rattle.fax_job.specs.declared.import.Import.{Import as ImportFields}
use Rattle.fax_job.specs.declared.order.Order.{Order as OrderFields}
use Rattle.fax_job.specs.declared.order.OrderFault.{OrderFault}
use Rattle.fax_job.specs.declared.refusal.BodyFault.{BodyFault}
use Rattle.fax_job.specs.declared.refusal.BodyFault.TheVariants.{Line, Order, BadJson, BadField}
use Rattle.fax_job.specs.declared.refusal.Refusal.{Refusal}
use Rattle.fax_job.specs.declared.refusal.Refusal.TheVariants.{NoRoute, BadBody, Unavailable}
use Rattle.fax_job.specs.Alter.{alter_of}
use Rattle.fax_job.specs.Import.{import_of}
use Rattle.fax_value.specs.Limits.{most_attempts}
use Rattle.fax_job.specs.Order.{order_of}
use Rattle.fax_job.specs.Pair.{Pair}
use Rattle.fax_lines.specs.Reading.{fault_at}
use Rattle.fax_lines.specs.Spells.{Spells, IsFirstFault}
use Rattle.fax_core.specs.Ask.{IsLawfulAsk}
use Rattle.fax_core.specs.declared.ask.Ask as step
use Rattle.fax_core.specs.declared.ask.Ask.TheVariants as machine
use Rattle.fax_core.specs.declared.ask.JobAsk.{JobAsk}
use Rattle.fax_core.specs.declared.ask.JobAsk.TheVariants as asked
use Rattle.fax_core.specs.declared.report.Report.{Report}
use Rattle.fax_ask.specs.declared.ask.Ask.{Ask}
use Rattle.fax_ask.specs.declared.ask.Ask.TheVariants.{Step, View}
use Rattle.fax_ask.specs.declared.method.Method.{Method}
use Rattle.fax_ask.specs.declared.request.Action.{Action}
use Rattle.fax_ask.specs.declared.request.Action.TheVariants.{Suspend, Resume, Kill, Alter}
use Rattle.fax_ask.specs.declared.request.Request.{Request}
use Rattle.fax_ask.specs.declared.request.Request.TheVariants.{Show, Submit, Import, OnJob, Mark, Next, OnGrant, Floor, Purge}
use Rattle.fax_ask.specs.Report.{IsReportRefusal, Reports, before_in, report_in, upto_in}
use Rattle.fax_ask.specs.Request.{request_of}

-- ---- bodies

-- a body of key lines states this value
pub record States {T : Type 0} (value_of : List Pair → Result T OrderFault) (body : List ℕ) (value : T) : Type 0 where
  pub lines : List Pair
  pub spelled : Spells body lines
  pub stated : value_of lines ≡ Ok value

-- the lines of a body are well, and this is the first fault of what they state
pub record HasFault {T : Type 0} (value_of : List Pair → Result T OrderFault) (body : List ℕ) (fault : OrderFault) : Type 0 where
  pub lines : List Pair
  pub spelled : Spells body lines
  pub faulty : value_of lines ≡ Err fault

-- why a body of key lines is refused: its lines come before what they state
abbrev pub IsLinesFault : {T : Type 0} → (List Pair → Result T OrderFault) → List ℕ → BodyFault → Type 0
IsLinesFault value_of body (Line line kind) = IsFirstFault body (fault_at line kind)
IsLinesFault value_of body (Order fault) = HasFault value_of body fault
IsLinesFault value_of body BadJson = ⊥
IsLinesFault value_of body BadField = ⊥

-- want of memory may come in place of any answer
abbrev pub IsLinesRefusal : {T : Type 0} → (List Pair → Result T OrderFault) → List ℕ → Refusal → Type 0
IsLinesRefusal value_of body (BadBody fault) = IsLinesFault value_of body fault
IsLinesRefusal value_of body Unavailable = ⊤
IsLinesRefusal value_of body other = ⊥

-- ---- requests with their bodies

-- what a client asks of a job with this body: an alteration alone reads it
abbrev pub AsksOfJob : Action → List ℕ → JobAsk → Type 0
AsksOfJob Suspend body ask = ask ≡ asked.Suspend
AsksOfJob Resume body ask = ask ≡ asked.Resume
AsksOfJob Kill body ask = ask ≡ asked.Kill
AsksOfJob Alter body ask = (changes : alter.Alter) × States alter_of body changes × (ask ≡ asked.Alter changes)

-- what a request with this body asks for
abbrev pub Asks : Request → List ℕ → Ask → Type 0
Asks (Show view) body ask = ask ≡ View view
Asks Submit body ask = (order : OrderFields) × States order_of body order × (ask ≡ Step (machine.Submission order))
Asks Import body ask = (import : ImportFields) × States import_of body import × (ask ≡ Step (machine.Bring import))
Asks (OnJob job action) body ask = (what : JobAsk) × AsksOfJob action body what × (ask ≡ Step (machine.OnJob job what))
Asks (Mark modem down) body ask = ask ≡ Step (machine.Mark modem down)
Asks (Next modem) body ask = ask ≡ Step (machine.Next modem)
Asks (OnGrant grant kind) body ask = (report : Report) × Reports (report_in kind) body report × (ask ≡ Step (machine.OnGrant grant report))
Asks Floor body ask = (upto : ℕ) × Reports upto_in body upto × (ask ≡ Step (machine.GiveUp upto))
Asks Purge body ask = (before : ℕ) × Reports before_in body before × (ask ≡ Step (machine.Purge before))

-- why an action with this body is refused
abbrev pub IsActionRefusal : Action → List ℕ → Refusal → Type 0
IsActionRefusal Alter body refusal = IsLinesRefusal alter_of body refusal
IsActionRefusal other body refusal = ⊥

-- why a request with this body is refused: a body that isn't read has no fault
abbrev pub IsBodyRefusal : Request → List ℕ → Refusal → Type 0
IsBodyRefusal (Show view) body refusal = ⊥
IsBodyRefusal Submit body refusal = IsLinesRefusal order_of body refusal
IsBodyRefusal Import body refusal = IsLinesRefusal import_of body refusal
IsBodyRefusal (OnJob job action) body refusal = IsActionRefusal action body refusal
-- a modem's name is kept in memory
IsBodyRefusal (Mark modem down) body refusal = refusal ≡ Unavailable
IsBodyRefusal (Next modem) body refusal = refusal ≡ Unavailable
IsBodyRefusal (OnGrant grant kind) body refusal = IsReportRefusal (report_in kind) body refusal
IsBodyRefusal Floor body refusal = IsReportRefusal upto_in body refusal
IsBodyRefusal Purge body refusal = IsReportRefusal before_in body refusal

-- ---- the whole

-- what a method, a path and a body ask for
abbrev pub IsAsk : Method → List ℕ → List ℕ → Ask → Type 0
IsAsk method path body ask = MatchOption (request_of method path) ⊥ (λ request. Asks request body ask)

-- why they are refused: the path comes before the body
abbrev pub IsRefused : Method → List ℕ → List ℕ → Refusal → Type 0
IsRefused method path body refusal = MatchOption (request_of method path) (refusal ≡ NoRoute) (λ request. IsBodyRefusal request body refusal)

-- ---- what the queue may rely on

-- an alteration leaves a job that has a try and a dial, and no more than a job may have
pub record HasLimits (changes : alter.Alter) : Type 0 where
  pub tries : IfSome changes.maxtries (λ tries. (1 ≤ tries) × (tries ≤ most_attempts))
  pub dials : IfSome changes.maxdials (λ dials. (1 ≤ dials) × (dials ≤ most_attempts))

abbrev pub IsLawfulOn : JobAsk → Type 0
IsLawfulOn (asked.Alter changes) = HasLimits changes
IsLawfulOn other = ⊤

abbrev pub IsLawfulStep : step.Ask → Type 0
IsLawfulStep (machine.OnJob job ask) = IsLawfulOn ask
IsLawfulStep other = IsLawfulAsk other

abbrev pub IsLawful : Ask → Type 0
IsLawful (Step ask) = IsLawfulStep ask
IsLawful (View view) = ⊤
