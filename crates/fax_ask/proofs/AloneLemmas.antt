-- What a method, a path and a body ask for is one thing, and nothing that is refused but for want of memory.
use Rattle.std.proofs.Common.{◌≡◌, ℕ, List, refl, sym, ap, ap₂, ◌∙◌}
use Rattle.std.specs.Prelude.{Option, Some, None, Result, Ok, Err, MatchOption}
use Rattle.std.proofs.lemmas.Option.{same_Some}
use Rattle.serde_json.specs.Data.{Data}
use Rattle.serde_json.specs.Read.{read}
use Rattle.fax_job.specs.declared.order.OrderFault.{OrderFault}
use Rattle.fax_job.specs.declared.refusal.BodyFault.{BodyFault}
use Rattle.fax_job.specs.declared.refusal.BodyFault.TheVariants.{Line, Order, BadJson, BadField}
use Rattle.fax_job.specs.declared.refusal.Refusal.{Refusal}
use Rattle.fax_job.specs.declared.refusal.Refusal.TheVariants.{NoRoute, BadBody, Unavailable}
use Rattle.fax_job.specs.Alter.{alter_of}
use Rattle.fax_job.specs.Import.{import_of}
use Rattle.fax_job.specs.Order.{order_of}
use Rattle.fax_job.specs.Pair.{Pair}
use Rattle.fax_lines.specs.Reading.{fault_at}
use Rattle.fax_lines.proofs.FaultLemmas.{fault_or_list, first_fault_alone}
use Rattle.fax_lines.proofs.TextLemmas.{spelled_alone}
use Rattle.fax_core.specs.declared.ask.Ask.TheVariants as machine
use Rattle.fax_core.specs.declared.ask.JobAsk.{JobAsk}
use Rattle.fax_core.specs.declared.ask.JobAsk.TheVariants as asked
use Rattle.fax_ask.specs.declared.request.Action.{Action}
use Rattle.fax_ask.specs.declared.request.Action.TheVariants.{Suspend, Resume, Kill, Alter}
use Rattle.fax_ask.specs.declared.request.Request.{Request}
use Rattle.fax_ask.specs.declared.request.Request.TheVariants.{Show, Submit, Import, OnJob, Mark, Next, OnGrant, Floor, Purge}
use Rattle.fax_ask.specs.declared.ask.Ask.{Ask}
use Rattle.fax_ask.specs.declared.ask.Ask.TheVariants.{Step}
use Rattle.fax_ask.specs.Ask.{States, HasFault, IsLinesFault, IsLinesRefusal, Asks, AsksOfJob, IsActionRefusal, IsBodyRefusal}
use Rattle.fax_ask.specs.Laws.{OneAsk, OneFault, AskOrRefusal}
use Rattle.fax_ask.specs.Report.{IsJson, IsReportFault, IsReportRefusal, Reports, before_in, report_in, upto_in}
use Rattle.fax_ask.specs.Request.{request_of}

abbrev well : {T : Type 0} → T → Result T OrderFault
well x = Ok x

-- what is well with one value is so with that alone
same_Ok : {T : Type 0} (x y : T) → well x ≡ well y → x ≡ y
same_Ok x y e = cc

module _ {T : Type 0} (value_of : List Pair → Result T OrderFault) (body : List ℕ) where
  -- a body states one thing
  states_alone : (a b : T) → States value_of body a → States value_of body b → a ≡ b
  states_alone a b s t = same_Ok a b (sym s.stated ∙ (ap value_of (spelled_alone body s.lines t.lines s.spelled t.spelled) ∙ t.stated))

  -- what states something has no fault
  no_fault : (a : T) (fault : OrderFault) → States value_of body a → HasFault value_of body fault → ⊥
  no_fault a fault s t =
      let both : well a ≡ Err fault = sym s.stated ∙ (ap value_of (spelled_alone body s.lines t.lines s.spelled t.spelled) ∙ t.faulty) in
      absurd cc

  -- what states something is refused for want of memory alone
  states_or_refusal : (a : T) (refusal : Refusal) → States value_of body a → IsLinesRefusal value_of body refusal → refusal ≡ Unavailable
  states_or_refusal a (BadBody (Line line kind)) s h = absurd (fault_or_list body (fault_at line kind) s.lines h s.spelled)
  states_or_refusal a (BadBody (Order fault)) s h = absurd (no_fault a fault s h)
  states_or_refusal a (BadBody BadJson) s h = absurd h
  states_or_refusal a (BadBody BadField) s h = absurd h
  states_or_refusal a Unavailable s h = refl
  states_or_refusal a other s h = absurd h

-- a body is one JSON value
json_alone : (body : List ℕ) (a b : Data) → IsJson body a → IsJson body b → a ≡ b
json_alone body a b h g = same_Some a b (sym h.written ∙ g.written)

-- a body that is one doesn't fail to be read
no_json : (body : List ℕ) (a : Data) → IsJson body a → read body ≡ None → ⊥
no_json body a h e =
    let both : Some a ≡ None = sym h.written ∙ e in
    absurd cc

module _ {T : Type 0} (report_in : Data → Option T) (body : List ℕ) where
  -- a body reports one thing
  reports_alone : (a b : T) → Reports report_in body a → Reports report_in body b → a ≡ b
  reports_alone a b h g = same_Some a b (sym h.says ∙ (ap report_in (json_alone body h.json g.json h.is_json g.is_json) ∙ g.says))

  -- what reports something is refused for want of memory alone
  reports_or_refusal : (a : T) (refusal : Refusal) → Reports report_in body a → IsReportRefusal report_in body refusal → refusal ≡ Unavailable
  reports_or_refusal a (BadBody (Line line kind)) s h = absurd h
  reports_or_refusal a (BadBody (Order fault)) s h = absurd h
  reports_or_refusal a (BadBody BadJson) s h = absurd (no_json body s.json s.is_json (h s.is_json.text))
  reports_or_refusal a (BadBody BadField) s h =
      let both : Some a ≡ None = sym s.says ∙ (ap report_in (json_alone body s.json h.json s.is_json h.is_json) ∙ h.lacks) in
      absurd cc
  reports_or_refusal a Unavailable s h = refl
  reports_or_refusal a other s h = absurd h

-- ---- requests with their bodies

-- a client asks one thing of a job
job_alone : (action : Action) (body : List ℕ) (a b : JobAsk) → AsksOfJob action body a → AsksOfJob action body b → a ≡ b
job_alone Suspend body a b h g = h ∙ sym g
job_alone Resume body a b h g = h ∙ sym g
job_alone Kill body a b h g = h ∙ sym g
job_alone Alter body a b h g = h.2 ∙ (ap (λ o. asked.Alter o) (states_alone alter_of body h.0 g.0 h.1 g.1) ∙ sym g.2)

-- a request with its body asks for one thing
asks_alone : (request : Request) (body : List ℕ) (a b : Ask) → Asks request body a → Asks request body b → a ≡ b
asks_alone (Show job) body a b h g = h ∙ sym g
asks_alone Submit body a b h g = h.2 ∙ (ap (λ o. Step (machine.Submission o)) (states_alone order_of body h.0 g.0 h.1 g.1) ∙ sym g.2)
asks_alone Import body a b h g = h.2 ∙ (ap (λ i. Step (machine.Bring i)) (states_alone import_of body h.0 g.0 h.1 g.1) ∙ sym g.2)
asks_alone (OnJob job action) body a b h g = h.2 ∙ (ap (λ o. Step (machine.OnJob job o)) (job_alone action body h.0 g.0 h.1 g.1) ∙ sym g.2)
asks_alone (Mark modem down) body a b h g = h ∙ sym g
asks_alone (Next modem) body a b h g = h ∙ sym g
asks_alone (OnGrant grant kind) body a b h g = h.2 ∙ (ap (λ o. Step (machine.OnGrant grant o)) (reports_alone (report_in kind) body h.0 g.0 h.1 g.1) ∙ sym g.2)
asks_alone Floor body a b h g = h.2 ∙ (ap (λ n. Step (machine.GiveUp n)) (reports_alone upto_in body h.0 g.0 h.1 g.1) ∙ sym g.2)
asks_alone Purge body a b h g = h.2 ∙ (ap (λ n. Step (machine.Purge n)) (reports_alone before_in body h.0 g.0 h.1 g.1) ∙ sym g.2)

-- what a client asks of a job is refused for want of memory alone
job_or_refusal : (action : Action) (body : List ℕ) (a : JobAsk) (refusal : Refusal) → AsksOfJob action body a → IsActionRefusal action body refusal → refusal ≡ Unavailable
job_or_refusal Suspend body a refusal h r = absurd r
job_or_refusal Resume body a refusal h r = absurd r
job_or_refusal Kill body a refusal h r = absurd r
job_or_refusal Alter body a refusal h r = states_or_refusal alter_of body h.0 refusal h.1 r

-- so is what asks for something
ask_or_refusal : (request : Request) (body : List ℕ) (a : Ask) (refusal : Refusal) → Asks request body a → IsBodyRefusal request body refusal → refusal ≡ Unavailable
ask_or_refusal (Show job) body a refusal h r = absurd r
ask_or_refusal Submit body a refusal h r = states_or_refusal order_of body h.0 refusal h.1 r
ask_or_refusal Import body a refusal h r = states_or_refusal import_of body h.0 refusal h.1 r
ask_or_refusal (OnJob job action) body a refusal h r = job_or_refusal action body h.0 refusal h.1 r
ask_or_refusal (Mark modem down) body a refusal h r = r
ask_or_refusal (Next modem) body a refusal h r = r
ask_or_refusal (OnGrant grant kind) body a refusal h r = reports_or_refusal (report_in kind) body h.0 refusal h.1 r
ask_or_refusal Floor body a refusal h r = reports_or_refusal upto_in body h.0 refusal h.1 r
ask_or_refusal Purge body a refusal h r = reports_or_refusal before_in body h.0 refusal h.1 r

-- ---- the whole

-- a body asks for one thing, whether the path has a request or not
one_by : (o : Option Request) (body : List ℕ) (a b : Ask) → MatchOption o ⊥ (λ request. Asks request body a) → MatchOption o ⊥ (λ request. Asks request body b) → a ≡ b
one_by None body a b h g = absurd h
one_by (Some request) body a b h g = asks_alone request body a b h g

-- so what is asked for is one thing
pub one_ask : OneAsk
one_ask method path body a b h g = one_by (request_of method path) body a b h g

-- what asks for something is refused for want of memory alone, whether the path has a request or not
refused_by : (o : Option Request) (body : List ℕ) (a : Ask) (refusal : Refusal) → MatchOption o ⊥ (λ request. Asks request body a) → MatchOption o (refusal ≡ NoRoute) (λ request. IsBodyRefusal request body refusal) → refusal ≡ Unavailable
refused_by None body a refusal h r = absurd h
refused_by (Some request) body a refusal h r = ask_or_refusal request body a refusal h r

-- so what a method, a path and a body ask for is
pub ask_or_refused : AskOrRefusal
ask_or_refused method path body a refusal h r = refused_by (request_of method path) body a refusal h r

-- ---- faults of bodies

-- a fault that is told is that alone
same_Err : {T : Type 0} (e f : OrderFault) → ◌≡◌ {A = Result T OrderFault} (Err e) (Err f) → e ≡ f
same_Err e f h = cc

module _ {T : Type 0} (value_of : List Pair → Result T OrderFault) (body : List ℕ) where
  -- a body of lines has one fault
  one_lines_fault : (f g : BodyFault) → IsLinesFault value_of body f → IsLinesFault value_of body g → f ≡ g
  one_lines_fault (Line line kind) (Line other that) h g =
      let same = first_fault_alone body (fault_at line kind) (fault_at other that) h g in
      ap₂ (λ n k. Line n k) (ap (λ e. e.line) same) (ap (λ e. e.kind) same)
  one_lines_fault (Line line kind) (Order fault) h g = absurd (fault_or_list body (fault_at line kind) g.lines h g.spelled)
  one_lines_fault (Order fault) (Line line kind) h g = absurd (fault_or_list body (fault_at line kind) h.lines g h.spelled)
  one_lines_fault (Order fault) (Order other) h g =
      ap (λ e. Order e) (same_Err fault other (sym h.faulty ∙ (ap value_of (spelled_alone body h.lines g.lines h.spelled g.spelled) ∙ g.faulty)))
  one_lines_fault BadJson g h is = absurd h
  one_lines_fault BadField g h is = absurd h
  one_lines_fault (Line line kind) BadJson h g = absurd g
  one_lines_fault (Line line kind) BadField h g = absurd g
  one_lines_fault (Order fault) BadJson h g = absurd g
  one_lines_fault (Order fault) BadField h g = absurd g

module _ {T : Type 0} (report_in : Data → Option T) (body : List ℕ) where
  -- a body of JSON has one fault
  one_report_fault : (f g : BodyFault) → IsReportFault report_in body f → IsReportFault report_in body g → f ≡ g
  one_report_fault BadJson BadJson h g = refl
  one_report_fault BadField BadField h g = refl
  one_report_fault BadJson BadField h g = absurd (no_json body g.json g.is_json (h g.is_json.text))
  one_report_fault BadField BadJson h g = absurd (no_json body h.json h.is_json (g h.is_json.text))
  one_report_fault (Line line kind) g h is = absurd h
  one_report_fault (Order fault) g h is = absurd h
  one_report_fault BadJson (Line line kind) h g = absurd g
  one_report_fault BadJson (Order fault) h g = absurd g
  one_report_fault BadField (Line line kind) h g = absurd g
  one_report_fault BadField (Order fault) h g = absurd g

-- an action with its body has one fault
action_fault : (action : Action) (body : List ℕ) (f g : BodyFault) → IsActionRefusal action body (BadBody f) → IsActionRefusal action body (BadBody g) → f ≡ g
action_fault Suspend body f g h r = absurd h
action_fault Resume body f g h r = absurd h
action_fault Kill body f g h r = absurd h
action_fault Alter body f g h r = one_lines_fault alter_of body f g h r

-- a request with its body has one fault
fault_alone : (request : Request) (body : List ℕ) (f g : BodyFault) → IsBodyRefusal request body (BadBody f) → IsBodyRefusal request body (BadBody g) → f ≡ g
fault_alone (Show job) body f g h r = absurd h
fault_alone Submit body f g h r = one_lines_fault order_of body f g h r
fault_alone Import body f g h r = one_lines_fault import_of body f g h r
fault_alone (OnJob job action) body f g h r = action_fault action body f g h r
fault_alone (Mark modem down) body f g h r = absurd cc
fault_alone (Next modem) body f g h r = absurd cc
fault_alone (OnGrant grant kind) body f g h r = one_report_fault (report_in kind) body f g h r
fault_alone Floor body f g h r = one_report_fault upto_in body f g h r
fault_alone Purge body f g h r = one_report_fault before_in body f g h r

-- the same whether the path has a request or not
fault_by : (o : Option Request) (body : List ℕ) (f g : BodyFault) → MatchOption o (BadBody f ≡ NoRoute) (λ request. IsBodyRefusal request body (BadBody f)) → MatchOption o (BadBody g ≡ NoRoute) (λ request. IsBodyRefusal request body (BadBody g)) → f ≡ g
fault_by None body f g h r = absurd cc
fault_by (Some request) body f g h r = fault_alone request body f g h r

-- so a body has one fault
pub one_fault : OneFault
one_fault method path body f g h r = fault_by (request_of method path) body f g h r
