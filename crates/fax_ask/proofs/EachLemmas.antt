-- A request asks for something, or its body has a fault.
use Rattle.std.proofs.Common.{◌≡◌, ◌⊎◌, inl, inr, ℕ, List, [], refl}
use Rattle.std.specs.Prelude.{Option, Some, None, Result, Ok, Err, MatchResult}
use Rattle.std.specs.Str.{IsUtf8}
use Rattle.serde_json.specs.Data.{Data}
use Rattle.serde_json.specs.Read.{read}
use Rattle.fax_job.specs.declared.lines.LineFault.{LineFault}
use Rattle.fax_job.specs.declared.lines.LineKind.TheVariants.{NotText}
use Rattle.fax_job.specs.declared.order.OrderFault.{OrderFault}
use Rattle.fax_job.specs.declared.refusal.BodyFault.{BodyFault}
use Rattle.fax_job.specs.declared.refusal.BodyFault.TheVariants.{Line, Order, BadJson, BadField}
use Rattle.fax_job.specs.declared.refusal.Refusal.TheVariants.{BadBody}
use Rattle.fax_job.specs.Alter.{alter_of}
use Rattle.fax_job.specs.Import.{import_of}
use Rattle.fax_job.specs.Order.{order_of}
use Rattle.fax_job.specs.Pair.{Pair}
use Rattle.fax_lines.specs.Reading.{lines, read_on}
use Rattle.fax_lines.specs.Spells.{Spells, IsFaultBehind}
use Rattle.fax_lines.proofs.FoundLemmas.{found}
use Rattle.fax_core.specs.declared.ask.Ask.TheVariants as machine
use Rattle.fax_core.specs.declared.ask.JobAsk.{JobAsk}
use Rattle.fax_core.specs.declared.ask.JobAsk.TheVariants as asked
use Rattle.fax_ask.specs.declared.request.Action.{Action}
use Rattle.fax_ask.specs.declared.request.Action.TheVariants.{Suspend, Resume, Kill, Alter}
use Rattle.fax_ask.specs.declared.request.Request.TheVariants.{Show, Submit, Import, OnJob, Mark, Next, OnGrant, Floor, Purge}
use Rattle.fax_ask.specs.declared.ask.Ask.TheVariants.{Step, View}
use Rattle.fax_ask.specs.Ask.{AsksOfJob, IsActionRefusal, IsLinesRefusal, States}
use Rattle.fax_ask.specs.Laws.{AsksOrHasFault}
use Rattle.fax_ask.specs.Report.{IsJson, IsReportRefusal, Reports, before_in, report_in, upto_in}

module _ {T : Type 0} (value_of : List Pair → Result T OrderFault) (body : List ℕ) where
  abbrev IsRead : Type 0
  IsRead = ((x : T) × States value_of body x) ⊎ ((fault : BodyFault) × IsLinesRefusal value_of body (BadBody fault))

  -- lines that are spelled state something, or have a fault
  of_value : (r : Result T OrderFault) (ps : List Pair) → Spells body ps → value_of ps ≡ r → IsRead
  of_value (Ok x) ps spelled is = inl (x, record { lines = ps; spelled = spelled; stated = is })
  of_value (Err fault) ps spelled is = inr (Order fault, record { lines = ps; spelled = spelled; faulty = is })

  -- so does a body, whether its lines are spelled or not
  of_lines : (r : Result (List Pair) LineFault) → MatchResult r (Spells body) (IsFaultBehind body) → IsRead
  of_lines (Ok ps) spelled = of_value (value_of ps) ps spelled refl
  of_lines (Err fault) behind = inr (Line fault.line fault.kind, inr behind)

  -- and whether it is UTF-8 or not
  states_or_fault : IsUtf8 body ⊎ (¬ (IsUtf8 body)) → IsRead
  states_or_fault (inl text) = of_lines (read_on (lines body) 0 [] None) (found body text)
  states_or_fault (inr none) = inr (Line 0 NotText, inl (refl, none))

module _ {T : Type 0} (report_in : Data → Option T) (body : List ℕ) where
  abbrev IsSaid : Type 0
  IsSaid = ((x : T) × Reports report_in body x) ⊎ ((fault : BodyFault) × IsReportRefusal report_in body (BadBody fault))

  -- JSON reports something, or has a fault
  of_report : (o : Option T) (json : Data) → IsJson body json → report_in json ≡ o → IsSaid
  of_report (Some x) json is_json is = inl (x, record { json = json; is_json = is_json; says = is })
  of_report None json is_json is = inr (BadField, record { json = json; is_json = is_json; lacks = is })

  -- so does a body, whether it is JSON or not
  of_json : (o : Option Data) → IsUtf8 body → read body ≡ o → IsSaid
  of_json (Some json) text is = of_report (report_in json) json (record { text = text; written = is }) refl
  of_json None text is = inr (BadJson, λ _. is)

  -- and whether it is UTF-8 or not
  says_or_fault : IsUtf8 body ⊎ (¬ (IsUtf8 body)) → IsSaid
  says_or_fault (inl text) = of_json (read body) text refl
  says_or_fault (inr none) = inr (BadJson, λ text. absurd (none text))

-- what reading a text answers says whether it is one
pub text_or_none : {A B : Type 0} (r : Result A B) (P : A → Type 0) (Q : B → Type 0) (body : List ℕ)
    → MatchResult r (λ text. P text × IsUtf8 body) (λ fault. (¬ (IsUtf8 body)) × Q fault) → IsUtf8 body ⊎ (¬ (IsUtf8 body))
text_or_none (Ok text) P Q body h = inl h.1
text_or_none (Err fault) P Q body h = inr h.0

-- ---- requests with their bodies

-- so does an action on a job
action_of : (body : List ℕ) → IsUtf8 body ⊎ (¬ (IsUtf8 body)) → (action : Action) → ((ask : JobAsk) × AsksOfJob action body ask) ⊎ ((fault : BodyFault) × IsActionRefusal action body (BadBody fault))
action_of body utf8 Suspend = inl (asked.Suspend, refl)
action_of body utf8 Resume = inl (asked.Resume, refl)
action_of body utf8 Kill = inl (asked.Kill, refl)
action_of body utf8 Alter = elim (states_or_fault alter_of body utf8) [ inl x ↦ inl (asked.Alter x.0, (x.0, x.1, refl)) | inr f ↦ inr f ]

-- each request asks for something, or its body has a fault
pub each_of : (body : List ℕ) → IsUtf8 body ⊎ (¬ (IsUtf8 body)) → AsksOrHasFault body
each_of body utf8 (Show view) = inl (View view, refl)
each_of body utf8 Submit = elim (states_or_fault order_of body utf8) [ inl x ↦ inl (Step (machine.Submission x.0), (x.0, x.1, refl)) | inr f ↦ inr f ]
each_of body utf8 Import = elim (states_or_fault import_of body utf8) [ inl x ↦ inl (Step (machine.Bring x.0), (x.0, x.1, refl)) | inr f ↦ inr f ]
each_of body utf8 (OnJob job action) = elim (action_of body utf8 action) [ inl x ↦ inl (Step (machine.OnJob job x.0), (x.0, x.1, refl)) | inr f ↦ inr f ]
each_of body utf8 (Mark modem down) = inl (Step (machine.Mark modem down), refl)
each_of body utf8 (Next modem) = inl (Step (machine.Next modem), refl)
each_of body utf8 (OnGrant grant kind) = elim (says_or_fault (report_in kind) body utf8) [ inl x ↦ inl (Step (machine.OnGrant grant x.0), (x.0, x.1, refl)) | inr f ↦ inr f ]
each_of body utf8 Floor = elim (says_or_fault upto_in body utf8) [ inl x ↦ inl (Step (machine.GiveUp x.0), (x.0, x.1, refl)) | inr f ↦ inr f ]
each_of body utf8 Purge = elim (says_or_fault before_in body utf8) [ inl x ↦ inl (Step (machine.Purge x.0), (x.0, x.1, refl)) | inr f ↦ inr f ]
