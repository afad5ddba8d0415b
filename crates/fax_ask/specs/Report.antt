-- What workers report, what a client gives up, and which jobs are to be purged, in JSON (RFC 8259).
use Rattle.std.specs.Prelude.{◌≡◌, ◌⊎◌, ⊤, ℕ, Bool, false, not, ◌&&◌, ◌==◌, List, [], ◌∷◌, length, codes, nat_le, Option, Some, None, option_and_then, if◌then◌else◌}
use Rattle.std.specs.List.{list_all}
use Rattle.std.specs.Option.{option_map}
use Rattle.std.specs.Str.{bytes_eq, IsUtf8}
use Rattle.serde_json.specs.Data.{Data}
use Rattle.serde_json.specs.Find.{as_bool, as_number, as_str, as_u64, get}
use Rattle.serde_json.specs.Read.{read}
use Rattle.fax_job.specs.declared.job.Call.{Call}
use Rattle.fax_job.specs.declared.job.Call.TheVariants.{Connected, Busy, NoAnswer, NoCarrier, Other}
use Rattle.fax_value.specs.Limits.{last_moment, most_pages}
use Rattle.fax_value.specs.Number.{request_number}
use Rattle.fax_value.specs.Value.{ends_with_backslash}
use Rattle.fax_job.specs.declared.refusal.BodyFault.{BodyFault}
use Rattle.fax_job.specs.declared.refusal.BodyFault.TheVariants.{Line, Order, BadJson, BadField}
use Rattle.fax_job.specs.declared.refusal.Refusal.{Refusal}
use Rattle.fax_job.specs.declared.refusal.Refusal.TheVariants.{BadBody, Unavailable}
use Rattle.fax_core.specs.declared.report.Outcome.{Outcome}
use Rattle.fax_core.specs.declared.report.Report.{Report}
use Rattle.fax_core.specs.declared.report.Report.TheVariants as report
use Rattle.fax_ask.specs.declared.report.OutcomeText.{OutcomeText}
use Rattle.fax_ask.specs.declared.request.ReportKind.{ReportKind}
use Rattle.fax_ask.specs.declared.request.ReportKind.TheVariants as kind
use Rattle.fax_core.specs.declared.report.Ending.{Ending}
use Rattle.fax_core.specs.declared.report.Ending.TheVariants.{Done, Retry, Fail}

-- ---- members of an object; of a key that occurs twice the last holds

abbrev pub text_at : List ℕ → Data → Option (List ℕ)
text_at key json = option_and_then as_str (get key json)

abbrev pub bool_at : List ℕ → Data → Option Bool
bool_at key json = option_and_then as_bool (get key json)

-- a number whose text has digits only
abbrev pub number_at : List ℕ → Data → Option ℕ
number_at key json = option_and_then as_u64 (option_and_then as_number (get key json))

abbrev pub within : ℕ → ℕ → ℕ → Option ℕ
within least greatest number = if nat_le least number && nat_le number greatest then Some number else None

-- ---- reports

abbrev pub call_named : List ℕ → Option Call
call_named name =
    if bytes_eq name (codes "connected") then Some Connected
    else if bytes_eq name (codes "busy") then Some Busy
    else if bytes_eq name (codes "no-answer") then Some NoAnswer
    else if bytes_eq name (codes "no-carrier") then Some NoCarrier
    else if bytes_eq name (codes "other") then Some Other
    else None

unfoldable pub call_in : Data → Option Call
call_in json = option_and_then call_named (text_at (codes "result") json)

unfoldable pub page_in : Data → Option ℕ
page_in json = option_and_then (within 1 most_pages) (number_at (codes "page") json)

unfoldable pub upto_in : Data → Option ℕ
upto_in json = option_and_then request_number (number_at (codes "upto") json)

-- a number of seconds that is a moment
abbrev pub moment_of : ℕ → Option ℕ
moment_of seconds = if nat_le seconds last_moment then Some seconds else None

unfoldable pub before_in : Data → Option ℕ
before_in json = option_and_then moment_of (number_at (codes "before") json)

abbrev pub ending_named : List ℕ → Option Ending
ending_named name =
    if bytes_eq name (codes "done") then Some Done
    else if bytes_eq name (codes "retry") then Some Retry
    else if bytes_eq name (codes "fail") then Some Fail
    else None

-- no character below U+0020, and no U+007F
abbrev pub is_reason_byte : ℕ → Bool
is_reason_byte byte = nat_le 32 byte && not (byte == 127)

abbrev pub begins_with_space : List ℕ → Bool
begins_with_space [] = false
begins_with_space (byte ∷ bytes) = byte == 32

-- a text that a job's status may be (sendq(5)), on one line
abbrev pub is_reason : List ℕ → Bool
is_reason text = nat_le (length text) 200 && not (begins_with_space text) && not (ends_with_backslash text) && list_all is_reason_byte text

abbrev pub reason_of : List ℕ → Option (List ℕ)
reason_of text = if is_reason text then Some text else None

-- empty where none is given
abbrev pub reason_at : Option Data → Option (List ℕ)
reason_at None = Some []
reason_at (Some json) = option_and_then reason_of (as_str json)

unfoldable pub outcome_in : Data → Option Outcome
outcome_in json =
    option_and_then (λ dialed.
    option_and_then (λ pages.
    option_and_then (λ ending.
    option_map (λ reason. record { dialed = dialed; pages = pages; ending = ending; reason = reason })
    (reason_at (get (codes "reason") json)))
    (option_and_then ending_named (text_at (codes "outcome") json)))
    (option_and_then (within 0 most_pages) (number_at (codes "pages") json)))
    (bool_at (codes "dialed") json)

abbrev pub outcome_read : OutcomeText → Outcome
outcome_read outcome = record { dialed = outcome.dialed; pages = outcome.pages; ending = outcome.ending; reason = outcome.reason.now }

-- what a worker reports, where the path says which report it is
abbrev pub report_in : ReportKind → Data → Option Report
report_in kind.Call json = option_map report.Call (call_in json)
report_in kind.Page json = option_map report.Page (page_in json)
report_in kind.Outcome json = option_map report.Outcome (outcome_in json)

-- ---- bodies

-- a body is this JSON text
pub record IsJson (body : List ℕ) (json : Data) : Type 0 where
  pub text : IsUtf8 body
  pub written : read body ≡ Some json

-- a body is a JSON text that says this
pub record Reports {T : Type 0} (report_in : Data → Option T) (body : List ℕ) (report : T) : Type 0 where
  pub json : Data
  pub is_json : IsJson body json
  pub says : report_in json ≡ Some report

-- a body is a JSON text that says no such thing
pub record LacksReport {T : Type 0} (report_in : Data → Option T) (body : List ℕ) : Type 0 where
  pub json : Data
  pub is_json : IsJson body json
  pub lacks : report_in json ≡ None

abbrev pub IsNoJson : List ℕ → Type 0
IsNoJson body = IsUtf8 body → read body ≡ None

-- why a body of JSON is refused
abbrev pub IsReportFault : {T : Type 0} → (Data → Option T) → List ℕ → BodyFault → Type 0
IsReportFault report_in body BadJson = IsNoJson body
IsReportFault report_in body BadField = LacksReport report_in body
IsReportFault report_in body (Line line kind) = ⊥
IsReportFault report_in body (Order fault) = ⊥

-- want of memory may come in place of any answer
abbrev pub IsReportRefusal : {T : Type 0} → (Data → Option T) → List ℕ → Refusal → Type 0
IsReportRefusal report_in body (BadBody fault) = IsReportFault report_in body fault
IsReportRefusal report_in body Unavailable = ⊤
IsReportRefusal report_in body other = ⊥

-- the same, before what it says is looked at
abbrev pub IsJsonRefusal : List ℕ → Refusal → Type 0
IsJsonRefusal body refusal = ((refusal ≡ BadBody BadJson) × IsNoJson body) ⊎ (refusal ≡ Unavailable)
