-- What a worker reads of replies, which are JSON (RFC 8259). Other keys are ignored.
use Rattle.std.specs.Prelude.{◌≡◌, ℕ, Bool, false, ◌&&◌, ◌==◌, List, codes, Option, Some, None, nat_le, option_and_then, if◌then◌else◌}
use Rattle.std.specs.List.{find}
use Rattle.std.specs.Option.{option_map}
use Rattle.std.specs.Str.{bytes_eq}
use Rattle.serde_json.specs.Data.{Data}
use Rattle.serde_json.specs.Find.{get}
use Rattle.fax_value.specs.Dial.{is_canonical, without_separators}
use Rattle.fax_value.specs.Limits.{last_grant, last_job, most_pages}
use Rattle.fax_job.specs.Refusal.{body_word, line_word, refusal_number, refusal_status, refusal_word}
use Rattle.fax_job.specs.declared.lines.LineKind.{LineKind}
use Rattle.fax_job.specs.declared.refusal.BodyFault.{BodyFault}
use Rattle.fax_job.specs.declared.refusal.BodyFault.TheVariants.{Line}
use Rattle.fax_job.specs.declared.refusal.Refusal.{Refusal as Fault}
use Rattle.fax_job.specs.declared.refusal.Refusal.TheVariants.{BadBody, ModemBusy, PageOrder, Rejected}
use Rattle.fax_core.specs.declared.ask.Ask.{Ask}
use Rattle.fax_core.specs.declared.ask.Ask.TheVariants.{Next, OnGrant, GiveUp}
use Rattle.fax_core.specs.declared.report.Report.{Report}
use Rattle.fax_core.specs.declared.report.Report.TheVariants as report
use Rattle.fax_core.specs.Reply.{Handed, Reply, NoneToSend, Given, Called, Confirmed, Stands, Floored, NoKeys, Notice, HeldGrant, Pages}
use Rattle.fax_core.specs.Run.{Answer, Replied, Denied}
use Rattle.fax_ask.specs.Report.{IsJson, IsNoJson, bool_at, number_at, text_at, within}
use Rattle.fax_worker.specs.declared.body_fault.TheConstants.{FAULTS, LINE_KINDS}
use Rattle.fax_worker.specs.declared.reading.TheConstants.{REFUSALS}

-- ---- grants

-- a grant has a page, and nothing of it is over its limit
abbrev pub is_handed : ℕ → ℕ → ℕ → ℕ → Bool
is_handed grant job from to = nat_le 1 grant && nat_le grant last_grant && nat_le 1 job && nat_le job last_job && nat_le 1 from && nat_le from to && nat_le to most_pages

-- the grant of these parts, if it is one
abbrev pub handed_from : ℕ → ℕ → List ℕ → ℕ → ℕ → Option Handed
handed_from grant job dial from to = if is_handed grant job from to then Some (record { grant = grant; job = job; dial = dial; from = from; to = to }) else None

-- the number to dial that a text spells, in its canonical form
abbrev pub dial_in : List ℕ → Option (List ℕ)
dial_in text = if is_canonical (without_separators text) then Some (without_separators text) else None

-- a grant, before its number to dial is read
pub record HandedParts : Type 0 where
  pub grant : ℕ
  pub job : ℕ
  pub number : List ℕ
  pub from : ℕ
  pub to : ℕ

unfoldable pub parts_in : Data → Option HandedParts
parts_in json =
    option_and_then (λ grant.
    option_and_then (λ job.
    option_and_then (λ number.
    option_and_then (λ from.
    option_map (λ to. record { grant = grant; job = job; number = number; from = from; to = to })
    (number_at (codes "to") json))
    (number_at (codes "from") json))
    (text_at (codes "number") json))
    (number_at (codes "job") json))
    (number_at (codes "grant") json)

abbrev pub handed_of : HandedParts → Option Handed
handed_of p = option_and_then (λ dial. handed_from p.grant p.job dial p.from p.to) (dial_in p.number)

abbrev pub handed_in : Data → Option Handed
handed_in json = option_and_then handed_of (parts_in json)

-- ---- accepted requests

abbrev pub is_zero : Option ℕ → Bool
is_zero None = false
is_zero (Some number) = number == 0

-- `{"grant":0}` is no grant
abbrev pub work_in : Data → Option Reply
work_in json = if is_zero (number_at (codes "grant") json) then Some NoneToSend else option_map Given (handed_in json)

abbrev pub npages_in : Data → Option ℕ
npages_in json = option_and_then (within 0 most_pages) (number_at (codes "npages") json)

unfoldable pub called_in : Data → Option Reply
called_in json = option_map Called (bool_at (codes "stop") json)

unfoldable pub confirmed_in : Data → Option Reply
confirmed_in json = option_and_then (λ npages. option_map (Confirmed npages) (bool_at (codes "stop") json)) (npages_in json)

unfoldable pub stands_in : Data → Option Reply
stands_in json =
    option_and_then (λ job. option_map (Stands job) (option_and_then (within 1 8) (number_at (codes "state") json)))
    (option_and_then (within 1 last_job) (number_at (codes "job") json))

unfoldable pub floored_in : Data → Option Reply
floored_in json = option_map Floored (number_at (codes "floor") json)

abbrev pub report_reply_in : Report → Data → Option Reply
report_reply_in (report.Call call) json = called_in json
report_reply_in (report.Page page) json = confirmed_in json
report_reply_in (report.Outcome outcome) json = stands_in json

-- each request has a reply of its own
abbrev pub reply_in : Ask → Data → Option Reply
reply_in (Next modem) json = work_in json
reply_in (OnGrant grant r) json = report_reply_in r json
reply_in (GiveUp upto) json = floored_in json
reply_in other json = None

-- ---- refused requests

-- the refusal has this status, number and word
abbrev pub is_stated : ℕ → ℕ → List ℕ → Fault → Bool
is_stated status number word refusal = (refusal_status refusal == status) && (refusal_number refusal == number) && bytes_eq (refusal_word refusal) word

abbrev pub refusal_stated : ℕ → ℕ → List ℕ → Option Fault
refusal_stated status number word = find (is_stated status number word) REFUSALS

unfoldable pub refusal_in : ℕ → Data → Option Fault
refusal_in status json = option_and_then (λ number. option_and_then (refusal_stated status number) (text_at (codes "word") json)) (number_at (codes "no") json)

-- the fault of a body, by its kind, and by its line where it has one
abbrev pub is_kind : List ℕ → LineKind → Bool
is_kind word kind = bytes_eq (line_word kind) word

abbrev pub kind_named : List ℕ → Option LineKind
kind_named word = find (is_kind word) LINE_KINDS

abbrev pub is_fault : List ℕ → BodyFault → Bool
is_fault word fault = bytes_eq (body_word fault) word

abbrev pub fault_named : List ℕ → Option BodyFault
fault_named word = find (is_fault word) FAULTS

abbrev pub fault_stated : Option ℕ → List ℕ → Option BodyFault
fault_stated None kind = fault_named kind
fault_stated (Some line) kind = option_map (Line line) (kind_named kind)

unfoldable pub fault_in : Data → Option BodyFault
fault_in json = option_and_then (fault_stated (number_at (codes "line") json)) (text_at (codes "kind") json)

abbrev pub bad_body_in : Data → Option Answer
bad_body_in json = option_map (λ fault. Denied (BadBody fault) NoKeys) (fault_in json)

abbrev pub held_in : Data → Option Answer
held_in json = option_and_then (λ called. option_map (λ handed. Denied ModemBusy (HeldGrant called handed)) (handed_in json)) (bool_at (codes "called") json)

-- some refusals have details, which must be there
abbrev pub denied_in : Fault → Data → Option Answer
denied_in (BadBody fault) json = bad_body_in json
denied_in Rejected json = option_map (λ notice. Denied Rejected (Notice notice)) (text_at (codes "notice") json)
denied_in ModemBusy json = option_and_then held_in (get (codes "held") json)
denied_in PageOrder json = option_map (λ npages. Denied PageOrder (Pages npages)) (npages_in json)
denied_in other json = Some (Denied other NoKeys)

-- ---- replies

-- the answer to a request in a reply of this status and JSON, if it has one
abbrev pub answer_in : Ask → ℕ → Data → Option Answer
answer_in ask status json =
    if status == 200 then option_map Replied (reply_in ask json)
    else option_and_then (λ refusal. denied_in refusal json) (refusal_in status json)

-- the JSON of a body, or that there is none
abbrev pub IsJsonIfSome : List ℕ → Option Data → Type 0
IsJsonIfSome body None = IsNoJson body
IsJsonIfSome body (Some json) = IsJson body json

-- the answer in a reply is the one in its JSON; there is none if the body is no JSON, or the JSON has none
pub record IsRead (ask : Ask) (status : ℕ) (body : List ℕ) (answer : Option Answer) : Type 0 where
  pub json : Option Data
  pub is_json : IsJsonIfSome body json
  pub read : answer ≡ option_and_then (answer_in ask status) json
