-- What a queue answers to a client's request.
use Rattle.std.specs.Prelude.{◌≡◌, ℕ, Bool, true, ◌||◌, List, codes, Some, is_some, Ok, Err}
use Rattle.serde_json.specs.Data.{Data}
use Rattle.fax_ask.specs.Ask.{IsAsk}
use Rattle.fax_ask.specs.Report.{IsJson, bool_at, number_at}
use Rattle.fax_ask.specs.declared.ask.Ask.TheVariants.{Step}
use Rattle.fax_ask.specs.declared.method.Method.TheVariants.{Post}
use Rattle.fax_core.specs.declared.ask.Ask.{Ask}
use Rattle.fax_core.specs.declared.ask.Ask.TheVariants.{Submission, Bring, OnJob, Mark, Next, OnGrant, GiveUp, Purge}
use Rattle.fax_core.specs.declared.report.Report.{Report}
use Rattle.fax_core.specs.declared.report.Report.TheVariants as report
use Rattle.fax_http.specs.declared.answer.Answer.{Answer as Response}
use Rattle.fax_job.specs.declared.refusal.Refusal.{Refusal}
use Rattle.fax_journal.specs.Entry.{Request}
use Rattle.fax_worker.specs.Reading.{refusal_in}
use Rattle.fax_client.specs.Line.{Reply}
use Rattle.fax_client.specs.declared.answered.Answered.{Answered}
use Rattle.fax_client.specs.declared.answered.Answered.TheVariants.{Accepted, Refused}

-- the status of the reply to an accepted request
abbrev pub status_of : Ask → ℕ
status_of (Submission order) = 201
status_of (Bring lines) = 201
status_of other = 200

-- a key that the reply to an accepted report has
abbrev pub report_key : Report → List ℕ
report_key (report.Call call) = codes "stop"
report_key (report.Page page) = codes "npages"
report_key (report.Outcome outcome) = codes "state"

-- a key that the reply to an accepted request has
abbrev pub key_of : Ask → List ℕ
key_of (Submission order) = codes "job"
key_of (Bring lines) = codes "job"
key_of (OnJob job ask) = codes "state"
key_of (Mark modem down) = codes "down"
key_of (Next modem) = codes "grant"
key_of (OnGrant grant r) = report_key r
key_of (GiveUp upto) = codes "floor"
key_of (Purge before) = codes "purged"

-- a number or a truth stands under the key
abbrev pub has_value : List ℕ → Data → Bool
has_value key json = is_some (number_at key json) || is_some (bool_at key json)

-- the reply has the status of an accepted request, and its key
pub record IsAcceptance (ask : Ask) (response : Response) : Type 0 where
  pub status : response.status ≡ status_of ask
  pub json : Data
  pub is_json : IsJson response.body.items json
  pub has : has_value (key_of ask) json ≡ true

-- the reply states a refusal that is an answer
pub record StatesRefusal (response : Response) (refusal : Refusal) : Type 0 where
  pub json : Data
  pub is_json : IsJson response.body.items json
  pub states : refusal_in response.status json ≡ Some refusal

-- what came back is this answer to the request
abbrev pub IsReadAs : Request → Reply → Answered → Type 0
IsReadAs r (Ok response) (Accepted body) = (body.items ≡ response.body.items) × ((ask : Ask) × IsAsk Post r.path r.body (Step ask) × IsAcceptance ask response)
IsReadAs r (Ok response) (Refused refusal) = StatesRefusal response refusal
IsReadAs r (Err fault) answered = ⊥
