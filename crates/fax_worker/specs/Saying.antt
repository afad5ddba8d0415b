-- How a worker says a request: the path of a POST, and the body.
use Rattle.std.specs.Prelude.{ℕ, List, [], ◌++◌, codes, decimal}
use Rattle.serde_json.specs.Data.{Data, boolean, number, object, member, no_members, string, unsigned}
use Rattle.serde_json.specs.Written.{compact_text}
use Rattle.fax_job.specs.declared.job.Call.{Call}
use Rattle.fax_job.specs.declared.job.Call.TheVariants.{Connected, Busy, NoAnswer, NoCarrier, Other}
use Rattle.fax_core.specs.declared.ask.Ask.{Ask}
use Rattle.fax_core.specs.declared.ask.Ask.TheVariants.{Next, OnGrant, GiveUp}
use Rattle.fax_core.specs.declared.report.Ending.{Ending}
use Rattle.fax_core.specs.declared.report.Ending.TheVariants.{Done, Retry, Fail}
use Rattle.fax_core.specs.declared.report.Outcome.{Outcome}
use Rattle.fax_core.specs.declared.report.Report.{Report}
use Rattle.fax_core.specs.declared.report.Report.TheVariants as report
use Rattle.fax_ask.specs.Ask.{IsAsk}
use Rattle.fax_ask.specs.declared.ask.Ask.TheVariants.{Step}
use Rattle.fax_ask.specs.declared.method.Method.TheVariants.{Post}
use Rattle.fax_worker.specs.Sayable.{IsSayable}

-- ---- paths

abbrev pub report_word : Report → List ℕ
report_word (report.Call call) = codes "call"
report_word (report.Page page) = codes "page"
report_word (report.Outcome outcome) = codes "outcome"

abbrev pub path_of : Ask → List ℕ
path_of (Next modem) = codes "/modems/" ++ (modem ++ codes "/next")
path_of (OnGrant grant r) = codes "/grants/" ++ (decimal grant ++ (codes "/" ++ report_word r))
path_of (GiveUp upto) = codes "/numbers/floor"
path_of other = []

-- ---- bodies: a JSON object with no space in its text, or nothing where the queue reads none

abbrev pub call_word : Call → List ℕ
call_word Connected = codes "connected"
call_word Busy = codes "busy"
call_word NoAnswer = codes "no-answer"
call_word NoCarrier = codes "no-carrier"
call_word Other = codes "other"

abbrev pub ending_word : Ending → List ℕ
ending_word Done = codes "done"
ending_word Retry = codes "retry"
ending_word Fail = codes "fail"

abbrev pub outcome_json : Outcome → Data
outcome_json o =
    object (member (codes "dialed") (boolean o.dialed)
    (member (codes "outcome") (string (ending_word o.ending))
    (member (codes "pages") (number (unsigned o.pages))
    (member (codes "reason") (string o.reason) no_members))))

abbrev pub report_json : Report → Data
report_json (report.Call call) = object (member (codes "result") (string (call_word call)) no_members)
report_json (report.Page page) = object (member (codes "page") (number (unsigned page)) no_members)
report_json (report.Outcome outcome) = outcome_json outcome

abbrev pub upto_json : ℕ → Data
upto_json upto = object (member (codes "upto") (number (unsigned upto)) no_members)

abbrev pub body_of : Ask → List ℕ
body_of (Next modem) = []
body_of (OnGrant grant r) = compact_text (report_json r)
body_of (GiveUp upto) = compact_text (upto_json upto)
body_of other = []

-- ---- what is said is read as it was meant

-- the queue reads a worker's request as the one that it says
abbrev pub SaysWhatItMeans : Type 0
SaysWhatItMeans = (ask : Ask) → IsSayable ask → IsAsk Post (path_of ask) (body_of ask) (Step ask)
