-- Worked rows: what a worker says, and what it reads of replies.
use Rattle.std.specs.Prelude.{◌≡◌, refl, ℕ, true, false, List, [], codes, Option, Some, None, option_and_then}
use Rattle.std.specs.Fmt.{digits}
use Rattle.json.specs.Print.{escape_byte}
use Rattle.serde_json.specs.Read.{read}
use Rattle.serde_json.proofs.OnLiterals.{serde_json_on_literals}
use Rattle.fax_job.specs.declared.job.Call.TheVariants.{Connected}
use Rattle.fax_job.specs.declared.lines.LineKind.TheVariants.{NoColon}
use Rattle.fax_job.specs.declared.refusal.BodyFault.TheVariants.{BadField, Line}
use Rattle.fax_job.specs.declared.refusal.Refusal.TheVariants.{BadBody, ModemBusy, ModemDown, PageOrder}
use Rattle.fax_core.specs.declared.ask.Ask.{Ask}
use Rattle.fax_core.specs.declared.ask.Ask.TheVariants.{GiveUp, Next, OnGrant}
use Rattle.fax_core.specs.declared.report.Ending.TheVariants.{Retry}
use Rattle.fax_core.specs.declared.report.Report.TheVariants.{Call, Outcome, Page}
use Rattle.fax_core.specs.Reply.{Called, Confirmed, Floored, Given, Handed, HeldGrant, NoKeys, NoneToSend, Pages, Stands}
use Rattle.fax_core.specs.Run.{Answer, Replied, Denied}
use Rattle.fax_core.proofs.RowWords.{report, ttyS0}
use Rattle.fax_worker.specs.Reading.{answer_in, called_in, confirmed_in, fault_in, floored_in, parts_in, refusal_in, stands_in}
use Rattle.fax_worker.specs.Saying.{body_of, path_of}
use Rattle.fax_worker.specs.Worker.{Look, held_after, held_of}

-- ---- what it says

next_path_row : path_of (Next ttyS0) ≡ codes "/modems/ttyS0/next"
next_path_row = refl

-- with no body
next_body_row : body_of (Next ttyS0) ≡ []
next_body_row = refl

page_path_row : path_of (OnGrant 7 (Page 2)) ≡ codes "/grants/7/page"
unfolding digits
page_path_row = refl

page_body_row : body_of (OnGrant 7 (Page 2)) ≡ codes "{\"page\":2}"
unfolding digits escape_byte
page_body_row = refl

call_body_row : body_of (OnGrant 7 (Call Connected)) ≡ codes "{\"result\":\"connected\"}"
unfolding escape_byte
call_body_row = refl

outcome_body_row : body_of (OnGrant 7 (Outcome (report true Retry 1 (codes "line \"dropped\"")))) ≡ codes "{\"dialed\":true,\"outcome\":\"retry\",\"pages\":1,\"reason\":\"line \\\"dropped\\\"\"}"
unfolding digits escape_byte
outcome_body_row = refl

floor_path_row : path_of (GiveUp 41) ≡ codes "/numbers/floor"
floor_path_row = refl

floor_body_row : body_of (GiveUp 41) ≡ codes "{\"upto\":41}"
unfolding digits escape_byte
floor_body_row = refl

-- ---- what it reads

-- the answer of a reply
abbrev read_as : Ask → ℕ → List ℕ → Option Answer
read_as ask status body = option_and_then (answer_in ask status) (read body)

-- grant 1 of job 1: pages 1 to 3
abbrev first_grant : Handed
first_grant = record { grant = 1; job = 1; dial = codes "5550111"; from = 1; to = 3 }

given_row : read_as (Next ttyS0) 200 (codes "{\"from\":1,\"grant\":1,\"job\":1,\"number\":\"5550111\",\"to\":3}") ≡ Some (Replied (Given first_grant))
unfolding serde_json_on_literals parts_in
given_row = refl

none_row : read_as (Next ttyS0) 200 (codes "{\"grant\":0}") ≡ Some (Replied NoneToSend)
unfolding serde_json_on_literals parts_in
none_row = refl

called_row : read_as (OnGrant 1 (Call Connected)) 200 (codes "{\"stop\":false}") ≡ Some (Replied (Called false))
unfolding serde_json_on_literals called_in
called_row = refl

-- other keys are ignored
other_key_row : read_as (OnGrant 1 (Call Connected)) 200 (codes "{\"since\":[1],\"stop\":true}") ≡ Some (Replied (Called true))
unfolding serde_json_on_literals called_in
other_key_row = refl

confirmed_row : read_as (OnGrant 1 (Page 1)) 200 (codes "{\"npages\":1,\"stop\":false}") ≡ Some (Replied (Confirmed 1 false))
unfolding serde_json_on_literals confirmed_in
confirmed_row = refl

stands_row : read_as (OnGrant 1 (Outcome (report true Retry 1 []))) 200 (codes "{\"job\":1,\"state\":3}") ≡ Some (Replied (Stands 1 3))
unfolding serde_json_on_literals stands_in
stands_row = refl

floored_row : read_as (GiveUp 41) 200 (codes "{\"floor\":41}") ≡ Some (Replied (Floored 41))
unfolding serde_json_on_literals floored_in
floored_row = refl

-- ---- refusals

down_row : read_as (Next ttyS0) 409 (codes "{\"no\":17,\"word\":\"modem-down\"}") ≡ Some (Denied ModemDown NoKeys)
unfolding serde_json_on_literals refusal_in
down_row = refl

order_row : read_as (OnGrant 1 (Page 3)) 409 (codes "{\"no\":22,\"npages\":1,\"word\":\"page-order\"}") ≡ Some (Denied PageOrder (Pages 1))
unfolding serde_json_on_literals refusal_in
order_row = refl

line_row : read_as (GiveUp 41) 400 (codes "{\"kind\":\"no-colon\",\"line\":2,\"no\":6,\"word\":\"bad-body\"}") ≡ Some (Denied (BadBody (Line 2 NoColon)) NoKeys)
unfolding serde_json_on_literals refusal_in fault_in
line_row = refl

field_row : read_as (GiveUp 41) 400 (codes "{\"kind\":\"bad-field\",\"no\":6,\"word\":\"bad-body\"}") ≡ Some (Denied (BadBody BadField) NoKeys)
unfolding serde_json_on_literals refusal_in fault_in
field_row = refl

-- ---- a lost reply: the modem holds a grant, and the worker takes it up

abbrev busy : Option Answer
busy = read_as (Next ttyS0) 409 (codes "{\"held\":{\"called\":true,\"from\":1,\"grant\":1,\"job\":1,\"number\":\"5550111\",\"to\":3},\"no\":18,\"word\":\"modem-busy\"}")

busy_row : busy ≡ Some (Denied ModemBusy (HeldGrant true first_grant))
unfolding serde_json_on_literals refusal_in parts_in
busy_row = refl

abbrev look : Look
look = record { call = Some Connected; pages = 2 }

taken_up_row : held_after (Next ttyS0) (Denied ModemBusy (HeldGrant true first_grant)) look None ≡ Some (held_of first_grant (Some Connected) 2)
taken_up_row = refl

-- without the grant it says nothing
no_grant_row : read_as (Next ttyS0) 409 (codes "{\"no\":18,\"word\":\"modem-busy\"}") ≡ None
unfolding serde_json_on_literals refusal_in parts_in
no_grant_row = refl

-- ---- what says nothing

-- a proxy's page
page_row : read_as (OnGrant 1 (Page 1)) 200 (codes "<html>login</html>") ≡ None
unfolding serde_json_on_literals confirmed_in
page_row = refl

-- its JSON
proxy_row : read_as (OnGrant 1 (Page 1)) 200 (codes "{\"error\":\"denied\"}") ≡ None
unfolding serde_json_on_literals confirmed_in
proxy_row = refl

-- under another status
forbidden_row : read_as (OnGrant 1 (Page 1)) 403 (codes "{\"npages\":1,\"stop\":false}") ≡ None
unfolding serde_json_on_literals refusal_in
forbidden_row = refl

-- a refusal under a gateway's status
gateway_row : read_as (OnGrant 1 (Page 1)) 502 (codes "{\"no\":19,\"word\":\"grant-closed\"}") ≡ None
unfolding serde_json_on_literals refusal_in
gateway_row = refl

-- a store that gave no answer
unavailable_row : read_as (OnGrant 1 (Page 1)) 503 (codes "{\"no\":27,\"word\":\"unavailable\"}") ≡ None
unfolding serde_json_on_literals refusal_in
unavailable_row = refl

-- half a reply
half_row : read_as (OnGrant 1 (Page 1)) 200 (codes "{\"npages\":1,\"st") ≡ None
unfolding serde_json_on_literals confirmed_in
half_row = refl

-- the reply to another request
other_reply_row : read_as (OnGrant 1 (Page 1)) 200 (codes "{\"stop\":false}") ≡ None
unfolding serde_json_on_literals confirmed_in
other_reply_row = refl

-- a job with no page left
empty_row : read_as (Next ttyS0) 200 (codes "{\"from\":4,\"grant\":1,\"job\":1,\"number\":\"5550111\",\"to\":3}") ≡ None
unfolding serde_json_on_literals parts_in
empty_row = refl
