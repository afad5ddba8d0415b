-- What a client sees of a reply, and what the replies to requests are. The keys of each object stand in
-- ascending order of their bytes.
use Rattle.std.specs.Prelude.{◌≡◌, ◌⊎◌, ℕ, Bool, true, false, List, [], ◌++◌, Option, Some, None, codes, decimal}
use Rattle.json.specs.Print.{quoted}
use Rattle.fax_job.specs.declared.refusal.BodyFault.{BodyFault}
use Rattle.fax_job.specs.declared.refusal.Refusal.{Refusal}
use Rattle.fax_job.specs.declared.refusal.Refusal.TheVariants.{BadBody}
use Rattle.fax_job.specs.Refusal.{body_line, body_word, refusal_number, refusal_status, refusal_word}
use Rattle.fax_core.specs.Reply.{Handed, Reply, Submitted, Brought, Stands, Marked, NoneToSend, Given, Called, Confirmed, Floored, Purged, Keys, NoKeys, Notice, HeldGrant, Pages}
use Rattle.fax_ask.specs.Answer.{Told, Replied, Shown, Listed}

-- a status (RFC 9110, section 15), whether the body is JSON (RFC 8259), and the body's bytes
pub record Response : Type 0 where
  pub status : ℕ
  pub is_json : Bool
  pub body : List ℕ

abbrev pub bool_text : Bool → List ℕ
bool_text true = codes "true"
bool_text false = codes "false"

-- the keys of a grant, whose number is escaped as RFC 8259, section 7, has it
abbrev pub handed_keys : Handed → List ℕ
handed_keys handed = codes "\"from\":" ++ decimal handed.from ++ codes ",\"grant\":" ++ decimal handed.grant ++ codes ",\"job\":" ++ decimal handed.job ++ codes ",\"number\":" ++ quoted handed.dial ++ codes ",\"to\":" ++ decimal handed.to

-- ---- accepted requests

abbrev pub reply_body : Reply → List ℕ
reply_body (Submitted job) = codes "{\"job\":" ++ decimal job ++ codes "}"
reply_body (Brought job state) = codes "{\"job\":" ++ decimal job ++ codes ",\"state\":" ++ decimal state ++ codes "}"
reply_body (Stands job state) = codes "{\"job\":" ++ decimal job ++ codes ",\"state\":" ++ decimal state ++ codes "}"
reply_body (Marked down) = codes "{\"down\":" ++ bool_text down ++ codes "}"
reply_body NoneToSend = codes "{\"grant\":0}"
reply_body (Given handed) = codes "{" ++ handed_keys handed ++ codes "}"
reply_body (Called stop) = codes "{\"stop\":" ++ bool_text stop ++ codes "}"
reply_body (Confirmed npages stop) = codes "{\"npages\":" ++ decimal npages ++ codes ",\"stop\":" ++ bool_text stop ++ codes "}"
reply_body (Floored floor) = codes "{\"floor\":" ++ decimal floor ++ codes "}"
reply_body (Purged jobs) = codes "{\"purged\":" ++ decimal jobs ++ codes "}"

-- a submission makes a job, and so does an import
abbrev pub reply_status : Reply → ℕ
reply_status (Submitted job) = 201
reply_status (Brought job state) = 201
reply_status other = 200

-- OK or Created: the statuses of accepted requests
abbrev pub IsAcceptedStatus : ℕ → Type 0
IsAcceptedStatus status = (status ≡ 200) ⊎ (status ≡ 201)

-- what an accepted request is answered with
abbrev pub accepted_response : Told → Response
accepted_response (Replied reply) = record { status = reply_status reply; is_json = true; body = reply_body reply }
accepted_response (Shown lines) = record { status = 200; is_json = false; body = lines }
accepted_response (Listed text) = record { status = 200; is_json = false; body = text }

-- what a request is answered with that was accepted before: only those are kept whose reply is JSON
abbrev pub kept_response : ℕ → List ℕ → Response
kept_response status body = record { status = status; is_json = true; body = body }

-- ---- refused requests

-- the body of a refusal that says no more than its number and word
abbrev pub refusal_bytes : Refusal → List ℕ
refusal_bytes refusal = codes "{\"no\":" ++ decimal (refusal_number refusal) ++ codes ",\"word\":\"" ++ refusal_word refusal ++ codes "\"}"

-- the key of the line at fault, where there is one
abbrev pub line_key : Option ℕ → List ℕ
line_key None = []
line_key (Some line) = codes "\"line\":" ++ decimal line ++ codes ","

-- the body of a refusal whose body was at fault
abbrev pub fault_bytes : BodyFault → List ℕ
fault_bytes fault = codes "{\"kind\":\"" ++ body_word fault ++ codes "\"," ++ line_key (body_line fault) ++ codes "\"no\":6,\"word\":\"bad-body\"}"

abbrev pub plain_body : Refusal → List ℕ
plain_body (BadBody fault) = fault_bytes fault
plain_body refusal = refusal_bytes refusal

abbrev pub refused_body : Refusal → Keys → List ℕ
refused_body refusal NoKeys = plain_body refusal
refused_body refusal (Notice text) = codes "{\"no\":" ++ decimal (refusal_number refusal) ++ codes ",\"notice\":" ++ quoted text ++ codes ",\"word\":\"" ++ refusal_word refusal ++ codes "\"}"
refused_body refusal (HeldGrant called handed) = codes "{\"held\":{\"called\":" ++ bool_text called ++ codes "," ++ handed_keys handed ++ codes "},\"no\":" ++ decimal (refusal_number refusal) ++ codes ",\"word\":\"" ++ refusal_word refusal ++ codes "\"}"
refused_body refusal (Pages npages) = codes "{\"no\":" ++ decimal (refusal_number refusal) ++ codes ",\"npages\":" ++ decimal npages ++ codes ",\"word\":\"" ++ refusal_word refusal ++ codes "\"}"

-- what a refused request is answered with
abbrev pub refused_response : Refusal → Keys → Response
refused_response refusal keys = record { status = refusal_status refusal; is_json = true; body = refused_body refusal keys }
