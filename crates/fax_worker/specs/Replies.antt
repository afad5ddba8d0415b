-- Which answers a queue has for a worker's request.
use Rattle.std.specs.Prelude.{◌≡◌, ◌≤◌, ◌<◌, ◌^◌, ⊤, ℕ, List, Option, Some}
use Rattle.std.specs.Str.{IsUtf8}
use Rattle.fax_value.specs.Limits.{last_job, most_pages}
use Rattle.fax_job.specs.declared.refusal.BodyFault.{BodyFault}
use Rattle.fax_job.specs.declared.refusal.BodyFault.TheVariants.{Line}
use Rattle.fax_job.specs.declared.refusal.Refusal.{Refusal}
use Rattle.fax_job.specs.declared.refusal.Refusal.TheVariants.{BadBody, ModemBusy, PageOrder, Rejected, Unavailable}
use Rattle.fax_core.specs.declared.ask.Ask.{Ask}
use Rattle.fax_core.specs.declared.ask.Ask.TheVariants.{Next, OnGrant, GiveUp}
use Rattle.fax_core.specs.declared.report.Report.{Report}
use Rattle.fax_core.specs.declared.report.Report.TheVariants as report
use Rattle.fax_core.specs.Reply.{Reply, NoneToSend, Given, Called, Confirmed, Stands, Floored, Keys, NoKeys, Notice, HeldGrant, Pages}
use Rattle.fax_core.specs.Run.{Answer, Replied, Denied}
use Rattle.fax_worker.specs.Join.{response_of}
use Rattle.fax_worker.specs.Reading.{IsRead}
use Rattle.fax_worker.specs.Sayable.{IsHanded}

-- a job's number, and its state from 1 to 8 (sendq(5))
pub record IsStanding (job state : ℕ) : Type 0 where
  pub from_job : 1 ≤ job
  pub to_job : job ≤ last_job
  pub from_state : 1 ≤ state
  pub to_state : state ≤ 8

-- the reply to an accepted report
abbrev pub IsReportReply : Report → Reply → Type 0
IsReportReply (report.Call call) (Called stop) = ⊤
IsReportReply (report.Page page) (Confirmed npages stop) = npages ≤ most_pages
IsReportReply (report.Outcome outcome) (Stands job state) = IsStanding job state
IsReportReply r other = ⊥

-- the reply to an accepted request
abbrev pub IsReplyTo : Ask → Reply → Type 0
IsReplyTo (Next modem) NoneToSend = ⊤
IsReplyTo (Next modem) (Given handed) = IsHanded handed
IsReplyTo (OnGrant grant r) reply = IsReportReply r reply
IsReplyTo (GiveUp upto) (Floored floor) = ⊤
IsReplyTo ask other = ⊥

-- a refusal and its details; `Unavailable` is no answer, since the request may be accepted later
abbrev pub IsRefusal : Refusal → Keys → Type 0
IsRefusal (BadBody fault) NoKeys = ⊤
IsRefusal Rejected (Notice text) = ⊤
IsRefusal ModemBusy (HeldGrant called handed) = IsHanded handed
IsRefusal PageOrder (Pages npages) = npages ≤ most_pages
IsRefusal Rejected NoKeys = ⊥
IsRefusal ModemBusy NoKeys = ⊥
IsRefusal PageOrder NoKeys = ⊥
IsRefusal Unavailable NoKeys = ⊥
IsRefusal refusal NoKeys = ⊤
IsRefusal refusal other = ⊥

abbrev pub IsAnswerTo : Ask → Answer → Type 0
IsAnswerTo ask (Replied reply) = IsReplyTo ask reply
IsAnswerTo ask (Denied refusal keys) = IsRefusal refusal keys

-- the line of a fault fits 64 bits
abbrev pub HasLine : BodyFault → Type 0
HasLine (Line line kind) = line < 2 ^ 64
HasLine other = ⊤

-- its numbers fit 64 bits, and its texts are UTF-8
abbrev pub IsWritable : Answer → Type 0
IsWritable (Replied (Floored floor)) = floor < 2 ^ 64
IsWritable (Denied (BadBody fault) NoKeys) = HasLine fault
IsWritable (Denied Rejected (Notice text)) = IsUtf8 text
IsWritable other = ⊤

-- Each answer is read as itself, from the bytes that the queue sends for it.
abbrev pub AnswersAreRead : Type 0
AnswersAreRead = (ask : Ask) (answer : Answer) (read : Option Answer) → IsAnswerTo ask answer → IsWritable answer
    → IsRead ask (response_of answer).status (response_of answer).body read → read ≡ Some answer

-- Only an answer that a queue has for the request is read, and only under the status that the queue sends it with.
abbrev pub OnlyAnswersAreRead : Type 0
OnlyAnswersAreRead = (ask : Ask) (status : ℕ) (body : List ℕ) (answer : Answer) → IsRead ask status body (Some answer)
    → IsAnswerTo ask answer × (status ≡ (response_of answer).status)
