-- A queue's answers, in the machine's words.
use Rattle.std.specs.Prelude.{Option, Some, None, string_bytes}
use Rattle.fax_job.specs.declared.refusal.Refusal.{Refusal as Fault}
use Rattle.fax_job.specs.declared.refusal.Refusal.TheVariants as fault
use Rattle.fax_core.specs.Reply as machine
use Rattle.fax_core.specs.Run.{Answer, Replied, Denied}
use Rattle.fax_worker.specs.declared.reading.HandedText.{HandedText}
use Rattle.fax_worker.specs.Reading.{HandedParts}
use Rattle.fax_worker.specs.declared.answer.Answer.{Answer as CodeAnswer}
use Rattle.fax_worker.specs.declared.answer.Answer.TheVariants.{NoneToSend, Given, Called, Confirmed, Stands, Floored, Refused, Rejected, Busy, PageOrder}

abbrev pub answer_of : CodeAnswer → Answer
answer_of NoneToSend = Replied machine.NoneToSend
answer_of (Given handed) = Replied (machine.Given handed)
answer_of (Called stop) = Replied (machine.Called stop)
answer_of (Confirmed npages stop) = Replied (machine.Confirmed npages stop)
answer_of (Stands job state) = Replied (machine.Stands job state)
answer_of (Floored floor) = Replied (machine.Floored floor)
answer_of (Refused refusal) = Denied refusal machine.NoKeys
answer_of (Rejected notice) = Denied fault.Rejected (machine.Notice (string_bytes notice))
answer_of (Busy called handed) = Denied fault.ModemBusy (machine.HeldGrant called handed)
answer_of (PageOrder npages) = Denied fault.PageOrder (machine.Pages npages)

-- why a request is refused, if it is
abbrev pub fault_in : Answer → Option Fault
fault_in (Replied reply) = None
fault_in (Denied refusal keys) = Some refusal

-- a grant whose number to dial is still in its JSON
abbrev pub parts_of : HandedText → HandedParts
parts_of h = record { grant = h.grant; job = h.job; number = h.number.now; from = h.from; to = h.to }
