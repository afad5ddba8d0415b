-- What accepted requests are answered with, in the machine's words.
use Rattle.std.specs.Prelude.{ℕ, List}
use Rattle.fax_core.specs.Reply as machine
use Rattle.fax_ask.specs.declared.answer.Answer.{Answer}
use Rattle.fax_ask.specs.declared.answer.Answer.TheVariants.{Submitted, Brought, Stands, Marked, NoneToSend, Given, Called, Confirmed, Floored, Purged, Lines, Listing}
use Rattle.fax_ask.specs.declared.answer.Handed.{Handed}

-- what a client is told: the machine's reply to a step, key lines, or a listing of jobs
pub data Told : Type 0 where
  Replied : (reply : machine.Reply) → Told
  Shown : (lines : List ℕ) → Told
  Listed : (text : List ℕ) → Told

abbrev pub grant_told : Handed → machine.Handed
grant_told handed = record { grant = handed.grant; job = handed.job; dial = handed.number.now; from = handed.from; to = handed.to }

abbrev pub told : Answer → Told
told (Submitted job) = Replied (machine.Submitted job)
told (Brought job state) = Replied (machine.Brought job state)
told (Floored floor) = Replied (machine.Floored floor)
told (Purged jobs) = Replied (machine.Purged jobs)
told (Stands job state) = Replied (machine.Stands job state)
told (Marked down) = Replied (machine.Marked down)
told NoneToSend = Replied machine.NoneToSend
told (Given handed) = Replied (machine.Given (grant_told handed))
told (Called stop) = Replied (machine.Called stop)
told (Confirmed npages stop) = Replied (machine.Confirmed npages stop)
told (Lines bytes) = Shown bytes.now
told (Listing bytes) = Listed bytes.now
