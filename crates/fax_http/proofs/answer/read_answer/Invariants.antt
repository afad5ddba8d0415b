use Rattle.std.proofs.Common.{◌-◌, false, length}
use Rattle.fax_http.specs.Device.{Took}
use Rattle.fax_http.proofs.answer.read_answer.Given as goal

abbrev pub invariant-loop-status : goal.invariant-loop-status
invariant-loop-status g l = Took g.R.Read.remaining l.initial.reader l.reader l.buffer false

abbrev pub decreases-loop-status : goal.decreases-loop-status
decreases-loop-status g l = 81920 - length l.buffer
