use Rattle.std.proofs.Common.{◌≡◌, ◌++◌, take}
use Rattle.fax_job.specs.Spelling.{escaped}
use Rattle.fax_job.proofs.writing.write_value.Given as goal

abbrev pub invariant-loop-byte : goal.invariant-loop-byte
invariant-loop-byte l = l.out.items ≡ l.initial.out.items ++ escaped (take l.byte-index l.value)
