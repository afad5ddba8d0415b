use Rattle.std.proofs.Common.{◌≡◌, take}
use Rattle.fax_job.specs.Spelling.{printed}
use Rattle.fax_job.proofs.writing.write_lines.Given as goal

abbrev pub invariant-loop-index : goal.invariant-loop-index
invariant-loop-index l = l.out.items ≡ printed (take l.index l.text)
