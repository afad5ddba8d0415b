use Rattle.std.proofs.Common.{◌≡◌, take}
use Rattle.fax_job.specs.Pair.{extra_of}
use Rattle.fax_job.proofs.lines.Lines.extra.Given as goal

abbrev pub invariant-loop-index : goal.invariant-loop-index
invariant-loop-index l = l.extra ≡ extra_of (take l.index l.text)
