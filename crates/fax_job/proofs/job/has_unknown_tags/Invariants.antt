use Rattle.std.proofs.Common.{◌≡◌, true, take}
use Rattle.fax_job.specs.Pair.{are_unknown}
use Rattle.fax_job.proofs.job.has_unknown_tags.Given as goal

abbrev pub invariant-loop-index : goal.invariant-loop-index
invariant-loop-index l = are_unknown (take l.index l.lines) ≡ true
