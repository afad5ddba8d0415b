use Rattle.std.proofs.Common.{◌≡◌, ◌++◌, take}
use Rattle.fax_job.proofs.job.push_copies.Given as goal

abbrev pub invariant-loop-index : goal.invariant-loop-index
invariant-loop-index l = l.text ≡ l.initial.text ++ take l.index l.extra
