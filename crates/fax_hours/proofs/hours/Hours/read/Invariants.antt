use Rattle.std.proofs.Common.{◌+◌, ℕ, List, length, Option, Some, None}
use Rattle.std.specs.Option.{option_copied}
use Rattle.fax_hours.proofs.HoursLemmas.{IsReadTo}
use Rattle.fax_hours.proofs.hours.Hours.read.Given as goal

abbrev left : Option (List ℕ) → ℕ
left None = 0
left (Some text) = length text + 1

abbrev pub invariant-loop-rest : goal.invariant-loop-rest
invariant-loop-rest l = IsReadTo l.text l.hours (option_copied l.rest)

abbrev pub decreases-loop-rest : goal.decreases-loop-rest
decreases-loop-rest l = left (option_copied l.rest)
