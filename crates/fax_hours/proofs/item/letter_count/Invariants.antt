use Rattle.std.proofs.Common.{◌≡◌, ◌+◌, length}
use Rattle.fax_hours.specs.Item.{letter_count}
use Rattle.fax_hours.proofs.item.letter_count.Given as goal

abbrev pub invariant-loop-rest : goal.invariant-loop-rest
invariant-loop-rest l = letter_count l.text + length l.rest ≡ length l.text + letter_count l.rest

abbrev pub decreases-loop-rest : goal.decreases-loop-rest
decreases-loop-rest l = length l.rest
