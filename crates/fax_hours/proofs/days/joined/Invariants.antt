use Rattle.std.proofs.Common.{◌≡◌, fold, length}
use Rattle.std.specs.Int.Bits.{bit_or}
use Rattle.std.specs.Option.{option_map}
use Rattle.fax_hours.specs.Days.{words_of}
use Rattle.fax_hours.proofs.days.joined.Given as goal

abbrev pub invariant-loop-rest : goal.invariant-loop-rest
invariant-loop-rest l = option_map (fold bit_or 0) (words_of l.text) ≡ option_map (fold bit_or l.days) (words_of l.rest)

abbrev pub decreases-loop-rest : goal.decreases-loop-rest
decreases-loop-rest l = length l.rest
