use Rattle.std.proofs.Common.{◌≡◌, length}
use Rattle.fax_value.specs.Blank.{before_blanks}
use Rattle.fax_value.proofs.comma.before_blanks.Given as goal

abbrev pub invariant-loop-front : goal.invariant-loop-front
invariant-loop-front l = before_blanks l.text ≡ before_blanks l.front

abbrev pub decreases-loop-front : goal.decreases-loop-front
decreases-loop-front l = length l.front
