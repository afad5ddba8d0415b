use Rattle.std.proofs.Common.{◌≡◌, length}
use denote.Text.{Utf8}
use denote.Shadow.{shadow}
use Rattle.fax_value.specs.Blank.{before_blanks}
use Rattle.fax_value.proofs.blank.before_blanks.Given as goal

abbrev pub invariant-loop-before : goal.invariant-loop-before
invariant-loop-before l = (before_blanks l.front ≡ before_blanks l.text) × shadow (Utf8 l.front)

abbrev pub decreases-loop-before : goal.decreases-loop-before
decreases-loop-before l = length l.front
