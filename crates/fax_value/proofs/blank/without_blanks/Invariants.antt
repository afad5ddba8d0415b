use Rattle.std.proofs.Common.{◌≡◌, length}
use denote.Text.{Utf8}
use denote.Shadow.{shadow}
use Rattle.fax_value.specs.Blank.{without_blanks}
use Rattle.fax_value.proofs.blank.without_blanks.Given as goal

abbrev pub invariant-loop-after : goal.invariant-loop-after
invariant-loop-after l = (without_blanks l.rest ≡ without_blanks l.text) × shadow (Utf8 l.rest)

abbrev pub decreases-loop-after : goal.decreases-loop-after
decreases-loop-after l = length l.rest
