use Rattle.std.proofs.Common.{◌≡◌, ◌+◌, ◌≤◌, ◌||◌, length}
use Rattle.std.specs.List.{list_any}
use denote.Text.{Utf8}
use denote.Shadow.{shadow}
use Rattle.fax_dest.specs.Unused.{is_unused_control}
use Rattle.fax_lines.specs.Reading.{lines}
use Rattle.fax_settings.proofs.unused.push_unused_controls.Given as goal

abbrev pub invariant-loop-rest : goal.invariant-loop-rest
invariant-loop-rest l =
    ((l.found || list_any is_unused_control (lines l.rest)) ≡ list_any is_unused_control (lines l.controls)) × (l.number + length l.rest ≤ length l.controls) × shadow (Utf8 l.rest)

abbrev pub decreases-loop-rest : goal.decreases-loop-rest
decreases-loop-rest l = length l.rest
