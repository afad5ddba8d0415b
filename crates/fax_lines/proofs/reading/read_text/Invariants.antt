use Rattle.std.proofs.Common.{◌≡◌, ◌+◌, ◌≤◌, [], length}
use Rattle.std.specs.Prelude.{None, IfSome}
use Rattle.std.specs.Option.{option_map}
use Rattle.std.specs.String.{string_bytes}
use Rattle.fax_lines.specs.Reading.{lines, read_on, IsOpen}
use denote.Text.{Utf8}
use denote.Shadow.{shadow}
use Rattle.fax_lines.proofs.reading.read_text.Given as goal

abbrev pub invariant-loop-rest : goal.invariant-loop-rest
invariant-loop-rest l =
    (read_on (lines l.rest) l.number l.lines (option_map string_bytes l.begun) ≡ read_on (lines l.text) 0 [] None)
    × IfSome l.begun (λ value. IsOpen l.lines (string_bytes value))
    × (l.number + length l.rest ≤ length l.text)
    × shadow (Utf8 l.rest)

abbrev pub decreases-loop-rest : goal.decreases-loop-rest
decreases-loop-rest l = length l.rest
