use Rattle.std.proofs.Common.{◌≡◌, ◌+◌, ◌≤◌, length, nat_eq}
use Rattle.std.specs.List.{position_or_len}
use Rattle.fax_value.proofs.comma.comma_at.Given as goal

abbrev pub invariant-loop-rest : goal.invariant-loop-rest
invariant-loop-rest l =
    (position_or_len (λ byte. nat_eq byte 44) l.text + length l.rest ≡ length l.text + position_or_len (λ byte. nat_eq byte 44) l.rest)
    × (length l.rest ≤ length l.text)

abbrev pub decreases-loop-rest : goal.decreases-loop-rest
decreases-loop-rest l = length l.rest
