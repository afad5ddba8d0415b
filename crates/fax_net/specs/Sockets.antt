-- The places of the sockets of a server.
use Rattle.std.specs.Prelude.{◌≡◌, ℕ, ◌<◌, List, length, Option, Some, None, slice_get}
use Rattle.fax_net.specs.declared.seat.Seat.{Seat}

-- nobody is at the place
abbrev pub IsFree : List (Option Seat) → ℕ → Type 0
IsFree seats place = place < length seats → slice_get seats place ≡ Some None
