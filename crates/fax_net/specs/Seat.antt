-- One connection's socket: how long its peer may go on, and what a read or a write leaves of that.
use Rattle.std.specs.Duration.{as_nanos}
use Rattle.std.specs.Prelude.{◌≡◌, ◌⊎◌, ℕ, ◌-◌, Bool, true, false, IsTrue, ⊤}
use Rattle.std.specs.Time.{instant_nanos}
use Rattle.std.specs.declared.time.Instant.{Instant}
use Rattle.fax_net.specs.declared.patience.Patience.{Patience}
use Rattle.fax_net.specs.declared.peers.Moved.{Moved}
use Rattle.fax_net.specs.declared.peers.Moved.TheVariants.{Bytes, Nothing, End, Failed}
use Rattle.fax_net.specs.declared.seat.Seat.{Seat}
use Rattle.fax_net.specs.Patience.{left, second}

-- how long nothing has moved
abbrev pub silence : Seat → Instant → ℕ
silence seat now = instant_nanos now - instant_nanos seat.moved

-- how long the connection has gone on
abbrev pub taken : Seat → Instant → ℕ
taken seat now = instant_nanos now - instant_nanos seat.begun

-- all its time is over, or its place is wanted
abbrev pub IsOver : Seat → Instant → Type 0
IsOver seat now = (IsTrue seat.is_sent_away) ⊎ (as_nanos seat.patience.whole - taken seat now ≡ 0)

-- the time for which it may move nothing is over too, or one of these
abbrev pub IsLate : Seat → Instant → Type 0
IsLate seat now = (IsTrue seat.is_sent_away) ⊎ (left seat.patience (silence seat now) (taken seat now) ≡ 0)

-- a connection that came just now
pub record IsNew (seat : Seat) (limits : Patience) (now : Instant) : Type 0 where
  pub patience : seat.patience ≡ limits
  pub begun : seat.begun ≡ now
  pub moved : seat.moved ≡ now
  pub may_read : seat.may_read ≡ true
  pub may_write : seat.may_write ≡ true
  pub has_ended : seat.has_ended ≡ false
  pub is_leaving : seat.is_leaving ≡ false
  pub is_sent_away : seat.is_sent_away ≡ false

-- where nothing moves yet, the connection fails if it is late, and only then
abbrev pub Stays : Seat → Instant → Moved → Type 0
Stays seat now (Bytes count) = ⊥
Stays seat now Nothing = ¬ IsLate seat now
Stays seat now End = ⊥
Stays seat now Failed = IsLate seat now

-- when bytes moved last
abbrev pub moved_at : Moved → Instant → Instant → Instant
moved_at (Bytes count) before now = now
moved_at Nothing before now = before
moved_at End before now = before
moved_at Failed before now = before

-- whether the peer says no more
abbrev pub ended_by : Moved → Bool → Bool
ended_by (Bytes count) before = before
ended_by Nothing before = before
ended_by End before = true
ended_by Failed before = before

-- the socket may be tried again at once where something moved, and only once the system says so where nothing did
abbrev pub IsReady : Moved → Bool → Type 0
IsReady (Bytes count) may = may ≡ true
IsReady Nothing may = may ≡ false
IsReady End may = may ≡ true
IsReady Failed may = ⊤

-- a read or a write was tried: it failed where all the time is over, and one that moved nothing isn't late
pub record HasTried (seat seat₂ : Seat) (now : Instant) (moved : Moved) : Type 0 where
  pub moved_is : seat₂.moved ≡ moved_at moved seat.moved now
  pub ended_is : seat₂.has_ended ≡ ended_by moved seat.has_ended
  pub begun : seat₂.begun ≡ seat.begun
  pub patience : seat₂.patience ≡ seat.patience
  pub is_leaving : seat₂.is_leaving ≡ seat.is_leaving
  pub is_sent_away : seat₂.is_sent_away ≡ seat.is_sent_away
  pub over : IsOver seat now → moved ≡ Failed
  pub late : moved ≡ Nothing → ¬ IsLate seat now

-- the peer is waited for: it had more to say, and has a second from now on
pub record IsLeaving (seat seat₂ : Seat) (now : Instant) : Type 0 where
  pub heard : seat.has_ended ≡ false
  pub is_leaving : seat₂.is_leaving ≡ true
  pub begun : seat₂.begun ≡ now
  pub moved : seat₂.moved ≡ now
  pub silent : as_nanos seat₂.patience.silent ≡ second
  pub whole : as_nanos seat₂.patience.whole ≡ second
  pub is_sent_away : seat₂.is_sent_away ≡ seat.is_sent_away

-- a peer that isn't waited for leaves all as it was
abbrev pub Leaves : Seat → Seat → Instant → Bool → Type 0
Leaves seat seat₂ now true = IsLeaving seat seat₂ now
Leaves seat seat₂ now false = seat₂ ≡ seat
