-- How long a peer may take.
use Rattle.std.specs.Duration.{as_nanos}
use Rattle.std.specs.Prelude.{◌≡◌, ℕ, ◌-◌, ◌*◌, ◌^◌, min}
use Rattle.fax_net.specs.declared.patience.Patience.{Patience}

-- a second, in nanoseconds
abbrev pub second : ℕ
second = 1000000000

-- a peer may move nothing for so many seconds, and its connection may go on for six times as many, as far as a number of 64 bits goes
pub record IsFor (timeout : ℕ) (p : Patience) : Type 0 where
  pub silent : as_nanos p.silent ≡ timeout * second
  pub whole : as_nanos p.whole ≡ min (timeout * 6) (2 ^ 64 - 1) * second

-- how long it may go on, where nothing has moved for so long and its connection has gone on for that long
abbrev pub left : Patience → ℕ → ℕ → ℕ
left p silence taken = min (as_nanos p.silent - silence) (as_nanos p.whole - taken)
