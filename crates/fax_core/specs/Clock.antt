-- The moment at which a request is decided.
use Rattle.std.specs.Prelude.{ℕ, max}

-- a request that comes at an earlier moment than the clock's is decided at the clock's
abbrev pub decided_at : ℕ → ℕ → ℕ
decided_at clock moment = max clock moment
