-- The moment of a message, by what it says of it.
use Rattle.std.specs.Prelude.{◌≡◌, ℕ, List, Option, Some, None, min, IfSome}
use Rattle.fax_value.specs.Limits.{last_moment}
use Rattle.fax_value.specs.Number.{number_of}

-- the moment of that many seconds, the last there is where they are more; or the last answer
abbrev pub said_or : ℕ → Option ℕ → ℕ
said_or last None = last
said_or last (Some seconds) = min seconds last_moment

-- what the bytes say, or the last answer where they write no number
abbrev pub moment_said : ℕ → List ℕ → ℕ
moment_said last said = said_or last (number_of said)

-- the moment at which a command asks is the one that is said, of which a later one than the last counts as that; or it is any
abbrev pub IsMoment : Option ℕ → ℕ → Type 0
IsMoment said moment = IfSome said (λ seconds. moment ≡ min seconds last_moment)
