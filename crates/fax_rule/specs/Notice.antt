-- Notices of rejection.
use Rattle.std.specs.Prelude.{ℕ, Bool, IsTrue, not, ◌&&◌, List, length, nat_le}
use Rattle.std.specs.Char.{is_control}
use Rattle.std.specs.List.{list_any}
use Rattle.std.specs.Str.{chars}

-- a character of Unicode's category Cc
abbrev pub has_control : List ℕ → Bool
has_control text = list_any is_control (chars text)

abbrev pub is_notice : List ℕ → Bool
is_notice text = nat_le 1 (length text) && nat_le (length text) 200 && not (has_control text)

abbrev pub IsNotice : List ℕ → Type 0
IsNotice text = IsTrue (is_notice text)
