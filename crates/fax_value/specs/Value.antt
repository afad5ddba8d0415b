-- Values of key lines, by their bytes.
use Rattle.std.specs.Prelude.{ℕ, Bool, IsTrue, false, not, ◌&&◌, ◌||◌, ◌==◌, List, [], ◌∷◌, nat_le}
use Rattle.std.specs.List.{list_all}
use Rattle.fax_value.specs.Blank.{begins_with_blank}

abbrev pub ends_with_backslash : List ℕ → Bool
ends_with_backslash [] = false
ends_with_backslash (byte ∷ []) = byte == 92
ends_with_backslash (byte ∷ next ∷ bytes) = ends_with_backslash (next ∷ bytes)

-- no control character, or a tab
abbrev pub is_plain_byte : ℕ → Bool
is_plain_byte byte = (nat_le 32 byte && not (byte == 127)) || (byte == 9)

abbrev pub is_plain : List ℕ → Bool
is_plain text = list_all is_plain_byte text

-- a value on one line
abbrev pub is_value : List ℕ → Bool
is_value text = not (begins_with_blank text) && is_plain text

-- a status may have lines of its own
abbrev pub is_status_byte : ℕ → Bool
is_status_byte byte = is_plain_byte byte || (byte == 10)

abbrev pub is_status : List ℕ → Bool
is_status text = not (begins_with_blank text) && not (ends_with_backslash text) && list_all is_status_byte text

abbrev pub IsStatus : List ℕ → Type 0
IsStatus text = IsTrue (is_status text)
