-- Numbers to dial.
use Rattle.std.specs.Prelude.{ℕ, Bool, IsTrue, not, ◌&&◌, ◌||◌, ◌==◌, List, [], ◌∷◌, length, filter, nat_le, Result, Ok, Err, if◌then◌else◌}
use Rattle.std.specs.Char.{is_ascii_digit}
use Rattle.std.specs.List.{list_all}
use Rattle.fax_value.specs.declared.text_fault.TextFault.{TextFault}
use Rattle.fax_value.specs.declared.text_fault.TextFault.TheVariants.{Bad}

-- a space, `-`, `.`, `(` or `)`
abbrev pub is_separator : ℕ → Bool
is_separator byte = (byte == 32) || (byte == 45) || (byte == 46) || (byte == 40) || (byte == 41)

-- a digit, `*` or `#`
abbrev pub is_key : ℕ → Bool
is_key byte = is_ascii_digit byte || (byte == 42) || (byte == 35)

abbrev pub are_keys : List ℕ → Bool
are_keys keys = nat_le 1 (length keys) && nat_le (length keys) 32 && list_all is_key keys

abbrev pub without_plus : List ℕ → List ℕ
without_plus [] = []
without_plus (byte ∷ bytes) = if byte == 43 then bytes else byte ∷ bytes

-- `+` at most once and first, then 1 to 32 keys
abbrev pub is_canonical : List ℕ → Bool
is_canonical text = are_keys (without_plus text)

abbrev pub IsCanonical : List ℕ → Type 0
IsCanonical text = IsTrue (is_canonical text)

abbrev pub without_separators : List ℕ → List ℕ
without_separators text = filter (λ byte. not (is_separator byte)) text

-- the canonical number that a text spells
abbrev pub dial_of : List ℕ → Result (List ℕ) TextFault
dial_of text = if is_canonical (without_separators text) then Ok (without_separators text) else Err Bad
