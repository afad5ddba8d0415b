-- Lines and values, which setup and controls have in common.
use Rattle.std.specs.Prelude.{ℕ, Bool, true, ◌==◌, ◌&&◌, List, [], ◌∷◌, nat_le, Option, Some, None, Result, Ok, Err, if◌then◌else◌}
use Rattle.std.specs.List.{list_all}
use Rattle.std.specs.Option.{option_map}
use Rattle.fax_value.specs.Number.{number_of}
use Rattle.fax_value.specs.Blank.{without_blanks, is_blank, before_blanks}
use Rattle.fax_dest.specs.declared.fault.FileKind.{FileKind}
use Rattle.fax_dest.specs.declared.fault.FileKind.TheVariants.{BadValue}

-- ---- lines

-- nothing at all, or a comment
abbrev pub is_nothing : List ℕ → Bool
is_nothing [] = true
is_nothing (byte ∷ bytes) = byte == 35

-- blanks alone, or `#` as the first other character
unfoldable pub is_skipped : List ℕ → Bool
is_skipped line = is_nothing (without_blanks line)

-- what stands before and behind the first such byte
abbrev pub at_byte : ℕ → List ℕ → Option (List ℕ × List ℕ)
at_byte c [] = None
at_byte c (byte ∷ bytes) = if byte == c then Some ([], bytes) else option_map (λ parts. (byte ∷ parts.0, parts.1)) (at_byte c bytes)

-- the first word, and what stands behind the blank that ends it
abbrev pub at_blank : List ℕ → List ℕ × List ℕ
at_blank [] = ([], [])
at_blank (byte ∷ bytes) = if is_blank byte then ([], bytes) else (byte ∷ (at_blank bytes).0, (at_blank bytes).1)

-- ---- values

-- behind the second quote only blanks stand
abbrev pub inside_quotes : Option (List ℕ × List ℕ) → Option (List ℕ)
inside_quotes None = None
inside_quotes (Some parts) = if list_all is_blank parts.1 then Some parts.0 else None

-- a value in quotes ends at the next quote, any other at the end of the line without trailing blanks
abbrev pub value_from : List ℕ → Option (List ℕ)
value_from [] = Some []
value_from (byte ∷ bytes) = if byte == 34 then inside_quotes (at_byte 34 bytes) else Some (before_blanks (byte ∷ bytes))

unfoldable pub value_of : List ℕ → Option (List ℕ)
value_of text = value_from (without_blanks text)

abbrev pub number_within : ℕ → ℕ → Option ℕ → Result ℕ FileKind
number_within from to None = Err BadValue
number_within from to (Some number) = if nat_le from number && nat_le number to then Ok number else Err BadValue

-- the number of 1 to 18 digits that a value writes, within bounds
unfoldable pub number_in : ℕ → ℕ → List ℕ → Result ℕ FileKind
number_in from to value = number_within from to (number_of value)
