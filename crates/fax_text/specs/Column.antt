-- Columns of a listing. A text is a list of characters here.
use Rattle.std.specs.Prelude.{ℕ, ◌-◌, ◌&&◌, List, [], ◌∷◌, ◌++◌, length, map, replicate, take, nat_le, if◌then◌else◌}
use Rattle.std.specs.Fmt.{decimal}
use Rattle.std.specs.List.{flat_map}

-- a character outside ASCII's printable ones, 32 to 126, shows as `?`
abbrev pub shown : ℕ → ℕ
shown character = if nat_le 32 character && nat_le character 126 then character else 63

-- at the left of a column: cut to its first characters, or filled with spaces
abbrev pub left : ℕ → List ℕ → List ℕ
left width text = map shown (take width text) ++ replicate (width - length text) 32

-- at the right of a column: filled with spaces in front
abbrev pub right : ℕ → List ℕ → List ℕ
right width text = replicate (width - length text) 32 ++ text

-- a number with zeros in front, up to so many digits
abbrev pub zeros : ℕ → ℕ → List ℕ
zeros width number = replicate (width - length (decimal number)) 48 ++ decimal number

-- columns, each behind a space
abbrev pub behind_spaces : List (List ℕ) → List ℕ
behind_spaces columns = flat_map (λ column. 32 ∷ column) columns

-- columns side by side, with one space between two
abbrev pub spaced : List (List ℕ) → List ℕ
spaced [] = []
spaced (column ∷ columns) = column ++ behind_spaces columns
