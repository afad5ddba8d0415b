-- Lists of items with commas between them.
use Rattle.std.specs.Prelude.{ℕ, ◌==◌, List, [], Option, Some, None}
use Rattle.std.specs.List.{slice_split}

-- what stands between the commas
abbrev pub parts_of : List ℕ → List (List ℕ)
parts_of text = slice_split (λ byte. byte == 44) text

-- the same of what may be left of a text
abbrev pub parts_left : Option (List ℕ) → List (List ℕ)
parts_left None = []
parts_left (Some text) = parts_of text
