-- Paths, and the texts between their slashes.
use Rattle.std.specs.Prelude.{ℕ, List, [], ◌∷◌, ◌==◌, Option, Some, None, if◌then◌else◌}
use Rattle.fax_lines.specs.Reading.{onto}

-- RFC 3986, section 3.3: `/` divides a path into texts, which may be empty
abbrev pub parts : List ℕ → List (List ℕ)
parts [] = [] ∷ []
parts (byte ∷ bytes) = if byte == 47 then [] ∷ parts bytes else onto byte (parts bytes)

-- the texts of a path that has two
abbrev pub two_texts : List (List ℕ) → Option (List ℕ × List ℕ)
two_texts (first ∷ second ∷ []) = Some (first, second)
two_texts other = None
