-- The printed spelling of lists of pairs.
use Rattle.std.specs.Prelude.{ℕ, ◌==◌, List, [], ◌∷◌, ◌++◌, if◌then◌else◌}
use Rattle.std.specs.List.{flat_map}
use Rattle.fax_job.specs.Pair.{Pair}

-- `\` stands before an LF of a status
abbrev pub escaped_byte : ℕ → List ℕ
escaped_byte byte = if byte == 10 then 92 ∷ 10 ∷ [] else byte ∷ []

abbrev pub escaped : List ℕ → List ℕ
escaped value = flat_map escaped_byte value

-- the tag, `:`, the value and LF
abbrev pub printed_pair : Pair → List ℕ
printed_pair p = p.tag ++ (58 ∷ []) ++ escaped p.value ++ (10 ∷ [])

abbrev pub printed : List Pair → List ℕ
printed ps = flat_map printed_pair ps
