-- A line that says what went wrong.
use Rattle.std.specs.Prelude.{ℕ, List, [], ◌∷◌, ◌++◌}
use Rattle.std.specs.Fmt.{decimal}
use Rattle.fax_ending.specs.declared.fault_line.FaultLine.{FaultLine}
use Rattle.fax_ending.specs.declared.fault_line.Place.{Place}
use Rattle.fax_ending.specs.declared.fault_line.Place.TheVariants.{Nowhere, File, Number}

-- the name of a file, or a number
abbrev pub spelled_place : Place → List ℕ
spelled_place Nowhere = []
spelled_place (File name) = name.now
spelled_place (Number number) = decimal number

-- its parts, one behind the other, and a line feed
abbrev pub spelled : FaultLine → List ℕ
spelled line = line.what.now ++ spelled_place line.place ++ line.between.now ++ line.word.now ++ 10 ∷ []
