-- The values of a setup.
use Rattle.std.specs.Prelude.{ℕ, Bool, not, ◌==◌, ◌&&◌, List, length, is_some, Result, Ok, Err, if◌then◌else◌}
use Rattle.std.specs.List.{list_any}
use Rattle.jiff.specs.Words.{read_whole}
use Rattle.fax_value.specs.Name.{is_name}
use Rattle.fax_value.specs.Blank.{is_blank}
use Rattle.fax_dest.specs.declared.fault.FileKind.{FileKind}
use Rattle.fax_dest.specs.declared.fault.FileKind.TheVariants.{BadValue, BadZone}

-- one or more characters without blanks
abbrev pub is_line_name : List ℕ → Bool
is_line_name name = not (length name == 0) && not (list_any is_blank name)

-- a modem or a class is named as a job names it
abbrev pub name_in : List ℕ → Result (List ℕ) FileKind
name_in value = if is_name value then Ok value else Err BadValue

-- `jiff` reads a POSIX TZ rule in the whole text
unfoldable pub is_zone : List ℕ → Result (List ℕ) FileKind
is_zone value = if is_some (read_whole value) then Ok value else Err BadZone
