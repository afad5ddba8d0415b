-- The lines that say what went wrong.
use Rattle.std.specs.Prelude.{ℕ, List, [], ◌∷◌, ◌++◌, codes}
use Rattle.std.specs.Fmt.{decimal}
use Rattle.fax_dest.specs.Fault.{kind_word}
use Rattle.fax_dest.specs.declared.fault.FileFault.{FileFault}
use Rattle.fax_ending.specs.Ending.{no_database, no_memory}
use Rattle.fax_text.specs.Import.{fault_word}
use Rattle.fax_text.specs.declared.import.ImportFault.{ImportFault}
use Rattle.fax_files.specs.declared.database.OpenFault.{OpenFault}
use Rattle.fax_files.specs.declared.database.OpenFault.TheVariants as database
use Rattle.fax_files.specs.declared.office.OfficeFault.{OfficeFault}
use Rattle.fax_files.specs.declared.office.OfficeFault.TheVariants as office
use Rattle.fax_files.specs.declared.spool.SpoolFault.{SpoolFault}
use Rattle.fax_files.specs.declared.spool.SpoolFault.TheVariants as spool

-- a file that can't be read
abbrev pub unreadable : List ℕ → List ℕ
unreadable name = codes "faxqd: cannot read " ++ name ++ 10 ∷ []

-- a line of setup or controls that is at fault
abbrev pub file_line : List ℕ → FileFault → List ℕ
file_line what fault = what ++ decimal fault.line ++ codes ": " ++ kind_word fault.kind ++ 10 ∷ []

-- why there is no office
abbrev pub office_line : OfficeFault → List ℕ
office_line (office.Unreadable name) = unreadable name.now
office_line (office.Setup fault) = file_line (codes "faxqd: setup line ") fault
office_line (office.Controls fault) = file_line (codes "faxqd: controls line ") fault
office_line office.NoMemory = no_memory

-- why a file's tables can't be had
abbrev pub open_line : OpenFault → List ℕ
open_line database.Database = no_database
open_line database.NoMemory = no_memory

-- words that are wrong
abbrev pub words_line : ImportFault → List ℕ
words_line fault = codes "faxqd: bad " ++ fault_word fault ++ 10 ∷ []

-- why there are no imports
abbrev pub spool_line : SpoolFault → List ℕ
spool_line (spool.Words fault) = words_line fault
spool_line (spool.Unreadable name) = unreadable name.now
spool_line (spool.TooLarge name) = codes "faxqd: too large " ++ name.now ++ 10 ∷ []
spool_line spool.NoMemory = no_memory
