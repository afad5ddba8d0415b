-- What a command says that has no queue.
use Rattle.std.specs.Prelude.{◌≡◌, ◌⊎◌, ℕ, List, Err}
use Rattle.fax_files.specs.FaultLine.{office_line, open_line}
use Rattle.fax_files.specs.Office.{ComesOf}
use Rattle.fax_files.specs.declared.database.OpenFault.{OpenFault}
use Rattle.fax_files.specs.declared.office.OfficeFault.{OfficeFault}
use Rattle.fax_text.specs.declared.server.OfficeFiles.{OfficeFiles}

-- what is wrong with the files of its office, or with its database
abbrev pub HasNoQueue : OfficeFiles → List ℕ → Type 0
HasNoQueue files line =
    ((cause : OfficeFault) × ComesOf files (Err cause) × (line ≡ office_line cause)) ⊎ ((cause : OpenFault) × (line ≡ open_line cause))
