-- What two files say together.
use Rattle.std.specs.Prelude.{◌≡◌, ◌⊎◌, ℕ, false, List, [], Option, Some, None, Result, Ok, Err, Vec, ⊤}
use Rattle.std.specs.Str.{IsUtf8}
use Rattle.std.specs.Borrow.{Bor}
use Rattle.std.specs.declared.alloc.Global.{Global}
use Rattle.fax_decide.specs.declared.office.Office.{Office}
use Rattle.fax_dest.specs.Controls.{AreControlsOf, lines_of}
use Rattle.fax_dest.specs.Fault.{GivesFile, fault_at, is_memory}
use Rattle.fax_dest.specs.Setup.{IsSetupOf, settings_of}
use Rattle.fax_dest.specs.declared.controls.Controls.{Controls as Rules}
use Rattle.fax_dest.specs.declared.fault.FileFault.{FileFault}
use Rattle.fax_dest.specs.declared.fault.FileKind.TheVariants.{NotText}
use Rattle.fax_dest.specs.declared.setup.Setup.{Setup as Settings}
use Rattle.fax_files.specs.declared.office.OfficeFault.{OfficeFault}
use Rattle.fax_files.specs.declared.office.OfficeFault.TheVariants.{Unreadable, Setup, Controls, NoMemory}
use Rattle.fax_text.specs.declared.server.OfficeFiles.{OfficeFiles}

-- ---- texts

-- what the text of a setup says, or its first fault
pub record ReadsSetup (bytes : List ℕ) (read : Result Settings FileFault) : Type 0 where
  pub text : IsUtf8 bytes → GivesFile IsSetupOf (settings_of bytes) read
  pub not_text : ¬ (IsUtf8 bytes) → read ≡ Err (fault_at 0 NotText)

-- what the text of controls says, or its first fault
pub record ReadsControls (bytes : List ℕ) (read : Result Rules FileFault) : Type 0 where
  pub text : IsUtf8 bytes → GivesFile AreControlsOf (lines_of bytes) read
  pub not_text : ¬ (IsUtf8 bytes) → read ≡ Err (fault_at 0 NotText)

-- the setup that the text says, or its first fault, unless memory ran out
abbrev pub GivesSetup : List ℕ → Result Settings OfficeFault → Type 0
GivesSetup text (Ok setup) = ReadsSetup text (Ok setup)
GivesSetup text (Err (Setup fault)) = (is_memory fault.kind ≡ false) × ReadsSetup text (Err fault)
GivesSetup text (Err NoMemory) = ⊤
GivesSetup text (Err (Controls fault)) = ⊥
GivesSetup text (Err (Unreadable name)) = ⊥

-- the controls that the text says, or its first fault, unless memory ran out
abbrev pub GivesControls : List ℕ → Result Rules OfficeFault → Type 0
GivesControls text (Ok controls) = ReadsControls text (Ok controls)
GivesControls text (Err (Controls fault)) = (is_memory fault.kind ≡ false) × ReadsControls text (Err fault)
GivesControls text (Err NoMemory) = ⊤
GivesControls text (Err (Setup fault)) = ⊥
GivesControls text (Err (Unreadable name)) = ⊥

-- ---- files

-- the bytes of a file, or why they can't be had
abbrev pub FileRead : Type 0
FileRead = Result (Vec ℕ Global) OfficeFault

-- a file that isn't named has no bytes; of one that is, the fault names it, unless memory ran out
abbrev pub IsReadOf : Option (Bor (List ℕ)) → FileRead → Type 0
IsReadOf None (Ok bytes) = bytes.items ≡ []
IsReadOf None (Err fault) = ⊥
IsReadOf (Some name) (Ok bytes) = ⊤
IsReadOf (Some name) (Err fault) = (fault ≡ Unreadable name) ⊎ (fault ≡ NoMemory)

abbrev pub SetupOf : FileRead → Result Settings OfficeFault → Type 0
SetupOf (Ok bytes) setup = GivesSetup bytes.items setup
SetupOf (Err fault) setup = setup ≡ Err fault

abbrev pub ControlsOf : FileRead → Result Rules OfficeFault → Type 0
ControlsOf (Ok bytes) controls = GivesControls bytes.items controls
ControlsOf (Err fault) controls = controls ≡ Err fault

-- an office has the setup of the one file and the controls of the other; of two faults the setup's is told
abbrev pub IsOfficeOf : FileRead → FileRead → Result Office OfficeFault → Type 0
IsOfficeOf setup controls (Ok office) = SetupOf setup (Ok office.setup) × ControlsOf controls (Ok office.controls)
IsOfficeOf setup controls (Err fault) =
    SetupOf setup (Err fault) ⊎ ((settings : Settings) × SetupOf setup (Ok settings) × ControlsOf controls (Err fault))

-- what comes of the files that are named
pub record ComesOf (files : OfficeFiles) (result : Result Office OfficeFault) : Type 0 where
  pub setup : FileRead
  pub controls : FileRead
  pub setup_read : IsReadOf files.setup setup
  pub controls_read : IsReadOf files.controls controls
  pub office : IsOfficeOf setup controls result
