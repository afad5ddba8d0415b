-- What the files of an office mean, and whether a line of them isn't used.
use Rattle.std.specs.Prelude.{◌≡◌, ◌⊎◌, ℕ, Bool, ◌||◌, List, Result, Ok, Err, Vec}
use Rattle.std.specs.List.{list_any}
use Rattle.std.specs.declared.alloc.Global.{Global}
use Rattle.fax_dest.specs.Unused.{is_unused_control, is_unused_setting}
use Rattle.fax_dest.specs.declared.controls.Controls.{Controls as Rules}
use Rattle.fax_dest.specs.declared.setup.Setup.{Setup as Settings}
use Rattle.fax_lines.specs.Reading.{lines}
use Rattle.fax_files.specs.Office.{GivesControls, GivesSetup, IsReadOf}
use Rattle.fax_files.specs.declared.office.OfficeFault.{OfficeFault}
use Rattle.fax_files.specs.declared.shown.Shown.{Shown}
use Rattle.fax_text.specs.declared.server.OfficeFiles.{OfficeFiles}

abbrev pub has_unused_setting : List ℕ → Bool
has_unused_setting text = list_any is_unused_setting (lines text)

abbrev pub has_unused_control : List ℕ → Bool
has_unused_control text = list_any is_unused_control (lines text)

-- the text says a setup, and it is known whether a line of it isn't used; or its fault
abbrev pub ShowsSetup : List ℕ → Result Bool OfficeFault → Type 0
ShowsSetup text (Ok found) = ((setup : Settings) × GivesSetup text (Ok setup)) × (found ≡ has_unused_setting text)
ShowsSetup text (Err fault) = GivesSetup text (Err fault)

-- the same of controls
abbrev pub ShowsControls : List ℕ → Result Bool OfficeFault → Type 0
ShowsControls text (Ok found) = ((controls : Rules) × GivesControls text (Ok controls)) × (found ≡ has_unused_control text)
ShowsControls text (Err fault) = GivesControls text (Err fault)

-- both texts say something, and it is known whether a line of them isn't used; of two faults the setup's is returned
abbrev pub ShowsBoth : List ℕ → List ℕ → Result Shown OfficeFault → Type 0
ShowsBoth setup controls (Ok shown) =
    ((s : Settings) × GivesSetup setup (Ok s)) × ((c : Rules) × GivesControls controls (Ok c))
    × (shown.has_unused ≡ (has_unused_setting setup || has_unused_control controls))
ShowsBoth setup controls (Err fault) =
    GivesSetup setup (Err fault) ⊎ (((s : Settings) × GivesSetup setup (Ok s)) × GivesControls controls (Err fault))

-- both files were read, and that is what comes of their texts
pub record IsShownBy (files : OfficeFiles) (result : Result Shown OfficeFault) : Type 0 where
  pub setup : Vec ℕ Global
  pub controls : Vec ℕ Global
  pub setup_read : IsReadOf files.setup (Ok setup)
  pub controls_read : IsReadOf files.controls (Ok controls)
  pub shown : ShowsBoth setup.items controls.items result

-- what comes of the files that are named; of two that can't be read the setup is named
abbrev pub IsShownOf : OfficeFiles → Result Shown OfficeFault → Type 0
IsShownOf files (Ok shown) = IsShownBy files (Ok shown)
IsShownOf files (Err fault) =
    IsReadOf files.setup (Err fault)
    ⊎ ((((setup : Vec ℕ Global) × IsReadOf files.setup (Ok setup)) × IsReadOf files.controls (Err fault)) ⊎ IsShownBy files (Err fault))
