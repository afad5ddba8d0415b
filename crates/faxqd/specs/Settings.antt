-- How the command `settings` ends, and what it prints.
use Rattle.std.specs.Prelude.{◌≡◌, ◌⊎◌, ℕ, Bool, true, false, List, [], Option, Ok, Err, string_bytes}
use Rattle.fax_ending.specs.Ending.{write_failed}
use Rattle.fax_files.specs.FaultLine.{office_line}
use Rattle.fax_files.specs.Shown.{IsShownOf}
use Rattle.fax_files.specs.declared.office.OfficeFault.{OfficeFault}
use Rattle.fax_files.specs.declared.shown.Shown.{Shown}
use Rattle.fax_http.specs.Device.{BrokeOff, Put}
use Rattle.fax_http.specs.declared.device.Watched.{Watched}
use Rattle.fax_text.specs.declared.server.OfficeFiles.{OfficeFiles}
use Rattle.fax_text.specs.declared.status.Status.{Status}
use Rattle.fax_text.specs.declared.status.Status.TheVariants.{Success, Fault, Usage, Unused, Later}

module _ {W : Type 0} (contents : W → Option (List ℕ)) (out out₂ : Watched W) where
  -- what the files mean is printed, and a line of them isn't used, or each is
  abbrev pub Prints : OfficeFiles → Bool → List ℕ → Type 0
  Prints files unused line = (shown : Shown) × IsShownOf files (Ok shown) × (shown.has_unused ≡ unused) × Put contents out out₂ (string_bytes shown.text) false × (line ≡ [])

  -- The status shows whether a line isn't used. Or a file has a fault, and nothing is printed; or the output failed. The last is what is said.
  abbrev pub ShowsSettings : OfficeFiles → Status → List ℕ → Type 0
  ShowsSettings files Success line = Prints files false line
  ShowsSettings files Unused line = Prints files true line
  ShowsSettings files Later line = ⊥
  ShowsSettings files Fault line =
      ((out₂ ≡ out) × (fault : OfficeFault) × IsShownOf files (Err fault) × (line ≡ office_line fault))
      ⊎ ((shown : Shown) × IsShownOf files (Ok shown) × BrokeOff contents out out₂ (string_bytes shown.text) × (line ≡ write_failed))
  ShowsSettings files Usage line = ⊥
