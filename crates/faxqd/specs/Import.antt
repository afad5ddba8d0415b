-- How the command `import` ends, and what it prints.
use Rattle.std.specs.Prelude.{◌≡◌, ◌⊎◌, ℕ, false, List, [], length, Option, Ok, Err}
use Rattle.fax_files.specs.FaultLine.{spool_line, words_line}
use Rattle.fax_files.specs.Spool.{AreImports, MakesImports}
use Rattle.fax_files.specs.declared.spool.SpoolFault.{SpoolFault}
use Rattle.fax_http.specs.Device.{BrokeOff, Put}
use Rattle.fax_http.specs.declared.device.Watched.{Watched}
use Rattle.fax_ending.specs.Ending.{write_failed}
use Rattle.fax_text.specs.Import.{first_number}
use Rattle.fax_text.specs.declared.import.ImportFault.{ImportFault}
use Rattle.fax_text.specs.declared.import_words.ImportPlan.{ImportPlan}
use Rattle.fax_text.specs.declared.status.Status.{Status}
use Rattle.fax_text.specs.declared.status.Status.TheVariants.{Success, Fault, Usage, Unused, Later}

-- the imports of the plan's files, one for each, from its number on
abbrev pub AreItsImports : ImportPlan → List ℕ → Type 0
AreItsImports plan text = (first : ℕ) × (first_number plan ≡ Ok first) × AreImports plan.client.now first (length plan.files.items) text

module _ {W : Type 0} (contents : W → Option (List ℕ)) (out out₂ : Watched W) where
  -- The imports of all files are printed. Or the words are at fault, and nothing is printed; or a file is, or memory or the output gave out. The last is what is said.
  abbrev pub Imports : ImportPlan → Status → List ℕ → Type 0
  Imports plan Success line = (text : List ℕ) × AreItsImports plan text × Put contents out out₂ text false × (line ≡ [])
  Imports plan Fault line =
      ((out₂ ≡ out) × (cause : SpoolFault) × MakesImports plan (Err cause) × (line ≡ spool_line cause))
      ⊎ ((text : List ℕ) × AreItsImports plan text × BrokeOff contents out out₂ text × (line ≡ write_failed))
  Imports plan Usage line = (out₂ ≡ out) × (fault : ImportFault) × (first_number plan ≡ Err fault) × (line ≡ words_line fault)
  Imports plan Unused line = ⊥
  Imports plan Later line = ⊥
