-- How the command `replay` ends.
use Rattle.std.specs.Prelude.{◌≡◌, ◌⊎◌, ℕ, List, [], ◌∷◌, ◌++◌, codes, Option, Ok, Err}
use Rattle.fax_decide.specs.declared.office.Office.{Office}
use Rattle.fax_desk.specs.Replaying.{IsReplayed}
use Rattle.fax_http.specs.declared.device.Watched.{Watched}
use Rattle.fax_http.specs.declared.serving.End.{End}
use Rattle.fax_http.specs.declared.serving.End.TheVariants.{Closed, Bad, Bound, ReadFailed, WriteFailed, NoMemory}
use Rattle.fax_files.specs.FaultLine.{office_line}
use Rattle.fax_files.specs.Office.{ComesOf}
use Rattle.fax_files.specs.declared.office.OfficeFault.{OfficeFault}
use Rattle.fax_ending.specs.Ending.{no_memory, write_failed}
use Rattle.fax_text.specs.declared.server.OfficeFiles.{OfficeFiles}
use Rattle.fax_text.specs.declared.status.Status.{Status}
use Rattle.fax_text.specs.declared.status.Status.TheVariants.{Success, Fault, Usage, Unused, Later}

-- what is said of how an input ended
abbrev pub end_line : End → List ℕ
end_line Closed = []
end_line Bad = codes "faxqd: ended bad" ++ 10 ∷ []
end_line Bound = codes "faxqd: ended bound" ++ 10 ∷ []
end_line ReadFailed = codes "faxqd: ended read-failed" ++ 10 ∷ []
end_line (WriteFailed sent) = write_failed
end_line NoMemory = no_memory

module _ {R W : Type 0} (remaining : R → Option (List ℕ)) (contents : W → Option (List ℕ)) (reader reader₂ : Watched R) (out out₂ : Watched W) where
  -- the office replayed the input, and that didn't end as it should
  pub record EndsBadly (office : Office) (line : List ℕ) : Type 0 where
    pub end : End
    pub badly : ¬ (end ≡ Closed)
    pub replayed : IsReplayed remaining contents reader reader₂ out out₂ office end
    pub told : line ≡ end_line end

  -- the office replayed the input; it succeeds where that ended as it should, and ends at fault where it didn't
  abbrev pub EndsWith : Office → Status → List ℕ → Type 0
  EndsWith office Success line = IsReplayed remaining contents reader reader₂ out out₂ office Closed × (line ≡ [])
  EndsWith office Fault line = EndsBadly office line
  EndsWith office Usage line = ⊥
  EndsWith office Unused line = ⊥
  EndsWith office Later line = ⊥

  -- the files have a fault, and nothing is read or written
  pub record HasNoOffice (files : OfficeFiles) (status : Status) (line : List ℕ) : Type 0 where
    pub cause : OfficeFault
    pub comes : ComesOf files (Err cause)
    pub untouched : reader₂ ≡ reader
    pub unwritten : out₂ ≡ out
    pub ends : status ≡ Fault
    pub told : line ≡ office_line cause

  -- what the files say is the office that replays the input; or they have a fault
  abbrev pub Ends : OfficeFiles → Status → List ℕ → Type 0
  Ends files status line = ((office : Office) × ComesOf files (Ok office) × EndsWith office status line) ⊎ HasNoOffice files status line
