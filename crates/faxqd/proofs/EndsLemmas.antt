-- How the end of a replay becomes the program's.
use Rattle.std.proofs.Common.{◌≡◌, ℕ, List, Option, refl, sym, subst}
use Rattle.fax_decide.specs.declared.office.Office.{Office}
use Rattle.fax_desk.specs.Replaying.{IsReplayed}
use Rattle.fax_http.specs.declared.device.Watched.{Watched}
use Rattle.fax_http.specs.declared.serving.End.{End}
use Rattle.fax_http.specs.declared.serving.End.TheVariants.{Closed, Bad, Bound, ReadFailed, WriteFailed, NoMemory}
use Rattle.faxqd.specs.Replay.{EndsWith, end_line}
use Rattle.fax_text.specs.declared.status.Status.{Status}
use Rattle.fax_text.specs.declared.status.Status.TheVariants.{Success, Fault}

module _ {R W : Type 0} (remaining : R → Option (List ℕ)) (contents : W → Option (List ℕ)) (reader reader₂ : Watched R) (out out₂ : Watched W)
    (office : Office) (status : Status) (line : List ℕ) where
  -- a replay that ends badly ends the program with a fault
  at_fault : (end : End) → ¬ (end ≡ Closed) → IsReplayed remaining contents reader reader₂ out out₂ office end → (¬ (end ≡ Closed) → status ≡ Fault)
      → line ≡ end_line end → EndsWith remaining contents reader reader₂ out out₂ office status line
  at_fault end not replayed fault told =
      subst (λ s. EndsWith remaining contents reader reader₂ out out₂ office s line) (sym (fault not)) (record { end = end; badly = not; replayed = replayed; told = told })

  -- a replay ends it with success where the input was served to its end, and else with a fault
  pub ends_by : (end : End) → IsReplayed remaining contents reader reader₂ out out₂ office end
      → (end ≡ Closed → status ≡ Success) → (¬ (end ≡ Closed) → status ≡ Fault) → line ≡ end_line end
      → EndsWith remaining contents reader reader₂ out out₂ office status line
  ends_by Closed replayed success fault told = subst (λ s. EndsWith remaining contents reader reader₂ out out₂ office s line) (sym (success refl)) (replayed, told)
  ends_by Bad replayed success fault told = at_fault Bad (λ e. absurd (let no = e in cc)) replayed fault told
  ends_by Bound replayed success fault told = at_fault Bound (λ e. absurd (let no = e in cc)) replayed fault told
  ends_by ReadFailed replayed success fault told = at_fault ReadFailed (λ e. absurd (let no = e in cc)) replayed fault told
  ends_by (WriteFailed sent) replayed success fault told = at_fault (WriteFailed sent) (λ e. absurd (let no = e in cc)) replayed fault told
  ends_by NoMemory replayed success fault told = at_fault NoMemory (λ e. absurd (let no = e in cc)) replayed fault told
