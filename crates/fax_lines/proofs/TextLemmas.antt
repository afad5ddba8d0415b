-- Reading a whole text.
use Rattle.std.proofs.Common.{◌≡◌, ℕ, false, List, [], sym, ap, subst, ◌∙◌, inr}
use Rattle.std.specs.Prelude.{None, Result, Ok, Err, ⊤, IfOk, IfErr}
use Rattle.std.specs.Str.{IsUtf8}
use Rattle.std.proofs.lemmas.Bool.{MatchBool-at_false}
use Rattle.std.proofs.lemmas.Result.{MatchResult-at_ok, MatchResult-at_err}
use Rattle.fax_job.specs.declared.lines.LineFault.{LineFault}
use Rattle.fax_value.specs.Gives.{Gives}
use Rattle.fax_job.specs.Pair.{Pair, is_once}
use Rattle.fax_lines.specs.Reading.{lines, read_on, is_no_memory}
use Rattle.fax_lines.specs.Spells.{Spells, IsFaultBehind, IsFirstFault}
use Rattle.fax_lines.proofs.EntryLemmas.{all_lines_are}
use Rattle.fax_lines.proofs.FoundLemmas.{found}
use Rattle.fax_lines.proofs.SpelledLemmas.{reads}

abbrev pub Read : List ℕ → Result (List Pair) LineFault
Read text = read_on (lines text) 0 [] None

abbrev okay : List Pair → Result (List Pair) LineFault
okay ps = Ok ps

-- what is read as one list is that alone
okay_is : (ps qs : List Pair) → okay ps ≡ okay qs → ps ≡ qs
okay_is ps qs e = cc

-- the list that a text spells is what is read of it
pub spelled : (text : List ℕ) (ps : List Pair) → Spells text ps → Read text ≡ Ok ps
spelled text ps h =
    ap (λ (ls : List (List ℕ)). read_on ls 0 [] None) (h.made ∙ all_lines_are h.entries h.formed)
    ∙ reads h.entries 0 [] h.formed (ap is_once (sym h.stated) ∙ h.once)
    ∙ ap (λ (qs : List Pair). Ok qs) (sym h.stated)

-- the list that is read of a text is one that it spells
pub found_in : (text : List ℕ) (r : Result (List Pair) LineFault) → IsUtf8 text → Gives is_no_memory r (Read text) → IfOk r (Spells text)
found_in text (Ok ps) utf8 given = MatchResult-at_ok (Spells text) (IsFaultBehind text) ps given (found text utf8)
found_in text (Err fault) utf8 given = tt

-- a fault that is read of a text, but for want of memory, is its first
pub first_in : (text : List ℕ) (r : Result (List Pair) LineFault) → IsUtf8 text → Gives is_no_memory r (Read text) → IfErr r (λ fault. is_no_memory fault ≡ false → IsFirstFault text fault)
first_in text (Ok ps) utf8 given = tt
first_in text (Err fault) utf8 given = λ real.
    let told : Read text ≡ Err fault = MatchBool-at_false ⊤ (Read text ≡ Err fault) real given in
    inr (MatchResult-at_err (Spells text) (IsFaultBehind text) fault told (found text utf8))

-- what is read of a text that spells a list is that list, unless memory ran out
pub only_in : (text : List ℕ) (r : Result (List Pair) LineFault) → Gives is_no_memory r (Read text) → (ps : List Pair) → Spells text ps → Gives is_no_memory r (Ok ps)
only_in text r given ps h = subst (Gives is_no_memory r) (spelled text ps h) given

-- a text spells at most one list
pub spelled_alone : (text : List ℕ) (ps qs : List Pair) → Spells text ps → Spells text qs → ps ≡ qs
spelled_alone text ps qs p q = okay_is ps qs (sym (spelled text ps p) ∙ spelled text qs q)
