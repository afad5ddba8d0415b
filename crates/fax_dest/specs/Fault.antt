-- What is wrong with a file.
use Rattle.std.specs.Prelude.{◌≡◌, ℕ, Bool, true, false, List, Result, Ok, Err, ⊤, codes}
use Rattle.std.specs.Bool.{MatchBool}
use Rattle.fax_value.specs.declared.text_fault.TextFault.{TextFault}
use Rattle.fax_value.specs.declared.text_fault.TextFault.TheVariants as text
use Rattle.fax_dest.specs.Pattern.{IsGrammar, Compiling, compiled}
use Rattle.fax_dest.specs.declared.fault.FileFault.{FileFault}
use Rattle.fax_dest.specs.declared.fault.FileKind.{FileKind}
use Rattle.fax_dest.specs.declared.fault.FileKind.TheVariants.{NotText, NoColon, NoRule, NoEquals, BadQuote, BadValue, BadHours, BadPattern, BigPattern, BadZone, NoMemory}

unfoldable pub kind_word : FileKind → List ℕ
kind_word NotText = codes "not-text"
kind_word NoColon = codes "no-colon"
kind_word NoRule = codes "no-rule"
kind_word NoEquals = codes "no-equals"
kind_word BadQuote = codes "bad-quote"
kind_word BadValue = codes "bad-value"
kind_word BadHours = codes "bad-hours"
kind_word BadPattern = codes "bad-pattern"
kind_word BigPattern = codes "bad-pattern"
kind_word BadZone = codes "bad-zone"
kind_word NoMemory = codes "no-memory"

abbrev pub is_memory : FileKind → Bool
is_memory NotText = false
is_memory NoColon = false
is_memory NoRule = false
is_memory NoEquals = false
is_memory BadQuote = false
is_memory BadValue = false
is_memory BadHours = false
is_memory BadPattern = false
is_memory BigPattern = false
is_memory BadZone = false
is_memory NoMemory = true

abbrev pub is_big : FileKind → Bool
is_big NotText = false
is_big NoColon = false
is_big NoRule = false
is_big NoEquals = false
is_big BadQuote = false
is_big BadValue = false
is_big BadHours = false
is_big BadPattern = false
is_big BigPattern = true
is_big BadZone = false
is_big NoMemory = false

-- a bad text is a bad value, and want of memory stays what it is
abbrev pub kind_of_text : TextFault → FileKind
kind_of_text text.Bad = BadValue
kind_of_text text.NoMemory = NoMemory

abbrev pub fault_at : ℕ → FileKind → FileFault
fault_at line kind = record { line = line; kind = kind }

abbrev pub at_line : {A : Type 0} → ℕ → Result A FileKind → Result A FileFault
at_line line (Ok value) = Ok value
at_line line (Err kind) = Err (fault_at line kind)

-- What a line gives, by a test of the grammar of patterns. Whether a pattern is too big for `regex` isn't known
-- before; where it was, the fault says so. What was made of what the line gives stands to it as Made says.
abbrev pub GivesBy : {A X : Type 0} → (List ℕ → Bool) → (A → X → Type 0) → (Compiling → Result A FileKind) → Result X FileKind → Type 0
GivesBy is_pattern Made given (Ok made) = (item : _) × (given (compiled is_pattern false) ≡ Ok item) × Made item made
GivesBy is_pattern Made given (Err kind) = MatchBool (is_memory kind) ⊤ (given (compiled is_pattern (is_big kind)) ≡ Err kind)

-- the same, by the grammar
abbrev pub GivesLine : {A X : Type 0} → (A → X → Type 0) → (Compiling → Result A FileKind) → Result X FileKind → Type 0
GivesLine Made given result = (is_pattern : List ℕ → Bool) → IsGrammar is_pattern → GivesBy is_pattern Made given result

-- on each line
abbrev pub compiled_on : (List ℕ → Bool) → (ℕ → Bool) → ℕ → Compiling
compiled_on is_pattern too_big number = compiled is_pattern (too_big number)

-- What was made stands to the items as Made says, and a fault is the first, unless memory ran out.
abbrev pub GivesItems : {A X : Type 0} → (A → X → Type 0) → Result A FileFault → Result X FileFault → Type 0
GivesItems Made given (Ok made) = (items : _) × (given ≡ Ok items) × Made items made
GivesItems Made given (Err fault) = MatchBool (is_memory fault.kind) ⊤ (given ≡ Err fault)

-- What a file gives, by the grammar, where too_big names the lines whose patterns are too big for `regex`. No more
-- than these is left to the answer.
abbrev pub GivesFile : {A X : Type 0} → (A → X → Type 0) → ((ℕ → Compiling) → Result A FileFault) → Result X FileFault → Type 0
GivesFile Made given result =
    (is_pattern : List ℕ → Bool) → IsGrammar is_pattern → (too_big : ℕ → Bool) × GivesItems Made (given (compiled_on is_pattern too_big)) result
