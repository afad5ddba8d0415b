-- Which list a text of key lines spells, and which fault is the first of a text that spells none.
use Rattle.std.specs.Prelude.{◌≡◌, ℕ, ◌+◌, Bool, true, false, ◌&&◌, ◌==◌, ◌⊎◌, List, [], ◌∷◌, ◌++◌, length, codes}
use Rattle.std.specs.List.{AllByRecursion, flat_map, list_all, list_any}
use Rattle.std.specs.Str.{IsUtf8}
use Rattle.fax_job.specs.declared.lines.LineFault.{LineFault}
use Rattle.fax_job.specs.declared.lines.LineKind.{LineKind}
use Rattle.fax_job.specs.declared.lines.LineKind.TheVariants.{NotText, NoColon, BadTag, Twice, BadValue, OpenEnd, NoMemory}
use Rattle.fax_job.specs.Pair.{Pair, pair, is_pair, has_tag, is_once}
use Rattle.fax_lines.specs.Reading.{lines, is_skipped, fault_at}
use Rattle.fax_job.specs.Spelling.{escaped}
use Rattle.fax_job.specs.Tag.{is_tag, is_known}
use Rattle.fax_value.specs.Value.{is_plain}
use Rattle.fax_value.specs.Blank.{is_blank}

-- ---- spelling

-- a line that is skipped, or the blanks and the pair that a line states, or several lines of a status
pub data Entry : Type 0 where
  Skipped : List ℕ → Entry
  Stated : List ℕ → Pair → Entry

-- the tag, `:`, blanks, the value and LF
abbrev pub entry_text : Entry → List ℕ
entry_text (Skipped line) = line ++ (10 ∷ [])
entry_text (Stated blanks p) = p.tag ++ (58 ∷ blanks) ++ escaped p.value ++ (10 ∷ [])

abbrev pub has_byte : ℕ → List ℕ → Bool
has_byte byte bytes = list_any (λ b. b == byte) bytes

abbrev pub IsFormed : Entry → Type 0
IsFormed (Skipped line) = (is_skipped line ≡ true) × (has_byte 10 line ≡ false)
IsFormed (Stated blanks p) = (list_all is_blank blanks ≡ true) × (is_pair p ≡ true)

abbrev pub stated : Entry → List Pair
stated (Skipped line) = []
stated (Stated blanks p) = p ∷ []

abbrev pub texts : List Entry → List ℕ
texts entries = flat_map entry_text entries

abbrev pub pairs : List Entry → List Pair
pairs entries = flat_map stated entries

-- the text is made of entries that state the pairs, where the last LF may be missing
pub record Spells (text : List ℕ) (ps : List Pair) : Type 0 where
  pub entries : List Entry
  pub formed : AllByRecursion IsFormed entries
  pub made : lines text ≡ lines (texts entries)
  pub stated : ps ≡ pairs entries
  pub once : is_once ps ≡ true
  pub utf8 : IsUtf8 text

-- ---- faults

-- the lines, which are no whole entry, begin with a line of this front and back of its first colon
pub record Faces (rest : List (List ℕ)) (front back : List ℕ) : Type 0 where
  pub behind : List (List ℕ)
  pub first : rest ≡ (front ++ 58 ∷ back) ∷ behind
  pub counts : is_skipped (front ++ 58 ∷ back) ≡ false
  pub colon : has_byte 58 front ≡ false

-- the lines begin with one that has no colon
pub record LacksColon (rest : List (List ℕ)) : Type 0 where
  pub line : List ℕ
  pub behind : List (List ℕ)
  pub first : rest ≡ line ∷ behind
  pub counts : is_skipped line ≡ false
  pub colon : has_byte 58 line ≡ false

-- the lines begin a status that goes on: an empty line behind them would end it
pub record Begins (seen : List Pair) (begun : List (List ℕ)) : Type 0 where
  pub blanks : List ℕ
  pub value : List ℕ
  pub formed : IsFormed (Stated blanks (pair (codes "status") value))
  pub fresh : has_tag (codes "status") seen ≡ false
  pub made : lines (entry_text (Stated blanks (pair (codes "status") value))) ≡ begun ++ ([] ∷ [])

-- a value of one line with a control character
pub record HasBadValue (seen : List Pair) (rest : List (List ℕ)) : Type 0 where
  pub tag : List ℕ
  pub back : List ℕ
  pub faces : Faces rest tag back
  pub formed : is_tag tag ≡ true
  pub once : (is_known tag && has_tag tag seen) ≡ false
  pub bad : is_plain back ≡ false

-- a status that goes on in a line with a control character
pub record HasBadPart (seen : List Pair) (rest : List (List ℕ)) (number : ℕ) : Type 0 where
  pub begun : List (List ℕ)
  pub line : List ℕ
  pub behind : List (List ℕ)
  pub here : rest ≡ begun ++ line ∷ behind
  pub counted : number ≡ length begun + 1
  pub begins : Begins seen begun
  pub bad : is_plain line ≡ false

-- the lines behind the pairs seen begin with this fault, in the line of this number among them
abbrev pub IsFault : LineKind → List Pair → List (List ℕ) → ℕ → Type 0
IsFault NotText seen rest number = ⊥
IsFault NoColon seen rest number = (number ≡ 1) × LacksColon rest
IsFault BadTag seen rest number = (number ≡ 1) × (front : List ℕ) × (back : List ℕ) × Faces rest front back × (is_tag front ≡ false)
IsFault Twice seen rest number = (number ≡ 1) × (tag : List ℕ) × (back : List ℕ) × Faces rest tag back × (is_tag tag ≡ true) × ((is_known tag && has_tag tag seen) ≡ true)
IsFault BadValue seen rest number = ((number ≡ 1) × HasBadValue seen rest) ⊎ HasBadPart seen rest number
IsFault OpenEnd seen rest number = (number ≡ length rest) × Begins seen rest
IsFault NoMemory seen rest number = ⊥

-- entries, and behind them the lines at fault
pub record IsFaultBehind (text : List ℕ) (fault : LineFault) : Type 0 where
  pub entries : List Entry
  pub rest : List (List ℕ)
  pub number : ℕ
  pub formed : AllByRecursion IsFormed entries
  pub once : is_once (pairs entries) ≡ true
  pub made : lines text ≡ lines (texts entries) ++ rest
  pub wrong : IsFault fault.kind (pairs entries) rest number
  pub line : fault.line ≡ length (lines (texts entries)) + number
  pub utf8 : IsUtf8 text

abbrev pub IsFirstFault : List ℕ → LineFault → Type 0
IsFirstFault text fault = ((fault ≡ fault_at 0 NotText) × (¬ (IsUtf8 text))) ⊎ IsFaultBehind text fault
