-- Reading as a function of the lines of a text: what each line adds to the pairs so far and to a status
-- that goes on, or its fault.
use Rattle.std.specs.Prelude.{ℕ, ◌+◌, Bool, true, false, not, ◌&&◌, ◌||◌, ◌==◌, List, [], ◌∷◌, ◌++◌, Option, Some, None, Result, Ok, Err, codes, ◌≡◌, ◌<◌, length, if◌then◌else◌}
use Rattle.std.specs.List.{list_all}
use Rattle.std.specs.Option.{option_map}
use Rattle.std.specs.Str.{bytes_eq}
use Rattle.fax_job.specs.declared.lines.LineFault.{LineFault}
use Rattle.fax_job.specs.declared.lines.LineKind.{LineKind}
use Rattle.fax_job.specs.declared.lines.LineKind.TheVariants.{NotText, NoColon, BadTag, Twice, BadValue, OpenEnd, NoMemory}
use Rattle.fax_job.specs.Pair.{Pair, pair, begins_with_hash, has_tag}
use Rattle.fax_job.specs.Tag.{is_tag, is_known}
use Rattle.fax_value.specs.Value.{ends_with_backslash, is_plain, is_status_byte}
use Rattle.fax_value.specs.Blank.{is_blank, begins_with_blank, without_blanks}

-- ---- lines

abbrev pub onto : ℕ → List (List ℕ) → List (List ℕ)
onto byte [] = (byte ∷ []) ∷ []
onto byte (line ∷ lines) = (byte ∷ line) ∷ lines

-- LF ends a line, and the last may lack it
abbrev pub lines : List ℕ → List (List ℕ)
lines [] = []
lines (byte ∷ bytes) = if byte == 10 then [] ∷ lines bytes else onto byte (lines bytes)

-- blanks alone, or a comment
abbrev pub is_skipped : List ℕ → Bool
is_skipped line = begins_with_hash line || list_all is_blank line

-- what stands before and behind the first `:`
abbrev pub at_colon : List ℕ → Option (List ℕ × List ℕ)
at_colon [] = None
at_colon (byte ∷ bytes) = if byte == 58 then Some ([], bytes) else option_map (λ parts. (byte ∷ parts.0, parts.1)) (at_colon bytes)

-- what stands before a `\` at the end
abbrev pub before_backslash : List ℕ → Option (List ℕ)
before_backslash [] = None
before_backslash (byte ∷ []) = if byte == 92 then Some [] else None
before_backslash (byte ∷ next ∷ bytes) = option_map (λ part. byte ∷ part) (before_backslash (next ∷ bytes))

-- ---- faults

abbrev pub is_memory : LineKind → Bool
is_memory NotText = false
is_memory NoColon = false
is_memory BadTag = false
is_memory Twice = false
is_memory BadValue = false
is_memory OpenEnd = false
is_memory NoMemory = true

abbrev pub is_no_memory : LineFault → Bool
is_no_memory fault = is_memory fault.kind

abbrev pub fault_at : ℕ → LineKind → LineFault
fault_at number kind = record { line = number; kind = kind }

-- ---- reading

-- the tag and the value of a line that isn't skipped
abbrev pub parts_of : List Pair → List ℕ → List ℕ → Result Pair LineKind
parts_of seen tag rest =
    if not (is_tag tag) then Err BadTag
    else if is_known tag && has_tag tag seen then Err Twice
    else if not (is_plain (without_blanks rest)) then Err BadValue
    else Ok (pair tag (without_blanks rest))

abbrev pub at_parts : List Pair → Option (List ℕ × List ℕ) → Result Pair LineKind
at_parts seen None = Err NoColon
at_parts seen (Some parts) = parts_of seen parts.0 parts.1

unfoldable pub entry_of : List Pair → List ℕ → Result Pair LineKind
entry_of seen line = at_parts seen (at_colon line)

-- the pairs so far, and the status so far that goes on
abbrev pub State : Type 0
State = List Pair × Option (List ℕ)

-- the first part of a status that goes on
unfoldable pub begun_part : Pair → Option (List ℕ)
begun_part p = if bytes_eq p.tag (codes "status") then before_backslash p.value else None

abbrev pub taken_part : List Pair → Pair → Option (List ℕ) → State
taken_part seen p None = (seen ++ p ∷ [], None)
taken_part seen p (Some part) = (seen, Some (part ++ 10 ∷ []))

abbrev pub taken : List Pair → Pair → State
taken seen p = taken_part seen p (begun_part p)

abbrev pub entered : ℕ → List Pair → Result Pair LineKind → Result State LineFault
entered number seen (Ok p) = Ok (taken seen p)
entered number seen (Err kind) = Err (fault_at number kind)

unfoldable pub begin_step : ℕ → List Pair → List ℕ → Result State LineFault
begin_step number seen line = if is_skipped line then Ok (seen, None) else entered number seen (entry_of seen line)

abbrev pub gone_on : List Pair → List ℕ → List ℕ → Option (List ℕ) → State
gone_on seen begun line None = (seen ++ pair (codes "status") (begun ++ line) ∷ [], None)
gone_on seen begun line (Some part) = (seen, Some (begun ++ part ++ 10 ∷ []))

unfoldable pub go_on_step : ℕ → List Pair → List ℕ → List ℕ → Result State LineFault
go_on_step number seen begun line = if not (is_plain line) then Err (fault_at number BadValue) else Ok (gone_on seen begun line (before_backslash line))

abbrev pub step : ℕ → List Pair → Option (List ℕ) → List ℕ → Result State LineFault
step number seen None line = begin_step number seen line
step number seen (Some begun) line = go_on_step number seen begun line

abbrev pub ended : ℕ → List Pair → Option (List ℕ) → Result (List Pair) LineFault
ended number seen None = Ok seen
ended number seen (Some begun) = Err (fault_at number OpenEnd)

abbrev pub then_read : Result State LineFault → (State → Result (List Pair) LineFault) → Result (List Pair) LineFault
then_read (Ok state) next = next state
then_read (Err fault) next = Err fault

-- the pairs of the lines, behind so many lines
unfoldable pub read_on : List (List ℕ) → ℕ → List Pair → Option (List ℕ) → Result (List Pair) LineFault
read_on [] number seen begun = ended number seen begun
read_on (line ∷ lines) number seen begun = then_read (step (number + 1) seen begun line) (λ state. read_on lines (number + 1) state.0 state.1)

-- a tag and a value of one line, behind these pairs; a status may go on
pub record IsEntry (seen : List Pair) (p : Pair) : Type 0 where
  pub tag : is_tag p.tag ≡ true
  pub no_comment : begins_with_hash p.tag ≡ false
  pub once : (is_known p.tag && has_tag p.tag seen) ≡ false
  pub start : begins_with_blank p.value ≡ false
  pub plain : is_plain p.value ≡ true

-- a status that goes on, behind these pairs
pub record IsOpen (seen : List Pair) (begun : List ℕ) : Type 0 where
  pub fresh : has_tag (codes "status") seen ≡ false
  pub some : 0 < length begun
  pub start : begins_with_blank begun ≡ false
  pub end : ends_with_backslash begun ≡ false
  pub bytes : list_all is_status_byte begun ≡ true
