-- Controls of destinations: the rules that a text spells, or its first fault, and the rule of a number.
use Rattle.std.specs.Prelude.{◌≡◌, ℕ, ◌+◌, Bool, true, false, ◌||◌, List, [], ◌∷◌, ◌++◌, map, slice_get, Option, Some, None, Result, Ok, Err, if◌then◌else◌}
use Rattle.std.specs.List.{position_or_len}
use Rattle.regex.specs.Strings.{regex_source}
use Rattle.fax_lines.specs.Reading.{lines}
use Rattle.fax_dest.specs.Fault.{at_line}
use Rattle.fax_dest.specs.Line.{is_skipped, at_blank}
use Rattle.fax_value.specs.Blank.{begins_with_blank}
use Rattle.fax_dest.specs.Parameter.{parameter_of}
use Rattle.fax_dest.specs.Pattern.{is_found, Compiling}
use Rattle.fax_dest.specs.Rule.{rule_of}
use Rattle.fax_rule.specs.Rule.{default_rule}
use Rattle.fax_dest.specs.declared.controls.Controls.{Controls}
use Rattle.fax_dest.specs.declared.controls.Entry.{Entry}
use Rattle.fax_dest.specs.declared.fault.FileFault.{FileFault}
use Rattle.fax_dest.specs.declared.fault.FileKind.{FileKind}
use Rattle.fax_dest.specs.declared.fault.FileKind.TheVariants.{NoRule}
use Rattle.fax_dest.specs.declared.parameter.Parameter.{Parameter}
use Rattle.fax_rule.specs.declared.rule.Rule.{Rule}

-- ---- lines

-- nothing, or the beginning of a rule with the parameters on its line, or a parameter of the rule above
pub data Line : Type 0 where
  Skipped : Line
  Begins : List ℕ → List Parameter → Line
  Adds : Parameter → Line

abbrev pub adds : Result Parameter FileKind → Result Line FileKind
adds (Ok parameter) = Ok (Adds parameter)
adds (Err kind) = Err kind

abbrev pub one_parameter : Result Parameter FileKind → Result (List Parameter) FileKind
one_parameter (Ok parameter) = Ok (parameter ∷ [])
one_parameter (Err kind) = Err kind

-- what stands behind the pattern: nothing, a comment, or a parameter
unfoldable pub behind_of : List ℕ → Result (List Parameter) FileKind
behind_of rest = if is_skipped rest then Ok [] else one_parameter (parameter_of rest)

-- the fault of a pattern comes before that of its parameter
abbrev pub begins : Result (List ℕ) FileKind → Result (List Parameter) FileKind → Result Line FileKind
begins (Ok pattern) (Ok parameters) = Ok (Begins pattern parameters)
begins (Ok pattern) (Err kind) = Err kind
begins (Err kind) parameters = Err kind

-- an indented line is a parameter of the rule above
abbrev pub added : Bool → List ℕ → Result Line FileKind
added under line = if under then adds (parameter_of line) else Err NoRule

-- the first word is the pattern
abbrev pub begun : Compiling → List ℕ × List ℕ → Result Line FileKind
begun compile parts = begins (compile parts.0) (behind_of parts.1)

-- what a line says where a rule stands above it or not, or its fault
unfoldable pub line_of : Bool → List ℕ → Compiling → Result Line FileKind
line_of under line compile =
    if is_skipped line then Ok Skipped
    else if begins_with_blank line then added under line
    else begun compile (at_blank line)

-- ---- the lines of a text, or its first fault

abbrev pub is_beginning : Line → Bool
is_beginning Skipped = false
is_beginning (Begins pattern parameters) = true
is_beginning (Adds parameter) = false

abbrev pub onto : Line → Result (List Line) FileFault → Result (List Line) FileFault
onto line (Ok lines) = Ok (line ∷ lines)
onto line (Err fault) = Err fault

abbrev pub then_lines : Result Line FileFault → (Bool → Result (List Line) FileFault) → Result (List Line) FileFault
then_lines (Ok line) behind = onto line (behind (is_beginning line))
then_lines (Err fault) behind = Err fault

-- line by line from a number on
abbrev pub lines_from : (ℕ → Compiling) → Bool → ℕ → List (List ℕ) → Result (List Line) FileFault
lines_from compile under number [] = Ok []
lines_from compile under number (line ∷ lines) =
    then_lines (at_line number (line_of under line (compile number))) (λ begun. lines_from compile (under || begun) (number + 1) lines)

abbrev pub lines_of : List ℕ → (ℕ → Compiling) → Result (List Line) FileFault
lines_of text compile = lines_from compile false 1 (lines text)

-- ---- the rules

-- a pattern's text, and what holds for the numbers that match it
pub record Spelled : Type 0 where
  pub pattern : List ℕ
  pub rule : Rule

-- the parameters before the first rule, and the rules with their own
pub record Groups : Type 0 where
  pub before : List Parameter
  pub rules : List Spelled

abbrev pub grouped : Line → Groups → Groups
grouped Skipped groups = groups
grouped (Adds parameter) groups = record { before = parameter ∷ groups.before; rules = groups.rules }
grouped (Begins pattern parameters) groups =
    record { before = []; rules = record { pattern = pattern; rule = rule_of (parameters ++ groups.before) } ∷ groups.rules }

abbrev pub groups_of : List Line → Groups
groups_of [] = record { before = []; rules = [] }
groups_of (line ∷ lines) = grouped line (groups_of lines)

abbrev pub spelled : Entry → Spelled
spelled entry = record { pattern = regex_source entry.pattern; rule = entry.rule }

-- the lines make the controls
pub record AreControlsOf (lines : List Line) (controls : Controls) : Type 0 where
  pub rules : map spelled controls.rules.items ≡ (groups_of lines).rules
  pub default : controls.default ≡ default_rule

-- ---- the rule of a number

abbrev pub matches : List ℕ → Entry → Bool
matches number entry = is_found entry.pattern number

-- the place of the first rule whose pattern is found, else the number of rules
unfoldable pub place_of : Controls → List ℕ → ℕ
place_of controls number = position_or_len (matches number) controls.rules.items

abbrev pub rule_or : Rule → Option Entry → Rule
rule_or default None = default
rule_or default (Some entry) = entry.rule

-- the rule at a place, the default rule past the end
abbrev pub rule_at : Controls → ℕ → Rule
rule_at controls place = rule_or controls.default (slice_get controls.rules.items place)
