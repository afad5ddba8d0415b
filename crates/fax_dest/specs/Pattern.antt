-- Patterns in the grammar of `regex`.
use Rattle.std.specs.Prelude.{◌≡◌, ℕ, Bool, true, false, List, is_some, Result, Ok, Err, if◌then◌else◌}
use Rattle.regex.specs.Failures.{IsPattern, IsRightKind}
use Rattle.regex.specs.Patterns.{default_config, find_str}
use Rattle.regex.specs.Sources.{IsRefusal}
use Rattle.regex.specs.Strings.{regex_config, regex_pattern, IsReadFromSource}
use Rattle.regex.specs.declared.error.Error.TheVariants.{Syntax}
use Rattle.regex.specs.declared.string.regex.Regex.{Regex}
use Rattle.fax_dest.specs.declared.fault.FileKind.{FileKind}
use Rattle.fax_dest.specs.declared.fault.FileKind.TheVariants.{BadPattern, BigPattern}

-- `regex` finds the pattern somewhere in the text
unfoldable pub is_found : Regex → List ℕ → Bool
is_found pattern text = is_some (find_str (regex_pattern pattern) text 0)

-- the pattern is what the grammar reads in its text, with no flags set
pub record IsPlain (pattern : Regex) : Type 0 where
  pub config : regex_config pattern ≡ default_config
  pub read : IsReadFromSource pattern

-- ---- which texts are patterns

-- an error of syntax that `Regex::new` may give for the text: the grammar reads nothing there, or what nests too deep
abbrev pub IsNoPattern : List ℕ → Type 0
IsNoPattern text = (error : _) × IsRefusal default_config text (Syntax error) × IsRightKind default_config text (Syntax error)

-- the test is that of the grammar
pub record IsGrammar (is_pattern : List ℕ → Bool) : Type 0 where
  pub reads : (text : List ℕ) → IsPattern default_config text → is_pattern text ≡ true
  pub refuses : (text : List ℕ) → IsNoPattern text → is_pattern text ≡ false

-- what the text of a pattern gives: the pattern, or its fault
abbrev pub Compiling : Type 0
Compiling = List ℕ → Result (List ℕ) FileKind

-- A text that isn't in the grammar is a bad pattern. One that is in it may be too big for `regex`.
unfoldable pub compiled : (List ℕ → Bool) → Bool → Compiling
compiled is_pattern too_big text = if is_pattern text then (if too_big then Err BigPattern else Ok text) else Err BadPattern
