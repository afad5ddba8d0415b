-- What one line does to the rules that are read so far.
use Rattle.std.specs.Prelude.{◌≡◌, Bool, true, false, List, [], ◌∷◌, ◌++◌, map}
use Rattle.regex.specs.Strings.{regex_source}
use Rattle.fax_dest.specs.Controls.{Line, Skipped, Begins, Adds, Spelled, spelled}
use Rattle.fax_dest.specs.Rule.{rule_of, with_parameter}
use Rattle.fax_dest.specs.declared.controls.Entry.{Entry}
use Rattle.fax_dest.specs.declared.parameter.Parameter.{Parameter}
use Rattle.fax_rule.specs.declared.rule.Rule.{Rule}

abbrev pub rules_of : List Entry → List Spelled
rules_of entries = map spelled entries

abbrev pub has_rule : List Spelled → Bool
has_rule [] = false
has_rule (rule ∷ rules) = true

-- the rules, of which the last has one more parameter
abbrev pub with_last : List Spelled → Parameter → List Spelled
with_last [] parameter = []
with_last (rule ∷ []) parameter = record { pattern = rule.pattern; rule = with_parameter rule.rule parameter } ∷ []
with_last (rule ∷ next ∷ rules) parameter = rule ∷ with_last (next ∷ rules) parameter

abbrev pub taken : List Spelled → Line → List Spelled
taken rules Skipped = rules
taken rules (Begins pattern parameters) = rules ++ record { pattern = pattern; rule = rule_of parameters } ∷ []
taken rules (Adds parameter) = with_last rules parameter

pub record IsTaken (line : Line) (old new : List Entry) : Type 0 where
  pub rules : rules_of new ≡ taken (rules_of old) line

-- the line begins the rule of an entry
pub record IsBegun (item : Line) (entry : Entry) : Type 0 where
  pub parameters : List Parameter
  pub line : item ≡ Begins (regex_source entry.pattern) parameters
  pub rule : entry.rule ≡ rule_of parameters

pub record IsRuleOf (parameters : List Parameter) (rule : Rule) : Type 0 where
  pub is : rule ≡ rule_of parameters
