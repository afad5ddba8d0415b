-- What parameters make of a rule.
use Rattle.std.specs.Prelude.{ℕ, List, fold, Option, Some, None, unwrap_or}
use Rattle.fax_dest.specs.declared.parameter.Parameter.{Parameter}
use Rattle.fax_dest.specs.declared.parameter.Parameter.TheVariants.{Calls, Pages, TimeOfDay, RejectNotice, Another}
use Rattle.fax_rule.specs.Rule.{default_rule}
use Rattle.fax_rule.specs.declared.rule.Rule.{Rule}

-- ---- what a parameter sets

abbrev pub calls_in : Parameter → Option ℕ
calls_in (Calls number) = Some number
calls_in (Pages number) = None
calls_in (TimeOfDay week) = None
calls_in (RejectNotice notice) = None
calls_in Another = None

abbrev pub pages_in : Parameter → Option (Option ℕ)
pages_in (Calls number) = None
pages_in (Pages number) = Some (Some number)
pages_in (TimeOfDay week) = None
pages_in (RejectNotice notice) = None
pages_in Another = None

abbrev pub week_in : Parameter → Option (List ℕ)
week_in (Calls number) = None
week_in (Pages number) = None
week_in (TimeOfDay week) = Some week
week_in (RejectNotice notice) = None
week_in Another = None

abbrev pub notice_of : Parameter → Option (Option (List ℕ))
notice_of (Calls number) = None
notice_of (Pages number) = None
notice_of (TimeOfDay week) = None
notice_of (RejectNotice notice) = Some notice
notice_of Another = None

-- the last that sets something, else the default
abbrev pub last_of : {A : Type 0} → (Parameter → Option A) → A → List Parameter → A
last_of set default parameters = fold (λ kept parameter. unwrap_or (set parameter) kept) default parameters

-- of each name the last parameter holds
abbrev pub rule_of : List Parameter → Rule
rule_of parameters = record {
  calls = last_of calls_in default_rule.calls parameters;
  pages = last_of pages_in default_rule.pages parameters;
  hours = last_of week_in default_rule.hours parameters;
  notice = last_of notice_of default_rule.notice parameters;
}

-- the rule with one more parameter
abbrev pub with_parameter : Rule → Parameter → Rule
with_parameter rule parameter = record {
  calls = unwrap_or (calls_in parameter) rule.calls;
  pages = unwrap_or (pages_in parameter) rule.pages;
  hours = unwrap_or (week_in parameter) rule.hours;
  notice = unwrap_or (notice_of parameter) rule.notice;
}
