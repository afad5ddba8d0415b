-- Rules of destinations.
use Rattle.std.specs.Prelude.{None}
use Rattle.fax_hours.specs.Hours.{every_hour}
use Rattle.fax_rule.specs.declared.rule.Rule.{Rule}

-- what holds without a rule: one call at a time, no limit on pages, any time, no rejection
abbrev pub default_rule : Rule
default_rule = record { calls = 1; pages = None; hours = every_hour; notice = None }
