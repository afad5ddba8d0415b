-- The machine's settings, by the setup and the destination controls of an office.
use Rattle.std.specs.Prelude.{ℕ, Bool, List}
use Rattle.fax_core.specs.Settings.{Rule, Settings}
use Rattle.fax_core.specs.Submission.{rule_of}
use Rattle.fax_dest.specs.Controls.{place_of, rule_at}
use Rattle.fax_dest.specs.Setup.{admits, delay_of}
use Rattle.fax_dest.specs.declared.controls.Controls.{Controls}
use Rattle.fax_rule.specs.declared.rule.Rule as dest
use Rattle.fax_dest.specs.declared.setup.Setup.{Setup}
use Rattle.fax_hours.specs.Hours.{is_in}
use Rattle.fax_hours.specs.Zone.{WeekMinute, week_minute_at}
use Rattle.fax_text.specs.Listing.{time_shown}

abbrev pub has_minute : List ℕ → WeekMinute → Bool
has_minute week minute = is_in week minute.0 minute.1

-- whether hours have a moment, by the clock of the setup's zone
abbrev pub have_moment : Setup → List ℕ → ℕ → Bool
have_moment setup week moment = has_minute week (week_minute_at setup.zone moment)

-- the rule of the controls for a number
abbrev pub rule_for : Controls → List ℕ → dest.Rule
rule_for controls dial = rule_at controls (place_of controls dial)

-- as the machine knows it
abbrev pub machine_rule : Setup → dest.Rule → Rule
machine_rule setup rule = rule_of rule (have_moment setup rule.hours)

-- the settings of an office
abbrev pub settings_of : Setup → Controls → Settings
settings_of setup controls = record {
  rule = λ dial. machine_rule setup (rule_for controls dial);
  admits = admits setup;
  modems = setup.modems.items;
  delay = delay_of setup;
  max_jobs = setup.max_jobs;
  max_grants = setup.max_grants;
  shows = time_shown setup.zone;
}
