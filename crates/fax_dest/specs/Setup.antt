-- What the lines of a setup say together, and what a setup answers.
use Rattle.std.specs.Prelude.{◌≡◌, ℕ, ◌+◌, Bool, ◌||◌, ◌&&◌, List, [], ◌∷◌, map, fold, filter_map, codes, Option, Some, None, unwrap_or, Result, Ok, Err}
use Rattle.std.specs.List.{list_any}
use Rattle.std.specs.Str.{bytes_eq}
use Rattle.jiff.specs.Types.{TimeZone as JiffZone, UTC}
use Rattle.regex.specs.Strings.{regex_source}
use Rattle.fax_value.specs.Limits.{last_grant, last_job}
use Rattle.fax_lines.specs.Reading.{lines}
use Rattle.fax_job.specs.declared.job.Call.{Call}
use Rattle.fax_job.specs.declared.job.Call.TheVariants.{Connected, Busy, NoAnswer, NoCarrier, Other}
use Rattle.fax_hours.specs.Zone.{IsZoneOf}
use Rattle.fax_dest.specs.Fault.{at_line}
use Rattle.fax_dest.specs.Pattern.{is_found, Compiling}
use Rattle.fax_dest.specs.Setting.{ClassText, Setting, ModemNamed, ClassOf, DelayAfter, JobsUpTo, GrantsUpTo, ZoneOf, Nothing, setting_of}
use Rattle.fax_dest.specs.declared.fault.FileFault.{FileFault}
use Rattle.fax_dest.specs.declared.setup.Class.{Class}
use Rattle.fax_dest.specs.declared.setup.Setup.{Setup}

-- ---- the settings of a text, or its first fault

abbrev pub then_settings : Result Setting FileFault → Result (List Setting) FileFault → Result (List Setting) FileFault
then_settings (Ok setting) (Ok settings) = Ok (setting ∷ settings)
then_settings (Ok setting) (Err fault) = Err fault
then_settings (Err fault) settings = Err fault

-- line by line from a number on
abbrev pub settings_from : (ℕ → Compiling) → ℕ → List (List ℕ) → Result (List Setting) FileFault
settings_from compile number [] = Ok []
settings_from compile number (line ∷ lines) =
    then_settings (at_line number (setting_of line (compile number))) (settings_from compile (number + 1) lines)

abbrev pub settings_of : List ℕ → (ℕ → Compiling) → Result (List Setting) FileFault
settings_of text compile = settings_from compile 1 (lines text)

-- ---- what a setting sets

abbrev pub modem_in : Setting → Option (List ℕ)
modem_in (ModemNamed name) = Some name
modem_in (ClassOf class) = None
modem_in (DelayAfter call seconds) = None
modem_in (JobsUpTo number) = None
modem_in (GrantsUpTo number) = None
modem_in (ZoneOf text) = None
modem_in Nothing = None

abbrev pub class_in : Setting → Option ClassText
class_in (ModemNamed name) = None
class_in (ClassOf class) = Some class
class_in (DelayAfter call seconds) = None
class_in (JobsUpTo number) = None
class_in (GrantsUpTo number) = None
class_in (ZoneOf text) = None
class_in Nothing = None

abbrev pub delay_for : Call → Call → ℕ → Option ℕ
delay_for Connected Connected seconds = Some seconds
delay_for Busy Busy seconds = Some seconds
delay_for NoAnswer NoAnswer seconds = Some seconds
delay_for NoCarrier NoCarrier seconds = Some seconds
delay_for Other Other seconds = Some seconds
delay_for call after seconds = None

abbrev pub delay_in : Call → Setting → Option ℕ
delay_in call (ModemNamed name) = None
delay_in call (ClassOf class) = None
delay_in call (DelayAfter after seconds) = delay_for call after seconds
delay_in call (JobsUpTo number) = None
delay_in call (GrantsUpTo number) = None
delay_in call (ZoneOf text) = None
delay_in call Nothing = None

abbrev pub jobs_in : Setting → Option ℕ
jobs_in (ModemNamed name) = None
jobs_in (ClassOf class) = None
jobs_in (DelayAfter call seconds) = None
jobs_in (JobsUpTo number) = Some number
jobs_in (GrantsUpTo number) = None
jobs_in (ZoneOf text) = None
jobs_in Nothing = None

abbrev pub grants_in : Setting → Option ℕ
grants_in (ModemNamed name) = None
grants_in (ClassOf class) = None
grants_in (DelayAfter call seconds) = None
grants_in (JobsUpTo number) = None
grants_in (GrantsUpTo number) = Some number
grants_in (ZoneOf text) = None
grants_in Nothing = None

abbrev pub zone_in : Setting → Option (Option (List ℕ))
zone_in (ModemNamed name) = None
zone_in (ClassOf class) = None
zone_in (DelayAfter call seconds) = None
zone_in (JobsUpTo number) = None
zone_in (GrantsUpTo number) = None
zone_in (ZoneOf text) = Some (Some text)
zone_in Nothing = None

-- the last that sets something, else the default
abbrev pub last_of : {A : Type 0} → (Setting → Option A) → A → List Setting → A
last_of set default settings = fold (λ kept setting. unwrap_or (set setting) kept) default settings

-- ---- the setup

-- what a setup shows but its zone
pub record Shown : Type 0 where
  pub modems : List (List ℕ)
  pub classes : List ClassText
  pub busy : ℕ
  pub no_answer : ℕ
  pub no_carrier : ℕ
  pub other : ℕ
  pub proto : ℕ
  pub max_jobs : ℕ
  pub max_grants : ℕ

abbrev pub class_text : Class → ClassText
class_text class = record { name = class.name; pattern = regex_source class.pattern }

abbrev pub shown : Setup → Shown
shown setup = record {
  modems = setup.modems.items;
  classes = map class_text setup.classes.items;
  busy = setup.busy;
  no_answer = setup.no_answer;
  no_carrier = setup.no_carrier;
  other = setup.other;
  proto = setup.proto;
  max_jobs = setup.max_jobs;
  max_grants = setup.max_grants;
}

-- all modems and all classes, and of each other name the last line
abbrev pub shown_of : List Setting → Shown
shown_of settings = record {
  modems = filter_map modem_in settings;
  classes = filter_map class_in settings;
  busy = last_of (delay_in Busy) 180 settings;
  no_answer = last_of (delay_in NoAnswer) 300 settings;
  no_carrier = last_of (delay_in NoCarrier) 300 settings;
  other = last_of (delay_in Other) 300 settings;
  proto = last_of (delay_in Connected) 60 settings;
  max_jobs = last_of jobs_in last_job settings;
  max_grants = last_of grants_in last_grant settings;
}

-- without a line it is UTC
abbrev pub IsZoneFor : Option (List ℕ) → JiffZone → Type 0
IsZoneFor None zone = zone ≡ UTC
IsZoneFor (Some text) zone = IsZoneOf text zone

-- the settings make the setup
pub record IsSetupOf (settings : List Setting) (setup : Setup) : Type 0 where
  pub shown : shown setup ≡ shown_of settings
  pub zone : IsZoneFor (last_of zone_in None settings) setup.zone

-- ---- what a setup answers

abbrev pub has_modem : Setup → List ℕ → Bool
has_modem setup modem = list_any (λ name. bytes_eq name modem) setup.modems.items

-- the delay after a call, or after none
abbrev pub delay_of : Setup → Option Call → ℕ
delay_of setup None = setup.other
delay_of setup (Some Connected) = setup.proto
delay_of setup (Some Busy) = setup.busy
delay_of setup (Some NoAnswer) = setup.no_answer
delay_of setup (Some NoCarrier) = setup.no_carrier
delay_of setup (Some Other) = setup.other

abbrev pub admits_class : List ℕ → List ℕ → Class → Bool
admits_class value modem class = bytes_eq class.name value && is_found class.pattern modem

-- `any`, the modem's name, or the name of a class with a pattern that is found in the modem's name
unfoldable pub admits : Setup → List ℕ → List ℕ → Bool
admits setup value modem =
    bytes_eq value (codes "any") || bytes_eq value modem || list_any (admits_class value modem) setup.classes.items
