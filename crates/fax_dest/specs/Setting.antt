-- The lines of a setup, after hylafax-config(5).
use Rattle.std.specs.Prelude.{ℕ, List, codes, Option, Some, None, Result, Ok, Err, if◌then◌else◌}
use Rattle.std.specs.Str.{str_eq_ignore_ascii_case}
use Rattle.fax_job.specs.declared.job.Call.{Call}
use Rattle.fax_job.specs.declared.job.Call.TheVariants.{Connected, Busy, NoAnswer, NoCarrier, Other}
use Rattle.fax_value.specs.Limits.{last_grant, last_job, longest_delay}
use Rattle.fax_dest.specs.Line.{is_skipped, at_byte, value_of, number_in}
use Rattle.fax_dest.specs.Pattern.{Compiling}
use Rattle.fax_dest.specs.Value.{name_in, is_zone, is_line_name}
use Rattle.fax_dest.specs.declared.fault.FileKind.{FileKind}
use Rattle.fax_dest.specs.declared.fault.FileKind.TheVariants.{NoColon, BadQuote, BadValue}
use Rattle.fax_dest.specs.declared.setting.SettingName.{SettingName}
use Rattle.fax_dest.specs.declared.setting.SettingName.TheVariants.{Modem, ModemClass, Delay, MaxJobs, MaxGrants, TimeZone, Another}

-- a class's name, and the text of its pattern
pub record ClassText : Type 0 where
  pub name : List ℕ
  pub pattern : List ℕ

-- what a line says
pub data Setting : Type 0 where
  ModemNamed : List ℕ → Setting
  ClassOf : ClassText → Setting
  DelayAfter : Call → ℕ → Setting
  JobsUpTo : ℕ → Setting
  GrantsUpTo : ℕ → Setting
  ZoneOf : List ℕ → Setting
  Nothing : Setting

-- letter case has no meaning
unfoldable pub setting_name : List ℕ → SettingName
setting_name name =
    if str_eq_ignore_ascii_case name (codes "modem") then Modem
    else if str_eq_ignore_ascii_case name (codes "modemclass") then ModemClass
    else if str_eq_ignore_ascii_case name (codes "jobreqbusy") then Delay Busy
    else if str_eq_ignore_ascii_case name (codes "jobreqnoanswer") then Delay NoAnswer
    else if str_eq_ignore_ascii_case name (codes "jobreqnocarrier") then Delay NoCarrier
    else if str_eq_ignore_ascii_case name (codes "jobreqother") then Delay Other
    else if str_eq_ignore_ascii_case name (codes "jobreqproto") then Delay Connected
    else if str_eq_ignore_ascii_case name (codes "maxjobs") then MaxJobs
    else if str_eq_ignore_ascii_case name (codes "maxgrants") then MaxGrants
    else if str_eq_ignore_ascii_case name (codes "timezone") then TimeZone
    else Another

-- ---- values

abbrev pub numbered : (ℕ → Setting) → Result ℕ FileKind → Result Setting FileKind
numbered setting (Ok number) = Ok (setting number)
numbered setting (Err kind) = Err kind

abbrev pub texted : (List ℕ → Setting) → Result (List ℕ) FileKind → Result Setting FileKind
texted setting (Ok text) = Ok (setting text)
texted setting (Err kind) = Err kind

-- the fault of a name comes before that of its pattern
abbrev pub class_with : Result (List ℕ) FileKind → Result (List ℕ) FileKind → Result Setting FileKind
class_with (Ok name) (Ok pattern) = Ok (ClassOf (record { name = name; pattern = pattern }))
class_with (Ok name) (Err kind) = Err kind
class_with (Err kind) pattern = Err kind

-- `name:regex`
abbrev pub class_written : Compiling → Option (List ℕ × List ℕ) → Result Setting FileKind
class_written compile None = Err BadValue
class_written compile (Some parts) = class_with (name_in parts.0) (compile parts.1)

abbrev pub setting_in : Compiling → SettingName → List ℕ → Result Setting FileKind
setting_in compile Modem value = texted ModemNamed (name_in value)
setting_in compile ModemClass value = class_written compile (at_byte 58 value)
setting_in compile (Delay call) value = numbered (DelayAfter call) (number_in 0 longest_delay value)
setting_in compile MaxJobs value = numbered JobsUpTo (number_in 1 last_job value)
setting_in compile MaxGrants value = numbered GrantsUpTo (number_in 1 last_grant value)
setting_in compile TimeZone value = texted ZoneOf (is_zone value)
setting_in compile Another value = Ok Nothing

-- ---- lines

abbrev pub with_value : Compiling → List ℕ → Option (List ℕ) → Result Setting FileKind
with_value compile name None = Err BadQuote
with_value compile name (Some value) = setting_in compile (setting_name name) value

abbrev pub with_name : Compiling → Option (List ℕ × List ℕ) → Result Setting FileKind
with_name compile None = Err NoColon
with_name compile (Some parts) = if is_line_name parts.0 then with_value compile parts.0 (value_of parts.1) else Err NoColon

-- what a line says, or its fault
unfoldable pub setting_of : List ℕ → Compiling → Result Setting FileKind
setting_of line compile = if is_skipped line then Ok Nothing else with_name compile (at_byte 58 line)
