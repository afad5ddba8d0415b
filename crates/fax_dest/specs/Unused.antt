-- Lines that are read and not used.
use Rattle.std.specs.Prelude.{ℕ, Bool, true, false, ◌==◌, ◌||◌, nat_le, List, Option, Some, None, if◌then◌else◌}
use Rattle.std.specs.List.{list_any}
use Rattle.fax_dest.specs.Line.{at_blank, at_byte, is_skipped, value_of}
use Rattle.fax_dest.specs.Parameter.{parameter_name}
use Rattle.fax_dest.specs.Setting.{setting_name}
use Rattle.fax_dest.specs.declared.parameter.ParameterName.{ParameterName}
use Rattle.fax_dest.specs.declared.parameter.ParameterName.TheVariants as parameter
use Rattle.fax_dest.specs.declared.setting.SettingName.{SettingName}
use Rattle.fax_dest.specs.declared.setting.SettingName.TheVariants as setting
use Rattle.fax_value.specs.Blank.{begins_with_blank, trimmed}

-- ---- of a setup

-- no setting has this name
abbrev pub sets_nothing : SettingName → Bool
sets_nothing setting.Modem = false
sets_nothing setting.ModemClass = false
sets_nothing (setting.Delay call) = false
sets_nothing setting.MaxJobs = false
sets_nothing setting.MaxGrants = false
sets_nothing setting.TimeZone = false
sets_nothing setting.Another = true

abbrev pub names_nothing : Option (List ℕ × List ℕ) → Bool
names_nothing None = false
names_nothing (Some parts) = sets_nothing (setting_name parts.0)

-- a line with a name and a colon, of which no setting has the name
unfoldable pub is_unused_setting : List ℕ → Bool
is_unused_setting line = if is_skipped line then false else names_nothing (at_byte 58 line)

-- the time zone is set by this text
abbrev pub zone_named : SettingName → List ℕ → Option (List ℕ)
zone_named setting.Modem rest = None
zone_named setting.ModemClass rest = None
zone_named (setting.Delay call) rest = None
zone_named setting.MaxJobs rest = None
zone_named setting.MaxGrants rest = None
zone_named setting.TimeZone rest = value_of rest
zone_named setting.Another rest = None

abbrev pub zone_at : Option (List ℕ × List ℕ) → Option (List ℕ)
zone_at None = None
zone_at (Some parts) = zone_named (setting_name parts.0) parts.1

unfoldable pub zone_in : List ℕ → Option (List ℕ)
zone_in line = if is_skipped line then None else zone_at (at_byte 58 line)

-- ---- of controls

-- no parameter has this name
abbrev pub limits_nothing : ParameterName → Bool
limits_nothing parameter.Calls = false
limits_nothing parameter.Pages = false
limits_nothing parameter.TimeOfDay = false
limits_nothing parameter.RejectNotice = false
limits_nothing parameter.Another = true

abbrev pub means_nothing : Option (List ℕ × List ℕ) → Bool
means_nothing None = false
means_nothing (Some parts) = limits_nothing (parameter_name (trimmed parts.0))

-- a parameter whose name no parameter has
unfoldable pub no_parameter : List ℕ → Bool
no_parameter text = if is_skipped text then false else means_nothing (at_byte 61 text)

-- `=`, or no ASCII: no number has such a character
abbrev pub is_foreign : ℕ → Bool
is_foreign byte = byte == 61 || nat_le 128 byte

-- a parameter whose name no parameter has, or a rule whose pattern has a character that no number has
unfoldable pub is_unused_control : List ℕ → Bool
is_unused_control line =
    if is_skipped line then false
    else if begins_with_blank line then no_parameter line
    else list_any is_foreign (at_blank line).0 || no_parameter (at_blank line).1
