-- Options of the command line.
use Rattle.std.specs.Option.{option_map}
use Rattle.std.specs.Prelude.{ℕ, ◌&&◌, true, nat_le, Option, Some, None, option_and_then, if◌then◌else◌}
use Rattle.clap.specs.Simple.{new_rule}
use Rattle.clap.specs.Walk.{Rule, Text}
use Rattle.fax_value.specs.Number.{number_of}

-- `--NAME VALUE`
abbrev pub long_option : Text → Rule
long_option name = record (new_rule name) { long = Some name; value_names = 1 }

-- `-L VALUE`, with a name of its own
abbrev pub short_option : Text → ℕ → Rule
short_option name letter = record (new_rule name) { short = Some letter; value_names = 1 }

-- it may not be missing
abbrev pub required : Rule → Rule
required option = record option { required = true }

-- the number that a text writes, from the least to the greatest
abbrev pub number_from : ℕ → ℕ → Text → Option ℕ
number_from least greatest text = option_and_then (λ number. if nat_le least number && nat_le number greatest then Some number else None) (number_of text)

-- the same of an option that may be missing, which then has a value of its own
unfoldable pub number_or : ℕ → ℕ → ℕ → Option Text → Option ℕ
number_or default least greatest None = Some default
number_or default least greatest (Some text) = number_from least greatest text

-- the number of an option that may be missing
unfoldable pub number_or_none : Option Text → Option (Option ℕ)
number_or_none None = Some None
number_or_none (Some text) = option_map (λ seconds. Some seconds) (number_of text)
