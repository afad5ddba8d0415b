-- Parameters of rules, after destctrls(5).
use Rattle.std.specs.Prelude.{ℕ, ◌||◌, ◌==◌, List, length, codes, Option, Some, None, Result, Ok, Err, if◌then◌else◌}
use Rattle.std.specs.Str.{str_eq_ignore_ascii_case}
use Rattle.fax_hours.specs.Hours.{hours_of}
use Rattle.fax_hours.specs.declared.hours.HoursFault.{HoursFault}
use Rattle.fax_value.specs.Limits.{most_attempts, most_pages}
use Rattle.fax_dest.specs.Line.{at_byte, value_of, number_in}
use Rattle.fax_value.specs.Blank.{trimmed}
use Rattle.fax_rule.specs.Notice.{is_notice}
use Rattle.fax_dest.specs.declared.fault.FileKind.{FileKind}
use Rattle.fax_dest.specs.declared.fault.FileKind.TheVariants.{NoEquals, BadQuote, BadValue, BadHours}
use Rattle.fax_dest.specs.declared.parameter.Parameter.{Parameter}
use Rattle.fax_dest.specs.declared.parameter.Parameter.TheVariants as says
use Rattle.fax_dest.specs.declared.parameter.ParameterName.{ParameterName}
use Rattle.fax_dest.specs.declared.parameter.ParameterName.TheVariants.{Calls, Pages, TimeOfDay, RejectNotice, Another}

-- letter case has no meaning; the two names of the limit on calls are one
unfoldable pub parameter_name : List ℕ → ParameterName
parameter_name name =
    if str_eq_ignore_ascii_case name (codes "maxconcurrentcalls") || str_eq_ignore_ascii_case name (codes "maxconcurrentjobs") then Calls
    else if str_eq_ignore_ascii_case name (codes "maxsendpages") then Pages
    else if str_eq_ignore_ascii_case name (codes "timeofday") then TimeOfDay
    else if str_eq_ignore_ascii_case name (codes "rejectnotice") then RejectNotice
    else Another

abbrev pub numbered : (ℕ → Parameter) → Result ℕ FileKind → Result Parameter FileKind
numbered parameter (Ok number) = Ok (parameter number)
numbered parameter (Err kind) = Err kind

abbrev pub timed : Result (List ℕ) HoursFault → Result Parameter FileKind
timed (Ok week) = Ok (says.TimeOfDay week)
timed (Err fault) = Err BadHours

abbrev pub hours_in : List ℕ → Result Parameter FileKind
hours_in value = timed (hours_of value)

-- an empty one counts as none
abbrev pub notice_in : List ℕ → Result (Option (List ℕ)) FileKind
notice_in value =
    if length value == 0 then Ok None
    else if is_notice value then Ok (Some value)
    else Err BadValue

abbrev pub noticed : Result (Option (List ℕ)) FileKind → Result Parameter FileKind
noticed (Ok notice) = Ok (says.RejectNotice notice)
noticed (Err kind) = Err kind

abbrev pub parameter_in : ParameterName → List ℕ → Result Parameter FileKind
parameter_in Calls value = numbered says.Calls (number_in 1 most_attempts value)
parameter_in Pages value = numbered says.Pages (number_in 1 most_pages value)
parameter_in TimeOfDay value = hours_in value
parameter_in RejectNotice value = noticed (notice_in value)
parameter_in Another value = Ok says.Another

abbrev pub with_value : List ℕ → Option (List ℕ) → Result Parameter FileKind
with_value name None = Err BadQuote
with_value name (Some value) = parameter_in (parameter_name name) value

abbrev pub with_name : Option (List ℕ × List ℕ) → Result Parameter FileKind
with_name None = Err NoEquals
with_name (Some parts) = with_value (trimmed parts.0) (value_of parts.1)

-- `Name = value`
unfoldable pub parameter_of : List ℕ → Result Parameter FileKind
parameter_of text = with_name (at_byte 61 text)
