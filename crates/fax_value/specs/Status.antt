-- The texts of statuses.
use Rattle.std.specs.Prelude.{ℕ, List, [], codes, Result, Ok, Err, if◌then◌else◌}
use Rattle.std.specs.String.{string_bytes}
use Rattle.fax_value.specs.Value.{is_status}
use Rattle.fax_value.specs.declared.status.StatusText.{StatusText}
use Rattle.fax_value.specs.declared.status.StatusText.TheVariants.{Empty, Killed, KillTimeExpired, TooManyDials, TooManyTries, UnableToTransmit, Given}
use Rattle.fax_value.specs.declared.text_fault.TextFault.{TextFault}
use Rattle.fax_value.specs.declared.text_fault.TextFault.TheVariants.{Bad}

abbrev pub killed : List ℕ
killed = codes "Killed"

abbrev pub kill_time_expired : List ℕ
kill_time_expired = codes "Kill time expired"

abbrev pub too_many_dials : List ℕ
too_many_dials = codes "Too many attempts to dial"

abbrev pub too_many_tries : List ℕ
too_many_tries = codes "Too many attempts to transmit"

abbrev pub unable_to_transmit : List ℕ
unable_to_transmit = codes "Unable to transmit page"

abbrev pub text_of : StatusText → List ℕ
text_of Empty = []
text_of Killed = killed
text_of KillTimeExpired = kill_time_expired
text_of TooManyDials = too_many_dials
text_of TooManyTries = too_many_tries
text_of UnableToTransmit = unable_to_transmit
text_of (Given text) = string_bytes text

abbrev pub status_of : List ℕ → Result (List ℕ) TextFault
status_of text = if is_status text then Ok text else Err Bad
