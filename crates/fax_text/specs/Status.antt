-- The numbers of exit statuses.
use Rattle.std.specs.Prelude.{ℕ}
use Rattle.fax_text.specs.declared.status.Status.{Status}
use Rattle.fax_text.specs.declared.status.Status.TheVariants.{Success, Fault, Usage, Unused, Later}

abbrev pub status_number : Status → ℕ
status_number Success = 0
status_number Fault = 1
status_number Usage = 2
status_number Unused = 3
status_number Later = 4
