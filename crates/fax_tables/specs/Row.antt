-- How records stand in rows. A row is its rowid and then its columns, where the column that is the rowid is NULL.
use Rattle.std.specs.Prelude.{◌≡◌, ⊤, ℕ, ◌+◌, ◌<◌, pos, List, [], ◌∷◌, ◌++◌, length, Option, Some, None, unwrap_or, if◌then◌else◌}
use Rattle.sqlite.specs.Order.{Row, column}
use Rattle.sqlite.specs.declared.types.Value.{Value}
use Rattle.sqlite.specs.declared.types.Value.TheVariants.{Null, Int, Text, Blob}
use Rattle.fax_core.specs.Queue.{Queue, Entry}
use Rattle.fax_core.specs.declared.times.Times.{Times}
use Rattle.fax_core.specs.declared.grants.Grant.{Grant}
use Rattle.fax_job.specs.Spelling.{printed}
use Rattle.fax_job.specs.declared.job.JobFields.{JobFields}
use Rattle.fax_job.specs.declared.job.Phase.{Phase}
use Rattle.fax_job.specs.declared.job.Phase.TheVariants.{Held, Waiting, Granted, Done, Failed}
use Rattle.fax_job.specs.declared.job.Wish.{Wish}
use Rattle.fax_job.specs.declared.job.Wish.TheVariants.{Go, Hold as ToHold, Kill}
use Rattle.fax_job.specs.declared.job.Call.{Call}
use Rattle.fax_job.specs.declared.job.Call.TheVariants.{Connected, Busy, NoAnswer, NoCarrier, Other}

abbrev pub number : ℕ → Value
number n = Int (pos n)

-- the row has this value in this place
pub record HasValue (row : Row) (at : ℕ) (value : Value) : Type 0 where
  pub within : at < length row
  pub is : column row at ≡ value

-- the row has this number in this place
abbrev pub HasNumber : Row → ℕ → ℕ → Type 0
HasNumber row at n = HasValue row at (number n)

-- the row has these values, one behind the other, from this place on
abbrev pub HasValues : Row → ℕ → List Value → Type 0
HasValues row at [] = ⊤
HasValues row at (value ∷ values) = HasValue row at value × HasValues row (at + 1) values

abbrev pub phase_number : Phase → ℕ
phase_number Held = 0
phase_number Waiting = 1
phase_number Granted = 2
phase_number Done = 3
phase_number Failed = 4

abbrev pub wish_number : Wish → ℕ
wish_number Go = 0
wish_number ToHold = 1
wish_number Kill = 2

abbrev pub call_number : Option Call → ℕ
call_number None = 0
call_number (Some Connected) = 1
call_number (Some Busy) = 2
call_number (Some NoAnswer) = 3
call_number (Some NoCarrier) = 4
call_number (Some Other) = 5

abbrev pub order_columns : JobFields → Row
order_columns job =
    Text job.dial ∷ Text job.modem ∷ Text job.jobtag ∷ Text job.status ∷ Text (printed job.extra) ∷ number job.tts ∷ number (unwrap_or job.killtime 0) ∷ number job.priority ∷ []

abbrev pub counter_columns : JobFields → Row
counter_columns job =
    number job.npages ∷ number job.totpages ∷ number job.ntries ∷ number job.tottries ∷ number job.maxtries ∷ number job.ndials ∷ number job.totdials ∷ number job.maxdials ∷ []

abbrev pub job_columns : JobFields → Row
job_columns job = order_columns job ++ counter_columns job ++ number (phase_number job.phase) ∷ number (wish_number job.wish) ∷ number job.next ∷ []

abbrev pub job_row : JobFields → Row
job_row job = number job.job ∷ Null ∷ job_columns job

abbrev pub shut_number : Grant → ℕ
shut_number g = if g.is_open then 0 else 1

abbrev pub grant_row : Grant → Row
grant_row g =
    number g.number ∷ Null ∷ number g.job ∷ Text g.modem ∷ number g.first_page ∷ number g.last_page ∷ number (call_number g.call) ∷ number g.confirmed ∷ number (shut_number g) ∷ []

-- the next four are without the rowid, which says nothing
abbrev pub hold_columns : Grant → Row
hold_columns g = Text g.modem ∷ number g.job ∷ number g.number ∷ []

abbrev pub down_columns : List ℕ → Row
down_columns modem = Text modem ∷ []

abbrev pub entry_columns : Entry → Row
entry_columns e = Text e.client ∷ number e.number ∷ Blob e.said ∷ number e.status ∷ Blob e.body ∷ []

-- a number to dial, and how many grants are open to it
abbrev pub call_columns : List ℕ → ℕ → Row
call_columns dial open_calls = Text dial ∷ number open_calls ∷ []

-- a client, and through which number it has given up its replies
abbrev pub floor_columns : List ℕ → ℕ → Row
floor_columns client upto = Text client ∷ number upto ∷ []

-- when a job came in, and when it ended
abbrev pub times_row : Times → Row
times_row x = number x.job ∷ Null ∷ number x.submitted ∷ number x.ended ∷ []

-- the row of a query for them
abbrev pub times_shown : Times → Row
times_shown x = number x.job ∷ number x.submitted ∷ number x.ended ∷ []

-- of the third version
abbrev pub meta_row : Queue → Row
meta_row m = number 1 ∷ Null ∷ number m.clock ∷ number m.next_job ∷ number m.next_grant ∷ number 3 ∷ []

-- a row of meta, as the third version has it
abbrev pub raised : Row → Row
raised row = column row 0 ∷ Null ∷ column row 2 ∷ column row 3 ∷ column row 4 ∷ number 3 ∷ []
