-- What stands in an arrival, and who sent it.
use Rattle.std.specs.Prelude.{ℕ, List, ◌∷◌, ◌++◌, Option, Some, None, Result, Ok, Err, if◌then◌else◌}
use Rattle.fax_job.specs.declared.refusal.Refusal.{Refusal}
use Rattle.fax_job.specs.declared.refusal.Refusal.TheVariants.{BadClient, BadNumber}
use Rattle.fax_value.specs.Name.{is_name}
use Rattle.fax_value.specs.Number.{request_number_of}
use Rattle.fax_run.specs.declared.arrival.Arrival.{Arrival}

-- what is kept as said: the path, LF, the body
abbrev pub said_of : Arrival → List ℕ
said_of arrival = arrival.path.now ++ 10 ∷ arrival.body.now

-- the request's number, or the refusal by client or number, whichever is at fault first
abbrev pub digits_of : Option ℕ → Result ℕ Refusal
digits_of None = Err BadNumber
digits_of (Some number) = Ok number

abbrev pub number_of : Arrival → Result ℕ Refusal
number_of arrival = if is_name arrival.client.now then digits_of (request_number_of arrival.number.now) else Err BadClient
