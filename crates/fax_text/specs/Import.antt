-- The requests that import prints.
use Rattle.std.specs.Prelude.{ℕ, ◌+◌, List, [], ◌∷◌, ◌++◌, codes, length, nat_le, Option, Some, None, Result, Ok, Err, if◌then◌else◌}
use Rattle.std.specs.Fmt.{decimal}
use Rattle.fax_value.specs.Name.{is_name}
use Rattle.fax_value.specs.Number.{request_number_of}
use Rattle.fax_text.specs.declared.import.ImportFault.{ImportFault}
use Rattle.fax_text.specs.declared.import.ImportFault.TheVariants.{Client, Request}
use Rattle.fax_text.specs.declared.import_words.ImportPlan.{ImportPlan}

-- the word for a fault
abbrev pub fault_word : ImportFault → List ℕ
fault_word Client = codes "client"
fault_word Request = codes "request"

-- the greatest number of a request: 18 digits
abbrev pub last_request : ℕ
last_request = 999999999999999999

-- so many numbers from the first on, of which none is over the greatest
abbrev pub numbers_from : Option ℕ → ℕ → Result ℕ ImportFault
numbers_from None many = Err Request
numbers_from (Some first) many = if nat_le (first + many) (last_request + 1) then Ok first else Err Request

-- the number of the first request, where the client has a name and each file a number; else the first fault
unfoldable pub first_number : ImportPlan → Result ℕ ImportFault
first_number plan = if is_name plan.client.now then numbers_from (request_number_of plan.request.now) (length plan.files.items) else Err Client

-- an import with this body (RFC 9112)
abbrev pub import_message : List ℕ → ℕ → List ℕ → List ℕ
import_message client number body =
    codes "POST /imports HTTP/1.1\r\nHost: localhost\r\nFax-Client: " ++ client
    ++ codes "\r\nFax-Number: " ++ decimal number
    ++ codes "\r\nContent-Length: " ++ decimal (length body)
    ++ codes "\r\n\r\n" ++ body

-- the imports of these bodies, one after the other, each with the next number
abbrev pub import_messages : List ℕ → ℕ → List (List ℕ) → List ℕ
import_messages client number [] = []
import_messages client number (body ∷ bodies) = import_message client number body ++ import_messages client (number + 1) bodies
