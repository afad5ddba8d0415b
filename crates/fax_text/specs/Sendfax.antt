-- The request that sendfax sends, after sendfax(1).
use Rattle.std.specs.Prelude.{ℕ, Bool, true, false, List, [], ◌++◌, codes, length, Option, Some, None, Result, Ok, Err, if◌then◌else◌}
use Rattle.std.specs.Fmt.{decimal}
use Rattle.std.specs.Option.{option_copied, option_map, ok_or}
use Rattle.fax_value.specs.Dial.{is_canonical, without_separators}
use Rattle.fax_value.specs.JobTag.{is_job_tag}
use Rattle.fax_value.specs.Name.{is_name}
use Rattle.fax_value.specs.Number.{request_number_of}
use Rattle.fax_text.specs.Time.{time_in}
use Rattle.fax_text.specs.declared.sendfax.SendFault.{SendFault}
use Rattle.fax_text.specs.declared.sendfax.SendFault.TheVariants.{Destination, At, Kill, Tag, Client, Request, NoMemory}
use Rattle.fax_text.specs.declared.sendfax.SendPlan.{SendPlan}

abbrev pub is_no_memory : SendFault → Bool
is_no_memory NoMemory = true
is_no_memory Destination = false
is_no_memory At = false
is_no_memory Kill = false
is_no_memory Tag = false
is_no_memory Client = false
is_no_memory Request = false

-- the word for a fault
abbrev pub fault_word : SendFault → List ℕ
fault_word Destination = codes "destination"
fault_word At = codes "at"
fault_word Kill = codes "kill"
fault_word Tag = codes "tag"
fault_word Client = codes "client"
fault_word Request = codes "request"
fault_word NoMemory = codes "no-memory"

-- ---- what the options say

-- the canonical number of a destination
unfoldable pub destination_in : List ℕ → Result (List ℕ) SendFault
destination_in text = if is_canonical (without_separators text) then Ok (without_separators text) else Err Destination

-- a time may be missing
unfoldable pub moment_in : SendFault → ℕ → Option (List ℕ) → Result (Option ℕ) SendFault
moment_in fault now None = Ok None
moment_in fault now (Some text) = ok_or (option_map (λ seconds. Some seconds) (time_in now text)) fault

-- a job tag may be missing
unfoldable pub tag_in : Option (List ℕ) → Result (Option (List ℕ)) SendFault
tag_in None = Ok None
tag_in (Some text) = if is_job_tag text then Ok (Some text) else Err Tag

unfoldable pub client_in : List ℕ → Result (List ℕ) SendFault
client_in text = if is_name text then Ok text else Err Client

unfoldable pub number_in : List ℕ → Result ℕ SendFault
number_in text = ok_or (request_number_of text) Request

-- ---- what is sent

-- a key line
abbrev pub key_line : List ℕ → List ℕ → List ℕ
key_line tag value = tag ++ codes ":" ++ value ++ codes "\n"

-- none where there is no value
abbrev pub key_line_of : List ℕ → Option (List ℕ) → List ℕ
key_line_of tag None = []
key_line_of tag (Some value) = key_line tag value

-- the lines that each order has
abbrev pub limit_lines : SendPlan → List ℕ
limit_lines plan =
    key_line (codes "priority") (decimal plan.priority) ++ key_line (codes "totpages") (decimal plan.pages)
    ++ key_line (codes "maxtries") (decimal plan.tries) ++ key_line (codes "maxdials") (decimal plan.dials)

-- the order's key lines, by sendq(5)
abbrev pub body : SendPlan → List ℕ → Option ℕ → Option ℕ → Option (List ℕ) → List ℕ
body plan dial at kill tag =
    key_line (codes "number") dial
    ++ key_line_of (codes "tts") (option_map decimal at)
    ++ key_line_of (codes "killtime") (option_map decimal kill)
    ++ limit_lines plan
    ++ key_line_of (codes "jobtag") tag

-- a submission with these key lines (RFC 9112)
abbrev pub message : List ℕ → ℕ → List ℕ → List ℕ
message client number lines =
    codes "POST /jobs HTTP/1.1\r\nHost: localhost\r\nFax-Client: " ++ client
    ++ codes "\r\nFax-Number: " ++ decimal number
    ++ codes "\r\nContent-Length: " ++ decimal (length lines)
    ++ codes "\r\n\r\n" ++ lines

infixl 10 ◌>>=◌
abbrev pub ◌>>=◌ : {A B : Type 0} → Result A SendFault → (A → Result B SendFault) → Result B SendFault
(Ok value) >>= next = next value
(Err fault) >>= next = Err fault

-- the request, or the first text at fault, in this order
unfoldable pub request_of : SendPlan → ℕ → Result (List ℕ) SendFault
request_of plan now = do
  dial ← destination_in plan.destination.now
  at ← moment_in At now (option_copied plan.at)
  kill ← moment_in Kill now (option_copied plan.kill)
  tag ← tag_in (option_copied plan.tag)
  client ← client_in plan.client.now
  number ← number_in plan.request.now
  Ok (message client number (body plan dial at kill tag))
