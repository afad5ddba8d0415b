-- What is proved of the definitions.
use Rattle.std.specs.Prelude.{◌≡◌, ◌⊎◌, ℕ, List, false, Some}
use Rattle.fax_job.specs.declared.refusal.BodyFault.{BodyFault}
use Rattle.fax_job.specs.declared.refusal.Refusal.{Refusal}
use Rattle.fax_job.specs.declared.refusal.Refusal.TheVariants.{BadBody, Unavailable}
use Rattle.fax_lines.specs.Spells.{has_byte}
use Rattle.fax_core.specs.Reply.{Keys}
use Rattle.fax_ask.specs.declared.method.Method.{Method}
use Rattle.fax_ask.specs.declared.request.Request.{Request}
use Rattle.fax_ask.specs.Answer.{Told}
use Rattle.fax_ask.specs.Ask.{Asks, IsAsk, IsBodyRefusal, IsRefused}
use Rattle.fax_ask.specs.declared.ask.Ask.{Ask}
use Rattle.fax_ask.specs.Request.{request_of}
use Rattle.fax_ask.specs.Response.{accepted_response, refused_response}

-- a path that names a request has no LF
abbrev pub RoutedPathsLackLf : Type 0
RoutedPathsLackLf = (method : Method) (path : List ℕ) (request : Request) → request_of method path ≡ Some request → has_byte 10 path ≡ false

-- a method, a path and a body ask for one thing
abbrev pub OneAsk : Type 0
OneAsk = (method : Method) (path body : List ℕ) (a b : Ask) → IsAsk method path body a → IsAsk method path body b → a ≡ b

-- what asks for something is refused for want of memory alone
abbrev pub AskOrRefusal : Type 0
AskOrRefusal = (method : Method) (path body : List ℕ) (ask : Ask) (refusal : Refusal) → IsAsk method path body ask → IsRefused method path body refusal → refusal ≡ Unavailable

-- a body has one fault at most
abbrev pub OneFault : Type 0
OneFault = (method : Method) (path body : List ℕ) (f g : BodyFault) → IsRefused method path body (BadBody f) → IsRefused method path body (BadBody g) → f ≡ g

-- a request with this body asks for something, or the body has a fault
abbrev pub AsksOrHasFault : List ℕ → Type 0
AsksOrHasFault body = (request : Request) → ((ask : Ask) × Asks request body ask) ⊎ ((fault : BodyFault) × IsBodyRefusal request body (BadBody fault))

-- an accepted request is answered with 200 or 201
abbrev pub AcceptedAre200Or201 : Type 0
AcceptedAre200Or201 = (told : Told) → ((accepted_response told).status ≡ 200) ⊎ ((accepted_response told).status ≡ 201)

-- a refused request is answered with 503 for want of memory or of the store alone
abbrev pub OnlyUnavailableIs503 : Type 0
OnlyUnavailableIs503 = (refusal : Refusal) (keys : Keys) → (refused_response refusal keys).status ≡ 503 → refusal ≡ Unavailable
