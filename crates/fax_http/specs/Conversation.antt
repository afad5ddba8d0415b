-- A conversation: a stream of bytes as messages, and the bytes of their replies.
use Rattle.std.specs.Prelude.{◌≡◌, ℕ, ◌<◌, ◌≤◌, List, [], ◌∷◌, ◌++◌, length, Bool, true, false, not, codes, if◌then◌else◌}
use Rattle.std.specs.List.{AllByRecursion, flat_map}
use Rattle.std.specs.Str.{bytes_eq}
use Rattle.fax_job.specs.declared.refusal.Refusal.TheVariants as refusal
use Rattle.httparse.specs.Grammar.{RequestHead}
use Rattle.fax_http.specs.declared.message.Broken.{Broken}
use Rattle.fax_http.specs.declared.message.Broken.TheVariants.{BadHttp, TooLarge}
use Rattle.fax_http.specs.Message.{BeginsWith, IsBad, IsTooLarge, is_last}
use Rattle.fax_http.specs.Reply.{head_bytes}
use Rattle.fax_ask.specs.Response.{Response, refused_response}
use Rattle.fax_core.specs.Reply.{NoKeys}

-- ---- messages

-- a message and its reply
pub record Turn : Type 0 where
  pub head : RequestHead
  pub body : List ℕ
  pub reply : Response

-- the bytes are the messages of the turns, one after the other, and then the rest
abbrev pub Reads : List ℕ → List Turn → List ℕ → Type 0
Reads input [] rest = input ≡ rest
Reads input (turn ∷ turns) rest =
    (next : List ℕ) × BeginsWith input turn.head turn.body next × Reads next turns rest

-- another message may follow each of them
abbrev pub GoOn : List Turn → Type 0
GoOn turns = AllByRecursion (λ turn. is_last turn.head ≡ false) turns

-- a message that none follows ends them, and no earlier one did
pub record EndWithLast (turns : List Turn) : Type 0 where
  pub earlier : List Turn
  pub last : Turn
  pub parts : turns ≡ earlier ++ last ∷ []
  pub going : GoOn earlier
  pub is_last : is_last last.head ≡ true

-- why the rest begins no message
abbrev pub Fails : List ℕ → Broken → Type 0
Fails rest BadHttp = IsBad rest
Fails rest TooLarge = IsTooLarge rest

-- what comes first behind the messages: the bound on their number, a message that none follows, the end of the input, or bytes that begin none
pub data Stop : Type 0 where
  AtBound : Stop
  AtLast : Stop
  AtEnd : Stop
  AtFailure : (broken : Broken) → Stop

abbrev pub StopsBy : ℕ → List Turn → List ℕ → Stop → Type 0
StopsBy bound turns rest AtBound = GoOn turns × (length turns ≡ bound)
StopsBy bound turns rest AtLast = EndWithLast turns
StopsBy bound turns rest AtEnd = GoOn turns × (length turns < bound) × (rest ≡ [])
StopsBy bound turns rest (AtFailure broken) = GoOn turns × (length turns < bound) × (0 < length rest) × Fails rest broken

-- a whole input is the messages of these turns, up to where it stops
pub record Divides (bound : ℕ) (input : List ℕ) (turns : List Turn) (stop : Stop) : Type 0 where
  pub rest : List ℕ
  pub reads : Reads input turns rest
  pub within : length turns ≤ bound
  pub stops : StopsBy bound turns rest stop

-- ---- replies

-- the reply to a HEAD message lacks its body (RFC 9110, section 9.3.2)
abbrev pub wants_body : RequestHead → Bool
wants_body head = not (bytes_eq head.method (codes "HEAD"))

-- the bytes of a reply, which has its body or not, and is the last one or not
abbrev pub spelled : Response → Bool → Bool → List ℕ
spelled reply has_body is_last =
    head_bytes reply.status reply.is_json (length reply.body) is_last ++ (if has_body then reply.body else [])

-- the bytes of the reply of a turn
abbrev pub spelled_turn : Turn → List ℕ
spelled_turn turn = spelled turn.reply (wants_body turn.head) (is_last turn.head)

-- the replies in order
abbrev pub spelled_turns : List Turn → List ℕ
spelled_turns turns = flat_map spelled_turn turns

-- the bytes of the last reply, to a rest that begins no message
abbrev pub failure_of : Broken → List ℕ
failure_of BadHttp = spelled (refused_response refusal.BadHttp NoKeys) true true
failure_of TooLarge = spelled (refused_response refusal.TooLarge NoKeys) true true

-- and what is written behind the replies where the messages stop
abbrev pub spelled_stop : Stop → List ℕ
spelled_stop AtBound = []
spelled_stop AtLast = []
spelled_stop AtEnd = []
spelled_stop (AtFailure broken) = failure_of broken
