-- One turn of a stream: a message in, a reply out.
use Rattle.std.specs.Prelude.{◌≡◌, ◌⊎◌, ℕ, ◌<◌, Bool, true, false, List, length}
use Rattle.httparse.specs.Grammar.{RequestHead}
use Rattle.fax_ask.specs.Response.{Response}
use Rattle.fax_http.specs.declared.message.Broken.{Broken}
use Rattle.fax_http.specs.declared.message.Broken.TheVariants.{BadHttp, TooLarge}
use Rattle.fax_http.specs.declared.turn.Found.{Found}
use Rattle.fax_http.specs.declared.turn.Found.TheVariants.{Answered, Last, Refused, NotYet}
use Rattle.fax_http.specs.Conversation.{Turn, failure_of, spelled_turn}
use Rattle.fax_http.specs.Message.{BeginsWith, IsTooLarge, IsUnfinished, StaysBad, is_last}
use Rattle.fax_http.specs.Serving.{Answering}

-- no message begins the bytes, whatever follows
abbrev pub NeverBegins : List ℕ → Broken → Type 0
NeverBegins bytes BadHttp = StaysBad bytes
NeverBegins bytes TooLarge = IsTooLarge bytes

module _ {H : Type 0} (answers : Answering H) (over : H → Bool) (old new : H) where
  -- a message with that head and body was handed over, and these are the bytes of its reply
  abbrev pub HandsOver : RequestHead → List ℕ → Found → Type 0
  HandsOver head body (Answered bytes) =
      (reply : Response) × answers old head body reply new × (bytes ≡ spelled_turn (record { head = head; body = body; reply = reply }))
      × (is_last head ≡ false) × (over new ≡ false)
  HandsOver head body (Last bytes) =
      (reply : Response) × answers old head body reply new × (bytes ≡ spelled_turn (record { head = head; body = body; reply = reply }))
      × ((is_last head ≡ true) ⊎ (over new ≡ true))
  HandsOver head body (Refused bytes) = ⊥
  HandsOver head body NotYet = ⊥

  module _ (before after : List ℕ) where
    -- A message began the bytes, and was answered; what stands behind it stays. These are the bytes of its reply.
    pub record HasAnswered (bytes : List ℕ) : Type 0 where
      pub turn : Turn
      pub begins : BeginsWith before turn.head turn.body after
      pub step : answers old turn.head turn.body turn.reply new
      pub spelled : bytes ≡ spelled_turn turn

    -- nothing was handed over, and the bytes stay
    pub record Stays : Type 0 where
      pub same_handler : new ≡ old
      pub same_bytes : after ≡ before

    -- no message can begin the bytes, and these are the bytes of the refusal
    pub record HasRefused (bytes : List ℕ) : Type 0 where
      pub stays : Stays
      pub broken : Broken
      pub some : 0 < length before
      pub never : NeverBegins before broken
      pub spelled : bytes ≡ failure_of broken

    -- what came of looking for a message
    abbrev pub Finds : Found → Type 0
    Finds (Answered bytes) = (it : HasAnswered bytes) × (is_last it.turn.head ≡ false) × (over new ≡ false)
    Finds (Last bytes) = (it : HasAnswered bytes) × ((is_last it.turn.head ≡ true) ⊎ (over new ≡ true))
    Finds (Refused bytes) = HasRefused bytes
    Finds NotYet = Stays × IsUnfinished before
