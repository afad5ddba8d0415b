-- One message that is looked for, and its reply.
use Rattle.std.specs.Prelude.{◌≡◌, ◌⊎◌, ℕ, ◌<◌, Bool, true, false, List, [], ◌++◌, length, Option}
use Rattle.std.specs.Io.KnownBytes.{IsAtEnd}
use Rattle.fax_http.specs.declared.device.Watched.{Watched}
use Rattle.fax_http.specs.declared.exchange.Exchange.{Exchange}
use Rattle.fax_http.specs.declared.exchange.Exchange.TheVariants.{Answered, Last, Missing}
use Rattle.fax_http.specs.declared.message.Broken.{Broken}
use Rattle.fax_http.specs.declared.serving.End.{End}
use Rattle.fax_http.specs.declared.serving.End.TheVariants.{Closed, Bad, Bound, ReadFailed, WriteFailed, NoMemory}
use Rattle.fax_http.specs.Conversation.{Turn, failure_of, spelled_turn}
use Rattle.fax_http.specs.Device.{BrokeOff, Put, Took}
use Rattle.fax_http.specs.Message.{BeginsWith, IsUnfinished, is_last}
use Rattle.fax_http.specs.Serving.{Answering, FailsHere}

module _ {W : Type 0} (contents : W → Option (List ℕ)) (writer writer₂ : Watched W) where
  -- the bytes were written, and this is the end; or the writer failed in them
  abbrev pub WritesTo : List ℕ → End → End → Type 0
  WritesTo bytes end (WriteFailed sent) = BrokeOff contents writer writer₂ bytes × (sent ≡ writer₂.passed)
  WritesTo bytes end other = Put contents writer writer₂ bytes false × (other ≡ end)

  -- The reply of a turn was written, and another message may follow; or none does, by the message or since who answers is over. Or the writer failed in it.
  abbrev pub Replies : Bool → Turn → Exchange → Type 0
  Replies over turn Answered = Put contents writer writer₂ (spelled_turn turn) false × (is_last turn.head ≡ false) × (over ≡ false)
  Replies over turn (Last Closed) = Put contents writer writer₂ (spelled_turn turn) false × ((is_last turn.head ≡ true) ⊎ (over ≡ true))
  Replies over turn (Last (WriteFailed sent)) = BrokeOff contents writer writer₂ (spelled_turn turn) × (sent ≡ writer₂.passed)
  Replies over turn (Last Bad) = ⊥
  Replies over turn (Last Bound) = ⊥
  Replies over turn (Last ReadFailed) = ⊥
  Replies over turn (Last NoMemory) = ⊥
  Replies over turn (Missing end) = ⊥

  -- These bytes were written as the reply to a message, which is the last one or not. Or the writer failed in them.
  abbrev pub RepliesTo : List ℕ → Bool → Exchange → Type 0
  RepliesTo bytes last Answered = Put contents writer writer₂ bytes false × (last ≡ false)
  RepliesTo bytes last (Last Closed) = Put contents writer writer₂ bytes false × (last ≡ true)
  RepliesTo bytes last (Last (WriteFailed sent)) = BrokeOff contents writer writer₂ bytes × (sent ≡ writer₂.passed)
  RepliesTo bytes last (Last Bad) = ⊥
  RepliesTo bytes last (Last Bound) = ⊥
  RepliesTo bytes last (Last ReadFailed) = ⊥
  RepliesTo bytes last (Last NoMemory) = ⊥
  RepliesTo bytes last (Missing end) = ⊥

module _ {R W H : Type 0} (remaining : R → Option (List ℕ)) (contents : W → Option (List ℕ)) (answers : Answering H) (over : H → Bool)
    (reader reader₂ : Watched R) (writer writer₂ : Watched W) (old new : H) (before after : List ℕ) where
  -- bytes were read, and stand behind those that were there
  abbrev pub HasRead : Bool → Type 0
  HasRead failed = (more : List ℕ) × Took remaining reader reader₂ more failed × (after ≡ before ++ more)

  -- There is no message: the input ended where one would begin, or the reader failed, or what was read begins none, which was answered.
  abbrev pub IsMissing : End → Type 0
  IsMissing Closed = HasRead false × (after ≡ []) × IsAtEnd (remaining reader₂.device) × (writer₂ ≡ writer)
  IsMissing ReadFailed = HasRead true × IsUnfinished after × (writer₂ ≡ writer)
  IsMissing end =
      HasRead false × (0 < length after)
      × (broken : Broken) × FailsHere after (remaining reader₂.device) broken × WritesTo contents writer writer₂ (failure_of broken) Bad end

  -- a message was read, handed over and answered
  pub record HasTurned (exchange : Exchange) : Type 0 where
    pub turn : Turn
    pub more : List ℕ
    pub took : Took remaining reader reader₂ more false
    pub begins : BeginsWith (before ++ more) turn.head turn.body after
    pub step : answers old turn.head turn.body turn.reply new
    pub replies : Replies contents writer writer₂ (over new) turn exchange

  abbrev pub Exchanges : Exchange → Type 0
  Exchanges (Missing end) = (new ≡ old) × IsMissing end
  Exchanges exchange = HasTurned exchange
