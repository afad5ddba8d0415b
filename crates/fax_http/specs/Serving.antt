-- What it is to serve a stream: its messages are answered one after the other, and their replies are written in order.
use Rattle.std.specs.Prelude.{◌≡◌, ◌⊎◌, ℕ, ◌<◌, ◌≤◌, Bool, true, false, List, [], ◌∷◌, ◌++◌, length, Option}
use Rattle.std.specs.Io.KnownBytes.{IsAtEnd}
use Rattle.std.specs.List.{flat_map}
use Rattle.httparse.specs.Grammar.{RequestHead}
use Rattle.fax_ask.specs.Response.{Response}
use Rattle.fax_http.specs.declared.device.Watched.{Watched}
use Rattle.fax_http.specs.declared.message.Broken.{Broken}
use Rattle.fax_http.specs.declared.message.Broken.TheVariants.{BadHttp, TooLarge}
use Rattle.fax_http.specs.declared.serving.End.{End}
use Rattle.fax_http.specs.declared.serving.End.TheVariants.{Closed, Bad, Bound, ReadFailed, WriteFailed, NoMemory}
use Rattle.fax_http.specs.declared.serving.Served.{Served}
use Rattle.fax_http.specs.Conversation.{EndWithLast, GoOn, Reads, Turn, failure_of, spelled_turn, spelled_turns}
use Rattle.fax_http.specs.Device.{Put, Took}
use Rattle.fax_http.specs.Message.{IsTooLarge, IsBad, IsUnfinished, StaysBad}

-- what a message and its reply may make of a state
abbrev pub Answering : Type 0 → Type 1
Answering H = H → RequestHead → List ℕ → Response → H → Type 0

-- what some messages and their replies may make of it that are answered together
abbrev pub Joining : Type 0 → Type 1
Joining H = H → List Turn → H → Type 0

-- what may come of messages: of one by itself, and of some that are answered together
pub record Replying (H : Type 0) : Type 1 where
  pub one : Answering H
  pub together : Joining H

abbrev pub replying : {H : Type 0} → Answering H → Joining H → Replying H
replying one together = record { one = one; together = together }

-- one message is answered, or some together
abbrev pub AnswersPart : {H : Type 0} → Replying H → H → List Turn → H → Type 0
AnswersPart answers old part new =
    ((turn : Turn) × (part ≡ turn ∷ []) × answers.one old turn.head turn.body turn.reply new) ⊎ answers.together old part new

-- these come of one state after the other
abbrev pub AnswersParts : {H : Type 0} → Replying H → H → List (List Turn) → H → Type 0
AnswersParts answers old [] new = new ≡ old
AnswersParts {H} answers old (part ∷ parts) new = (next : H) × AnswersPart answers old part next × AnswersParts answers next parts new

-- so do the replies of these turns, each by itself or some together
pub record AnswersInParts {H : Type 0} (answers : Replying H) (old : H) (turns : List Turn) (new : H) : Type 0 where
  pub parts : List (List Turn)
  pub are : turns ≡ flat_map (λ (part : List Turn). part) parts
  pub answered : AnswersParts answers old parts new

-- the replies of the turns come of one state after the other
abbrev pub Answers : {H : Type 0} → Answering H → H → List Turn → H → Type 0
Answers answers old [] new = new ≡ old
Answers {H} answers old (turn ∷ turns) new =
    (next : H) × answers old turn.head turn.body turn.reply next × Answers answers next turns new

-- no message begins the rest: whatever follows, or since nothing does
abbrev pub FailsHere : List ℕ → Option (List ℕ) → Broken → Type 0
FailsHere rest unread BadHttp = StaysBad rest ⊎ (IsBad rest × IsAtEnd unread)
FailsHere rest unread TooLarge = IsTooLarge rest

-- a rest that begins no message, for this reason
pub record IsRefused (bound : ℕ) (turns : List Turn) (rest : List ℕ) (unread : Option (List ℕ)) (broken : Broken) : Type 0 where
  pub going : GoOn turns
  pub below : length turns < bound
  pub some : 0 < length rest
  pub fails : FailsHere rest unread broken

-- a message is looked for, and isn't there to its end
pub record IsAwaited (bound : ℕ) (turns : List Turn) (rest : List ℕ) : Type 0 where
  pub going : GoOn turns
  pub below : length turns < bound
  pub unfinished : IsUnfinished rest

-- who answers is over behind the last of them, and no earlier one was the last
pub record EndOver (turns : List Turn) (over : Bool) : Type 0 where
  pub earlier : List Turn
  pub last : Turn
  pub parts : turns ≡ earlier ++ last ∷ []
  pub going : GoOn earlier
  pub over_is : over ≡ true

-- the messages are all there are: the input has ended, the last of them says so, or who answers is over
abbrev pub AreAll : ℕ → List Turn → List ℕ → Option (List ℕ) → Bool → Type 0
AreAll bound turns rest unread over = (GoOn turns × (length turns < bound) × (rest ≡ []) × IsAtEnd unread) ⊎ (EndWithLast turns ⊎ EndOver turns over)

module _ {W : Type 0} (contents : W → Option (List ℕ)) (old new : Watched W) where
  -- the front was written, and of the other bytes not all, and then the writer failed
  pub record FailedBehind (front bytes : List ℕ) : Type 0 where
    pub part : List ℕ
    pub left : List ℕ
    pub parts : bytes ≡ part ++ left
    pub some : 0 < length left
    pub put : Put contents old new (front ++ part) true

  -- the earlier replies were written, and the writer failed in the last
  pub record FailedInReply (turns : List Turn) : Type 0 where
    pub earlier : List Turn
    pub last : Turn
    pub parts : turns ≡ earlier ++ last ∷ []
    pub going : GoOn earlier
    pub failed : FailedBehind (spelled_turns earlier) (spelled_turn last)

  -- What was written, by the end: all replies, or those and the refusal of the rest, or what comes before the writer failed.
  abbrev pub EndsBy : ℕ → List Turn → List ℕ → Option (List ℕ) → Bool → End → Type 0
  EndsBy bound turns rest unread over Closed = AreAll bound turns rest unread over × Put contents old new (spelled_turns turns) false
  EndsBy bound turns rest unread over Bound = GoOn turns × (length turns ≡ bound) × Put contents old new (spelled_turns turns) false
  EndsBy bound turns rest unread over Bad =
      (broken : Broken) × IsRefused bound turns rest unread broken × Put contents old new (spelled_turns turns ++ failure_of broken) false
  EndsBy bound turns rest unread over ReadFailed = IsAwaited bound turns rest × Put contents old new (spelled_turns turns) false
  EndsBy bound turns rest unread over (WriteFailed sent) =
      (sent ≡ new.passed)
      × (FailedInReply turns
      ⊎ ((broken : Broken) × IsRefused bound turns rest unread broken × FailedBehind (spelled_turns turns) (failure_of broken)))
  EndsBy bound turns rest unread over NoMemory = (turns ≡ []) × (rest ≡ []) × (new ≡ old)

-- only this end says that the reader failed
abbrev pub failed_to_read : End → Bool
failed_to_read ReadFailed = true
failed_to_read other = false

-- The bytes that were read are messages and a rest. Each message was answered in turn, and it ended by these rules.
pub record ServesOne {R W H : Type 0} (remaining : R → Option (List ℕ)) (contents : W → Option (List ℕ)) (answers : Answering H) (over : H → Bool) (bound : ℕ)
    (reader reader₂ : Watched R) (writer writer₂ : Watched W) (old new : H) (served : Served) : Type 0 where
  pub taken : List ℕ
  pub turns : List Turn
  pub rest : List ℕ
  pub took : Took remaining reader reader₂ taken (failed_to_read served.end)
  pub reads : Reads taken turns rest
  pub answered : Answers answers old turns new
  pub handed : served.messages ≡ length turns
  pub within : length turns ≤ bound
  pub ends : EndsBy contents writer writer₂ bound turns rest (remaining reader₂.device) (over new) served.end
