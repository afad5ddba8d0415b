-- What is proved of the definitions. Each is the contract of a function in `src/laws.rt`.
use Rattle.std.specs.Prelude.{◌≡◌, ℕ, Bool, List, ◌++◌, map, Option, Some, false}
use Rattle.std.specs.Io.KnownBytes.{Appends}
use Rattle.httparse.specs.Grammar.{RequestHead}
use Rattle.fax_http.specs.declared.device.Watched.{Watched}
use Rattle.fax_http.specs.declared.serving.End.{End}
use Rattle.fax_http.specs.declared.serving.End.TheVariants.{Bad, Bound, Closed, NoMemory}
use Rattle.fax_http.specs.declared.serving.Served.{Served}
use Rattle.fax_http.specs.Conversation.{Divides, Stop, AtBound, AtEnd, AtFailure, AtLast, Turn, spelled_stop, spelled_turns}
use Rattle.fax_http.specs.Message.{BeginsWith}
use Rattle.fax_http.specs.Serving.{Answering, ServesOne}

-- one message at most begins the bytes
abbrev pub OneMessage : Type 0
OneMessage = (input : List ℕ) (head other : RequestHead) (body another rest more : List ℕ)
    → BeginsWith input head body rest → BeginsWith input other another more → (head ≡ other) × (body ≡ another) × (rest ≡ more)

-- the message of a turn
abbrev pub message_of : Turn → RequestHead × List ℕ
message_of turn = (turn.head, turn.body)

-- an input is divided in one way at most, and stops in one way
abbrev pub OneDivision : Type 0
OneDivision = (bound : ℕ) (input : List ℕ) (turns others : List Turn) (stop another : Stop)
    → Divides bound input turns stop → Divides bound input others another → (map message_of turns ≡ map message_of others) × (stop ≡ another)

-- how serving ends where the messages stop
abbrev pub end_of : Stop → End
end_of AtBound = Bound
end_of AtLast = Closed
end_of AtEnd = Closed
end_of (AtFailure broken) = Bad

-- The input is divided as a whole, however it came in pieces: its messages were handed over, and the replies were written, with the refusal of what begins no message.
pub record ServesWhole (bound : ℕ) (input : List ℕ) (before after : Option (List ℕ)) (turns : List Turn) (end : End) : Type 0 where
  pub stop : Stop
  pub divides : Divides bound input turns stop
  pub wrote : Appends before after (spelled_turns turns ++ spelled_stop stop)
  pub ends : end ≡ end_of stop

-- where neither the reader nor the writer failed, who answers isn't over, and there was memory for the buffer, the whole input was served
abbrev pub ServesWholeInputs : {R W H : Type 0} → (R → Option (List ℕ)) → (W → Option (List ℕ)) → Answering H → (H → Bool) → Type 0
ServesWholeInputs {R} {W} {H} remaining contents answers over =
    (bound : ℕ) (input : List ℕ) (reader reader₂ : Watched R) (writer writer₂ : Watched W) (old new : H) (served : Served)
    → (s : ServesOne remaining contents answers over bound reader reader₂ writer writer₂ old new served)
    → remaining reader.device ≡ Some input → reader₂.failed ≡ false → writer₂.failed ≡ false → over new ≡ false → ¬ (served.end ≡ NoMemory)
    → ServesWhole bound input (contents writer.device) (contents writer₂.device) s.turns served.end
