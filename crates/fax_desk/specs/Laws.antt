-- What is proved of the definitions.
use Rattle.std.specs.Prelude.{◌≡◌, ℕ, List, [], ◌∷◌, ⊤}
use Rattle.fax_job.specs.declared.refusal.Refusal.TheVariants.{Unavailable}
use Rattle.fax_ask.specs.Response.{refused_response}
use Rattle.fax_core.specs.Reply.{NoKeys}
use Rattle.fax_decide.specs.declared.office.Office.{Office}
use Rattle.fax_http.specs.Conversation.{Divides, Stop, Turn}
use Rattle.fax_desk.specs.Replaying.{AreOfEmptyQueue, settings_in}

-- no reply says that memory or the store gave out
abbrev pub NoneGaveOut : List Turn → Type 0
NoneGaveOut [] = ⊤
NoneGaveOut (turn ∷ turns) = ¬ (turn.reply ≡ refused_response Unavailable NoKeys) × NoneGaveOut turns

-- from the empty queue, and by offices of the same settings, a whole input is answered in one way at most and stops in one, where nothing gave out
abbrev pub OneReplay : Type 0
OneReplay = (office other : Office) (bound : ℕ) (input : List ℕ) (turns others : List Turn) (stop another : Stop) → settings_in office ≡ settings_in other
    → Divides bound input turns stop → Divides bound input others another → AreOfEmptyQueue office turns → AreOfEmptyQueue other others
    → NoneGaveOut turns → NoneGaveOut others → (turns ≡ others) × (stop ≡ another)
