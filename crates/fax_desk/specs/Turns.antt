-- Messages that the queue answers one after the other, each at the moment that a clock gives. They are a session.
use Rattle.std.specs.Prelude.{◌≡◌, ◌⊎◌, ℕ, List, [], ◌∷◌}
use Rattle.sqlite.specs.State.{State}
use Rattle.fax_job.specs.declared.refusal.Refusal.TheVariants.{Unavailable}
use Rattle.fax_ask.specs.Response.{refused_response}
use Rattle.fax_core.specs.Reply.{NoKeys}
use Rattle.fax_core.specs.Settings.{Settings}
use Rattle.fax_core.specs.Sound.{Sound}
use Rattle.fax_http.specs.Conversation.{Turn}
use Rattle.fax_run.specs.Laws.{left_of}
use Rattle.fax_run.specs.Run.{Start}
use Rattle.fax_run.specs.Sessions.{IsSession, Nothing, session_of}
use Rattle.fax_once.specs.Ran.{RunsAsSession}
use Rattle.fax_run.specs.Verdict.{Verdict, IsVerdict, reply_of}
use Rattle.fax_run.specs.declared.arrival.Arrival.{Arrival}
use Rattle.fax_desk.specs.Desk.{Arrive, IsArrival, replies_of, said_in}

-- these are the arrivals of messages, each at the moment that the clock gave then
abbrev pub AreArrivals : {C : Type 0} → (C → List ℕ → ℕ → C → Type 0) → C → List Turn → List Arrival → Type 0
AreArrivals {C} gives clock turns arrivals = (later : C) × Arrive gives clock turns arrivals later

module _ {C : Type 0} (gives : C → List ℕ → ℕ → C → Type 0) (settings : Settings) where
  -- A message is answered as an arrival at the moment that the clock gives: by its verdict, which leads on; or memory or the store gave out, and nothing changes.
  pub record IsTurn (start : Start) (clock : C) (turn : Turn) (next : Start) (later : C) : Type 0 where
    pub moment : ℕ
    pub given : gives clock (said_in turn) moment later
    pub arrival : Arrival
    pub comes : IsArrival turn.head turn.body moment arrival
    pub answered :
        ((v : Verdict) × IsVerdict settings arrival start.queue start.kept v × (turn.reply ≡ reply_of v) × (next ≡ left_of start v))
        ⊎ ((turn.reply ≡ refused_response Unavailable NoKeys) × (next ≡ start))

  -- the messages are answered one after the other, and this is what they leave
  abbrev pub AreTurns : Start → C → List Turn → Start → Type 0
  AreTurns start clock [] end = end ≡ start
  AreTurns start clock (turn ∷ turns) end = (next : Start) × (later : C) × IsTurn start clock turn next later × AreTurns next later turns end

-- such messages are a session: their arrivals, with their replies
abbrev pub TurnsAreASession : {C : Type 0} → (C → List ℕ → ℕ → C → Type 0) → Type 0
TurnsAreASession {C} gives = (settings : Settings) (start end : Start) (clock : C) (turns : List Turn) → AreTurns gives settings start clock turns end
    → (arrivals : List Arrival) × AreArrivals gives clock turns arrivals × IsSession start (session_of settings arrivals (replies_of turns) Nothing) end

-- The messages were answered from this start on, and are a session, also where it was broken off. The tables mean the sound queue that it leads to.
pub record AreServed {C : Type 0} (gives : C → List ℕ → ℕ → C → Type 0) (settings : Settings) (start : Start) (clock : C) (turns : List Turn) (old new : State) : Type 0 where
  pub arrivals : List Arrival
  pub are : AreArrivals gives clock turns arrivals
  pub session : RunsAsSession settings start arrivals (replies_of turns) old new
  pub answered : AreTurns gives settings start clock turns session.left
  pub sound : Sound session.left.queue
