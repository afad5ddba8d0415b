-- Worked rows of turns: what a message says of its moment, and how one turn follows another.
use Rattle.std.proofs.Common.{◌≡◌, refl, subst, sym, ℕ, List, [], ◌∷◌}
use Rattle.std.specs.Prelude.{codes}
use Rattle.httparse.specs.Grammar.{Field, RequestHead, crlf, trim_ows}
use Rattle.fax_ask.specs.Response.{Response}
use Rattle.fax_core.specs.Settings.{Settings}
use Rattle.fax_http.specs.Conversation.{Turn}
use Rattle.fax_run.specs.Run.{Start}
use Rattle.fax_run.specs.Sessions.{IsSession, Nothing, session_of}
use Rattle.fax_run.specs.declared.arrival.Arrival.{Arrival}
use Rattle.fax_desk.specs.Desk.{IsArrival, said_in}
use Rattle.fax_desk.specs.Turns.{AreArrivals, AreTurns, IsTurn, TurnsAreASession}

abbrev field : List ℕ → List ℕ → Field
field name value = record { name = name; raw = value; end = crlf }

-- a message with a moment between two other fields
abbrev timed : RequestHead
timed = record {
  blank = [];
  method = codes "GET";
  target = codes "/jobs";
  minor = 1;
  line_end = crlf;
  fields = field (codes "Fax-Number") (codes "7") ∷ field (codes "Fax-Moment") (codes "1400") ∷ field (codes "Fax-Client") (codes "desk") ∷ [];
  last = crlf;
}

-- it says that moment
said_row : (body : List ℕ) (reply : Response) → said_in (record { head = timed; body = body; reply = reply }) ≡ codes "1400"
unfolding trim_ows
said_row body reply = refl

module _ {C : Type 0} (gives : C → List ℕ → ℕ → C → Type 0) (s : Settings) where
  -- the clock gives the moment of an arrival, by what the message says
  given_row : (start next : Start) (clock later : C) (turn : Turn) → IsTurn gives s start clock turn next later
      → (moment : ℕ) × gives clock (said_in turn) moment later × ((a : Arrival) × IsArrival turn.head turn.body moment a)
  given_row start next clock later turn it = (it.moment, it.given, (it.arrival, it.comes))

  -- the second goes on from the queue and the clock that the first left
  second_row : (start end : Start) (clock : C) (x y : Turn) → AreTurns gives s start clock (x ∷ y ∷ []) end
      → (between : Start) × (then' : C) × IsTurn gives s start clock x between then' × ((later : C) × IsTurn gives s between then' y end later)
  second_row start end clock x y (between, then', first, (last, later, second, is)) =
      (between, then', first, (later, subst (λ e. IsTurn gives s between then' y e later) (sym is) second))

  -- one message is a session of its arrival, with its reply, that was not broken off
  session_row : TurnsAreASession gives → (start end : Start) (clock : C) (x : Turn) → AreTurns gives s start clock (x ∷ []) end
      → (arrivals : List Arrival) × AreArrivals gives clock (x ∷ []) arrivals × IsSession start (session_of s arrivals (x.reply ∷ []) Nothing) end
  session_row law start end clock x turns = law s start end clock (x ∷ []) turns

  -- an arrival is that of its message, at the moment that the clock gave
  arrival_row : (clock : C) (x : Turn) (a : Arrival) → AreArrivals gives clock (x ∷ []) (a ∷ [])
      → (moment : ℕ) × (later : C) × gives clock (said_in x) moment later × IsArrival x.head x.body moment a
  arrival_row clock x a (last, (moment, later, given, its, rest)) = (moment, later, given, its)

  -- the clock goes on from the first message to the second
  moments_row : (clock : C) (x y : Turn) (a b : Arrival) → AreArrivals gives clock (x ∷ y ∷ []) (a ∷ b ∷ [])
      → (one : ℕ) × (between : C) × (two : ℕ) × (last : C) × gives clock (said_in x) one between × gives between (said_in y) two last × IsArrival y.head y.body two b
  moments_row clock x y a b (end, (one, between, first, is, (two, last, second, its, rest))) = (one, between, two, last, first, second, its)

  -- each message has an arrival, and no arrival is without one
  no_arrival_row : (clock : C) (x : Turn) (a : Arrival) → (¬ AreArrivals gives clock (x ∷ []) []) × (¬ AreArrivals gives clock [] (a ∷ []))
  no_arrival_row clock x a = (λ are. are.1, λ are. are.1)
