-- What joins traces to the queue's own history: replies as bytes, and sessions of the server.
use Rattle.std.specs.Prelude.{◌≡◌, ◌⊎◌, ⊤, List, [], ◌∷◌, None}
use Rattle.fax_ask.specs.Answer.{Replied as Accepts}
use Rattle.fax_ask.specs.Response.{Response, accepted_response, refused_response}
use Rattle.fax_core.specs.Ledger.{kept_for}
use Rattle.fax_core.specs.Run.{Answer, Replied, Denied}
use Rattle.fax_core.specs.Settings.{Settings}
use Rattle.fax_run.specs.Laws.{AreAccepted}
use Rattle.fax_run.specs.Reading.{IsReading, Post, Posts}
use Rattle.fax_run.specs.Run.{Fed, Start, end_after, under}
use Rattle.fax_run.specs.Sessions.{Follow, Session, WasUnderWay}
use Rattle.fax_run.specs.Verdict.{reply_of, verdict}
use Rattle.fax_run.specs.declared.arrival.Arrival.{Arrival}
use Rattle.fax_worker.specs.Trace.{Event, Handles, Has, answer_to, fed}

-- ---- replies

-- an answer as it is sent
abbrev pub response_of : Answer → Response
response_of (Replied reply) = accepted_response (Accepts reply)
response_of (Denied refusal keys) = refused_response refusal keys

-- after requests that were accepted, the answer to a request is the reply of its verdict, where nothing was kept under its number at the start
abbrev pub AnswersAreReplies : Type 0
AnswersAreReplies = (start : Start) (fs : List Fed) (s : Settings) (p : Post) → AreAccepted start fs → kept_for p.client p.number start.kept.replies ≡ None
    → reply_of (verdict s (end_after start fs).queue (end_after start fs).kept (Posts p)) ≡ response_of (answer_to start fs (under s p))

-- ---- sessions

-- the request is that of an arrival of the session, under its settings
pub record CameIn (x : Session) (s : Settings) (p : Post) : Type 0 where
  pub settings : s ≡ x.settings
  pub arrival : Arrival
  pub posts : IsReading arrival (Posts p)
  pub came : Has arrival x.arrivals ⊎ WasUnderWay arrival x.under_way

-- each event is a request that came in one of the sessions
abbrev pub AreOf : List Session → List Event → Type 0
AreOf sessions [] = ⊤
AreOf sessions (Handles s p ∷ earlier) = ((x : Session) × (Has x sessions × CameIn x s p)) × AreOf sessions earlier
AreOf sessions (other ∷ earlier) = ⊥

-- sessions that follow one another leave what a trace of their requests leaves
abbrev pub SessionsAreTraces : Type 0
SessionsAreTraces = (first last : Start) (sessions : List Session) → Follow first sessions last
    → (trace : List Event) × (AreOf sessions trace × (last ≡ end_after first (fed first trace)))
