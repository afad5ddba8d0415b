-- What comes of an arrival: what is answered to it, and what it makes of the queue and of the kept replies.
use Rattle.std.specs.Prelude.{◌≡◌, ℕ, Bool, false, not, nat_lt, List, Option, Some, None, if◌then◌else◌}
use Rattle.std.specs.Str.{bytes_eq}
use Rattle.fax_job.specs.declared.refusal.Refusal.{Refusal}
use Rattle.fax_job.specs.declared.refusal.Refusal.TheVariants.{FloorHigh, GivenUp, NumberReused}
use Rattle.fax_ask.specs.Answer.{Replied}
use Rattle.fax_ask.specs.Response.{Response, accepted_response, kept_response, refused_response}
use Rattle.fax_core.specs.declared.ask.Ask.{Ask}
use Rattle.fax_core.specs.declared.ask.Ask.TheVariants.{GiveUp}
use Rattle.fax_core.specs.Clock.{decided_at}
use Rattle.fax_core.specs.Ledger.{Ledger, given_up, greater, with_reply, kept_for, entry}
use Rattle.fax_core.specs.Queue.{Queue, Entry}
use Rattle.fax_core.specs.Reply.{NoKeys, Step, Taken, Refused}
use Rattle.fax_core.specs.Run.{decided}
use Rattle.fax_core.specs.Settings.{Settings}
use Rattle.fax_run.specs.View.{view}
use Rattle.fax_run.specs.Reading.{Post, Reading, Faulty, Sees, Posts, IsReading}
use Rattle.fax_run.specs.declared.arrival.Arrival.{Arrival}

pub data Verdict : Type 0 where
  -- a refusal or a view: nothing changes
  Told : (reply : Response) → Verdict
  -- the kept reply comes again: nothing changes
  Repeated : (reply : Response) → Verdict
  -- the queue and the kept replies are these afterwards
  Accepted : (after : Queue) (kept : Ledger) (reply : Response) → Verdict

-- what is answered
abbrev pub reply_of : Verdict → Response
reply_of (Told reply) = reply
reply_of (Repeated reply) = reply
reply_of (Accepted after kept reply) = reply

-- a refusal that says no more than its number and word, or a fault of the body
abbrev pub denied : Refusal → Verdict
denied refusal = Told (refused_response refusal NoKeys)

-- through which number the client gives up its replies, if it does
abbrev pub given_by : Ask → Option ℕ
given_by (GiveUp upto) = Some upto
given_by other = None

-- what is kept then
abbrev pub without : List ℕ → Option ℕ → Ledger → Ledger
without client None k = k
without client (Some upto) k = given_up client upto k

abbrev pub without_given : List ℕ → Ask → Ledger → Ledger
without_given client ask k = without client (given_by ask) k

-- and one reply more, with what was said
abbrev pub kept_with : Post → Ledger → Response → Ledger
kept_with p k reply = with_reply (entry p.client p.number p.said reply.status reply.body) (without_given p.client p.request.ask k)

-- the reply to a step
abbrev pub step_reply : Step → Response
step_reply (Taken after reply) = accepted_response (Replied reply)
step_reply (Refused refusal keys) = refused_response refusal keys

-- what the step takes is accepted, and its reply is kept
abbrev pub stepped : Post → Ledger → Step → Verdict
stepped p k (Taken after reply) = Accepted after (kept_with p k (step_reply (Taken after reply))) (step_reply (Taken after reply))
stepped p k (Refused refusal keys) = Told (step_reply (Refused refusal keys))

-- the same bytes under a number with a kept reply get that reply, whatever the moment; other bytes are refused
abbrev pub repeated : List ℕ → Entry → Verdict
repeated said e = if bytes_eq e.said said then Repeated (kept_response e.status e.body) else denied NumberReused

-- under a number with a kept reply nothing else is taken
abbrev pub taken_once : Option Entry → List ℕ → Verdict → Verdict
taken_once None said new = new
taken_once (Some e) said new = repeated said e

-- a floor rises only: what is given up includes what was before
abbrev pub raised_ask : ℕ → Ask → Ask
raised_ask floor (GiveUp upto) = GiveUp (greater floor upto)
raised_ask floor other = other

abbrev pub raised : ℕ → Post → Post
raised floor p = record p { request = record p.request { ask = raised_ask floor p.request.ask } }

-- no client gives up the reply to the very request by which it does
abbrev pub is_too_high : ℕ → Ask → Bool
is_too_high number (GiveUp upto) = not (nat_lt upto number)
is_too_high number other = false

-- what is asked for is decided at the later of its moment and the clock
abbrev pub decided_new : Settings → Queue → Ledger → Post → Verdict
decided_new s m k p = stepped p k (decided s m p.request)

-- so is what is asked for under a new number, where the client's floor is this one
abbrev pub new_asked : Settings → Queue → Ledger → ℕ → Post → Verdict
new_asked s m k floor p = if is_too_high p.number p.request.ask then denied FloorHigh else decided_new s m k (raised floor p)

-- a number above it with a kept reply gets that
abbrev pub asked_above : Settings → Queue → Ledger → ℕ → Post → Verdict
asked_above s m k floor p = taken_once (kept_for p.client p.number k.replies) p.said (new_asked s m k floor p)

-- and a number through it is refused
abbrev pub asked_for : Settings → Queue → Ledger → Post → Verdict
asked_for s m k p = if nat_lt (k.floor p.client) p.number then asked_above s m k (k.floor p.client) p else denied GivenUp

-- what comes of a reading
abbrev pub verdict : Settings → Queue → Ledger → Reading → Verdict
verdict s m k (Faulty refusal) = denied refusal
verdict s m k (Sees moment what) = Told (view s m (decided_at m.clock moment) what)
verdict s m k (Posts p) = asked_for s m k p

abbrev pub IsVerdict : Settings → Arrival → Queue → Ledger → Verdict → Type 0
IsVerdict s a m k v = (r : Reading) × IsReading a r × (v ≡ verdict s m k r)
