-- A whole run: what is taken, what the queue is after it and what is answered, by looking back over what was heard before.
-- Of what was heard and of what was taken the newest comes first.
use Rattle.std.specs.Prelude.{◌≡◌, ◌⊎◌, ℕ, ◌==◌, ◌&&◌, Bool, true, false, not, nat_lt, is_none, List, [], ◌∷◌, if◌then◌else◌}
use Rattle.std.specs.List.{list_any}
use Rattle.std.specs.Str.{bytes_eq}
use Rattle.fax_job.specs.declared.refusal.Refusal.TheVariants.{Unavailable}
use Rattle.fax_ask.specs.Response.{Response, refused_response}
use Rattle.fax_core.specs.declared.ask.Ask.{Ask}
use Rattle.fax_core.specs.declared.ask.Ask.TheVariants.{GiveUp}
use Rattle.fax_core.specs.Ledger.{Ledger, floors_with, greater, kept_for}
use Rattle.fax_core.specs.Queue.{Queue}
use Rattle.fax_core.specs.Reply.{NoKeys, Step, Taken, Refused}
use Rattle.fax_core.specs.Run.{decided, left_by}
use Rattle.fax_core.specs.Settings.{Settings}
use Rattle.fax_run.specs.Reading.{Post, Reading, Posts, IsReading}
use Rattle.fax_run.specs.Verdict.{is_too_high, kept_with, raised, reply_of, step_reply, verdict}
use Rattle.fax_run.specs.declared.arrival.Arrival.{Arrival}

-- where a run begins: a queue, and what is kept of the clients
pub record Start : Type 0 where
  pub queue : Queue
  pub kept : Ledger

-- a request that the machine was fed, with the setup and controls of that time
pub record Fed : Type 0 where
  pub settings : Settings
  pub post : Post

abbrev pub under : Settings → Post → Fed
under s p = record { settings = s; post = p }

-- what the machine makes of it in a queue
abbrev pub step_of : Queue → Fed → Step
step_of m f = decided f.settings m f.post.request

-- ---- what is taken

-- the queue after the steps of these requests
abbrev pub queue_after : Queue → List Fed → Queue
queue_after m [] = m
queue_after m (f ∷ earlier) = left_by (queue_after m earlier) (step_of (queue_after m earlier) f)

-- the step takes it
abbrev pub takes : Step → Bool
takes (Taken after reply) = true
takes (Refused refusal keys) = false

-- the request is of this client, under this number
abbrev pub is_of : List ℕ → ℕ → Fed → Bool
is_of client number f = bytes_eq f.post.client client && (f.post.number == number)

-- the floors, once a client has asked for this
abbrev pub floors_by : List ℕ → Ask → (List ℕ → ℕ) → List ℕ → ℕ
floors_by client (GiveUp upto) floors = floors_with client (greater (floors client) upto) floors
floors_by client other floors = floors

-- the floors after these requests
abbrev pub floors_after : Start → List Fed → List ℕ → ℕ
floors_after start [] = start.kept.floor
floors_after start (f ∷ earlier) = floors_by f.post.client f.post.request.ask (floors_after start earlier)

-- the number is above the client's floor, and neither where the run begins nor among these is it used
abbrev pub is_new : Start → List Fed → Post → Bool
is_new start earlier p =
    nat_lt (floors_after start earlier p.client) p.number
    && (is_none (kept_for p.client p.number start.kept.replies) && not (list_any (is_of p.client p.number) earlier))

-- Where these were taken before it, a request is taken when its number is new, it doesn't give up its own, and the step takes it in the queue after them.
abbrev pub is_taken : Start → List Fed → Fed → Bool
is_taken start earlier f =
    is_new start earlier f.post && (not (is_too_high f.post.number f.post.request.ask) && takes (step_of (queue_after start.queue earlier) f))

-- and else nothing is taken
abbrev pub with_taken : Settings → Start → List Fed → Reading → List Fed
with_taken s start earlier (Posts p) = if is_taken start earlier (under s p) then under s p ∷ earlier else earlier
with_taken s start earlier other = earlier

-- what was taken of all that was heard under these settings
abbrev pub taken : Settings → Start → List Reading → List Fed
taken s start [] = []
taken s start (r ∷ past) = with_taken s start (taken s start past) r

-- ---- what is answered

-- the reply to the step of a request that is taken there, with its floor raised to that of its client
abbrev pub reply_to : Start → Fed → Response
reply_to here f = step_reply (decided f.settings here.queue (raised (here.kept.floor f.post.client) f.post).request)

-- what it leaves of what was kept: one entry more, with that reply
abbrev pub kept_once : Start → Fed → Ledger
kept_once here f = kept_with (raised (here.kept.floor f.post.client) f.post) here.kept (reply_to here f)

-- what is kept after these requests
abbrev pub kept_after : Start → List Fed → Ledger
kept_after start [] = start.kept
kept_after start (f ∷ earlier) = kept_once (record { queue = queue_after start.queue earlier; kept = kept_after start earlier }) f

-- where they lead
abbrev pub end_after : Start → List Fed → Start
end_after start fed = record { queue = queue_after start.queue fed; kept = kept_after start fed }

-- where a run leads that begins there
abbrev pub end_of : Settings → Start → List Reading → Start
end_of s start past = end_after start (taken s start past)

-- the reply at a position, with what was heard before it: that of its verdict where this leads
abbrev pub reply_at : Settings → Start → List Reading → Reading → Response
reply_at s start past r = reply_of (verdict s (end_of s start past).queue (end_of s start past).kept r)

-- ---- what is heard

-- An arrival that is answered 27 isn't heard. Each other is heard as what it says, and answered by what was heard before it.
abbrev pub IsRun : Settings → Start → List Reading → List Arrival → List Response → List Reading → Type 0
IsRun s start past [] [] heard = heard ≡ past
IsRun s start past [] (reply ∷ replies) heard = ⊥
IsRun s start past (a ∷ arrivals) [] heard = ⊥
IsRun s start past (a ∷ arrivals) (reply ∷ replies) heard =
    ((reply ≡ refused_response Unavailable NoKeys) × IsRun s start past arrivals replies heard)
    ⊎ ((r : Reading) × IsReading a r × (reply ≡ reply_at s start past r) × IsRun s start (r ∷ past) arrivals replies heard)
