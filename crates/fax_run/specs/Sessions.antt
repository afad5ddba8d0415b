-- Sessions: the program is started, serves, and is stopped or killed, over and over, by whatever setup and controls.
-- Of sessions and of the requests that the machine was fed the newest comes first.
use Rattle.std.specs.Prelude.{◌≡◌, ◌⊎◌, ⊤, true, false, nat_lt, List, [], ◌∷◌, ◌++◌, Some}
use Rattle.std.specs.List.{AllByRecursion, AllZip, list_any}
use Rattle.sqlite_rules.specs.Lists.{Has}
use Rattle.fax_job.specs.declared.refusal.Refusal.TheVariants.{Unavailable}
use Rattle.fax_ask.specs.Response.{Response, kept_response, refused_response}
use Rattle.fax_core.specs.Queue.{Entry}
use Rattle.fax_core.specs.Reply.{NoKeys}
use Rattle.fax_core.specs.Settings.{Settings}
use Rattle.fax_core.specs.Sound.{Sound}
use Rattle.fax_core.specs.Ledger.{kept_for, IsKeptStatus}
use Rattle.fax_run.specs.Laws.{AreAccepted, GoesWell}
use Rattle.fax_run.specs.Reading.{Post, Reading, Posts, IsReading}
use Rattle.fax_run.specs.Run.{Fed, Start, IsRun, end_after, end_of, is_of, reply_to}
use Rattle.fax_run.specs.Verdict.{Repeated, reply_of, verdict}
use Rattle.fax_run.specs.declared.arrival.Arrival.{Arrival}

-- ---- sessions

-- what was under way when a session was broken off: nothing; a batch of arrivals after all others, not answered; or one of those that came, each answered 503
pub data UnderWay : Type 0 where
  Nothing : UnderWay
  Unanswered : (batch : List Arrival) → UnderWay
  Failed : (batch : List Arrival) → UnderWay

-- its setup and controls, what came and what was replied, and what was under way when it was broken off
pub record Session : Type 0 where
  pub settings : Settings
  pub arrivals : List Arrival
  pub replies : List Response
  pub under_way : UnderWay

-- Each arrival of a batch that came was answered 503, and nothing was taken since.
pub record HasFailed (s : Settings) (from : Start) (arrivals : List Arrival) (replies : List Response) (heard : List Reading) (batch : List Arrival) : Type 0 where
  pub before : List Arrival
  pub after : List Arrival
  pub one : arrivals ≡ before ++ (batch ++ after)
  pub replied : List Response
  pub failed : List Response
  pub more : List Response
  pub answers : replies ≡ replied ++ (failed ++ more)
  pub each : AllZip (λ (a : Arrival) reply. reply ≡ refused_response Unavailable NoKeys) batch failed
  pub later : List Reading
  pub earlier : List Reading
  pub parts : heard ≡ later ++ earlier
  pub answered : IsRun s from [] before replied earlier
  pub still : end_of s from heard ≡ end_of s from earlier

-- all of a batch are heard, one after the other
abbrev pub AreHeard : List Arrival → List Reading → List Reading → Type 0
AreHeard [] past heard = heard ≡ past
AreHeard (a ∷ batch) past heard = (r : Reading) × IsReading a r × AreHeard batch (r ∷ past) heard

-- A session leaves where what it heard leads, or where that leads with all of this batch.
abbrev pub MayTake : Settings → Start → List Reading → List Arrival → Start → Type 0
MayTake s from heard batch left = (left ≡ end_of s from heard) ⊎ ((all : List Reading) × AreHeard batch heard all × (left ≡ end_of s from all))

-- All that was under way was taken, or all of it was lost.
abbrev pub LeavesOff : Start → Session → List Reading → UnderWay → Start → Type 0
LeavesOff from x heard Nothing left = left ≡ end_of x.settings from heard
LeavesOff from x heard (Unanswered batch) left = MayTake x.settings from heard batch left
LeavesOff from x heard (Failed batch) left = HasFailed x.settings from x.arrivals x.replies heard batch × MayTake x.settings from heard batch left

-- It was heard and answered from there, as a run by its settings, and left this.
pub record IsSession (from : Start) (x : Session) (left : Start) : Type 0 where
  pub heard : List Reading
  pub answered : IsRun x.settings from [] x.arrivals x.replies heard
  pub leaves : LeavesOff from x heard x.under_way left

-- sessions follow one another, each from what the one before it left
abbrev pub Follow : Start → List Session → Start → Type 0
Follow first [] last = last ≡ first
Follow first (x ∷ earlier) last = (from : Start) × Follow first earlier from × IsSession from x last

-- ---- the list

-- the arrival came in the session, and this was replied to it
abbrev pub IsAnswered : Arrival → Response → List Arrival → List Response → Type 0
IsAnswered a reply (b ∷ arrivals) (other ∷ replies) = ((b ≡ a) × (other ≡ reply)) ⊎ IsAnswered a reply arrivals replies
IsAnswered a reply arrivals replies = ⊥

-- it was under way at the end
abbrev pub WasUnderWay : Arrival → UnderWay → Type 0
WasUnderWay a Nothing = ⊥
WasUnderWay a (Unanswered batch) = Has batch a
WasUnderWay a (Failed batch) = Has batch a

-- The request came in this session, and was fed by its settings after the earlier ones. Its arrival was answered with the reply to its step there; or it was under way at the end.
pub record CameIn (first : Start) (x : Session) (f : Fed) (earlier : List Fed) : Type 0 where
  pub arrival : Arrival
  pub posts : IsReading arrival (Posts f.post)
  pub settings : f.settings ≡ x.settings
  pub answered : IsAnswered arrival (reply_to (end_after first earlier) f) x.arrivals x.replies ⊎ WasUnderWay arrival x.under_way

-- each of these came in the session, after those before it
abbrev pub CameInTurn : Start → Session → List Fed → List Fed → Type 0
CameInTurn first x [] before = ⊤
CameInTurn first x (f ∷ own) before = CameIn first x f (own ++ before) × CameInTurn first x own before

-- the list is the shorter one, and then what came in this session
abbrev pub Adds : Start → Session → List Fed → List Fed → Type 0
Adds first x fed before = (own : List Fed) × (fed ≡ own ++ before) × CameInTurn first x own before

-- each session went on from where a part of the list leads, and added to it
abbrev pub AreAdded : Start → List Session → List Fed → Type 0
AreAdded first [] fed = fed ≡ []
AreAdded first (x ∷ earlier) fed =
    (before : List Fed) × Adds first x fed before × IsSession (end_after first before) x (end_after first fed) × AreAdded first earlier before

-- no two have the same client and number
abbrev pub EachOnce : List Fed → Type 0
EachOnce [] = ⊤
EachOnce (f ∷ earlier) = (list_any (is_of f.post.client f.post.number) earlier ≡ false) × EachOnce earlier

-- one of the list has the post's client and number, and this is the reply to its step, where it was fed
pub record HasReplyOf (first : Start) (fed : List Fed) (p : Post) (reply : Response) : Type 0 where
  pub later : List Fed
  pub it : Fed
  pub earlier : List Fed
  pub one : fed ≡ later ++ it ∷ earlier
  pub client : it.post.client ≡ p.client
  pub number : it.post.number ≡ p.number
  pub told : reply ≡ reply_to (end_after first earlier) it

-- or it was kept for them where all began
abbrev pub WasKept : Start → Post → Response → Type 0
WasKept first p reply = (e : Entry) × (kept_for p.client p.number first.kept.replies ≡ Some e) × (reply ≡ kept_response e.status e.body)

-- who posts and is answered 200 or 201 has such a reply
abbrev pub HasIts : Start → List Fed → Response → Reading → Type 0
HasIts first fed reply (Posts p) = IsKeptStatus reply.status → HasReplyOf first fed p reply ⊎ WasKept first p reply
HasIts first fed reply other = ⊤

-- the reply is that of the arrival's verdict behind a part of the list
pub record IsToldBy (first : Start) (fed : List Fed) (s : Settings) (a : Arrival) (reply : Response) : Type 0 where
  pub later : List Fed
  pub earlier : List Fed
  pub part : fed ≡ later ++ earlier
  pub reading : Reading
  pub reads : IsReading a reading
  pub told : reply ≡ reply_of (verdict s (end_after first earlier).queue (end_after first earlier).kept reading)
  pub its : HasIts first fed reply reading

-- each arrival of a session was answered so, or 27
abbrev pub IsAnsweredBy : Start → List Fed → Session → Type 0
IsAnsweredBy first fed x = AllZip (λ a reply. (reply ≡ refused_response Unavailable NoKeys) ⊎ IsToldBy first fed x.settings a reply) x.arrivals x.replies

-- Whatever became of a post: it left nothing under its number, or one of the list stands there. Then who sends it again, and says the same, gets its reply, by
-- whatever settings, unless the client has given it up.
abbrev pub IsSettled : Start → List Fed → Post → Type 0
IsSettled first fed p =
    let here = end_after first fed in
    (list_any (is_of p.client p.number) fed ≡ false)
    ⊎ ((reply : Response) × (stands : HasReplyOf first fed p reply)
    × (stands.it.post.said ≡ p.said → nat_lt (here.kept.floor p.client) p.number ≡ true → (s : Settings)
    → verdict s here.queue here.kept (Posts p) ≡ Repeated reply))

-- ---- what is proved

-- One list of accepted requests tells all that was answered and all that is left.
pub record HaveOneList (first : Start) (sessions : List Session) (last : Start) : Type 0 where
  pub fed : List Fed
  pub left : last ≡ end_after first fed
  pub added : AreAdded first sessions fed
  pub accepted : AreAccepted first fed
  pub once : EachOnce fed
  pub well : GoesWell first fed
  pub answered : AllByRecursion (IsAnsweredBy first fed) sessions
  pub settled : (p : Post) → IsSettled first fed p

-- from a sound start, however often it was stopped or killed and started again, with whatever settings each time
abbrev pub SessionsHaveOneList : Type 0
SessionsHaveOneList = (first last : Start) (sessions : List Session) → Sound first.queue → Follow first sessions last → HaveOneList first sessions last

-- ---- a run is a session

-- whatever was under way at its end, each arrival was answered
abbrev pub AllAnswered : UnderWay → Type 0
AllAnswered Nothing = ⊤
AllAnswered (Unanswered batch) = ⊥
AllAnswered (Failed batch) = ⊤

-- a session of these, and what was under way when it was broken off
abbrev pub session_of : Settings → List Arrival → List Response → UnderWay → Session
session_of s arrivals replies under_way = record { settings = s; arrivals = arrivals; replies = replies; under_way = under_way }
