-- What a server of many connections did: its history, the newest step first. Each connection has a place, and what became of it is told by the steps at its place alone.
use Rattle.std.specs.Prelude.{◌≡◌, ◌⊎◌, ℕ, zero, suc, ◌+◌, ◌<◌, ◌≤◌, ◌==◌, ◌||◌, ◌&&◌, nat_lt, Bool, true, false, List, [], ◌∷◌, ◌++◌, codes, get_or, length, min, take, IfSome, Option, Some, None, if◌then◌else◌, nat_eq, ⊤}
use Rattle.std.specs.List.{filter_map}
use Rattle.std.specs.Str.{bytes_eq}
use Rattle.fax_http.specs.declared.message.Broken.{Broken}
use Rattle.fax_http.specs.declared.message.Broken.TheVariants.{BadHttp, TooLarge}
use Rattle.fax_http.specs.Conversation.{EndWithLast, GoOn, Reads, Turn, failure_of, spelled_turn, spelled_turns}
use Rattle.fax_http.specs.Message.{BeginsWith, IsBad, IsTooLarge, IsUnfinished, StaysBad}
use Rattle.fax_http.specs.Serving.{Replying}

-- ---- steps

-- what happens at a place: a connection comes, can't be accepted, says these bytes, says nothing yet, says no more, takes these bytes, takes nothing yet, fails, is ended, or is held since there is no room for the listing that it asks for; its next message is answered, or what begins none
pub data Act : Type 0 where
  Came : Act
  Missed : Act
  Said : (bytes : List ℕ) → Act
  Dry : Act
  Ended : Act
  Took : (bytes : List ℕ) → Act
  Waits : Act
  Failed : Act
  Left : Act
  Held : Act
  Answered : (turn : Turn) → (is_over : Bool) → Act
  Refused : (broken : Broken) → Act

-- an act at a place; or the next messages of some places, from the first place on, are answered together; or a look at all connections, for which the server waits where it has nothing to do, and which says whether more are to come
pub data Step : Type 0 where
  At : (place : ℕ) → (act : Act) → Step
  Together : (turns : List (Option Turn)) → (is_over : Bool) → Step
  Looked : (is_busy may_come : Bool) → Step

-- ---- what became of one connection

-- what is known of the connection at a place: what it said and took, its messages with their replies, and since the last look
-- is_dry: it said nothing more when it was read from last
-- is_blocked: it took nothing when it was written to last, or nobody took the place when it was free
-- is_moved: something moved; before the first look each place counts as moved
-- is_held: it was held
-- replies: so many of its messages were answered
pub record Talk : Type 0 where
  pub is_open : Bool
  pub said : List ℕ
  pub turns : List Turn
  pub refused : Option Broken
  pub took : List ℕ
  pub has_ended : Bool
  pub is_over : Bool
  pub is_dry : Bool
  pub is_blocked : Bool
  pub is_moved : Bool
  pub is_held : Bool
  pub replies : ℕ

-- a place where nobody came, and which was not looked at yet
abbrev pub nobody : Talk
nobody = record {
  is_open = false;
  said = [];
  turns = [];
  refused = None;
  took = [];
  has_ended = false;
  is_over = false;
  is_dry = false;
  is_blocked = false;
  is_moved = true;
  is_held = false;
  replies = 0;
}

-- an act at the place itself
abbrev pub acted : Act → Talk → Talk
acted Came t = record nobody { is_open = true; replies = t.replies }
acted Missed t = record t { is_blocked = true }
acted (Said bytes) t = record t { said = t.said ++ bytes; is_dry = false; is_moved = true }
acted Dry t = record t { is_dry = true }
acted Ended t = record t { has_ended = true; is_moved = true }
acted (Took bytes) t = record t { took = t.took ++ bytes; is_blocked = false; is_moved = true }
acted Waits t = record t { is_blocked = true }
acted Failed t = record t { is_open = false; is_moved = true }
acted Left t = record t { is_open = false; is_moved = true }
acted Held t = record t { is_held = true }
acted (Answered turn is_over) t = record t { turns = t.turns ++ turn ∷ []; is_over = is_over; is_blocked = false; is_moved = true; replies = t.replies + 1 }
acted (Refused broken) t = record t { refused = Some broken; is_blocked = false; is_moved = true }

-- a message that is answered together with others, if there is one
abbrev pub joined : Option Turn → Bool → Talk → Talk
joined None is_over t = t
joined (Some turn) is_over t = acted (Answered turn is_over) t

-- after a look nothing was tried yet: what was found before it has to be found again
abbrev pub looked : Talk → Talk
looked t = record t { is_dry = false; is_blocked = false; is_moved = false; is_held = false; replies = 0 }

-- the connection that came last to a place
abbrev pub talk : ℕ → List Step → Talk
talk place [] = nobody
talk place (At other act ∷ earlier) = if nat_eq other place then acted act (talk place earlier) else talk place earlier
talk place (Together turns is_over ∷ earlier) = joined (get_or turns place None) is_over (talk place earlier)
talk place (Looked is_busy may_come ∷ earlier) = looked (talk place earlier)

-- the bytes of a refusal, where there is one
abbrev pub refusal : Option Broken → List ℕ
refusal None = []
refusal (Some broken) = failure_of broken

-- what is to be written to a connection: the replies to its messages in order, and behind them the refusal
abbrev pub owed : Talk → List ℕ
owed t = spelled_turns t.turns ++ refusal t.refused

-- something of that wasn't taken
abbrev pub IsOwing : Talk → Type 0
IsOwing t = (left : List ℕ) × (0 < length left) × (owed t ≡ t.took ++ left)

-- ---- what each act has to fit

-- it is there, its messages are those of what it said, another may follow, and these bytes follow them
pub record GoesOn (t : Talk) (rest : List ℕ) : Type 0 where
  pub is_there : t.is_open ≡ true
  pub reads : Reads t.said t.turns rest
  pub going : GoOn t.turns
  pub below : length t.turns < 1000
  pub unrefused : t.refused ≡ None

-- its first bytes ask for a listing; empty lines before them count for nothing (RFC 9112, section 2.2)
abbrev pub asks_for_listing : List ℕ → Bool
asks_for_listing [] = false
asks_for_listing (byte ∷ bytes) =
    if byte == 13 || byte == 10 then asks_for_listing bytes
    else bytes_eq (take (min (length (byte ∷ bytes)) 10) (byte ∷ bytes)) (codes "GET /jobs ")

-- its next message asks for a listing
abbrev pub AsksForListing : Talk → Type 0
AsksForListing t = (rest : List ℕ) × GoesOn t rest × (asks_for_listing rest ≡ true)

-- a message is looked for, and isn't there to its end
abbrev pub Awaits : Talk → Type 0
Awaits t = (t.has_ended ≡ false) × ((rest : List ℕ) × GoesOn t rest × IsUnfinished rest)

-- the next message of what it said is that of the turn, it was answered before with all that was owed, and not since the last look
pub record IsNext (t : Talk) (turn : Turn) : Type 0 where
  pub rest : List ℕ
  pub next : List ℕ
  pub goes_on : GoesOn t rest
  pub begins : BeginsWith rest turn.head turn.body next
  pub paid : owed t ≡ t.took
  pub first : t.replies ≡ 0

-- no message begins the rest: whatever follows, or since nothing does
abbrev pub FailsIn : Talk → List ℕ → Broken → Type 0
FailsIn t rest BadHttp = StaysBad rest ⊎ (IsBad rest × (t.has_ended ≡ true))
FailsIn t rest TooLarge = IsTooLarge rest

-- what it said behind its messages begins none
pub record IsBroken (t : Talk) (broken : Broken) : Type 0 where
  pub rest : List ℕ
  pub goes_on : GoesOn t rest
  pub some : 0 < length rest
  pub fails : FailsIn t rest broken

-- why nothing more is answered: the refusal, the end of what it says, its last message, who answers, or the bound
abbrev pub IsDone : Talk → Type 0
IsDone t =
    ((broken : Broken) × (t.refused ≡ Some broken))
    ⊎ ((GoesOn t [] × (t.has_ended ≡ true))
    ⊎ (EndWithLast t.turns ⊎ ((t.is_over ≡ true) ⊎ (length t.turns ≡ 1000))))

-- bytes go to it that stand next in what is owed to it; it is read from where a message is awaited, and written to where something is owed; and it is ended where it is done and has everything. What moves is at least one byte.
abbrev pub Fits : Act → Talk → Type 0
Fits Came t = t.is_open ≡ false
Fits Missed t = t.is_open ≡ false
Fits (Said bytes) t = (0 < length bytes) × Awaits t
Fits Dry t = Awaits t
Fits Ended t = Awaits t
Fits (Took bytes) t = (0 < length bytes) × ((left : List ℕ) × (owed t ≡ t.took ++ (bytes ++ left)))
Fits Waits t = (t.is_open ≡ false) ⊎ IsOwing t
Fits Failed t = t.is_open ≡ true
Fits Left t = IsDone t × (owed t ≡ t.took)
Fits Held t = AsksForListing t
Fits (Answered turn is_over) t = IsNext t turn
Fits (Refused broken) t = IsBroken t broken

-- ---- looks

-- nobody is there; and since the last look nobody took the place, or no more are to come
abbrev pub IsVacant : Bool → Talk → Type 0
IsVacant may_come t = (t.is_open ≡ false) × ((may_come ≡ false) ⊎ (t.is_blocked ≡ true))

-- somebody is there; and since the last look it took nothing of what is owed to it when that was written, or said no more of its next message when it was read from, or was held
abbrev pub IsIdle : Talk → Type 0
IsIdle t = (t.is_open ≡ true) × ((IsOwing t × (t.is_blocked ≡ true)) ⊎ ((Awaits t × (t.is_dry ≡ true)) ⊎ (t.is_held ≡ true)))

-- there is nothing to do
abbrev pub IsQuiet : Bool → Talk → Type 0
IsQuiet may_come t = IsVacant may_come t ⊎ IsIdle t

-- before a busy look something moved there since the last one, or there is nothing to do; before the server waits there is nothing to do
abbrev pub IsAttended : Bool → Bool → Talk → Type 0
IsAttended is_busy may_come t = ((is_busy ≡ true) × (t.is_moved ≡ true)) ⊎ IsQuiet may_come t

-- ---- room

-- replies that their peers haven't taken whole have 64 MB, beside the last one
abbrev pub room : ℕ
room = 64000000

-- the reply that is owed last
abbrev pub last_reply : List Turn → List ℕ
last_reply [] = []
last_reply (turn ∷ []) = spelled_turn turn
last_reply (turn ∷ next ∷ turns) = last_reply (next ∷ turns)

abbrev pub last_owed : Option Broken → List Turn → List ℕ
last_owed None turns = last_reply turns
last_owed (Some broken) turns = failure_of broken

-- how long the reply is that a connection hasn't taken whole, in bytes
abbrev pub untaken_at : Talk → ℕ
untaken_at t = if t.is_open && nat_lt (length t.took) (length (owed t)) then length (last_owed t.refused t.turns) else 0

-- how long those at so many places are, from this one on
unfoldable pub untaken_from : ℕ → ℕ → List Step → ℕ
untaken_from place zero history = 0
untaken_from place (suc more) history = untaken_at (talk place history) + untaken_from (suc place) more history

-- how long all are
abbrev pub untaken : List Step → ℕ
untaken history = untaken_from 0 64 history

-- a connection is held only where there is no room, and a request for a listing is answered only where there is
abbrev pub HasRoom : Act → ℕ → List Step → Type 0
HasRoom Held place earlier = room ≤ untaken earlier
HasRoom (Answered turn is_over) place earlier = (rest : List ℕ) × GoesOn (talk place earlier) rest × (asks_for_listing rest ≡ true → untaken earlier < room)
HasRoom act place earlier = ⊤

-- ---- a history

-- the turn is the next one, a POST
pub record MayJoin (t : Talk) (turn : Turn) : Type 0 where
  pub method : turn.head.method ≡ codes "POST"
  pub next : IsNext t turn
  pub small : asks_for_listing next.rest ≡ false

-- how many connections came, with those that couldn't be accepted
abbrev pub comings : List Step → ℕ
comings [] = 0
comings (At place Came ∷ earlier) = comings earlier + 1
comings (At place Missed ∷ earlier) = comings earlier + 1
comings (step ∷ earlier) = comings earlier

-- each step fits what came before; there are 64 places, and so many connections are to come in all
abbrev pub IsRight : ℕ → List Step → Type 0
IsRight count [] = ⊤
IsRight count (At place act ∷ earlier) = IsRight count earlier × (place < 64) × Fits act (talk place earlier) × HasRoom act place earlier
IsRight count (Together turns is_over ∷ earlier) =
    IsRight count earlier × (length turns ≤ 64) × ((place : ℕ) → IfSome (get_or turns place None) (MayJoin (talk place earlier)))
IsRight count (Looked is_busy may_come ∷ earlier) =
    IsRight count earlier × (may_come ≡ nat_lt (comings earlier) count) × ((place : ℕ) → place < 64 → IsAttended is_busy may_come (talk place earlier))

-- ---- all connections

-- all messages, as they were answered one after the other
abbrev pub turns_of : List Step → List Turn
turns_of [] = []
turns_of (At place (Answered turn is_over) ∷ earlier) = turns_of earlier ++ turn ∷ []
turns_of (Together turns is_over ∷ earlier) = turns_of earlier ++ filter_map (λ turn. turn) turns
turns_of (step ∷ earlier) = turns_of earlier

-- how often it looked
abbrev pub looks : List Step → ℕ
looks [] = 0
looks (Looked is_busy may_come ∷ earlier) = looks earlier + 1
looks (step ∷ earlier) = looks earlier

-- each message is answered from the state that the one before it left, by itself or together with others
abbrev pub AreAnswered : {H : Type 0} → Replying H → (H → Bool) → H → List Step → H → Type 0
AreAnswered answers over old [] new = new ≡ old
AreAnswered {H} answers over old (At place (Answered turn is_over) ∷ earlier) new =
    (between : H) × AreAnswered answers over old earlier between
    × (over between ≡ false) × answers.one between turn.head turn.body turn.reply new × (is_over ≡ over new)
AreAnswered {H} answers over old (Together turns is_over ∷ earlier) new =
    (between : H) × AreAnswered answers over old earlier between
    × (over between ≡ false) × answers.together between (filter_map (λ turn. turn) turns) new × (is_over ≡ over new)
AreAnswered answers over old (step ∷ earlier) new = AreAnswered answers over old earlier new

-- the connections do what the history tells; answering is no deed of theirs
abbrev pub Happens : {P : Type 0} → (P → Step → P → Type 0) → P → List Step → P → Type 0
Happens did old [] new = new ≡ old
Happens did old (At place (Answered turn is_over) ∷ earlier) new = Happens did old earlier new
Happens did old (At place (Refused broken) ∷ earlier) new = Happens did old earlier new
Happens did old (Together turns is_over ∷ earlier) new = Happens did old earlier new
Happens {P} did old (step ∷ earlier) new = (between : P) × Happens did old earlier between × did between step new

-- who answers was not over
abbrev pub IsNeverOver : List Step → Type 0
IsNeverOver [] = ⊤
IsNeverOver (At place (Answered turn is_over) ∷ earlier) = (is_over ≡ false) × IsNeverOver earlier
IsNeverOver (Together turns is_over ∷ earlier) = (is_over ≡ false) × IsNeverOver earlier
IsNeverOver (step ∷ earlier) = IsNeverOver earlier

-- nothing is answered once who answers is over
abbrev pub IsOverAtLast : List Step → Bool → Type 0
IsOverAtLast [] over = ⊤
IsOverAtLast (At place (Answered turn is_over) ∷ earlier) over = (is_over ≡ over) × IsNeverOver earlier
IsOverAtLast (Together turns is_over ∷ earlier) over = (is_over ≡ over) × IsNeverOver earlier
IsOverAtLast (step ∷ earlier) over = IsOverAtLast earlier over
