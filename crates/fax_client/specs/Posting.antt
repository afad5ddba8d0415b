-- What a client's post does.
use Rattle.std.specs.Prelude.{◌≡◌, ◌⊎◌, ◌<◌, ⊤, ℕ, List, [], Option, Some, None, Result, Vec, Ok, Err, IsErr}
use Rattle.std.specs.declared.alloc.Global.{Global}
use Rattle.sqlite_trees.specs.declared.store.Store.{Ghosts}
use Rattle.fax_journal.specs.Calls.{shown}
use Rattle.fax_journal.specs.Entry.{Entry, Request}
use Rattle.fax_journal.specs.Journal.{Answers, Serves, with_answer}
use Rattle.fax_journal.specs.declared.journal.Journal.{Journal}
use Rattle.fax_worker.specs.Trace.{Has}
use Rattle.fax_client.specs.Answered.{IsReadAs}
use Rattle.fax_client.specs.Course.{Does, Events, Follows, IsBefore, Kind, Sends, Start}
use Rattle.fax_client.specs.Line.{Carrying, Pausing, Reply}
use Rattle.fax_client.specs.Message.{message_of}
use Rattle.fax_client.specs.Saved.{HasEntry, IsLoaded, IsUntouched}
use Rattle.fax_client.specs.declared.answered.Answered.{Answered}
use Rattle.fax_client.specs.declared.answered.Answered.TheVariants.{Accepted, Refused}
use Rattle.fax_client.specs.declared.stop.Stop.{Stop}
use Rattle.fax_client.specs.declared.stop.Stop.TheVariants as stop

-- what a journal has of a client, and the answers that it keeps under keys
pub record Client : Type 0 where
  pub entry : Entry
  pub answers : Answers

-- the client has asked for nothing yet
pub record IsNew (e : Entry) : Type 0 where
  pub last : e.last ≡ 1
  pub unanswered : e.unanswered ≡ None
  pub held : e.held ≡ None

-- the journal has this: nothing, if the client is new
abbrev pub IsStored : Entry → Option Entry → Type 0
IsStored e None = IsNew e
IsStored e (Some stored) = stored ≡ e

-- ---- what a client does

pub data Move : Type 0 where
  -- the request is begun
  Begins : (request : Request) → Move
  -- the answer is kept under a key
  Keeps : (key answer : List ℕ) → Move
  -- the request is answered
  GetsAnswer : (request : Request) (answered : Answered) → Move

-- nothing is unanswered, and the request begins under a new number
pub record IsBegun (e : Entry) (r : Request) (after : Entry) : Type 0 where
  pub answered : e.unanswered ≡ None
  pub new : e.last < r.number
  pub becomes : after ≡ record e { last = r.number; unanswered = Some r }

-- the answer is read in a reply to the client's request
pub record IsAnswerIn {J : Type 0} (events : Events J Move) (client : List ℕ) (r : Request) (answered : Answered) : Type 0 where
  pub journal : J
  pub back : Reply
  pub came : Has (Sends journal (message_of client r) back) events
  pub read : IsReadAs r back answered

-- what is accepted is kept under the key of the request, if it has one
abbrev pub IsKeptUnder : Option (List ℕ) → Answered → Answers → Type 0
IsKeptUnder (Some key) (Accepted body) answers = answers key ≡ Some body.items
IsKeptUnder key answered answers = ⊤

-- the answers with an accepted one under the key of its request, if it has one
abbrev pub kept_under : Option (List ℕ) → Answered → Answers → Answers
kept_under (Some key) (Accepted body) answers = with_answer key (Some body.items) answers
kept_under key answered answers = answers

-- the accepted answer to the unanswered request is kept under its key
pub record KeepsAnswer {J : Type 0} (earlier : Events J Move) (c : Client) (key answer : List ℕ) (after : Client) : Type 0 where
  pub request : Request
  pub unanswered : c.entry.unanswered ≡ Some request
  pub key_is : request.key ≡ Some key
  pub answered : Answered
  pub came : IsAnswerIn earlier c.entry.client request answered
  pub answer_is : IsKeptUnder (Some key) answered after.answers
  pub becomes : after ≡ record { entry = c.entry; answers = with_answer key (Some answer) c.answers }

-- the unanswered request gets an answer that came, which is kept
pub record TakesAnswer {J : Type 0} (earlier : Events J Move) (c : Client) (r : Request) (answered : Answered) (after : Client) : Type 0 where
  pub unanswered : c.entry.unanswered ≡ Some r
  pub came : IsAnswerIn earlier c.entry.client r answered
  pub kept : IsKeptUnder r.key answered c.answers
  pub becomes : after ≡ record { entry = record c.entry { unanswered = None }; answers = c.answers }

abbrev pub MayMove : {J : Type 0} → Events J Move → Client → Move → Client → Type 0
MayMove earlier c (Begins r) after = IsBegun c.entry r after.entry × (after.answers ≡ c.answers)
MayMove earlier c (Keeps key answer) after = KeepsAnswer earlier c key answer after
MayMove earlier c (GetsAnswer r answered) after = TakesAnswer earlier c r answered after

abbrev pub clients : {J : Type 0} → Kind J Client Move
clients = record { Has = λ c. HasEntry c.answers (IsStored c.entry); name = λ c. c.entry.client; unanswered = λ c. c.entry.unanswered; may = MayMove }

-- ---- the command

-- a request with this key, path and body
pub record IsOf (key : Option (List ℕ)) (path body : List ℕ) (r : Request) : Type 0 where
  pub key_is : r.key ≡ key
  pub path_is : r.path ≡ path
  pub body_is : r.body ≡ body

-- what a command returns for an answer
abbrev pub returned : Answered → Result (Vec ℕ Global) Stop
returned (Accepted body) = Ok body
returned (Refused refusal) = Err (stop.Refused refusal)

-- the unanswered request, if there is one, has this answer
abbrev pub Finishes : {J : Type 0} → Option Request → Events J Move → Option Answered → Type 0
Finishes None events answered = answered ≡ None
Finishes (Some r) events answered = (a : Answered) × (answered ≡ Some a) × Has (Does (GetsAnswer r a)) events

-- it returns the answer to a request of this key, path and body
pub record ReturnsAnswer {J : Type 0} (key : Option (List ℕ)) (path body : List ℕ) (events : Events J Move) (result : Result (Vec ℕ Global) Stop) : Type 0 where
  pub request : Request
  pub is_of : IsOf key path body request
  pub answered : Answered
  pub came : Has (Does (GetsAnswer request answered)) events
  pub result_is : result ≡ returned answered

-- it returns the answer that the journal keeps under the key, if the disk has returned what was written
pub record ReturnsKept (key : Option (List ℕ)) (serves : Type 0) (answers : Answers) (result : Result (Vec ℕ Global) Stop) : Type 0 where
  pub word : List ℕ
  pub key_is : key ≡ Some word
  pub answer : Vec ℕ Global
  pub result_is : result ≡ Ok answer
  pub kept : serves → answers word ≡ Some answer.items

module _ {S L : Type 0} (g : Ghosts S) (carries : Carrying L (Journal S)) (pauses : Pausing L) (entry : Option Entry) (kept : Answers) (client : List ℕ) (key : Option (List ℕ)) (path body : List ℕ)
    (old new : L) (journal journal₂ : Journal S) where
  -- the command returns its answer, or it stops where a crash leaves the journal before a step or after it
  abbrev pub Ends : Start (Journal S) L Client → Result (Vec ℕ Global) Stop → Type 0
  Ends start result =
      ((events : Events (Journal S) Move) × (c : Client) × Follows g carries pauses clients start [] events new c journal₂
      × (ReturnsAnswer key path body events result ⊎ ReturnsKept key (Serves (shown g journal₂)) c.answers result))
      ⊎ (IsErr result × IsBefore g carries pauses clients start new journal₂)

  -- the client is loaded, and the command ends so
  pub record DoesPost (result : Result (Vec ℕ Global) Stop) : Type 0 where
    pub loaded : Journal S
    pub first : Entry
    pub own : first.client ≡ client
    pub loads : IsLoaded entry kept (IsStored first) (shown g journal) (shown g loaded)
    pub ends : Ends (record { line = old; journal = loaded; client = record { entry = first; answers = kept } }) result

  -- the journal isn't the client's, and nothing is done
  pub record FindsNone (result : Result (Vec ℕ Global) Stop) : Type 0 where
    pub stops : IsErr result
    pub line_is : new ≡ old
    pub untouched : IsUntouched entry kept (shown g journal) (shown g journal₂)

  abbrev pub Posts : Result (Vec ℕ Global) Stop → Type 0
  Posts result = DoesPost result ⊎ FindsNone result
