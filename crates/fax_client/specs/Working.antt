-- What a worker's command does.
use Rattle.std.specs.Prelude.{◌≡◌, ◌⊎◌, ⊤, ℕ, Bool, true, false, List, [], Option, Some, None, Result, Ok, Err, IsSome, IsErr, option_map}
use Rattle.sqlite_trees.specs.declared.store.Store.{Ghosts}
use Rattle.fax_job.specs.declared.refusal.Refusal.{Refusal}
use Rattle.fax_job.specs.declared.refusal.Refusal.TheVariants.{ModemDown, ModemBusy}
use Rattle.fax_core.specs.declared.ask.Ask.{Ask}
use Rattle.fax_core.specs.Reply as reply
use Rattle.fax_core.specs.Run.{Answer, Replied, Denied}
use Rattle.fax_journal.specs.Calls.{shown}
use Rattle.fax_journal.specs.Entry.{Entry}
use Rattle.fax_journal.specs.Journal.{Answers}
use Rattle.fax_journal.specs.declared.journal.Journal.{Journal}
use Rattle.fax_worker.specs.Acting.{HasBegun}
use Rattle.fax_worker.specs.Reading.{IsRead}
use Rattle.fax_worker.specs.Trace.{Has}
use Rattle.fax_worker.specs.Worker.{IsAnswered, Look, Pending, Worker}
use Rattle.fax_worker.specs.declared.worker.Action.{Action}
use Rattle.fax_worker.specs.declared.worker.Action.TheVariants as act
use Rattle.fax_client.specs.Course.{Does, Events, Follows, IsBefore, Kind, Sends, Start}
use Rattle.fax_client.specs.Line.{Carrying, Pausing, Reply}
use Rattle.fax_client.specs.Message.{message_of}
use Rattle.fax_client.specs.Saved.{HasWorker, IsEntryOf, IsLoaded, IsUntouched, request_of}
use Rattle.fax_client.specs.Step.{Asks, IsOwn, is_next}
use Rattle.fax_client.specs.declared.shown.Shown.{Shown}
use Rattle.fax_client.specs.declared.shown.Shown.TheVariants as shows
use Rattle.fax_client.specs.declared.step.Step.{Step}
use Rattle.fax_client.specs.declared.step.Step.TheVariants.{Show}
use Rattle.fax_client.specs.declared.stop.Stop.{Stop}
use Rattle.fax_client.specs.declared.stop.Stop.TheVariants.{NotNow, Refused}
use Rattle.fax_client.specs.declared.working.Conclusion.{Conclusion}
use Rattle.fax_client.specs.declared.working.Conclusion.TheVariants as comes

-- ---- what a worker does

pub data Move : Type 0 where
  -- the request of an action is begun under a number
  Begins : (action : Action) (number : ℕ) → Move
  -- the request is answered
  GetsAnswer : (request : Pending) (answer : Answer) (look : Look) → Move

-- the answer is read in what came back
abbrev pub IsReadIn : Ask → Reply → Answer → Type 0
IsReadIn ask (Ok response) answer = IsRead ask response.status response.body.items (Some answer)
IsReadIn ask (Err fault) answer = ⊥

-- the answer is read in a reply to the client's request
pub record IsAnswerIn {J : Type 0} (events : Events J Move) (client : List ℕ) (request : Pending) (answer : Answer) : Type 0 where
  pub journal : J
  pub back : Reply
  pub came : Has (Sends journal (message_of client (request_of request)) back) events
  pub read : IsReadIn request.ask back answer

-- the worker's unanswered request gets an answer that came, and the worker is this then
pub record TakesAnswer {J : Type 0} (earlier : Events J Move) (w : Worker) (request : Pending) (answer : Answer) (look : Look) (after : Worker) : Type 0 where
  pub came : IsAnswerIn earlier w.client request answer
  pub answered : IsAnswered w request.number request.ask answer look after

abbrev pub MayMove : {J : Type 0} → Events J Move → Worker → Move → Worker → Type 0
MayMove earlier w (Begins action number) after = HasBegun w action number after
MayMove earlier w (GetsAnswer request answer look) after = TakesAnswer earlier w request answer look after

-- workers, whose journals keep these answers under keys
abbrev pub workers : {J : Type 0} → Answers → Kind J Worker Move
workers kept = record { Has = HasWorker kept; name = λ w. w.client; unanswered = λ w. option_map request_of w.unanswered; may = MayMove }

-- ---- what is printed

-- what an answer says beside what the worker holds then
abbrev pub concluded : Answer → Conclusion
concluded (Replied (reply.Called stop)) = comes.Goes stop
concluded (Replied (reply.Confirmed npages stop)) = comes.Goes stop
concluded (Replied (reply.Stands job state)) = comes.Ended job state
concluded (Replied other) = comes.Nothing
concluded (Denied refusal keys) = comes.Refused refusal

-- `next` that is refused since the modem is down or busy shows what is held
abbrev pub refused_as : Bool → Worker → Refusal → Result Shown Stop
refused_as true w ModemDown = Ok (shows.Grant w)
refused_as true w ModemBusy = Ok (shows.Grant w)
refused_as next w refusal = Err (Refused refusal)

-- what a command shows
abbrev pub shown_of : Bool → Worker → Conclusion → Result Shown Stop
shown_of next w comes.Nothing = Ok (shows.Grant w)
shown_of next w (comes.Goes stop) = Ok (shows.Goes stop)
shown_of next w (comes.Ended job state) = Ok (shows.Ended job state)
shown_of next w (comes.Refused refusal) = refused_as next w refusal

-- what the answer to the unanswered request says, if there is one
abbrev pub Concludes : {J : Type 0} → Option Pending → Events J Move → Conclusion → Type 0
Concludes None events conclusion = conclusion ≡ comes.Nothing
Concludes (Some request) events conclusion = (answer : Answer) × (look : Look) × Has (Does (GetsAnswer request answer look)) events × (conclusion ≡ concluded answer)

abbrev pub is_refused : Conclusion → Bool
is_refused (comes.Refused refusal) = true
is_refused other = false

-- the worker begins to give up its replies
abbrev pub GivesUp : {J : Type 0} → Events J Move → Type 0
GivesUp events = (number : ℕ) × Has (Does (Begins act.GivesUp number)) events

-- so it does after a refusal
abbrev pub GivesUpRefused : {J : Type 0} → Conclusion → Events J Move → Type 0
GivesUpRefused (comes.Refused refusal) events = GivesUp events
GivesUpRefused other events = ⊤

-- it shows what the answer to a request of the step says
pub record ShowsAnswer {J : Type 0} (step : Step) (events : Events J Move) (w : Worker) (result : Result Shown Stop) : Type 0 where
  pub request : Pending
  pub asks : Asks step request.ask
  pub answer : Answer
  pub look : Look
  pub came : Has (Does (GetsAnswer request answer look)) events
  pub result_is : result ≡ shown_of (is_next step) w (concluded answer)
  pub gives_up : GivesUpRefused (concluded answer) events

-- `next` shows the grant that is held
pub record ShowsGrant (step : Step) (w : Worker) (result : Result Shown Stop) : Type 0 where
  pub next : is_next step ≡ true
  pub held : IsSome w.held
  pub result_is : result ≡ Ok (shows.Grant w)

-- what a command says in the end
abbrev pub Says : {J : Type 0} → Step → Events J Move → Worker → Result Shown Stop → Type 0
Says Show events w result = (events ≡ []) × (result ≡ Ok (shows.Journal w))
Says step events w result = ShowsAnswer step events w result ⊎ ShowsGrant step w result

-- ---- the command

module _ {S L : Type 0} (g : Ghosts S) (carries : Carrying L (Journal S)) (pauses : Pausing L) (kept : Answers) where
  -- It says what the events lead to, or it stops where a crash leaves the journal before a step or after it.
  abbrev pub Ends : Start (Journal S) L Worker → Step → Events (Journal S) Move → L → Journal S → Result Shown Stop → Type 0
  Ends first step earlier line journal result =
      ((events : Events (Journal S) Move) × (w : Worker) × Follows g carries pauses (workers kept) first earlier events line w journal × Says step events w result)
      ⊎ (IsErr result × IsBefore g carries pauses (workers kept) first line journal)

  module _ (entry : Option Entry) (step : Step) (old new : L) (journal journal₂ : Journal S) where
    -- the worker is loaded, and the command does its step
    pub record DoesStep (result : Result Shown Stop) : Type 0 where
      pub loaded : Journal S
      pub client : Worker
      pub loads : IsLoaded entry kept (IsEntryOf client) (shown g journal) (shown g loaded)
      pub own : IsOwn step client.client ⊎ (result ≡ Err NotNow)
      pub ends : Ends (record { line = old; journal = loaded; client = client }) step [] new journal₂ result

    -- there is no worker, and nothing is done
    pub record FindsNone (result : Result Shown Stop) : Type 0 where
      pub stops : IsErr result
      pub line_is : new ≡ old
      pub untouched : IsUntouched entry kept (shown g journal) (shown g journal₂)

    abbrev pub Works : Result Shown Stop → Type 0
    Works result = DoesStep result ⊎ FindsNone result
