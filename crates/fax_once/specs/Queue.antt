-- The queue, as the contracts of its calls speak of it.
use Rattle.std.specs.Prelude.{◌≡◌, ℕ, false, IsTrue, Result}
use Rattle.sqlite.specs.State.{State, HasCleanDisk}
use Rattle.sqlite_trees.specs.declared.store.Store.{Ghosts}
use Rattle.fax_ask.specs.Response.{Response}
use Rattle.fax_core.specs.Ledger.{Ledger}
use Rattle.fax_core.specs.Queue.{Queue as QueueOf}
use Rattle.fax_core.specs.Settings.{Settings}
use Rattle.fax_core.specs.Sound.{Sound}
use Rattle.fax_core.specs.declared.ask.Ask.{Ask as Step}
use Rattle.fax_decide.specs.Fault.{OnlyNoAnswer}
use Rattle.fax_decide.specs.Settings.{settings_of}
use Rattle.fax_decide.specs.declared.fault.Fault.{Fault}
use Rattle.fax_store.specs.Calls.{shown}
use Rattle.fax_store.specs.Kept.{IsUnkept}
use Rattle.fax_store.specs.Store.{Means, Serves, Stays}
use Rattle.fax_once.specs.Sender.{AsksStep}
use Rattle.fax_run.specs.Reading.{post_of}
use Rattle.fax_once.specs.Stop.{StopsBy}
use Rattle.fax_once.specs.Handled.{IsNotAccepted, LeavesBy}
use Rattle.fax_run.specs.Verdict.{Verdict, new_asked}
use Rattle.fax_run.specs.declared.arrival.Arrival.{Arrival}
use Rattle.fax_once.specs.declared.queue.Queue.{Queue}
use Rattle.fax_once.specs.declared.sender.Sender.{Sender}

-- the settings that its setup and its controls say
abbrev pub settings : {S : Type 0} → Queue S → Settings
settings queue = settings_of queue.office.setup queue.office.controls

module _ {S : Type 0} (g : Ghosts S) where
  -- what its database shows
  abbrev pub tables : Queue S → State
  tables queue = shown g queue.store

  -- where it says that its store is shut, it is, as long as the disk is clean
  abbrev pub ClosedWhereShut : Queue S → Type 0
  ClosedWhereShut queue = IsTrue queue.is_shut → HasCleanDisk (tables queue) → (tables queue).is_open ≡ false

  -- so it is from each sound queue, with the kept replies, that its tables mean
  abbrev pub From : Queue S → (QueueOf → Ledger → Type 0) → Type 0
  From queue P = (m : QueueOf) (k : Ledger) → Sound m → Means (tables queue) m k → P m k

  -- What an answer leaves: the office stays, a disk that is clean was, and what isn't accepted changes no rows.
  pub record Replies {E : Type 0} (old new : Queue S) (result : Result Response E) : Type 0 where
    pub office : new.office ≡ old.office
    pub clean : HasCleanDisk (tables new) → HasCleanDisk (tables old)
    pub unchanged : IsNotAccepted result → Stays (tables old) (tables new)

  -- The store serves where its disk is clean, and then no reply is kept to the sender's number.
  pub record HasNoReply (queue : Queue S) (sender : Sender) (k : Ledger) : Type 0 where
    pub opens : HasCleanDisk (tables queue) → Serves (tables queue)
    pub unkept : Serves (tables queue) → IsUnkept sender.client.now sender.number k.replies

  -- A request comes to this verdict. A crash leaves what one before could leave, or what the verdict makes. While the store serves, only want of an answer takes the reply's place.
  pub record ComesTo (old new : Queue S) (result : Result Response Fault) (m : QueueOf) (k : Ledger) (v : Verdict) : Type 0 where
    pub crash : StopsBy (tables old) (tables new) v
    pub leaves : HasCleanDisk (tables new) → LeavesBy m k result (tables new) v
    pub cause : Serves (tables new) → OnlyNoAnswer result

  -- ---- what the queue's own calls leave

  -- A step under a new number is answered, where the client's floor is this one.
  pub record AnswersNew (old new : Queue S) (result : Result Response Fault) (a : Arrival) (sender : Sender) (ask : Step) (floor : ℕ) : Type 0 where
    -- What isn't accepted changes nothing.
    pub leaves : Replies old new result
    -- From each sound queue without a reply to the number it comes to what is asked for under a new one.
    pub comes : From old (λ m k. AsksStep a sender ask → HasNoReply old sender k
        → ComesTo old new result m k (new_asked (settings old) m k floor (post_of a sender.number ask)))
