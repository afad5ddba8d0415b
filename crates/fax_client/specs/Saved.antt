-- A worker as its journal has it.
use Rattle.std.specs.Prelude.{◌≡◌, option_map, Option, Some, None, Result, MatchResult}
use Rattle.sqlite.specs.Effect.{Database}
use Rattle.sqlite.specs.State.{State, HasCleanDisk}
use Rattle.fax_journal.specs.Entry.{Entry, Request}
use Rattle.fax_journal.specs.Journal.{Answers, Leaves, LeavesEither, Rests, Serves, TablesMean}
use Rattle.fax_worker.specs.Saying.{body_of, path_of}
use Rattle.fax_worker.specs.Worker.{Pending, Worker}
use Rattle.fax_client.specs.declared.stop.Stop.{Stop}

-- a request with the bytes that are sent each time
abbrev pub request_of : Pending → Request
request_of p = record { number = p.number; path = path_of p.ask; body = body_of p.ask; key = None }

abbrev pub entry_of : Worker → Entry
entry_of w = record { client = w.client; last = w.last; unanswered = option_map request_of w.unanswered; held = w.held }

-- it has asked for nothing yet
pub record IsNew (w : Worker) : Type 0 where
  pub last : w.last ≡ 1
  pub unanswered : w.unanswered ≡ None
  pub held : w.held ≡ None

-- the journal of the worker has this: nothing, if it is new
abbrev pub IsEntryOf : Worker → Option Entry → Type 0
IsEntryOf w None = IsNew w
IsEntryOf w (Some e) = e ≡ entry_of w

-- the database is that of a journal which has such an entry, and beside it these answers
abbrev pub HasEntry : Answers → (Option Entry → Type 0) → Database → Type 0
HasEntry kept Is db = (entry : Option Entry) × Is entry × TablesMean entry kept db

abbrev pub HasWorker : Answers → Worker → Database → Type 0
HasWorker kept w = HasEntry kept (IsEntryOf w)

-- ---- of a connection

-- Such a database is committed, and a crash leaves nothing else. It serves if it did before, and the disk has returned what was written.
pub record IsKept (Is : Database → Type 0) (before s : State) : Type 0 where
  pub served : Serves s → Serves before
  pub clean : HasCleanDisk s → HasCleanDisk before
  pub opens : Serves before → HasCleanDisk s → Serves s
  pub rests : Rests Is s
  pub leaves : Serves s → Leaves Is s

-- the first database is committed, and a crash leaves it or the other
pub record IsBetween (Is Next : Database → Type 0) (before s : State) : Type 0 where
  pub clean : HasCleanDisk s → HasCleanDisk before
  pub rests : Rests Is s
  pub leaves : Serves before → HasCleanDisk s → LeavesEither Is Next s

module _ (entry : Option Entry) (kept : Answers) where
  -- the journal has this entry, which is such a one, if the disk has returned what was written
  pub record IsLoaded (Is : Option Entry → Type 0) (old new : State) : Type 0 where
    pub first : Serves new → Is entry
    pub kept_is : IsKept (HasEntry kept Is) old new

  -- what the journal has stays the same
  pub record IsUntouched (old new : State) : Type 0 where
    pub rests : Rests (TablesMean entry kept) new
    pub leaves : Serves old → HasCleanDisk new → Leaves (TablesMean entry kept) new

  abbrev pub Loads : State → State → Result Worker Stop → Type 0
  Loads old new result = MatchResult result (λ w. IsLoaded (IsEntryOf w) old new) (λ _. IsUntouched old new)
