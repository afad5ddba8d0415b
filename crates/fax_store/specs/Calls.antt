-- What a call leaves of a store, and of a work on it.
use Rattle.std.specs.Prelude.{◌≡◌, ℕ, List, false, IfErr, IfNone, IfOk, IfSome, OnErr, OnOk, Err, Option, Result, is_err, IsTrue}
use Rattle.sqlite.specs.Effect.{Database}
use Rattle.sqlite.specs.Held.{state}
use Rattle.sqlite.specs.Order.{Row}
use Rattle.sqlite.specs.State.{State, HasCleanDisk}
use Rattle.sqlite_trees.specs.declared.store.Store.{Ghosts}
use Rattle.fax_core.specs.Ledger.{Ledger}
use Rattle.fax_core.specs.Queue.{Queue}
use Rattle.fax_schema.specs.Schema.{our_tables}
use Rattle.fax_store.specs.Store.{CommitsNothing, GoesBack, HasRun, HasTables, IsRefusedFor, LeavesAlone, LeavesCommit, MeansNow, Reads, Serves, Stays}
use Rattle.fax_store.specs.Work.{Begins, BeginsAt, Changes, ChangesWhere, Commits, Forgets, Holds, IsOnlyUnavailable, MayCommit, Moves, Opens, Steps, Undoes, Withholds, Works}
use Rattle.fax_store.specs.declared.store.Store.{Store}
use Rattle.fax_store.specs.declared.work.Work.{Work}
use Rattle.fax_tables.specs.Fault.{OrUnavailable}
use Rattle.fax_tables.specs.declared.fault.StoreFault.{StoreFault}
use Rattle.fax_tables.specs.declared.fault.StoreFault.TheVariants.{Unavailable}

module _ {S : Type 0} (g : Ghosts S) where
  -- what a store's database shows, and that of the store that a work is on
  abbrev pub shown : Store S → State
  shown store = state g store.conn

  abbrev pub within : Work S → State
  within work = shown work.store.now

  -- ---- calls of a store

  -- The call changes nothing: the rows stay, and nothing is committed. A store that serves did before, and a disk that is clean was.
  pub record ChangesNothing (old new : Store S) : Type 0 where
    pub served : Serves (shown new) → Serves (shown old)
    pub clean : HasCleanDisk (shown new) → HasCleanDisk (shown old)
    pub stays : Stays (shown old) (shown new)
    pub crash : CommitsNothing (shown old) (shown new)

  -- The same, also within a work: an answer leaves all as it is, and a refusal what was committed.
  pub record Looks {A E : Type 0} (old new : Store S) (result : Result A E) : Type 0 where
    pub served : Serves (shown new) → Serves (shown old)
    pub clean : HasCleanDisk (shown new) → HasCleanDisk (shown old)
    pub reads : HasTables (shown old) → IsTrue (shown old).is_open → HasCleanDisk (shown new) → Reads (shown old) (shown new) result
    pub stays : Stays (shown old) (shown new)
    pub crash : CommitsNothing (shown old) (shown new)

  -- So does a reading, and an answer leaves the store serving.
  pub record Finds {A : Type 0} (old new : Store S) (result : Result A StoreFault) : Type 0 where
    pub served : Serves (shown new) → Serves (shown old)
    pub clean : HasCleanDisk (shown new) → HasCleanDisk (shown old)
    pub opens : OnOk result (HasCleanDisk (shown new) → Serves (shown new))
    pub reads : HasTables (shown old) → HasCleanDisk (shown new) → Reads (shown old) (shown new) result
    pub stays : Stays (shown old) (shown new)
    pub crash : CommitsNothing (shown old) (shown new)

  -- Of tables that mean a queue and kept replies the answer is one of which this holds, unless the store was unavailable.
  abbrev pub Answers : {A : Type 0} → Store S → Store S → Result A StoreFault → (Queue → Ledger → A → Type 0) → Type 0
  Answers old new result P = (m : Queue) (k : Ledger) → MeansNow (shown old) m k → Serves (shown new) → OrUnavailable result (P m k)

  -- Whatever the rows of our tables say, the answer is one of which this holds of them.
  abbrev pub AnswersRows : {A : Type 0} → Store S → Store S → Result A StoreFault → (Database → A → Type 0) → Type 0
  AnswersRows old new result P = (db : Database) → db.schema ≡ our_tables → (shown old).now ≡ db → HasCleanDisk (shown new) → IfOk result (P db)

  -- A reading: of what the tables mean the answer is one of which P holds.
  pub record Recalls {A : Type 0} (old new : Store S) (result : Result A StoreFault) (P : Queue → Ledger → A → Type 0) : Type 0 where
    pub leaves : Finds old new result
    pub answers : Answers old new result P

  -- The same, and only for want of an answer of the database is it refused.
  pub record RecallsOnly {A : Type 0} (old new : Store S) (result : Result A StoreFault) (P : Queue → Ledger → A → Type 0) : Type 0 where
    pub leaves : Finds old new result
    pub answers : Answers old new result P
    pub cause : IfErr result (λ fault. fault ≡ Unavailable)

  -- The same, and whatever the rows say, Q holds of them and the answer.
  pub record RecallsRows {A : Type 0} (old new : Store S) (result : Result A StoreFault) (P : Queue → Ledger → A → Type 0) (Q : Database → A → Type 0) : Type 0 where
    pub leaves : Finds old new result
    pub answers : Answers old new result P
    pub stands : AnswersRows old new result Q

  -- The same, and the answer by itself is lawful.
  pub record RecallsLawful {A : Type 0} (old new : Store S) (result : Result A StoreFault) (P : Queue → Ledger → A → Type 0) (Q : Database → A → Type 0) (Lawful : A → Type 0) : Type 0 where
    pub leaves : Finds old new result
    pub answers : Answers old new result P
    pub stands : AnswersRows old new result Q
    pub lawful : IfOk result Lawful

  -- A record is looked up: it is the one of the queue, or there is none. Whatever the rows say, where none is found they have none, and one that is found stands in them.
  pub record LooksUp {A : Type 0} (old new : Store S) (result : Result (Option A) StoreFault) (one : Queue → Option A) (HasOne : Database → Type 0) (Stands : Database → A → Type 0) : Type 0 where
    pub leaves : Finds old new result
    pub answers : Answers old new result (λ m k found. found ≡ one m)
    pub missing : AnswersRows old new result (λ db found. IfNone found (¬ HasOne db))
    pub stands : AnswersRows old new result (λ db found. IfSome found (Stands db))

  -- The same, and the record by itself is lawful.
  pub record LooksUpLawful {A : Type 0} (old new : Store S) (result : Result (Option A) StoreFault) (one : Queue → Option A) (HasOne : Database → Type 0) (Stands : Database → A → Type 0) (Lawful : A → Type 0) : Type 0 where
    pub leaves : Finds old new result
    pub answers : Answers old new result (λ m k found. found ≡ one m)
    pub missing : AnswersRows old new result (λ db found. IfNone found (¬ HasOne db))
    pub stands : AnswersRows old new result (λ db found. IfSome found (Stands db))
    pub lawful : IfOk result (λ found. IfSome found Lawful)

  -- A query: its answer is one of which this holds. A refusal leaves what was committed.
  pub record Queries {A : Type 0} (old new : Store S) (result : Result A StoreFault) (Shows : A → Type 0) : Type 0 where
    pub leaves : Finds old new result
    pub found : HasCleanDisk (shown new) → IfOk result Shows
    pub left : HasCleanDisk (shown new) → OnErr result (LeavesCommit (shown old) (shown new))
    pub cause : IfErr result (λ fault. fault ≡ Unavailable)

  -- A call within a work changes rows, and commits nothing.
  pub record Runs {A : Type 0} (old new : Store S) (result : Result A StoreFault) : Type 0 where
    pub served : Serves (shown new) → Serves (shown old)
    pub clean : HasCleanDisk (shown new) → HasCleanDisk (shown old)
    pub holds : Holds (shown old) false (shown new) (is_err result)
    pub crash : Withholds (shown old) false (shown new) (is_err result)

  -- A statement that edits rows has run, or it is refused for want of an answer of the database.
  pub record Edits (old new : Store S) (result : Result (Unit {0}) StoreFault) (sql : List ℕ) (params : Row) : Type 0 where
    pub leaves : Runs old new result
    pub ran : HasCleanDisk (shown new) → OnOk result (HasRun sql params (shown old) (shown new))
    pub left : HasCleanDisk (shown new) → OnErr result (LeavesCommit (shown old) (shown new))
    pub cause : IfErr result (λ fault. fault ≡ Unavailable)

  -- A statement that puts a row in has run, or its fault tells whether the row broke a rule of its table.
  pub record Inserts (old new : Store S) (result : Result (Unit {0}) StoreFault) (sql : List ℕ) (params : Row) : Type 0 where
    pub leaves : Runs old new result
    pub ran : HasCleanDisk (shown new) → OnOk result (HasRun sql params (shown old) (shown new))
    pub left : HasCleanDisk (shown new) → OnErr result (LeavesCommit (shown old) (shown new))
    pub told : HasCleanDisk (shown new) → IfErr result (IsRefusedFor sql params (shown old) (shown new))

  -- What was not committed is undone.
  pub record RollsBack (old new : Store S) : Type 0 where
    pub back : GoesBack (shown old) (shown new)
    pub crash : CommitsNothing (shown old) (shown new)
    pub served : Serves (shown new) → Serves (shown old)
    pub clean : HasCleanDisk (shown new) → HasCleanDisk (shown old)

  -- It makes this of what the tables mean. Only for want of an answer of the database is it refused.
  pub record Writes {A : Type 0} (old new : Store S) (result : Result A StoreFault) (f : Queue → Queue) (h : Ledger → Ledger) : Type 0 where
    pub leaves : Runs old new result
    pub written : (m₀ m : Queue) (k₀ k : Ledger) → Works (shown old) false m₀ k₀ m k → Serves (shown new) → Steps (shown new) result m₀ k₀ (f m) (h k)
    pub cause : IfErr result (λ fault. fault ≡ Unavailable)

  -- So it does of a queue of which P holds.
  pub record WritesWhere {A : Type 0} (old new : Store S) (result : Result A StoreFault) (P : Queue → Type 0) (f : Queue → Queue) (h : Ledger → Ledger) : Type 0 where
    pub leaves : Runs old new result
    pub written : (m₀ m : Queue) (k₀ k : Ledger) → P m → Works (shown old) false m₀ k₀ m k → Serves (shown new) → Steps (shown new) result m₀ k₀ (f m) (h k)
    pub cause : IfErr result (λ fault. fault ≡ Unavailable)

  -- It makes this of what the tables mean. Where that is Fit, only for want of an answer of the database is it refused.
  pub record WritesIf {A : Type 0} (old new : Store S) (result : Result A StoreFault) (Fit : Queue → Ledger → Type 0) (f : Queue → Queue) (h : Ledger → Ledger) : Type 0 where
    pub leaves : Runs old new result
    pub written : (m₀ m : Queue) (k₀ k : Ledger) → Works (shown old) false m₀ k₀ m k → Serves (shown new) → Moves (shown new) result m₀ k₀ (f m) (h k)
    pub cause : IsOnlyUnavailable (shown old) false (shown new) result Fit

  -- So it does of a queue of which P holds.
  pub record WritesIfWhere {A : Type 0} (old new : Store S) (result : Result A StoreFault) (P : Queue → Type 0) (Fit : Queue → Ledger → Type 0) (f : Queue → Queue) (h : Ledger → Ledger) : Type 0 where
    pub leaves : Runs old new result
    pub written : (m₀ m : Queue) (k₀ k : Ledger) → P m → Works (shown old) false m₀ k₀ m k → Serves (shown new) → Moves (shown new) result m₀ k₀ (f m) (h k)
    pub cause : IsOnlyUnavailable (shown old) false (shown new) result Fit

  -- ---- calls of a work

  -- The work begins with what the store has.
  pub record IsBegun (old : Store S) (new : Work S) : Type 0 where
    pub begun : Begins (shown old) (within new) new.failed
    pub at : BeginsAt (shown old) (within new) new.failed
    pub opens : Opens (shown old) (within new) new.failed
    pub served : Serves (within new) → Serves (shown old)
    pub clean : HasCleanDisk (within new) → HasCleanDisk (shown old)
    pub goes_on : new.failed ≡ false

  -- The work ends: its changes are those of the store, or the store is as it was where the work began.
  pub record Ends {A : Type 0} (old : Work S) (new : Store S) (result : Result A StoreFault) : Type 0 where
    pub committed : OnOk result (Commits (within old) old.failed (shown new))
    pub served : OnOk result (Serves (shown new) → Serves (within old))
    pub clean : HasCleanDisk (shown new) → HasCleanDisk (within old)
    pub opens : OnOk result (HasCleanDisk (shown new) → Serves (shown new))
    pub forgets : OnErr result (Forgets (within old) old.failed (shown new))
    pub undone : OnErr result (Undoes (within old) old.failed (shown new))
    pub crash : MayCommit (within old) old.failed (shown new)
    pub alone : OnOk result (Serves (shown new) → LeavesAlone (shown new) (within old).now.trees)
    pub refused : IsTrue old.failed → result ≡ Err Unavailable
    pub cause : IfErr result (λ fault. fault ≡ Unavailable)

  -- The work is given up, and the store is as it was where it began.
  pub record Drops (old : Work S) (new : Store S) : Type 0 where
    pub forgets : Forgets (within old) old.failed (shown new)
    pub undone : Undoes (within old) old.failed (shown new)
    pub crash : CommitsNothing (within old) (shown new)
    pub clean : HasCleanDisk (shown new) → HasCleanDisk (within old)
    pub served : Serves (shown new) → Serves (within old)

  -- The call commits nothing: the work goes on over the same store.
  pub record Follows (old new : Work S) : Type 0 where
    pub same_reference : new.store.ghost_name ≡ old.store.ghost_name
    pub served : Serves (within new) → Serves (within old)
    pub clean : HasCleanDisk (within new) → HasCleanDisk (within old)
    pub holds : Holds (within old) old.failed (within new) new.failed
    pub crash : Withholds (within old) old.failed (within new) new.failed

  -- So does a call of a work's own. A refusal ends the work: each later call is refused.
  pub record Calls {A : Type 0} (old new : Work S) (result : Result A StoreFault) : Type 0 where
    pub same_reference : new.store.ghost_name ≡ old.store.ghost_name
    pub served : Serves (within new) → Serves (within old)
    pub clean : HasCleanDisk (within new) → HasCleanDisk (within old)
    pub holds : Holds (within old) old.failed (within new) new.failed
    pub crash : Withholds (within old) old.failed (within new) new.failed
    pub fails : new.failed ≡ is_err result
    pub refused : IsTrue old.failed → result ≡ Err Unavailable

  -- what the work means becomes this
  abbrev pub Becomes : Work S → Work S → (Queue → Queue) → (Ledger → Ledger) → Type 0
  Becomes old new f h = Changes (within old) old.failed (within new) new.failed f h

  -- so does a queue of which P holds
  abbrev pub BecomesWhere : Work S → Work S → (Queue → Type 0) → (Queue → Queue) → (Ledger → Ledger) → Type 0
  BecomesWhere old new P f h = ChangesWhere P (within old) old.failed (within new) new.failed f h

  -- where this holds of what the work means, the call is refused for want of an answer of the database alone
  abbrev pub FailsOnly : {A : Type 0} → Work S → Work S → Result A StoreFault → (Queue → Ledger → Type 0) → Type 0
  FailsOnly old new result P = IsOnlyUnavailable (within old) old.failed (within new) result P

  -- The call makes this of what the work means. Only for want of an answer of the database is it refused.
  pub record Makes {A : Type 0} (old new : Work S) (result : Result A StoreFault) (f : Queue → Queue) (h : Ledger → Ledger) : Type 0 where
    pub leaves : Calls old new result
    pub changes : Becomes old new f h
    pub cause : IfErr result (λ fault. fault ≡ Unavailable)

  -- So it does of a queue of which P holds.
  pub record MakesWhere {A : Type 0} (old new : Work S) (result : Result A StoreFault) (P : Queue → Type 0) (f : Queue → Queue) (h : Ledger → Ledger) : Type 0 where
    pub leaves : Calls old new result
    pub changes : BecomesWhere old new P f h
    pub cause : IfErr result (λ fault. fault ≡ Unavailable)

  -- The call makes this of what the work means. Where that is Fit, only for want of an answer of the database is it refused.
  pub record MakesIf {A : Type 0} (old new : Work S) (result : Result A StoreFault) (Fit : Queue → Ledger → Type 0) (f : Queue → Queue) (h : Ledger → Ledger) : Type 0 where
    pub leaves : Calls old new result
    pub changes : Becomes old new f h
    pub cause : FailsOnly old new result Fit
