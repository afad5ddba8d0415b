-- What a call leaves of a journal.
use Rattle.std.specs.Prelude.{◌≡◌, ◌⊎◌, ℕ, List, [], Option, MatchOption, Result, OnOk, OnErr, IfErr, IfOk}
use Rattle.sqlite.specs.Effect.{Database}
use Rattle.sqlite.specs.Held.{state}
use Rattle.sqlite.specs.Order.{Row}
use Rattle.sqlite.specs.State.{State, HasCleanDisk, IsUnchanged, IsRolledBack, Shown, Survives, CommitsShowing}
use Rattle.sqlite_rules.specs.Lists.{Has}
use Rattle.sqlite_trees.specs.declared.store.Store.{Ghosts}
use Rattle.fax_tables.specs.Fault.{OrUnavailable}
use Rattle.fax_tables.specs.declared.fault.StoreFault.{StoreFault}
use Rattle.fax_tables.specs.declared.fault.StoreFault.TheVariants.{Unavailable, Strange}
use Rattle.fax_journal.specs.Entry.{Entry}
use Rattle.fax_journal.specs.Journal.{Answers, FileMeans, Leaves, LeavesEither, Rests, Serves, TablesMean}
use Rattle.fax_journal.specs.Schema.{AreKnown}
use Rattle.fax_journal.specs.declared.journal.Journal.{Journal}

-- what a journal's database shows
abbrev pub shown : {S : Type 0} → Ghosts S → Journal S → State
shown g journal = state g journal.conn

module _ (old new : State) where
  -- what a call leaves that was refused
  abbrev pub LeavesCommit : Type 0
  LeavesCommit = IsUnchanged old new ⊎ IsRolledBack old new

  -- A query finds a row, or none. It commits nothing.
  pub record Finds (sql : List ℕ) (params : Row) (result : Result (Option Row) StoreFault) : Type 0 where
    pub found : HasCleanDisk new → IfOk result (λ found. (rows : List Row) × Shown sql params old new rows × MatchOption found (rows ≡ []) (Has rows))
    pub left : HasCleanDisk new → OnErr result LeavesCommit
    pub survives : Survives old new (CommitsShowing sql params old)
    pub cause : IfErr result (λ fault. fault ≡ Unavailable)

  -- The call makes a database that is the second of one that was the first, or it leaves it. A crash leaves the one or the other, and after an Ok the second alone.
  pub record Changes {A : Type 0} (result : Result A StoreFault) (Was Is : Database → Type 0) : Type 0 where
    pub served : Serves new → Serves old
    pub clean : HasCleanDisk new → HasCleanDisk old
    pub opens : OnOk result (Serves old → Rests Was old → HasCleanDisk new → Serves new)
    pub done : OnOk result (Rests Was old → Rests Is new)
    pub alone : OnOk result (Rests Was old → Serves new → Leaves Is new)
    pub kept : OnErr result (Rests Was old → Rests Was new)
    pub crash : Serves old → Rests Was old → HasCleanDisk new → LeavesEither Was Is new

  -- The call leaves a database as it is, and a crash leaves that. Its answer is one of which this holds.
  pub record Tells {A : Type 0} (result : Result A StoreFault) (Is : Database → Type 0) (P : A → Type 0) : Type 0 where
    pub served : Serves new → Serves old
    pub clean : HasCleanDisk new → HasCleanDisk old
    pub opens : OnOk result (HasCleanDisk new → Serves new)
    pub kept : Rests Is old → Rests Is new
    pub crash : Serves old → Rests Is old → HasCleanDisk new → Leaves Is new
    pub told : Rests Is old → Serves new → OrUnavailable result P

  -- The database is that of a journal, or one that is to be. It has the tables of a journal now, and means what it meant before. So does what a crash leaves.
  pub record IsAdopted : Type 0 where
    pub known : AreKnown old.now.schema
    pub served : Serves new → Serves old
    pub clean : HasCleanDisk new → HasCleanDisk old
    pub opens : (entry : Option Entry) (answers : Answers) → Serves old → Rests (FileMeans entry answers) old → HasCleanDisk new → Serves new
    pub means : (entry : Option Entry) (answers : Answers) → Rests (FileMeans entry answers) old → Rests (TablesMean entry answers) new
    pub crash : (entry : Option Entry) (answers : Answers) → Serves old → Rests (FileMeans entry answers) old → HasCleanDisk new → Leaves (FileMeans entry answers) new

  -- The database means what it meant before, and so does what a crash leaves. It is strange where it isn't that of a journal.
  pub record IsGivenBack (fault : StoreFault) : Type 0 where
    pub strange : fault ≡ Strange → AreKnown old.now.schema → ⊥
    pub served : Serves new → Serves old
    pub clean : HasCleanDisk new → HasCleanDisk old
    pub means : (entry : Option Entry) (answers : Answers) → Rests (FileMeans entry answers) old → Rests (FileMeans entry answers) new
    pub crash : (entry : Option Entry) (answers : Answers) → Serves old → Rests (FileMeans entry answers) old → HasCleanDisk new → Leaves (FileMeans entry answers) new
