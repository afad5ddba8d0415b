-- What becomes of a database that a store adopts.
use Rattle.std.specs.Prelude.{◌≡◌, ◌≢◌, ◌⊎◌, ◌<◌, ◌^◌, ℕ, pos, Bool, true, false, not, List, [], ◌∷◌, filter, map, length, Some, Err, Result, MatchResult, IfErr, OnErr, OnOk, is_err, IsTrue}
use Rattle.std.specs.List.{AllByRecursion, list_any}
use Rattle.sqlite.specs.Collation.TheVariants.{Binary}
use Rattle.sqlite.specs.Effect.{Database, IsDatabase}
use Rattle.sqlite.specs.Order.{Row, column}
use Rattle.sqlite.specs.State.{State, HasCleanDisk, IsUnchanged, KeepsCommit}
use Rattle.sqlite.specs.Tree.{rowid, IsTable}
use Rattle.sqlite.specs.View.{is_int}
use Rattle.sqlite.specs.declared.types.Value.{Value}
use Rattle.sqlite.specs.declared.types.Value.TheVariants.{Int, Text}
use Rattle.sqlite_catalog.specs.Change.{KeepsRows}
use Rattle.sqlite_rules.specs.Lists.{Has}
use Rattle.sqlite_schema.specs.Rules.{equal, is_of}
use Rattle.sqlite_schema.specs.declared.schema.Kind.TheVariants.{Integer}
use Rattle.sqlite_schema.specs.declared.schema.Schema.{Schema}
use Rattle.sqlite_sql.specs.Ops.{binary, is_true}
use Rattle.sqlite_sql.specs.declared.ops.BinaryOp.TheVariants.{Compare}
use Rattle.sqlite_sql.specs.declared.ops.CompareOp.TheVariants.{Eq}
use Rattle.fax_core.specs.Job.{Job}
use Rattle.fax_core.specs.Ledger.{Ledger, empty_ledger}
use Rattle.fax_core.specs.Queue.{Queue, empty_queue, job_numbered}
use Rattle.fax_core.specs.State.{is_of_number}
use Rattle.fax_value.specs.Dial.{IsCanonical}
use Rattle.fax_tables.specs.Job.{IsText}
use Rattle.fax_tables.specs.Row.{number, raised}
use Rattle.fax_layout.specs.ByRowid.{IsByRowid}
use Rattle.fax_schema.specs.Schema.{AreOurs, alike_list, no_tables, our_tables, core_tables, calls_tree, floors_tree, grants_tree, holds_tree, jobs_tree, meta_tree, times_tree}
use Rattle.fax_schema.specs.Way.{IsWay}
use Rattle.fax_schema.specs.declared.way.Way.{Way}
use Rattle.fax_tables.specs.Tables.{GoesOn, HasVersion, IsAtRest, RowsMean, TablesMean, added_in, grants_as, grants_in, meta_as, meta_in, time_made, times_as, times_in, version_of, versions}
use Rattle.sqlite_trees.specs.Tree.{Trees}
use Rattle.fax_store.specs.Grant.{HasCalls, SetsCalls}
use Rattle.fax_store.specs.Work.{Withholds}
use Rattle.fax_store.specs.Store.{CommitsNothing, GoesBack, HasTables, LeavesAlone, MayMake, Means, RowsFound, Serves}
use Rattle.fax_tables.specs.declared.fault.StoreFault.{StoreFault}
use Rattle.fax_tables.specs.declared.fault.StoreFault.TheVariants.{Strange, Unavailable}
use Rattle.fax_layout.specs.Stop.{HoldsBack}

-- this value is the number of the job, as SQL compares them
abbrev pub IsOf : Value → Row → Type 0
IsOf value job = is_true (binary (Compare Eq Binary) (rowid job) value) ≡ true

-- each hold is of a job that is there
abbrev pub HoldJobs : Database → Type 0
HoldJobs db = (hold : Row) → Has (db.trees holds_tree) hold → (job : Row) × Has (db.trees jobs_tree) job × IsOf (column hold 2) job

-- the database has our tables, meta has one row, of their version, and each hold its job
pub record IsOurs (db : Database) : Type 0 where
  pub schema_is : AreOurs db.schema
  pub version : HasVersion db
  pub held : HoldJobs db

-- the version is the third, or the rowids of these rows are integers and rise, as those of each table do
abbrev pub IsRaisable : ℕ → List Row → Type 0
IsRaisable version rows = (version ≡ 3) ⊎ IsByRowid rows

-- all nine tables, with the rows that the other has, as the third version has them
pub record IsTaken (db after : Database) : Type 0 where
  pub schema_is : after.schema ≡ our_tables
  pub sound : IsDatabase after
  pub rows : KeepsRows alike_list db.trees after.trees
  pub grants : IsRaisable (version_of db.schema) (db.trees grants_tree) → after.trees grants_tree ≡ grants_in db
  pub meta : IsRaisable (version_of db.schema) (db.trees meta_tree) → after.trees meta_tree ≡ meta_in db
  pub floors : after.trees floors_tree ≡ added_in db floors_tree
  pub times : IsRaisable (version_of db.schema) (db.trees jobs_tree) → after.trees times_tree ≡ times_in db

-- no work is under way, and the database has got all of them
pub record HasTaken (s : State) (db : Database) : Type 0 where
  pub autocommit : s.in_transaction ≡ false
  pub settled : s.now ≡ s.committed
  pub taken : IsTaken db s.now

-- a database with ours has got all tables, and has the rows that it had
abbrev pub HasBecome : Database → State → Type 0
HasBecome db new = IsOurs db × HasTaken new db

-- so it has, or one with no tables has become an empty store
abbrev pub Adopts : Database → State → Type 0
Adopts db new = ((db.schema ≡ no_tables) × IsAtRest new empty_queue empty_ledger) ⊎ HasBecome db new

-- the job has a canonical number to dial
abbrev pub HasDial : Row → Type 0
HasDial job = (dial : List ℕ) × (column job 2 ≡ Text dial) × IsText IsCanonical dial

-- A job of this number, of 32 bits, is there. Whichever job has it has a canonical number to dial.
pub record CanBeCalled (db : Database) (n : ℕ) : Type 0 where
  pub low : n < 2 ^ 32
  pub job : Row
  pub there : Has (db.trees jobs_tree) job
  pub is : IsOf (number n) job
  pub dials : (other : Row) → Has (db.trees jobs_tree) other → IsOf (number n) other → HasDial other

-- each hold is of such a job
abbrev pub HoldsCanBeCalled : Database → Type 0
HoldsCanBeCalled db = (hold : Row) → Has (db.trees holds_tree) hold → (n : ℕ) × (column hold 2 ≡ number n) × CanBeCalled db n

-- Our tables, of any version. What is held can be called, whatever else the rows say.
pub record IsTakeable (db : Database) : Type 0 where
  pub schema_is : AreOurs db.schema
  pub version : HasVersion db
  pub held : HoldsCanBeCalled db

-- it has no tables, or is such a database
abbrev pub IsAdoptable : Database → Type 0
IsAdoptable db = (db.schema ≡ no_tables) ⊎ IsTakeable db

-- So is each with our tables whose rows mean a queue and kept replies, whatever `calls` says.
abbrev pub QueuesAreTakeable : Type 0
QueuesAreTakeable = (db : Database) (m : Queue) (k : Ledger) → AreOurs db.schema → RowsMean db m k → IsTakeable db

-- ---- the steps of it

-- A step from a state of which P holds. Where it is done the transaction goes on, and Q tells of the databases before and behind it; where it is refused the last commit stands.
abbrev pub Goes : {A E : Type 0} → (State → Type 0) → (Database → Database → Type 0) → State → State → Result A E → Type 0
Goes P Q old new result = HasCleanDisk new → P old → MatchResult result (λ _. GoesOn old new × Q old.now new.now) (λ _. KeepsCommit old new)

-- So does a step from there, of which nothing is committed. A disk that is clean was before.
pub record Turns {A E : Type 0} (P : State → Type 0) (Q : Database → Database → Type 0) (old new : State) (result : Result A E) : Type 0 where
  pub goes : Goes P Q old new result
  pub crash : HoldsBack P old new
  pub clean : HasCleanDisk new → HasCleanDisk old

-- So does one that is refused only for want of an answer of the database.
pub record TurnsOrUnavailable {A : Type 0} (P : State → Type 0) (Q : Database → Database → Type 0) (old new : State) (result : Result A StoreFault) : Type 0 where
  pub leaves : Turns P Q old new result
  pub cause : IfErr result (λ fault. fault ≡ Unavailable)

-- A look at all tables, within a transaction: the answer tells that X holds of their rows, and all stays as it is. They are strange only where X doesn't hold. Nothing is committed.
pub record Tests {A : Type 0} (X : Database → Type 0) (old new : State) (result : Result A StoreFault) : Type 0 where
  pub ours : HasTables old → HasCleanDisk new → OnOk result (X old.now × IsUnchanged old new)
  pub left : HasCleanDisk new → HasTables old → OnErr result (KeepsCommit old new)
  pub clean : HasCleanDisk new → HasCleanDisk old
  pub crash : CommitsNothing old new
  pub strange : HasTables old → HasCleanDisk new → result ≡ Err Strange → ¬ X old.now

-- a transaction is under way in an open database, over these tables
pub record IsIn (Ours : Schema → Type 0) (s : State) : Type 0 where
  pub is_open : IsTrue s.is_open
  pub inside : IsTrue s.in_transaction
  pub schema_is : Ours s.now.schema

-- the tables of a queue, which go this way
abbrev pub AreOnTheWay : Way → Schema → Type 0
AreOnTheWay way schema = AreOurs schema × IsWay way schema

-- a transaction is under way over all tables, and no call is counted yet
pub record HasNone (s : State) : Type 0 where
  pub is_open : IsTrue s.is_open
  pub inside : IsTrue s.in_transaction
  pub schema_is : s.now.schema ≡ our_tables
  pub sound : IsDatabase s.now
  pub none : s.now.trees calls_tree ≡ []

-- all nine tables, with the rows that the other has in eight of them
pub record IsWhole (db after : Database) : Type 0 where
  pub schema_is : after.schema ≡ our_tables
  pub sound : IsDatabase after
  pub rows : KeepsRows core_tables.tables db.trees after.trees

-- our tables, where at most the rows of this one have changed
pub record ChangesOnly (tree : ℕ) (db after : Database) : Type 0 where
  pub schema_is : after.schema ≡ our_tables
  pub sound : IsDatabase after
  pub others : AllByRecursion (λ t. t.tree ≢ tree → after.trees t.tree ≡ db.trees t.tree) our_tables.tables

-- ---- the rows of an earlier version become those of the third

-- each of these rows begins with an integer
abbrev pub AreNumbered : List Row → Type 0
AreNumbered rows = AllByRecursion (λ row. IsTrue (is_int (column row 0))) rows

-- one of these rows begins with the number of a grant
abbrev pub is_listed : List Row → Row → Bool
is_listed rows grant = list_any (λ row. equal Binary (column grant 0) (column row 0)) rows

-- the grants whose numbers these rows have are gone
pub record AreDropped (rows : List Row) (db after : Database) : Type 0 where
  pub only : ChangesOnly grants_tree db after
  pub left : AreNumbered rows → IsByRowid (db.trees grants_tree) → after.trees grants_tree ≡ filter (λ grant. not (is_listed rows grant)) (db.trees grants_tree)

-- the grants whose job isn't there are gone
pub record HasNoStrays (db after : Database) : Type 0 where
  pub only : ChangesOnly grants_tree db after
  pub left : IsByRowid (db.trees grants_tree) → after.trees grants_tree ≡ grants_as 1 db.trees

-- the times of the job in a row of its number and phase
abbrev pub timed : Value → Row → Row
timed clock row = time_made clock (column row 0) (column row 1)

-- these rows begin with integers, and the clock is stored as it is
pub record CanBeTimed (clock : Value) (rows : List Row) : Type 0 where
  pub numbers : AreNumbered rows
  pub stored : is_of Integer clock ≡ true

-- the rows of times are those before and those of these jobs
pub record HaveTimes (clock : Value) (rows before after : List Row) : Type 0 where
  pub rise : IsTable before → IsTable after
  pub each : (row : Row) → Has after row → Has before row ⊎ Has (map (timed clock) rows) row
  pub all : (row : Row) → Has before row ⊎ Has (map (timed clock) rows) row → Has after row

-- the jobs of these rows have their times
pub record AreTimed (clock : Value) (rows : List Row) (db after : Database) : Type 0 where
  pub only : ChangesOnly times_tree db after
  pub made : CanBeTimed clock rows → HaveTimes clock rows (db.trees times_tree) (after.trees times_tree)

-- all jobs have their times
pub record HasTimes (db after : Database) : Type 0 where
  pub only : ChangesOnly times_tree db after
  pub made : (version : Value) → versions db ≡ version ∷ [] → db.trees times_tree ≡ [] → IsByRowid (db.trees jobs_tree) → after.trees times_tree ≡ times_as 1 db.trees

-- meta has the third version
pub record HasThird (db after : Database) : Type 0 where
  pub only : ChangesOnly meta_tree db after
  pub raised : IsByRowid (db.trees meta_tree) → after.trees meta_tree ≡ map raised (db.trees meta_tree)

-- in an earlier version no job has times yet
abbrev pub IsUntimed : ℕ → Database → Type 0
IsUntimed version db = (version ≡ 3) ⊎ (db.trees times_tree ≡ [])

-- all tables, where the rows of this version have become those of the third
pub record IsThird (version : ℕ) (db after : Database) : Type 0 where
  pub schema_is : after.schema ≡ our_tables
  pub sound : IsDatabase after
  pub rows : KeepsRows alike_list db.trees after.trees
  pub grants : IsRaisable version (db.trees grants_tree) → after.trees grants_tree ≡ grants_as version db.trees
  pub meta : IsRaisable version (db.trees meta_tree) → after.trees meta_tree ≡ meta_as version (db.trees meta_tree)
  pub floors : after.trees floors_tree ≡ db.trees floors_tree
  pub times : versions db ≡ number version ∷ [] → IsUntimed version db → IsRaisable version (db.trees jobs_tree) → after.trees times_tree ≡ times_as version db.trees

-- the same, with the calls as they were
abbrev pub IsSettled : ℕ → Database → Database → Type 0
IsSettled version db after = IsThird version db after × (after.trees calls_tree ≡ db.trees calls_tree)

-- The database was of this version, with a job for each hold, and its rows have become those of the third.
pub record IsFilled (version : ℕ) (db after : Database) : Type 0 where
  pub version_is : versions db ≡ number version ∷ []
  pub held : HoldJobs db
  pub third : IsThird version db after

-- the rows of all tables but `calls` are those of a database that means this
abbrev pub CoreMeans : Database → Queue → Ledger → Type 0
CoreMeans db m k = (full : Database) × TablesMean full m k × KeepsRows core_tables.tables full.trees db.trees

-- and so are they once they are as the third version has those of this
pub record MeansAs (version : ℕ) (db : Database) (m : Queue) (k : Ledger) : Type 0 where
  pub version_is : versions db ≡ number version ∷ []
  pub untimed : IsUntimed version db
  pub ordered : IsByRowid (db.trees grants_tree)
  pub full : Database
  pub means : TablesMean full m k
  pub rows : KeepsRows alike_list db.trees full.trees
  pub grants : full.trees grants_tree ≡ grants_as version db.trees
  pub meta : full.trees meta_tree ≡ meta_as version (db.trees meta_tree)
  pub floors : full.trees floors_tree ≡ db.trees floors_tree
  pub times : full.trees times_tree ≡ times_as version db.trees

-- ---- the calls, counted anew

-- each count has 32 bits
abbrev pub AreSmall : (List ℕ → ℕ) → Type 0
AreSmall count = (dial : List ℕ) → count dial < 2 ^ 32

-- some such counts are set
abbrev pub HasSet : State → State → Type 0
HasSet old new = (count : List ℕ → ℕ) × SetsCalls old new count × AreSmall count

-- the number that a value is
abbrev pub number_of : Value → ℕ
number_of (Int (pos n)) = n
number_of other = 0

-- the row has the number of a job to this canonical number
abbrev pub is_to : Queue → List ℕ → Row → Bool
is_to m dial row = is_of_number dial (job_numbered (number_of (column row 0)) m)

-- how many of these rows have
abbrev pub held_to : Queue → List Row → List ℕ → ℕ
held_to m rows dial = length (filter (is_to m dial) rows)

-- each of these rows has the number of a job
abbrev pub AreOfJobs : Queue → List Row → Type 0
AreOfJobs m rows = (row : Row) → Has rows row → (j : Job) × (row ≡ number j.number ∷ []) × (job_numbered j.number m ≡ Some j)

-- each of these rows has the number of a job that can be called
abbrev pub AreCallable : Database → List Row → Type 0
AreCallable db rows = (row : Row) → Has rows row → (n : ℕ) × (row ≡ number n ∷ []) × CanBeCalled db n

-- ---- a stop

-- these are the rows that the database had, as the third version has them, beside those of `calls`
abbrev pub AreTaken : Database → Trees → Type 0
AreTaken db found = (after : Database) × (after.trees ≡ found) × IsOurs db × IsTaken db after

-- what adopting makes of a database: the rows of an empty store where it had no tables, or those that it had
abbrev pub AreAdopted : Database → Trees → Type 0
AreAdopted db found = ((db.schema ≡ no_tables) × RowsFound found empty_queue empty_ledger) ⊎ AreTaken db found

-- ---- what it comes to

-- A call with a transaction of its own. Where it is refused, the last commit stands. Where it is done, the store serves, as long as the disk is clean. A store that serves did before.
pub record Settles {A : Type 0} (old new : State) (result : Result A StoreFault) : Type 0 where
  pub kept : HasCleanDisk new → OnErr result (KeepsCommit old new)
  pub served : Serves new → Serves old
  pub clean : HasCleanDisk new → HasCleanDisk old
  pub opens : OnOk result (HasCleanDisk new → Serves new)

-- So are the tables made of an empty store, all or none. That is refused only for want of an answer of the database.
pub record Founds {A : Type 0} (old new : State) (result : Result A StoreFault) : Type 0 where
  pub settles : Settles old new result
  pub made : HasCleanDisk new → OnOk result (IsAtRest new empty_queue empty_ledger)
  pub crash : MayMake old new (λ found. RowsFound found empty_queue empty_ledger)
  pub cause : IfErr result (λ fault. fault ≡ Unavailable)

-- So is a database taken: Made holds of what was there and of what it has become, and Left of what was there and of the rows that a crash leaves. Rows that mean a queue and kept replies do so still. It is strange only where it isn't Fit, and then nothing is committed.
pub record Takes {A : Type 0} (Made : Database → State → Type 0) (Left : Database → Trees → Type 0) (Fit : Database → Type 0) (old new : State) (result : Result A StoreFault) : Type 0 where
  pub settles : Settles old new result
  pub taken : HasCleanDisk new → OnOk result (Made old.now new)
  pub means : (m : Queue) (k : Ledger) → HasCleanDisk new → OnOk result (AreOurs old.now.schema → RowsMean old.now m k → IsAtRest new m k)
  pub crash : MayMake old new (Left old.now)
  pub nothing : result ≡ Err Strange → CommitsNothing old new
  pub strange : HasCleanDisk new → result ≡ Err Strange → ¬ Fit old.now

-- A store has the database, and serves. What it means is what the tables or their rows meant, whether they were a store's or what a crash left.
pub record IsAdopted (old new : State) : Type 0 where
  pub adopts : HasCleanDisk new → Adopts old.now new
  pub means : (m : Queue) (k : Ledger) → Means old m k → Means new m k
  pub means_rows : (m : Queue) (k : Ledger) → AreOurs old.now.schema → RowsMean old.now m k → Means new m k
  pub reopens : (m : Queue) (k : Ledger) → RowsFound old.now.trees m k → IsDatabase old.now → Means new m k
  pub served : Serves new → Serves old
  pub clean : HasCleanDisk new → HasCleanDisk old
  pub opens : HasCleanDisk new → Serves new
  pub crash : MayMake old new (AreAdopted old.now)
  pub alone : Serves new → LeavesAlone new new.committed.trees

-- The database comes back as it was, with no transaction open. It was strange only where it can't be adopted, and then nothing was committed.
pub record IsGivenBack (old new : State) (fault : StoreFault) : Type 0 where
  pub back : GoesBack old new
  pub crash_before : MayMake old new (AreAdopted old.now)
  pub nothing : fault ≡ Strange → CommitsNothing old new
  pub served_before : Serves new → Serves old
  pub clean_before : HasCleanDisk new → HasCleanDisk old
  pub strange : HasCleanDisk new → fault ≡ Strange → ¬ IsAdoptable old.now

-- ---- a call counted

-- Calls are counted, from small counts to small ones. Nothing is committed.
pub record Counts {A : Type 0} (old new : State) (result : Result A StoreFault) : Type 0 where
  pub set : (count : List ℕ → ℕ) → HasCalls old count → AreSmall count → HasCleanDisk new → MatchResult result (λ _. HasSet old new) (λ _. KeepsCommit old new)
  pub crash : Withholds old false new (is_err result)
  pub clean : HasCleanDisk new → HasCleanDisk old
