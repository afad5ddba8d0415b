-- What a work shows.
use Rattle.std.specs.Prelude.{◌≡◌, Bool, false, Result, MatchResult, IfErr, IsTrue}
use Rattle.sqlite.specs.Effect.{Database}
use Rattle.sqlite.specs.State.{State, HasCleanDisk}
use Rattle.fax_tables.specs.declared.fault.StoreFault.{StoreFault}
use Rattle.fax_tables.specs.declared.fault.StoreFault.TheVariants.{Unavailable}
use Rattle.fax_core.specs.Ledger.{Ledger}
use Rattle.fax_core.specs.Queue.{Queue}
use Rattle.fax_schema.specs.Schema.{our_tables}
use Rattle.fax_tables.specs.Tables.{TablesMean}
use Rattle.fax_store.specs.Store.{Serves, Means, Rests, HasTables, CommitsNothing, MayMake}

-- ---- the rows, whatever they say

-- The work began at these rows, which a drop goes back to. Unless a call of it was refused, it is under way.
pub record IsOver (s : State) (failed : Bool) (db : Database) : Type 0 where
  pub began : s.committed ≡ db
  pub goes_on : failed ≡ false → IsTrue s.in_transaction × (s.now.schema ≡ our_tables)

-- a work begins at the rows of the store
abbrev pub BeginsAt : State → State → Bool → Type 0
BeginsAt old new failed = (db : Database) → db.schema ≡ our_tables → Rests old db → Serves new → IsOver new failed db

-- a call of a work commits nothing
abbrev pub Holds : State → Bool → State → Bool → Type 0
Holds old failed new failed_after = (db : Database) → (Serves old → IsOver old failed db) → Serves new → IsOver new failed_after db

-- the store has the rows at which the work began
abbrev pub Forgets : State → Bool → State → Type 0
Forgets old failed new = (db : Database) → (Serves old → IsOver old failed db) → Rests new db

-- ---- a stop

-- the work is under way in an open database with our tables
pub record IsOn (s : State) : Type 0 where
  pub is_open : IsTrue s.is_open
  pub inside : IsTrue s.in_transaction
  pub schema_is : s.now.schema ≡ our_tables

-- so it is unless a call of it was refused, as long as the disk is clean
abbrev pub IsActive : State → Bool → Type 0
IsActive s failed = HasCleanDisk s → failed ≡ false → IsOn s

-- a work that begins over our tables is active, and nothing is committed
abbrev pub Opens : State → State → Bool → Type 0
Opens old new failed = ((Serves old → HasTables old) → IsActive new failed) × CommitsNothing old new

-- a call of an active work commits nothing, and leaves it active unless it is refused
abbrev pub Withholds : State → Bool → State → Bool → Type 0
Withholds old failed new failed_after = IsActive old failed → IsActive new failed_after × CommitsNothing old new

-- A crash behind a commit leaves what a crash before could leave, or the tables of the work.
abbrev pub MayCommit : State → Bool → State → Type 0
MayCommit old failed new = IsActive old failed → MayMake old new (λ found. (failed ≡ false) × IsOn old × (found ≡ old.now.trees))

-- ---- what they mean

-- the work is under way, and its tables mean this
pub record IsInside (s : State) (m : Queue) (k : Ledger) : Type 0 where
  pub inside : IsTrue s.in_transaction
  pub means : TablesMean s.now m k

-- where the work began, which a drop goes back to, and what it means unless a call of it was refused
pub record IsUnderWay (s : State) (failed : Bool) (m₀ : Queue) (k₀ : Ledger) (m : Queue) (k : Ledger) : Type 0 where
  pub began : TablesMean s.committed m₀ k₀
  pub goes_on : failed ≡ false → IsInside s m k

-- The work began at this queue with these kept replies, and has made these of them, as long as the store serves.
abbrev pub Works : State → Bool → Queue → Ledger → Queue → Ledger → Type 0
Works s failed m₀ k₀ m k = Serves s → IsUnderWay s failed m₀ k₀ m k

-- a work begins with what the store means
abbrev pub Begins : State → State → Bool → Type 0
Begins old new failed = (m : Queue) (k : Ledger) → Means old m k → Works new failed m k m k

-- the store then means what the work made
abbrev pub Commits : State → Bool → State → Type 0
Commits old failed new = (m₀ m : Queue) (k₀ k : Ledger) → Works old failed m₀ k₀ m k → Means new m k

-- the store then means what it did where the work began
abbrev pub Undoes : State → Bool → State → Type 0
Undoes old failed new = (m₀ m : Queue) (k₀ k : Ledger) → Works old failed m₀ k₀ m k → Means new m₀ k₀

-- a call makes this of what the work means
abbrev pub Changes : State → Bool → State → Bool → (Queue → Queue) → (Ledger → Ledger) → Type 0
Changes old failed new failed_after f g = (m₀ m : Queue) (k₀ k : Ledger) → Works old failed m₀ k₀ m k → Works new failed_after m₀ k₀ (f m) (g k)

-- the same of a queue of which P holds
abbrev pub ChangesWhere : (Queue → Type 0) → State → Bool → State → Bool → (Queue → Queue) → (Ledger → Ledger) → Type 0
ChangesWhere P old failed new failed_after f g = (m₀ m : Queue) (k₀ k : Ledger) → P m → Works old failed m₀ k₀ m k → Works new failed_after m₀ k₀ (f m) (g k)

-- a call leaves what the work means
abbrev pub Keeps : State → Bool → State → Bool → Type 0
Keeps old failed new failed_after = Changes old failed new failed_after (λ m. m) (λ k. k)

-- A step of a work makes this of it. Where it was refused, the last commit stands.
abbrev pub Steps : {A : Type 0} → State → Result A StoreFault → Queue → Ledger → Queue → Ledger → Type 0
Steps new result m₀ k₀ m k = MatchResult result (λ _. IsUnderWay new false m₀ k₀ m k) (λ fault. (fault ≡ Unavailable) × TablesMean new.committed m₀ k₀)

-- the same, whatever the fault was
abbrev pub Moves : {A : Type 0} → State → Result A StoreFault → Queue → Ledger → Queue → Ledger → Type 0
Moves new result m₀ k₀ m k = MatchResult result (λ _. IsUnderWay new false m₀ k₀ m k) (λ fault. TablesMean new.committed m₀ k₀)

-- Where the tables mean a queue of which P holds, the call is refused for want of an answer of the database alone.
abbrev pub IsOnlyUnavailable : {A : Type 0} → State → Bool → State → Result A StoreFault → (Queue → Ledger → Type 0) → Type 0
IsOnlyUnavailable old failed new result P = (m₀ m : Queue) (k₀ k : Ledger) → Works old failed m₀ k₀ m k → Serves new → P m k → IfErr result (λ fault. fault ≡ Unavailable)
