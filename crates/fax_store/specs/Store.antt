-- What a store shows.
use Rattle.std.specs.Prelude.{◌≡◌, ◌⊎◌, ⊤, ℕ, false, List, [], ◌∷◌, map, Option, None, Ok, Err, Result, MatchResult, MatchOption, IsTrue}
use Rattle.sqlite.specs.Command.{Command}
use Rattle.sqlite.specs.Command.TheVariants.{Insert, Update, Delete}
use Rattle.sqlite.specs.Effect.{Database}
use Rattle.sqlite.specs.Given.{IsPlain}
use Rattle.sqlite.specs.Listing.{understood}
use Rattle.sqlite.specs.Order.{Row, column}
use Rattle.sqlite.specs.State.{State, HasCleanDisk, IsUnchanged, IsRolledBack, Shown, Executes}
use Rattle.sqlite.specs.declared.types.Value.TheVariants.{Text}
use Rattle.sqlite_resolve.specs.declared.compiled.Compiled.{Compiled}
use Rattle.sqlite_resolve.specs.declared.error.CompileError.{CompileError}
use Rattle.sqlite_rules.specs.Lists.{Has}
use Rattle.sqlite_trees.specs.Tree.{Trees}
use Rattle.sqlite.specs.declared.error.Error.{Error}
use Rattle.fax_tables.specs.declared.fault.StoreFault.{StoreFault}
use Rattle.fax_tables.specs.Fault.{fault_of}
use Rattle.fax_core.specs.Ledger.{Ledger}
use Rattle.fax_core.specs.Queue.{Queue}
use Rattle.fax_schema.specs.Schema.{our_tables}
use Rattle.fax_tables.specs.Row.{number}
pub use Rattle.fax_layout.specs.Stop.{MayFind, CommitsNothing}
use Rattle.fax_tables.specs.Tables.{TablesMean, IsAtRest}

-- The disk has returned what was written, and no fault of it has shut the database. Both hold of memory.
pub record Serves (s : State) : Type 0 where
  pub clean : HasCleanDisk s
  pub is_open : IsTrue s.is_open

-- the store means this queue and these kept replies, as long as it serves
abbrev pub Means : State → Queue → Ledger → Type 0
Means s m k = Serves s → IsAtRest s m k

-- ---- the rows, whatever they say

-- no work is under way, and these rows are committed
pub record HasRows (s : State) (db : Database) : Type 0 where
  pub autocommit : s.in_transaction ≡ false
  pub now : s.now ≡ db
  pub committed : s.committed ≡ db

-- the store has these rows, as long as it serves
abbrev pub Rests : State → Database → Type 0
Rests s db = Serves s → HasRows s db

-- a row of the table has these values in these places, whatever stands beside them
pub record HasRow (db : Database) (tree : ℕ) (places : List ℕ) (values : Row) : Type 0 where
  pub row : Row
  pub has : Has (db.trees tree) row
  pub is : map (column row) places ≡ values

-- a row of the table has this text beside this number, or none has the text and the number is 0
abbrev pub StandsOrNone : Database → ℕ → List ℕ → ℕ → Type 0
StandsOrNone db tree text n = HasRow db tree (1 ∷ 2 ∷ []) (Text text ∷ number n ∷ []) ⊎ ((¬ HasRow db tree (1 ∷ []) (Text text ∷ [])) × (n ≡ 0))

-- the rows of our tables stay as they are, whatever they say
abbrev pub Stays : State → State → Type 0
Stays old new = (db : Database) → db.schema ≡ our_tables → Rests old db → Rests new db

-- what is not committed is undone
abbrev pub GoesBack : State → State → Type 0
GoesBack old new = (db : Database) → (Serves old → old.committed ≡ db) → Rests new db

-- a store that served serves still, as long as the disk is clean
abbrev pub StaysOpen : State → State → Type 0
StaysOpen old new = HasCleanDisk new → Serves old → Serves new

-- ---- a stop

-- a database with these rows means this queue and these kept replies
abbrev pub RowsFound : Trees → Queue → Ledger → Type 0
RowsFound found m k = (db : Database) × (db.trees ≡ found) × TablesMean db m k

-- A crash leaves what a crash before could leave, or rows of which this holds.
abbrev pub MayMake : State → State → (Trees → Type 0) → Type 0
MayMake old new Made = (found : Trees) → MayFind new found → MayFind old found ⊎ Made found

-- a crash leaves just this
abbrev pub LeavesAlone : State → Trees → Type 0
LeavesAlone s db = (found : Trees) → s.may_leave found → found ≡ db

-- the rows stay, nothing is committed, a store that serves did before, and a disk that is clean was
abbrev pub StaysAsItWas : State → State → Type 0
StaysAsItWas old new = (Serves new → Serves old) × Stays old new × (HasCleanDisk new → HasCleanDisk old) × CommitsNothing old new

-- ---- statements

-- the tables mean this, whether a work is under way or not
abbrev pub MeansNow : State → Queue → Ledger → Type 0
MeansNow s m k = Serves s → TablesMean s.now m k

-- what a refused statement leaves
abbrev pub LeavesCommit : State → State → Type 0
LeavesCommit old new = IsUnchanged old new ⊎ IsRolledBack old new

-- an answer leaves all as it is, and a refusal what was committed
abbrev pub Reads : {A E : Type 0} → State → State → Result A E → Type 0
Reads old new result = MatchResult result (λ _. IsUnchanged old new) (λ _. LeavesCommit old new)

-- the database has our tables
abbrev pub HasTables : State → Type 0
HasTables s = s.now.schema ≡ our_tables

-- over our tables, the text shows rows and writes none
abbrev pub IsQueryText : List ℕ → Type 0
IsQueryText sql = IsPlain (understood our_tables sql)

-- a command that changes rows and no table
abbrev pub IsEdit : Command → Type 0
IsEdit (Insert at from) = ⊤
IsEdit (Update at query) = ⊤
IsEdit (Delete at query) = ⊤
IsEdit other = ⊥

-- a statement that changes rows and shows none
abbrev pub EditsRows : Result Compiled CompileError → Type 0
EditsRows (Ok c) = IsEdit c.command × (c.returning ≡ None)
EditsRows (Err fault) = ⊥

-- over our tables, the text is one
abbrev pub IsEditText : List ℕ → Type 0
IsEditText sql = EditsRows (understood our_tables sql)

-- one of the rows that a query shows, or none where it shows none
abbrev pub FindsRow : List ℕ → Row → State → State → Option Row → Type 0
FindsRow sql params old new found = (rows : List Row) × Shown sql params old new rows × MatchOption found (rows ≡ []) (Has rows)

-- a statement that answers no rows has run
abbrev pub HasRun : List ℕ → Row → State → State → Type 0
HasRun sql params old new = (count : ℕ) × Executes sql params old new (Ok count)

-- the statement was refused, and the fault tells whether it broke a rule of the tables
abbrev pub IsRefusedFor : List ℕ → Row → State → State → StoreFault → Type 0
IsRefusedFor sql params old new fault = (e : Error) × Executes sql params old new (Err e) × (fault ≡ fault_of e)
