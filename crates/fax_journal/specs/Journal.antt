-- What the database of a journal means.
use Rattle.std.specs.Prelude.{◌≡◌, ◌⊎◌, ℕ, false, List, [], ◌∷◌, drop, Option, Some, None, IfSome, IsTrue, if◌then◌else◌}
use Rattle.std.specs.Str.{bytes_eq}
use Rattle.sqlite.specs.Effect.{Database, IsDatabase}
use Rattle.sqlite.specs.Order.{Row}
use Rattle.sqlite.specs.State.{State, HasCleanDisk}
use Rattle.sqlite.specs.declared.types.Value.TheVariants.{Text, Blob}
use Rattle.sqlite_rules.specs.Lists.{Has}
use Rattle.sqlite_trees.specs.Tree.{Trees}
use Rattle.fax_layout.specs.ByRowid.{IsByRowid}
use Rattle.fax_journal.specs.Entry.{Entry, IsValid, entry_rows}
use Rattle.fax_journal.specs.Schema.{journal_tree, answers_tree, bare_tables, journal_tables, no_tables}

-- the answer that is remembered under each key
abbrev pub Answers : Type 0
Answers = List ℕ → Option (List ℕ)

-- under this key, that answer
abbrev pub with_answer : List ℕ → Option (List ℕ) → Answers → Answers
with_answer key answer answers k = if bytes_eq k key then answer else answers k

abbrev pub answer_columns : List ℕ → List ℕ → Row
answer_columns key answer = Text key ∷ Blob answer ∷ []

-- each row has a key and its answer, and each remembered answer has its row
pub record AreAnswers (answers : Answers) (rows : List Row) : Type 0 where
  pub each : (row : Row) → Has rows row → (key : List ℕ) × (answer : List ℕ) × (drop 1 row ≡ answer_columns key answer) × (answers key ≡ Some answer)
  pub all : (key answer : List ℕ) → answers key ≡ Some answer → (row : Row) × Has rows row × (drop 1 row ≡ answer_columns key answer)
  pub ordered : IsByRowid rows

-- The database has the two tables of a journal and obeys their rules. The rows of the first are none, or that of a valid entry; those of the second are the answers.
pub record TablesMean (e : Option Entry) (kept : Answers) (db : Database) : Type 0 where
  pub schema : db.schema ≡ journal_tables
  pub sound : IsDatabase db
  pub entry : db.trees journal_tree ≡ entry_rows e
  pub valid : IfSome e IsValid
  pub answers : AreAnswers kept (db.trees answers_tree)

-- ---- before it is adopted

-- it has no tables, so nothing was ever set
pub record IsNew (e : Option Entry) (kept : Answers) (db : Database) : Type 0 where
  pub schema : db.schema ≡ no_tables
  pub sound : IsDatabase db
  pub entry : e ≡ None
  pub answers : (key : List ℕ) → kept key ≡ None

-- it has the first table alone
pub record IsBare (e : Option Entry) (kept : Answers) (db : Database) : Type 0 where
  pub schema : db.schema ≡ bare_tables
  pub sound : IsDatabase db
  pub entry : db.trees journal_tree ≡ entry_rows e
  pub valid : IfSome e IsValid
  pub answers : (key : List ℕ) → kept key ≡ None

abbrev pub FileMeans : Option Entry → Answers → Database → Type 0
FileMeans entry answers db = IsNew entry answers db ⊎ IsBare entry answers db ⊎ TablesMean entry answers db

-- ---- of a connection

-- The disk has returned what was written, and no fault of it has shut the database. Both hold of memory.
pub record Serves (s : State) : Type 0 where
  pub clean : HasCleanDisk s
  pub is_open : IsTrue s.is_open

-- no transaction is open, and the database, which is committed, is one of these
pub record IsAtRest (Is : Database → Type 0) (s : State) : Type 0 where
  pub autocommit : s.in_transaction ≡ false
  pub settled : s.now ≡ s.committed
  pub is : Is s.now

-- it is so as long as it serves
abbrev pub Rests : (Database → Type 0) → State → Type 0
Rests Is s = Serves s → IsAtRest Is s

-- the journal means this
abbrev pub Means : State → Option Entry → Answers → Type 0
Means s entry answers = Rests (TablesMean entry answers) s

-- ---- a crash

-- such a database has these rows
abbrev pub IsFound : (Database → Type 0) → Trees → Type 0
IsFound Is found = (db : Database) × (db.trees ≡ found) × Is db

-- a crash leaves only such a database
abbrev pub Leaves : (Database → Type 0) → State → Type 0
Leaves Is s = (found : Trees) → s.may_leave found → IsFound Is found

-- a crash leaves one or the other
abbrev pub LeavesEither : (Database → Type 0) → (Database → Type 0) → State → Type 0
LeavesEither Was Is s = (found : Trees) → s.may_leave found → IsFound Was found ⊎ IsFound Is found
