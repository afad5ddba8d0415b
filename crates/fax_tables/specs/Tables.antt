-- What a database with the tables of a queue means.
use Rattle.std.specs.Prelude.{◌≡◌, ℕ, pos, ◌+◌, ◌≤◌, ◌<◌, ◌^◌, ◌==◌, ◌||◌, Bool, true, false, List, [], ◌∷◌, All, filter, get_or, map, drop, IsTrue, Some, if◌then◌else◌}
use Rattle.std.specs.List.{AllByRecursion, list_any}
use Rattle.std.specs.List.Sorted.{IsPermutation}
use Rattle.sqlite.specs.Collation.TheVariants.{Binary}
use Rattle.sqlite.specs.Order.{Row, column}
use Rattle.sqlite.specs.declared.types.Value.{Value}
use Rattle.sqlite.specs.declared.types.Value.TheVariants.{Int, Null}
use Rattle.sqlite.specs.Effect.{Database, IsDatabase}
use Rattle.sqlite.specs.State.{State, Shows}
use Rattle.sqlite_schema.specs.declared.schema.Schema.{Schema}
use Rattle.sqlite_schema.specs.Rules.{equal}
use Rattle.sqlite_catalog.specs.Change.{KeepsRows}
use Rattle.sqlite_trees.specs.Tree.{Trees}
use Rattle.sqlite_rules.specs.Lists.{Has}
use Rattle.fax_core.specs.Job.{Job, fields_of}
use Rattle.fax_core.specs.Ledger.{Ledger, IsLawfulEntry}
use Rattle.fax_core.specs.Queue.{Queue, job_numbered, open_grants}
use Rattle.fax_core.specs.declared.times.Times.{Times}
use Rattle.fax_core.specs.State.{calls_to}
use Rattle.fax_core.specs.declared.grants.Grant.{Grant}
use Rattle.fax_value.specs.Limits.{last_grant, last_job, last_moment}
use Rattle.fax_value.specs.Name.{IsName}
use Rattle.fax_tables.specs.Grant.{IsWithinLimits}
use Rattle.fax_layout.specs.ByRowid.{IsByRowid}
use Rattle.fax_schema.specs.Schema.{AreOurs, added_list, alike_list, first_list, core_tables, our_tables, has_floors, has_times, calls_tree, down_tree, floors_tree, grants_tree, holds_tree, jobs_tree, meta_tree, replies_tree, times_tree}
use Rattle.fax_tables.specs.Job.{IsLawfulJob}
use Rattle.fax_tables.specs.Row.{number, job_row, grant_row, hold_columns, down_columns, entry_columns, call_columns, meta_row, raised, times_row}

pub record IsLawfulGrant (g : Grant) : Type 0 where
  pub limits : IsWithinLimits g
  pub modem : IsName g.modem

-- both are moments
pub record AreLawfulTimes (x : Times) : Type 0 where
  pub submitted : x.submitted ≤ last_moment
  pub ended : x.ended ≤ last_moment

-- the clock is a moment, and the next numbers are at most one past the last
pub record IsLawfulMeta (m : Queue) : Type 0 where
  pub clock : m.clock ≤ last_moment
  pub next_job : (1 ≤ m.next_job) × (m.next_job ≤ last_job + 1)
  pub next_grant : (1 ≤ m.next_grant) × (m.next_grant ≤ last_grant + 1)

-- a client's floor, where it has one
abbrev pub AreLawfulFloors : (List ℕ → ℕ) → Type 0
AreLawfulFloors floor = (client : List ℕ) → 1 ≤ floor client → IsName client × (floor client < 10 ^ 18)

-- every record is lawful
pub record AreLawful (m : Queue) (k : Ledger) : Type 0 where
  pub jobs : All IsLawfulJob m.jobs
  pub grants : All IsLawfulGrant m.grants
  pub down : All IsName m.down
  pub replies : All IsLawfulEntry k.replies
  pub meta : IsLawfulMeta m
  pub floors : AreLawfulFloors k.floor
  pub times : All AreLawfulTimes m.times

-- jobs, grants and times stand by number, and the others, whose rowids say nothing, as they came
pub record AreByRowid (db : Database) : Type 0 where
  pub jobs : IsByRowid (db.trees jobs_tree)
  pub grants : IsByRowid (db.trees grants_tree)
  pub holds : IsByRowid (db.trees holds_tree)
  pub down : IsByRowid (db.trees down_tree)
  pub replies : IsByRowid (db.trees replies_tree)
  pub floors : IsByRowid (db.trees floors_tree)
  pub times : IsByRowid (db.trees times_tree)
  pub calls : IsByRowid (db.trees calls_tree)

-- Each text of which the count isn't 0 has a row with its count, and there is no other row. So stand the numbers to dial in `calls`, and the clients in `floors`.
pub record AreCounted (count : List ℕ → ℕ) (columns : List Row) : Type 0 where
  pub each : (row : Row) → Has columns row → (dial : List ℕ) × (row ≡ call_columns dial (count dial)) × (1 ≤ count dial)
  pub all : (dial : List ℕ) → 1 ≤ count dial → Has columns (call_columns dial (count dial))

-- the rows are those, by rowid
pub record AreCalls (count : List ℕ → ℕ) (rows : List Row) : Type 0 where
  pub is : AreCounted count (map (drop 1) rows)
  pub ordered : IsByRowid rows

-- the grant's job is among these
abbrev pub HasJob : Queue → Grant → Type 0
HasJob m g = (j : Job) × (job_numbered g.job m ≡ Some j)

-- so is that of each open grant
abbrev pub HaveJobs : Queue → Type 0
HaveJobs m = (g : Grant) → Has (open_grants m) g → HasJob m g

-- The database has the nine tables with their indexes and obeys their rules. The rows of eight are the records of the queue and of what is kept of the clients, each of them lawful, and no other row stands in them: `holds` has the open grants, in any order, each of a job that is there, and `shut` is 0 for just these. `calls` has each number with an open grant, and how many are open to it.
pub record TablesMean (db : Database) (m : Queue) (k : Ledger) : Type 0 where
  pub schema : db.schema ≡ our_tables
  pub sound : IsDatabase db
  pub jobs : db.trees jobs_tree ≡ map (λ j. job_row (fields_of j)) m.jobs
  pub grants : db.trees grants_tree ≡ map grant_row m.grants
  pub holds : IsPermutation (map hold_columns (open_grants m)) (map (drop 1) (db.trees holds_tree))
  pub down : map (drop 1) (db.trees down_tree) ≡ map down_columns m.down
  pub replies : map (drop 1) (db.trees replies_tree) ≡ map entry_columns k.replies
  pub floors : AreCounted k.floor (map (drop 1) (db.trees floors_tree))
  pub times : db.trees times_tree ≡ map times_row m.times
  pub meta : db.trees meta_tree ≡ meta_row m ∷ []
  pub held : HaveJobs m
  pub calls : AreCounted (λ dial. calls_to dial m) (map (drop 1) (db.trees calls_tree))
  pub ordered : AreByRowid db
  pub lawful : AreLawful m k

-- ---- the rows, whatever the version is

-- whether the table of this tree is there, of those that later versions have beside the first's
abbrev pub has_added : Schema → ℕ → Bool
has_added schema tree = if tree == times_tree then has_times schema else has_floors schema

-- the rows of those, none where the table isn't there
abbrev pub added_in : Database → Trees
added_in db tree = if has_added db.schema tree then db.trees tree else []

-- the version of these tables
abbrev pub version_of : Schema → ℕ
version_of schema = if has_times schema then 3 else if has_floors schema then 2 else 1

-- rows of meta of this version, as the third has them
abbrev pub meta_as : ℕ → List Row → List Row
meta_as version rows = if version == 3 then rows else map raised rows

abbrev pub meta_in : Database → List Row
meta_in db = meta_as (version_of db.schema) (db.trees meta_tree)

-- the version in each row of meta
abbrev pub versions : Database → List Value
versions db = map (λ r. column r 5) (db.trees meta_tree)

-- the one row of meta has the version of the tables
abbrev pub HasVersion : Database → Type 0
HasVersion db = versions db ≡ number (version_of db.schema) ∷ []

-- ---- what the third version has of the rows of an earlier one

-- the value is this number
abbrev pub is_number : ℕ → Value → Bool
is_number n (Int (pos value)) = value == n
is_number n other = false

-- a job in this phase is over
abbrev pub is_over_phase : Value → Bool
is_over_phase phase = is_number 3 phase || is_number 4 phase

-- the times of a job in this phase: when it came in isn't known, and a job that is over ended at this time
abbrev pub time_made : Value → Value → Value → Row
time_made clock job phase = job ∷ Null ∷ number 0 ∷ (if is_over_phase phase then clock else number 0) ∷ []

-- the clock in the one row of meta
abbrev pub clock_in : Trees → Value
clock_in db = get_or (map (λ row. column row 2) (db meta_tree)) 0 Null

-- the rows of times: before the third version one for each job, by the clock
abbrev pub times_as : ℕ → Trees → List Row
times_as version db = if version == 3 then db times_tree else map (λ job. time_made (clock_in db) (column job 0) (column job 18)) (db jobs_tree)

-- one of these jobs has this number
abbrev pub is_job : List Row → Value → Bool
is_job jobs job = list_any (λ row. equal Binary (column row 0) job) jobs

-- the rows of grants: before the third version, those whose job is there
abbrev pub grants_as : ℕ → Trees → List Row
grants_as version db = if version == 3 then db grants_tree else filter (λ grant. is_job (db jobs_tree) (column grant 2)) (db grants_tree)

abbrev pub times_in : Database → List Row
times_in db = times_as (version_of db.schema) db.trees

abbrev pub grants_in : Database → List Row
grants_in db = grants_as (version_of db.schema) db.trees

-- The rows of the other, as the third version has them.
pub record IsRaised (db after : Database) : Type 0 where
  pub rows : KeepsRows alike_list db.trees after.trees
  pub grants : after.trees grants_tree ≡ grants_in db
  pub meta : after.trees meta_tree ≡ meta_in db
  pub floors : after.trees floors_tree ≡ added_in db floors_tree
  pub times : after.trees times_tree ≡ times_in db

-- Its rows but those of `calls`, as the third version has them, are those of a database that means this. Its grants are in the order of their numbers, also those whose job is gone.
pub record RowsMean (db : Database) (m : Queue) (k : Ledger) : Type 0 where
  pub version : HasVersion db
  pub ordered : IsByRowid (db.trees grants_tree)
  pub full : Database
  pub means : TablesMean full m k
  pub same : IsRaised db full

-- no work is under way, and the tables mean this
pub record IsAtRest (s : State) (m : Queue) (k : Ledger) : Type 0 where
  pub autocommit : s.in_transaction ≡ false
  pub settled : s.now ≡ s.committed
  pub means : TablesMean s.now m k

-- a transaction goes on
abbrev pub GoesOn : State → State → Type 0
GoesOn old new = Shows old new new.now old.committed true

-- no table has rows
abbrev pub HasNoRows : Database → Type 0
HasNoRows db = AllByRecursion (λ t. db.trees t.tree ≡ []) db.schema.tables

-- a transaction is under way, and the tables are these, with no rows
pub record HasEmptyTables (schema : Schema) (s : State) : Type 0 where
  pub is_open : IsTrue s.is_open
  pub inside : IsTrue s.in_transaction
  pub schema_is : s.now.schema ≡ schema
  pub empty : HasNoRows s.now

-- a transaction is under way over all tables but `calls`, with the indexes of jobs, whatever their rows are
pub record HasCoreTables (s : State) : Type 0 where
  pub inside : IsTrue s.in_transaction
  pub schema_is : s.now.schema ≡ core_tables

-- it has the rows of the other in all tables but `calls`: none in those that the version of the other lacks
pub record Renews (db after : Database) : Type 0 where
  pub rows : KeepsRows first_list db.trees after.trees
  pub added : KeepsRows added_list (added_in db) (added_in after)

-- It has come to these tables: with the rows of a queue's tables, but of `calls`, and with none where there were none.
pub record ComesTo (to : Schema) (db after : Database) : Type 0 where
  pub schema_is : after.schema ≡ to
  pub ours : AreOurs db.schema → AreOurs to
  pub renews : AreOurs db.schema → Renews db after
  pub empty : HasNoRows db → HasNoRows after

-- it has come to all tables, and `calls` has no rows
pub record HasNewCalls (db after : Database) : Type 0 where
  pub schema_is : after.schema ≡ our_tables
  pub sound : IsDatabase after
  pub renews : AreOurs db.schema → Renews db after
  pub empty : HasNoRows db → HasNoRows after
  pub none : after.trees calls_tree ≡ []
