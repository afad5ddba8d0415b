-- What each row of the nine tables has to be, one by one, so that they are those of a consistent queue, and what it shows.
use Rattle.std.specs.Prelude.{◌≡◌, ◌⊎◌, ℕ, ℤ, ◌<◌, ◌≤◌, ◌^◌, ◌==◌, ◌&&◌, Bool, List, [], ◌∷◌, All, Some, None, codes, map, filter, length, drop, IsTrue, if◌then◌else◌}
use Rattle.std.specs.List.{list_any}
use Rattle.std.specs.List.Sorted.{IsPermutation}
use Rattle.std.specs.Str.{bytes_eq}
use Rattle.sqlite.specs.Effect.{Database}
use Rattle.sqlite.specs.Order.{Row, column}
use Rattle.sqlite.specs.declared.types.Value.TheVariants.{Int, Null, Text}
use Rattle.sqlite_rules.specs.Lists.{Has}
use Rattle.fax_core.specs.Fits.{fits, is_granted}
use Rattle.fax_core.specs.Job.{job_of}
use Rattle.fax_core.specs.Queue.{Entry, Queue}
use Rattle.fax_core.specs.declared.grants.Grant.{Grant}
use Rattle.fax_value.specs.Name.{IsName}
use Rattle.fax_job.specs.declared.job.JobFields.{JobFields}
use Rattle.fax_check.specs.declared.tables.Query.{Query}
use Rattle.fax_check.specs.declared.tables.Query.TheVariants.{Calls, Down, Floors, Grants, Jobs, Owned, Replies, Timed, Times}
use Rattle.fax_check.specs.declared.tables.Table.{Table}
use Rattle.fax_check.specs.declared.tables.Table.TheVariants as table
use Rattle.fax_check.specs.declared.tables.TheConstants.{PASSED, SELECT_ALL_CALLS, SELECT_ALL_DOWN, SELECT_ALL_FLOORS, SELECT_ALL_GRANTS, SELECT_ALL_JOBS, SELECT_ALL_OWNED, SELECT_ALL_REPLIES, SELECT_ALL_TIMED, SELECT_ALL_TIMES}
use Rattle.fax_schema.specs.Schema.{calls_tree, down_tree, floors_tree, grants_tree, holds_tree, jobs_tree, meta_tree, replies_tree, times_tree}
use Rattle.fax_tables.specs.Grant.{grant_shown}
use Rattle.fax_tables.specs.Job.{IsLawfulJob, job_shown}
use Rattle.fax_tables.specs.Meta.{with_meta}
use Rattle.fax_tables.specs.Row.{HasNumber, HasValue, number, job_row, grant_row, down_columns, entry_columns, floor_columns, call_columns}
use Rattle.fax_tables.specs.Tables.{IsLawfulGrant, IsLawfulMeta}
use Rattle.fax_core.specs.Ledger.{IsKeptStatus, IsLawfulEntry}
use Rattle.fax_tables.specs.declared.meta.Meta.{Meta}
pub use Rattle.fax_check.specs.declared.holders.Holder.{Holder}

-- the columns of the row of holds that a holder has
abbrev pub holder_columns : Holder → Row
holder_columns h = Text h.modem ∷ number h.job ∷ number h.grant ∷ []

-- how many of them dial a number
abbrev pub dialing : List ℕ → List Holder → ℕ
dialing dial held = length (filter (λ h. bytes_eq h.dial dial) held)

-- the row of meta that has these
abbrev pub numbers_row : Meta → Row
numbers_row meta = number 1 ∷ Null ∷ number meta.clock ∷ number meta.next_job ∷ number meta.next_grant ∷ number 3 ∷ []

-- one of them holds the grant, by its modem and for its job
abbrev pub IsHeld : List Holder → Grant → Type 0
IsHeld held g = (h : Holder) × Has held h × (h.modem ≡ g.modem) × (h.job ≡ g.job) × (h.grant ≡ g.number)

-- one of them holds a grant of the job
abbrev pub HasHolder : List Holder → ℕ → Type 0
HasHolder held n = (h : Holder) × Has held h × (h.job ≡ n)

-- a job that is granted has a holder, and any other fits with no open grant
abbrev pub Stands : List Holder → JobFields → Type 0
Stands held f = (IsTrue (is_granted f.phase) × HasHolder held f.job) ⊎ IsTrue (fits f None)

-- ---- the rows, one by one

-- a lawful job with a number before the next, which stands as it may
pub record IsJobRow (meta : Meta) (held : List Holder) (row : Row) : Type 0 where
  pub job : JobFields
  pub is : row ≡ job_row job
  pub lawful : IsLawfulJob (job_of job)
  pub before : job.job < meta.next_job
  pub stands : Stands held job

-- a lawful grant with a number before the next, which is held while it is open
pub record IsGrantRow (meta : Meta) (held : List Holder) (row : Row) : Type 0 where
  pub grant : Grant
  pub is : row ≡ grant_row grant
  pub lawful : IsLawfulGrant grant
  pub before : grant.number < meta.next_grant
  pub is_held : IsTrue grant.is_open → IsHeld held grant

-- neither is later than the clock, and they are of a job that is there: where it isn't over, the end is 0
pub record IsTimesRow (meta : Meta) (db : Database) (row : Row) : Type 0 where
  pub submitted : ℕ
  pub ended : ℕ
  pub is : row ≡ column row 0 ∷ Null ∷ number submitted ∷ number ended ∷ []
  pub past : (submitted ≤ meta.clock) × (ended ≤ meta.clock)
  pub job : Row
  pub has_job : Has (db.trees jobs_tree) job
  pub its : column job 0 ≡ column row 0
  pub phase : ℕ
  pub in_phase : column job 18 ≡ number phase
  pub not_over : phase < 3 → ended ≡ 0

-- a job whose times are there
abbrev pub IsTimed : Database → Row → Type 0
IsTimed db row = (times : Row) × Has (db.trees times_tree) times × (column times 0 ≡ column row 0)

-- a grant whose job is there
abbrev pub IsOwned : Database → Row → Type 0
IsOwned db row = (job : Row) × Has (db.trees jobs_tree) job × (column job 0 ≡ column row 2)

-- the holder's grant is there, open, and its own; the job is there, dials its number, and fits the grant
pub record IsRightHolder (db : Database) (h : Holder) : Type 0 where
  pub grant : Grant
  pub has_grant : Has (db.trees grants_tree) (grant_row grant)
  pub number_is : grant.number ≡ h.grant
  pub modem_is : grant.modem ≡ h.modem
  pub job_is : grant.job ≡ h.job
  pub is_open : IsTrue grant.is_open
  pub job : JobFields
  pub has_job : Has (db.trees jobs_tree) (job_row job)
  pub its_number : job.job ≡ h.job
  pub dials : job.dial ≡ h.dial
  pub fit : IsTrue (fits job (Some grant))

-- a modem's name
abbrev pub IsDownRow : Row → Type 0
IsDownRow row = (modem : List ℕ) × (drop 1 row ≡ down_columns modem) × IsName modem

-- a lawful kept reply
abbrev pub IsReplyRow : Row → Type 0
IsReplyRow row = (e : Entry) × (drop 1 row ≡ entry_columns e) × IsLawfulEntry e

-- a client, and a request number that it has given up
abbrev pub IsFloorRow : Row → Type 0
IsFloorRow row = (client : List ℕ) × (upto : ℕ) × (drop 1 row ≡ floor_columns client upto) × IsName client × (1 ≤ upto) × (upto < 10 ^ 18)

-- a number that is dialed, and how many dial it
abbrev pub IsCallRow : List Holder → Row → Type 0
IsCallRow held row = (h : Holder) × Has held h × (drop 1 row ≡ call_columns h.dial (dialing h.dial held))

-- each row of the table is such a one
abbrev pub Each : Database → ℕ → (Row → Type 0) → Type 0
Each db tree P = (row : Row) → Has (db.trees tree) row → P row

-- ---- tests of holders

abbrev pub has_holder : List Holder → ℕ → Bool
has_holder held n = list_any (λ h. h.job == n) held

abbrev pub holds : Grant → Holder → Bool
holds g h = bytes_eq h.modem g.modem && (h.job == g.job) && (h.grant == g.number)

abbrev pub is_held : List Holder → Grant → Bool
is_held held g = list_any (holds g) held

abbrev pub stands : List Holder → JobFields → Bool
stands held f = if is_granted f.phase then has_holder held f.job else fits f None

-- ---- a row as it is shown

pub record ShowsJob (meta : Meta) (held : List Holder) (row : Row) : Type 0 where
  pub job : JobFields
  pub is : row ≡ job_shown job
  pub lawful : IsLawfulJob (job_of job)
  pub before : job.job < meta.next_job
  pub stands : Stands held job

pub record ShowsGrant (meta : Meta) (held : List Holder) (row : Row) : Type 0 where
  pub grant : Grant
  pub is : row ≡ grant_shown grant
  pub lawful : IsLawfulGrant grant
  pub before : grant.number < meta.next_grant
  pub is_held : IsTrue grant.is_open → IsHeld held grant

-- a name in this place
abbrev pub ShowsName : Row → ℕ → Type 0
ShowsName row at = (name : List ℕ) × HasValue row at (Text name) × IsName name

-- a request number: from 1 to the greatest
abbrev pub HasRequestNumber : Row → ℕ → Type 0
HasRequestNumber row at = (number : ℕ) × HasNumber row at number × (1 ≤ number) × (number < 10 ^ 18)

-- the status of a kept reply
abbrev pub HasStatus : Row → ℕ → Type 0
HasStatus row at = (status : ℕ) × HasNumber row at status × IsKeptStatus status

-- a moment that isn't later than the clock
abbrev pub HasPast : Meta → Row → ℕ → Type 0
HasPast meta row at = (moment : ℕ) × HasNumber row at moment × (moment ≤ meta.clock)

abbrev pub HasInteger : Row → ℕ → Type 0
HasInteger row at = (n : ℤ) × HasValue row at (Int n)

-- the moment of an end and the phase of its job: where that isn't over, the end is 0
pub record ShowsEnd (meta : Meta) (row : Row) : Type 0 where
  pub ended : HasPast meta row 2
  pub phase : ℕ
  pub in_phase : HasNumber row 3 phase
  pub not_over : phase < 3 → HasNumber row 2 0

pub record ShowsTimes (meta : Meta) (row : Row) : Type 0 where
  pub submitted : HasPast meta row 1
  pub ended : ShowsEnd meta row

pub record ShowsReply (row : Row) : Type 0 where
  pub client : ShowsName row 0
  pub number : HasRequestNumber row 1
  pub status : HasStatus row 3

pub record ShowsFloor (row : Row) : Type 0 where
  pub client : ShowsName row 0
  pub upto : HasRequestNumber row 1

abbrev pub ShowsCall : List Holder → Row → Type 0
ShowsCall held row = (h : Holder) × Has held h × HasValue row 0 (Text h.dial) × HasNumber row 1 (dialing h.dial held)

-- ---- the tables

-- the name of a table
abbrev pub table_name : Table → List ℕ
table_name table.Jobs = codes "jobs"
table_name table.Grants = codes "grants"
table_name table.Times = codes "times"
table_name table.Holds = codes "holds"
table_name table.Down = codes "down"
table_name table.Replies = codes "replies"
table_name table.Floors = codes "floors"
table_name table.Calls = codes "calls"
table_name table.Meta = codes "meta"

-- the table that a query checks
abbrev pub table_of : Query → Table
table_of Jobs = table.Jobs
table_of Grants = table.Grants
table_of Times = table.Times
table_of Timed = table.Times
table_of Owned = table.Grants
table_of Down = table.Down
table_of Replies = table.Replies
table_of Floors = table.Floors
table_of Calls = table.Calls

-- the tree of the table whose rows it checks
abbrev pub tree_of : Query → ℕ
tree_of Jobs = jobs_tree
tree_of Grants = grants_tree
tree_of Times = times_tree
tree_of Timed = jobs_tree
tree_of Owned = grants_tree
tree_of Down = down_tree
tree_of Replies = replies_tree
tree_of Floors = floors_tree
tree_of Calls = calls_tree

-- the text of a query
abbrev pub text_of : Query → List ℕ
text_of Jobs = SELECT_ALL_JOBS.now
text_of Grants = SELECT_ALL_GRANTS.now
text_of Times = SELECT_ALL_TIMES.now
text_of Timed = SELECT_ALL_TIMED.now
text_of Owned = SELECT_ALL_OWNED.now
text_of Down = SELECT_ALL_DOWN.now
text_of Replies = SELECT_ALL_REPLIES.now
text_of Floors = SELECT_ALL_FLOORS.now
text_of Calls = SELECT_ALL_CALLS.now

module _ (meta : Meta) (held : List Holder) where
  -- what a row of the query has to show
  abbrev pub Shows : Query → Row → Type 0
  Shows Jobs row = ShowsJob meta held row
  Shows Grants row = ShowsGrant meta held row
  Shows Times row = ShowsTimes meta row
  Shows Timed row = HasInteger row 1
  Shows Owned row = HasInteger row 1
  Shows Down row = ShowsName row 0
  Shows Replies row = ShowsReply row
  Shows Floors row = ShowsFloor row
  Shows Calls row = ShowsCall held row

  -- a row of the table that it checks is as it has to be
  abbrev pub IsRightRow : Database → Query → Row → Type 0
  IsRightRow db Jobs row = IsJobRow meta held row
  IsRightRow db Grants row = IsGrantRow meta held row
  IsRightRow db Times row = IsTimesRow meta db row
  IsRightRow db Timed row = IsTimed db row
  IsRightRow db Owned row = IsOwned db row
  IsRightRow db Down row = IsDownRow row
  IsRightRow db Replies row = IsReplyRow row
  IsRightRow db Floors row = IsFloorRow row
  IsRightRow db Calls row = IsCallRow held row

  -- so each is
  abbrev pub IsWholeTable : Database → Query → Type 0
  IsWholeTable db query = Each db (tree_of query) (IsRightRow db query)

-- those whose rows are read one at a time
abbrev pub passed : List Query
passed = PASSED

-- ---- all of them

-- The row of meta has these numbers, and the rows of holds these holders, in any order. Each row is as it has to be.
pub record AreWhole (db : Database) (meta : Meta) (held : List Holder) : Type 0 where
  pub meta_is : db.trees meta_tree ≡ numbers_row meta ∷ []
  pub numbers : (m : Queue) → IsLawfulMeta (with_meta meta m)
  pub holders : IsPermutation (map holder_columns held) (map (drop 1) (db.trees holds_tree))
  pub right : All (IsRightHolder db) held
  pub tables : All (IsWholeTable meta held db) passed
  pub called : All (λ h. (row : Row) × Has (db.trees calls_tree) row × (drop 1 row ≡ call_columns h.dial (dialing h.dial held))) held
