-- How the rows of holds are read: each shows the open grant that it holds, whose job is there.
use Rattle.std.specs.Prelude.{◌≡◌, ℕ, ℤ, List, [], ◌∷◌, All, Option, Some, None, IsTrue, map, drop, take}
use Rattle.std.specs.List.Sorted.{IsPermutation}
use Rattle.sqlite.specs.Effect.{Database}
use Rattle.sqlite.specs.Order.{Row, column}
use Rattle.sqlite.specs.Tree.{rowid}
use Rattle.sqlite.specs.declared.types.Value.TheVariants.{Int, Text}
use Rattle.sqlite_rules.specs.Lists.{Has}
use Rattle.fax_core.specs.Fits.{fits}
use Rattle.fax_core.specs.Job.{job_of}
use Rattle.fax_core.specs.declared.grants.Grant.{Grant}
use Rattle.fax_job.specs.declared.job.JobFields.{JobFields}
use Rattle.fax_check.specs.Sound.{IsSound}
use Rattle.fax_check.specs.Whole.{Holder, IsRightHolder, holder_columns}
use Rattle.fax_check.specs.declared.holders.Holders.{Holders}
use Rattle.fax_check.specs.declared.holders.Holders.TheVariants.{Right, Wrong}
use Rattle.fax_schema.specs.Schema.{grants_tree, holds_tree, jobs_tree}
use Rattle.fax_tables.specs.Job.{IsLawfulJob}
use Rattle.fax_tables.specs.Row.{HasNumber, HasValue, HasValues, grant_row, job_row}
use Rattle.fax_tables.specs.Tables.{IsLawfulGrant}

-- the row of that number is the grant's; where none is told, no lawful grant has the number
abbrev pub IsGrantFound : Database → ℕ → Option Grant → Type 0
IsGrantFound db n (Some g) = Has (db.trees grants_tree) (grant_row g) × (g.number ≡ n)
IsGrantFound db n None = (g : Grant) → Has (db.trees grants_tree) (grant_row g) → g.number ≡ n → ¬ IsLawfulGrant g

-- the same of a job
abbrev pub IsJobFound : Database → ℕ → Option JobFields → Type 0
IsJobFound db n (Some f) = Has (db.trees jobs_tree) (job_row f) × (f.job ≡ n)
IsJobFound db n None = (f : JobFields) → Has (db.trees jobs_tree) (job_row f) → f.job ≡ n → ¬ IsLawfulJob (job_of f)

-- the row shows the grant's modem, job and number
pub record IsShownBy (row : Row) (g : Grant) : Type 0 where
  pub modem : HasValue row 0 (Text g.modem)
  pub job : HasNumber row 1 g.job
  pub number : HasNumber row 2 g.number

-- the open grant that the row shows
pub record Grants (db : Database) (row : Row) (g : Grant) : Type 0 where
  pub has : Has (db.trees grants_tree) (grant_row g)
  pub is_open : IsTrue g.is_open
  pub shown : IsShownBy row g

abbrev pub IsGrantHeld : Database → Row → Option Grant → Type 0
IsGrantHeld db row (Some g) = Grants db row g
IsGrantHeld db row None = (g : Grant) → IsLawfulGrant g → ¬ Grants db row g

-- the job of the grant, which fits it
pub record HasItsJob (db : Database) (g : Grant) (f : JobFields) : Type 0 where
  pub has : Has (db.trees jobs_tree) (job_row f)
  pub its : f.job ≡ g.job
  pub fit : IsTrue (fits f (Some g))

-- the grant's holder
pub record IsHolderFor (g : Grant) (f : JobFields) (h : Holder) : Type 0 where
  pub modem : h.modem ≡ g.modem
  pub job : h.job ≡ g.job
  pub grant : h.grant ≡ g.number
  pub dial : h.dial ≡ f.dial

abbrev pub IsHolderOf : Database → Grant → Option Holder → Type 0
IsHolderOf db g (Some h) = (f : JobFields) × HasItsJob db g f × IsHolderFor g f h
IsHolderOf db g None = (f : JobFields) → IsLawfulJob (job_of f) → ¬ HasItsJob db g f

-- a row of holds shows an open grant with its job, both lawful
pub record IsHoldShown (db : Database) (row : Row) : Type 0 where
  pub grant : Grant
  pub lawful : IsLawfulGrant grant
  pub grants : Grants db row grant
  pub job : JobFields
  pub lawful_job : IsLawfulJob (job_of job)
  pub its : HasItsJob db grant job

-- the holder that a row of holds shows
abbrev pub IsHolderFound : Database → Row → Option Holder → Type 0
IsHolderFound db row (Some h) = HasValues row 0 (holder_columns h) × IsRightHolder db h
IsHolderFound db row None = ¬ IsHoldShown db row

-- ---- all rows

-- the rowid that a row is shown with, where it is an integer
abbrev pub HasId : Row → ℤ → Type 0
HasId row id = (n : ℤ) → HasValue row 3 (Int n) → id ≡ n

-- those that rows show, or one shows none
abbrev pub AreHoldersIn : Database → List Row → Holders → Type 0
AreHoldersIn db rows (Right held) = (map (take 3) rows ≡ map holder_columns held.items) × All (IsRightHolder db) held.items
AreHoldersIn db rows (Wrong id) = (row : Row) × Has rows row × (¬ IsHoldShown db row) × HasId row id

-- a row of the table shows an open grant with its job: it is shown by its columns and its rowid
abbrev pub IsHoldRow : Database → Row → Type 0
IsHoldRow db row = IsHoldShown db (column row 1 ∷ column row 2 ∷ column row 3 ∷ column row 0 ∷ [])

-- one of these rows isn't as it has to be, and has this rowid
pub record IsWrongIn (rows : List Row) (IsRight : Row → Type 0) (id : ℤ) : Type 0 where
  pub row : Row
  pub has : Has rows row
  pub has_id : rowid row ≡ Int id
  pub wrong : ¬ IsRight row

-- the holders of the table
abbrev pub AreHolders : Database → Holders → Type 0
AreHolders db (Right held) = IsPermutation (map holder_columns held.items) (map (drop 1) (db.trees holds_tree)) × All (IsRightHolder db) held.items
AreHolders db (Wrong id) = (¬ IsSound db) × IsWrongIn (db.trees holds_tree) (IsHoldRow db) id
