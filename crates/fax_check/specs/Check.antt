-- What a check decides.
use Rattle.std.specs.Prelude.{◌≡◌, ◌⊎◌, ℤ, pos, List, [], ◌∷◌, All, Option, Some, None, drop, map}
use Rattle.std.specs.List.Sorted.{IsPermutation}
use Rattle.sqlite.specs.Effect.{Database}
use Rattle.sqlite.specs.Order.{Row}
use Rattle.sqlite_rules.specs.Lists.{Has}
use Rattle.fax_core.specs.Queue.{Queue}
use Rattle.fax_check.specs.Holders.{IsHoldRow, IsWrongIn}
use Rattle.fax_check.specs.Sound.{IsSound}
use Rattle.fax_check.specs.Whole.{Holder, IsRightHolder, IsRightRow, IsWholeTable, dialing, holder_columns, numbers_row, passed, table_of, tree_of}
use Rattle.fax_check.specs.declared.tables.Flaw.{Flaw}
use Rattle.fax_check.specs.declared.tables.Query.{Query}
use Rattle.fax_check.specs.declared.tables.Table.{Table}
use Rattle.fax_check.specs.declared.tables.Table.TheVariants as table
use Rattle.fax_schema.specs.Schema.{calls_tree, holds_tree, meta_tree}
use Rattle.fax_tables.specs.Meta.{with_meta}
use Rattle.fax_tables.specs.Row.{call_columns, number}
use Rattle.fax_tables.specs.Tables.{IsLawfulMeta, versions}
use Rattle.fax_tables.specs.declared.meta.Meta.{Meta}

-- the one row of meta has these lawful numbers
pub record HasNumbers (db : Database) (meta : Meta) : Type 0 where
  pub is : db.trees meta_tree ≡ numbers_row meta ∷ []
  pub lawful : (m : Queue) → IsLawfulMeta (with_meta meta m)

abbrev pub AreNumbers : Database → Option Meta → Type 0
AreNumbers db (Some meta) = HasNumbers db meta
AreNumbers db None = (meta : Meta) → ¬ HasNumbers db meta

-- meta has one row, of the third version
abbrev pub IsOfVersion : Database → Type 0
IsOfVersion db = versions db ≡ number 3 ∷ []

-- the rows of holds have these holders, in any order, and each is right
pub record HasHolders (db : Database) (held : List Holder) : Type 0 where
  pub holders : IsPermutation (map holder_columns held) (map (drop 1) (db.trees holds_tree))
  pub right : All (IsRightHolder db) held

-- the number that a holder dials is counted
abbrev pub IsCalled : Database → List Holder → Holder → Type 0
IsCalled db held h = (row : Row) × Has (db.trees calls_tree) row × (drop 1 row ≡ call_columns h.dial (dialing h.dial held))

abbrev pub AreCalled : Database → List Holder → Type 0
AreCalled db held = All (IsCalled db held) held

-- ---- the tables that are read a row at a time

-- the flaw of the table that a query checks, where a pass found this row
abbrev pub flaw_in : Query → Option ℤ → Option Flaw
flaw_in query None = None
flaw_in query (Some row) = Some (record { table = table_of query; row = Some row })

-- each of these rows is as it has to be, or the flaw is of one that isn't, of this table
abbrev pub AreChecked : List Row → (Row → Type 0) → Table → Option Flaw → Type 0
AreChecked rows IsRight of None = (row : Row) → Has rows row → IsRight row
AreChecked rows IsRight of (Some flaw) = (id : ℤ) × (flaw ≡ record { table = of; row = Some id }) × IsWrongIn rows IsRight id

-- so they are of the table that a query checks
abbrev pub IsTableChecked : Meta → List Holder → Query → Database → Option Flaw → Type 0
IsTableChecked meta held query db found = AreChecked (db.trees (tree_of query)) (IsRightRow meta held db query) (table_of query) found

-- all that are passed are, or it is of a row of one of them
abbrev pub AreTablesChecked : Meta → List Holder → Database → Option Flaw → Type 0
AreTablesChecked meta held db None = All (IsWholeTable meta held db) passed
AreTablesChecked meta held db (Some flaw) = (query : Query) × Has passed query × IsTableChecked meta held query db (Some flaw)

-- ---- all of them

-- of meta: it has no row with lawful numbers, of the third version, alone
abbrev pub IsOfMeta : Database → Flaw → Type 0
IsOfMeta db flaw = (flaw ≡ record { table = table.Meta; row = Some (pos 1) }) × ((meta : Meta) → ¬ HasNumbers db meta)

-- of holds: a row with this rowid shows no open grant with its job, both lawful
abbrev pub IsOfHolds : Database → Flaw → Type 0
IsOfHolds db flaw = (id : ℤ) × (flaw ≡ record { table = table.Holds; row = Some id }) × IsWrongIn (db.trees holds_tree) (IsHoldRow db) id

-- of calls, and no row: a number that is dialed isn't counted
abbrev pub IsOfCalls : List Holder → Database → Flaw → Type 0
IsOfCalls held db flaw = (flaw ≡ record { table = table.Calls; row = None }) × ¬ AreCalled db held

-- by the numbers of meta and the holders of holds, it is of a row of another table, or of calls
pub record IsOfOthers (db : Database) (flaw : Flaw) : Type 0 where
  pub meta : Meta
  pub numbers : HasNumbers db meta
  pub held : List Holder
  pub holders : HasHolders db held
  pub is_of : AreTablesChecked meta held db (Some flaw) ⊎ IsOfCalls held db flaw

-- the flaw is of a row that isn't as it has to be, or that is missing
abbrev pub IsFlawed : Database → Flaw → Type 0
IsFlawed db flaw = IsOfMeta db flaw ⊎ (IsOfHolds db flaw ⊎ IsOfOthers db flaw)

-- The rows mean a consistent queue and no flaw is told, or they mean none and one is.
abbrev pub IsChecked : Database → Option Flaw → Type 0
IsChecked db None = IsSound db
IsChecked db (Some flaw) = (¬ IsSound db) × IsFlawed db flaw
