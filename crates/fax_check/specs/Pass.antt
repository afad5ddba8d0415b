-- What a pass over the rows of a table finds.
use Rattle.std.specs.Prelude.{◌≡◌, ℕ, ◌-◌, ℤ, List, [], ◌∷◌, ◌++◌, All, length, MatchOption, IfErr, OnOk, OnErr, Option, Result}
use Rattle.sqlite.specs.Effect.{Database}
use Rattle.sqlite.specs.Given.{HasGiven}
use Rattle.sqlite.specs.Held.{Held, state}
use Rattle.sqlite.specs.Order.{Row}
use Rattle.sqlite.specs.State.{HasCleanDisk, IsUnchanged, Shown}
use Rattle.sqlite.specs.declared.types.Value.TheVariants.{Int}
use Rattle.sqlite_trees.specs.declared.store.Store.{Ghosts}
use Rattle.fax_check.specs.declared.pass.Step.{Step}
use Rattle.fax_check.specs.declared.pass.Step.TheVariants.{End, Right, Wrong}
use Rattle.fax_check.specs.declared.tables.Query.{Query}
use Rattle.fax_check.specs.declared.tables.Query.TheVariants.{Calls, Down, Floors, Grants, Jobs, Owned, Replies, Timed, Times}
use Rattle.fax_store.specs.Store.{CommitsNothing, LeavesCommit}
use Rattle.fax_tables.specs.Row.{HasValue}
use Rattle.fax_tables.specs.declared.fault.StoreFault.{StoreFault}
use Rattle.fax_tables.specs.declared.fault.StoreFault.TheVariants.{Unavailable}

-- the column in which a row of a query has its rowid
abbrev pub rowid_at : Query → Row → ℕ
rowid_at Jobs row = 0
rowid_at Grants row = 0
rowid_at Times row = 0
rowid_at Timed row = 0
rowid_at Owned row = 0
rowid_at Down row = length row - 1
rowid_at Replies row = length row - 1
rowid_at Floors row = length row - 1
rowid_at Calls row = length row - 1

-- this is the rowid of a row of the query, where the row has one
abbrev pub Names : Query → Row → ℤ → Type 0
Names query row id = (n : ℤ) → HasValue row (rowid_at query row) (Int n) → id ≡ n

-- this names the first of these rows that isn't as it has to be
pub record IsFirst (P : Row → Type 0) (N : Row → ℤ → Type 0) (rows : List Row) (id : ℤ) : Type 0 where
  pub before : List Row
  pub first : Row
  pub behind : List Row
  pub parts : rows ≡ before ++ first ∷ behind
  pub right : All P before
  pub wrong : ¬ P first
  pub named : N first id

-- each of these rows is as it has to be, or the first that isn't is named
abbrev pub IsPassed : (Row → Type 0) → (Row → ℤ → Type 0) → List Row → Option ℤ → Type 0
IsPassed P N rows found = MatchOption found (All P rows) (IsFirst P N rows)

-- a query has shown these rows of the database
abbrev pub AreRead : {S : Type 0} → Ghosts S → List ℕ → Database → Held S → List Row → Type 0
AreRead {S} g sql db new rows = (mid : Held S) × ((state g mid).now ≡ db) × Shown sql [] (state g mid) (state g new) rows

module _ {S : Type 0} (g : Ghosts S) (P : Row → Type 0) (N : Row → ℤ → Type 0) where
  -- no row is left of the query, or the next one is as it has to be, or isn't and is named
  abbrev pub IsStep : List ℕ → List Row → Held S → Held S → Step → Type 0
  IsStep sql given old new End = Shown sql [] (state g old) (state g new) given
  IsStep sql given old new Right = (row : Row) × HasGiven g sql [] new (given ++ row ∷ []) × P row
  IsStep sql given old new (Wrong id) = (row : Row) × HasGiven g sql [] new (given ++ row ∷ []) × (¬ P row) × N row id

-- what goes on with a query under way leaves all as it is, or what was committed where it is refused
pub record GoesOn {S A : Type 0} (g : Ghosts S) (old new : Held S) (result : Result A StoreFault) : Type 0 where
  pub clean : HasCleanDisk (state g new) → HasCleanDisk (state g old)
  pub same : HasCleanDisk (state g new) → OnOk result (IsUnchanged (state g old) (state g new))
  pub left : HasCleanDisk (state g new) → OnErr result (LeavesCommit (state g old) (state g new))
  pub crash : CommitsNothing (state g old) (state g new)
  pub cause : IfErr result (λ fault. fault ≡ Unavailable)
