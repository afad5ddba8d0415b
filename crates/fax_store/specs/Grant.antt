-- What is made of the grants of a queue.
use Rattle.std.specs.Prelude.{◌≡◌, ◌≢◌, ℕ, true, false, List, [], ◌∷◌, map, Option, Some, None, IsTrue, if◌then◌else◌}
use Rattle.std.specs.List.Sorted.{IsPermutation}
use Rattle.std.specs.Str.{bytes_eq}
use Rattle.sqlite.specs.Effect.{Database, IsDatabase}
use Rattle.sqlite.specs.Order.{column}
use Rattle.sqlite.specs.State.{State}
use Rattle.sqlite.specs.declared.types.Value.TheVariants.{Text}
use Rattle.sqlite_catalog.specs.Change.{KeepsRows}
use Rattle.sqlite_rules.specs.Lists.{Has}
use Rattle.fax_core.specs.Machine.{held_by, with_grant}
use Rattle.fax_core.specs.Job.{Job}
use Rattle.fax_core.specs.Queue.{Queue, grant_numbered, job_numbered, open_grants}
use Rattle.fax_core.specs.declared.grants.Grant.{Grant}
use Rattle.fax_tables.specs.Grant.{grant_shown, held_shown}
use Rattle.fax_tables.specs.Place.{placed}
use Rattle.fax_tables.specs.Row.{number}
use Rattle.fax_tables.specs.declared.grants.Hold.{Hold}
use Rattle.fax_schema.specs.Schema.{calls_tree, grants_tree, holds_tree, our_tables, core_tables}
use Rattle.fax_tables.specs.Tables.{AreCalls, GoesOn}
use Rattle.fax_store.specs.Store.{HasRow, HasTables, StandsOrNone}

-- the queue with one more grant
abbrev pub with_placed : Grant → Queue → Queue
with_placed g m = record m { grants = placed (λ h. h.number) g m.grants }

-- no grant has its number, and neither its modem nor its job holds one
pub record IsNewGrant (g : Grant) (m : Queue) : Type 0 where
  pub number : grant_numbered g.number m ≡ None
  pub modem : held_by g.modem m ≡ None
  pub job : (h : Grant) → Has (open_grants m) h → h.job ≢ g.job

-- what no report on a grant touches
pub record IsSameGrant (g h : Grant) : Type 0 where
  pub job : g.job ≡ h.job
  pub modem : g.modem ≡ h.modem
  pub first_page : g.first_page ≡ h.first_page
  pub last_page : g.last_page ≡ h.last_page
  pub is_open : g.is_open ≡ h.is_open

-- the grant of that number, where there is one, differs in its call and its confirmed pages alone
abbrev pub IsReport : Grant → Queue → Type 0
IsReport g m = (h : Grant) → grant_numbered g.number m ≡ Some h → IsSameGrant h g

-- the grant is open no more
abbrev pub with_shut : Option Grant → Queue → Queue
with_shut None m = m
with_shut (Some g) m = with_grant (record g { is_open = false }) m

-- the queue without the hold of the grant of this number
abbrev pub with_closed : ℕ → Queue → Queue
with_closed n m = with_shut (grant_numbered n m) m

-- ---- the calls to each number

-- the job of that number is to this canonical number
abbrev pub IsCalled : ℕ → List ℕ → Queue → Type 0
IsCalled n dial m = (j : Job) × (job_numbered n m ≡ Some j) × (j.dial ≡ dial)

-- the grant of that number is open, and of that job
abbrev pub IsHeldBy : ℕ → ℕ → Queue → Type 0
IsHeldBy number job m = (g : Grant) × (grant_numbered number m ≡ Some g) × (g.is_open ≡ true) × (g.job ≡ job)

-- it is of a job to this canonical number
abbrev pub IsHeld : ℕ → List ℕ → Queue → Type 0
IsHeld number dial m = (g : Grant) × (grant_numbered number m ≡ Some g) × (g.is_open ≡ true) × IsCalled g.job dial m

-- the counts, with this one for this number
abbrev pub with_count : List ℕ → ℕ → (List ℕ → ℕ) → List ℕ → ℕ
with_count dial n count other = if bytes_eq other dial then n else count other

-- the transaction goes on, the other tables have the rows that they had, and the counts are these
pub record SetsCalls (old new : State) (count : List ℕ → ℕ) : Type 0 where
  pub goes_on : GoesOn old new
  pub schema_is : new.now.schema ≡ our_tables
  pub sound : IsDatabase new.now
  pub rows : KeepsRows core_tables.tables old.now.trees new.now.trees
  pub calls : AreCalls count (new.now.trees calls_tree)

-- a transaction is under way in an open database over our tables, and the counts are these
pub record HasCalls (s : State) (count : List ℕ → ℕ) : Type 0 where
  pub is_open : IsTrue s.is_open
  pub inside : IsTrue s.in_transaction
  pub tables : HasTables s
  pub sound : IsDatabase s.now
  pub calls : AreCalls count (s.now.trees calls_tree)

-- ---- the rows, whatever they say

-- a row of grants has this number
abbrev pub HasGrantRow : Database → ℕ → Type 0
HasGrantRow db n = HasRow db grants_tree (0 ∷ []) (number n ∷ [])

-- a row of holds has this modem
abbrev pub HasHoldRow : Database → List ℕ → Type 0
HasHoldRow db modem = HasRow db holds_tree (1 ∷ []) (Text modem ∷ [])

-- the grant is of this number, and stands in a row
abbrev pub GrantStands : Database → ℕ → Grant → Type 0
GrantStands db n g = (g.number ≡ n) × HasRow db grants_tree (0 ∷ 2 ∷ 3 ∷ 4 ∷ 5 ∷ 6 ∷ 7 ∷ 8 ∷ []) (grant_shown g)

-- one has this number to dial beside these calls, or none has the number and no call is counted
abbrev pub CallsStand : Database → List ℕ → ℕ → Type 0
CallsStand db = StandsOrNone db calls_tree

-- the hold stands in a row, beside this modem
abbrev pub HoldStands : Database → List ℕ → Hold → Type 0
HoldStands db modem h = HasRow db holds_tree (1 ∷ 3 ∷ 2 ∷ []) (Text modem ∷ held_shown h)

-- the modems are those of the rows of holds, in any order
abbrev pub HoldersStand : Database → List (List ℕ) → Type 0
HoldersStand db modems = IsPermutation (map (λ row. column row 1) (db.trees holds_tree)) (map Text modems)
