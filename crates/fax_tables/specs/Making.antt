-- What it leaves to make tables, or to take them away.
use Rattle.std.specs.Prelude.{◌≤◌, ⊤, IsTrue, List, OnErr, OnOk, Result}
use Rattle.sqlite.specs.Held.{Held, state}
use Rattle.sqlite.specs.State.{State, HasCleanDisk, KeepsCommit}
use Rattle.sqlite.specs.View.{doubt}
use Rattle.sqlite_schema.specs.declared.schema.Schema.{Schema}
use Rattle.sqlite_trees.specs.declared.store.Store.{Ghosts}
use Rattle.fax_schema.specs.Way.{IsWay, Leads}
use Rattle.fax_schema.specs.declared.way.Step.{Step}
use Rattle.fax_schema.specs.declared.way.Way.{Way}
use Rattle.fax_layout.specs.Stop.{HoldsBack}
use Rattle.fax_tables.specs.Tables.{GoesOn}

-- a transaction is under way over tables that these steps lead to those
pub record IsBefore (steps : List Step) (to : Schema) (s : State) : Type 0 where
  pub is_open : IsTrue s.is_open
  pub inside : IsTrue s.in_transaction
  pub leads : Leads steps s.now.schema to

-- a transaction is under way over tables that go this way
pub record IsOn (way : Way) (s : State) : Type 0 where
  pub is_open : IsTrue s.is_open
  pub inside : IsTrue s.in_transaction
  pub is_way : IsWay way s.now.schema

-- whatever the state is
abbrev pub Always : State → Type 0
Always s = ⊤

module _ {S : Type 0} (g : Ghosts S) where
  -- From a state of which P holds the transaction goes on, and Q tells of both. Where it was refused, the last commit stands, if K held. Nothing is committed, and a disk that is in doubt stays so.
  pub record Alters {A E : Type 0} (P K : State → Type 0) (Q : State → State → Type 0) (old new : Held S) (result : Result A E) : Type 0 where
    pub made : HasCleanDisk (state g new) → OnOk result (P (state g old) → GoesOn (state g old) (state g new) × Q (state g old) (state g new))
    pub kept : HasCleanDisk (state g new) → OnErr result (K (state g old) → KeepsCommit (state g old) (state g new))
    pub crash : HoldsBack P (state g old) (state g new)
    pub doubt : doubt (state g old).is_clean ≤ doubt (state g new).is_clean
