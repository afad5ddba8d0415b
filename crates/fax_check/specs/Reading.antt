-- What a reading leaves of a database, and tells of its rows.
use Rattle.std.specs.Prelude.{◌≡◌, ◌⊎◌, MatchResult, Option, Some, None, Ok, Err, IfErr, IfOk, Result}
use Rattle.sqlite.specs.Effect.{Database}
use Rattle.sqlite.specs.Held.{Held, state}
use Rattle.sqlite.specs.State.{State, HasCleanDisk, IsUnchanged}
use Rattle.sqlite_trees.specs.declared.store.Store.{Ghosts}
use Rattle.fax_check.specs.Sound.{IsStored}
use Rattle.fax_store.specs.Store.{CommitsNothing, HasTables, LeavesCommit, Reads}
use Rattle.fax_tables.specs.declared.fault.StoreFault.{StoreFault}
use Rattle.fax_tables.specs.declared.fault.StoreFault.TheVariants.{Strange, Unavailable}

-- An answer leaves all as it is, and a refusal what was committed. Nothing is committed, and what is refused wants an answer of the database. Of the rows of our tables the answer tells this.
pub record Tells {A : Type 0} (old new : State) (result : Result A StoreFault) (P : Database → A → Type 0) : Type 0 where
  pub clean : HasCleanDisk new → HasCleanDisk old
  pub reads : HasTables old → HasCleanDisk new → Reads old new result
  pub crash : CommitsNothing old new
  pub cause : IfErr result (λ fault. fault ≡ Unavailable)
  pub tells : IsStored old.now → HasCleanDisk new → IfOk result (P old.now)

-- the same of one that may do nothing
pub record Looks {S A : Type 0} (g : Ghosts S) (old new : Held S) (result : Result A StoreFault) (P : Database → A → Type 0) : Type 0 where
  pub clean : HasCleanDisk (state g new) → HasCleanDisk (state g old)
  pub reads : HasTables (state g old) → HasCleanDisk (state g new) → MatchResult result (λ _. (new ≡ old) ⊎ IsUnchanged (state g old) (state g new)) (λ _. LeavesCommit (state g old) (state g new))
  pub crash : CommitsNothing (state g old) (state g new)
  pub cause : IfErr result (λ fault. fault ≡ Unavailable)
  pub tells : IsStored (state g old).now → HasCleanDisk (state g new) → IfOk result (P (state g old).now)

-- what is read of a row is a record, or none where the row is strange
abbrev pub known_of : {A : Type 0} → Result A StoreFault → Result (Option A) StoreFault
known_of (Ok found) = Ok (Some found)
known_of (Err Strange) = Ok None
known_of (Err Unavailable) = Err Unavailable
