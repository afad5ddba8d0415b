-- What BEGIN, COMMIT and ROLLBACK do, whatever the schema is.
use Rattle.std.proofs.Common.{◌≡◌, ◌⊎◌, inl, inr, ℕ, List, [], length, nat_le, true, false, None, Ok, Err, Result, IsTrue, refl, sym, ap, subst, arith}
use Rattle.std.proofs.lemmas.Bool.{leb-true}
use Rattle.sqlite_schema.specs.declared.schema.Schema.{Schema}
use Rattle.sqlite_resolve.specs.declared.compiled.Compiled.{Compiled}
use Rattle.sqlite_resolve.specs.declared.error.CompileError.{CompileError}
use Rattle.sqlite.specs.declared.error.Error.{Error}
use Rattle.sqlite.specs.Command.{Command}
use Rattle.sqlite.specs.Command.TheVariants.{Begin, Commit, Rollback}
use Rattle.sqlite.specs.Listing.{understood}
use Rattle.sqlite.specs.State.{State, Executes, ExecutesIn, IsNotRun, IsNoStatement, IsRolledBack, Shows, shows_rows, is_pragma, IsMisplaced, MayChange}
use Rattle.sqlite.specs.Effect.{is_query}
use Rattle.sqlite.proofs.Callers.{IsPlain, command_of, runs_as}
use Rattle.sqlite.specs.Calls.{IsWrite}
use Rattle.sqlite_tied.specs.Compute.{everything}
use Rattle.fax_store.specs.declared.store.TheConstants.{BEGIN, COMMIT, ROLLBACK}

-- the text is this command, with no parameters
abbrev pub IsControl : List ℕ → Command → Result Compiled CompileError → Type 0
IsControl sql command (Ok c) = (c.command ≡ command) × (c.returning ≡ None) × (c.names ≡ []) × (c.formats ≡ []) × (nat_le (length sql) c.tail ≡ true)
IsControl sql command (Err e) = ⊥

-- the text to begin is BEGIN, whatever the schema is
pub begin_is : (schema : Schema) → IsControl BEGIN.now Begin (understood schema BEGIN.now)
unfolding understood everything
begin_is schema = (refl, refl, refl, refl, refl)

-- the text to commit is COMMIT, whatever the schema is
pub commit_is : (schema : Schema) → IsControl COMMIT.now Commit (understood schema COMMIT.now)
unfolding understood everything
commit_is schema = (refl, refl, refl, refl, refl)

-- the text to roll back is ROLLBACK, whatever the schema is
pub rollback_is : (schema : Schema) → IsControl ROLLBACK.now Rollback (understood schema ROLLBACK.now)
unfolding understood everything
rollback_is schema = (refl, refl, refl, refl, refl)

-- so it runs as this command, with no RETURNING
runs_so : (sql : List ℕ) (command : Command) (r : Result Compiled CompileError) → IsControl sql command r → (command_of r ≡ command) × IsPlain r
runs_so sql command (Ok c) is = (is.0, (is.1, is.3))
runs_so sql command (Err e) is = absurd is

-- a command that shows no rows and writes none
abbrev pub IsBare : Command → Type 0
IsBare command = (is_query command ≡ false) × (is_pragma command ≡ false) × (¬ IsWrite command)

module _ (old new : State) (sql : List ℕ) (command : Command) (is : IsControl sql command (understood old.now.schema sql)) (bare : IsBare command) where
  -- what the text is understood as is this command
  known : (c : Compiled) → understood old.now.schema sql ≡ Ok c → IsControl sql command (Ok c)
  known c e = subst (IsControl sql command) e is

  -- the text is a statement, so no fault says that it is none
  refutes : (e : Error) → IsNoStatement old sql [] e → ⊥
  refutes e (inl h) = subst (IsControl sql command) h.1 is
  refutes e (inr h) = elim h.2 [
    | inl long ↦ long.0 (leb-true _ _ (known h.0 h.1).4)
    | inr (inl given) ↦ given.0 (sym (ap length (known h.0 h.1).2))
    | inr (inr timed) ↦ timed.0 (known h.0 h.1).3
  ]

  -- it changes nothing
  stays : (c : Compiled) → IsControl sql command (Ok c) → MayChange c → ⊥
  stays c h (inl write) = bare.2 (subst IsWrite h.0 write)
  stays c h (inr some) = absurd (let none = h.1 in cc)

  -- it is refused only where it is misplaced, and else the transaction is undone
  fails : (e : Error) → (IsMisplaced old command e → ⊥) → Executes sql [] old new (Err e) → IsRolledBack old new
  unfolding ExecutesIn IsNotRun
  fails e placed (inl (inl refused)) = absurd (refutes e refused.0)
  fails e placed (inl (inr failed)) = failed.3
  fails e placed (inr ran) =
      let it = known ran.0 ran.1.is in
      let hides : shows_rows false ran.0 ≡ false = rw (it.0, it.1, bare.0, bare.1) refl in
      elim (rw hides at ran.2) [
        | inl (inl misplaced, same) ↦ absurd (placed (subst (λ k. IsMisplaced old k e) it.0 misplaced))
        | inl (inr (changes, does), same) ↦ absurd (stays ran.0 it changes)
        | inr failed ↦ failed.3
      ]

-- inside a transaction, what ends it isn't misplaced
not_misplaced : (s : State) (command : Command) → (command ≡ Commit) ⊎ (command ≡ Rollback) → IsTrue s.in_transaction → (e : Error) → IsMisplaced s command e
    → ⊥
not_misplaced s command ends inside e misplaced = grind arith

module _ (old new : State) where
  -- a begin that is done was made outside a transaction, and leaves one under way over the same rows
  pub begins : (n : ℕ) → Executes BEGIN.now [] old new (Ok n) → (old.in_transaction ≡ false) × Shows old new old.now old.committed true
  begins n h =
      let on = runs_so BEGIN.now Begin (understood old.now.schema BEGIN.now) (begin_is old.now.schema) in
      let ran = runs_as BEGIN.now [] old new old.now.schema refl Begin on.0 on.1 n h in (ran.0, ran.1)

  -- a commit that is done commits what is there now
  pub commits : (n : ℕ) → Executes COMMIT.now [] old new (Ok n) → Shows old new old.now old.now false
  commits n h =
      let on = runs_so COMMIT.now Commit (understood old.now.schema COMMIT.now) (commit_is old.now.schema) in
      let ran = runs_as COMMIT.now [] old new old.now.schema refl Commit on.0 on.1 n h in ran.1

  -- a rollback in a transaction undoes it, whatever it answers
  pub rolls_back : (r : Result ℕ Error) → IsTrue old.in_transaction → Executes ROLLBACK.now [] old new r → IsRolledBack old new
  rolls_back (Ok n) inside h =
      let on = runs_so ROLLBACK.now Rollback (understood old.now.schema ROLLBACK.now) (rollback_is old.now.schema) in
      let ran = runs_as ROLLBACK.now [] old new old.now.schema refl Rollback on.0 on.1 n h in ran.1
  rolls_back (Err e) inside h = fails old new ROLLBACK.now Rollback (rollback_is old.now.schema) (refl, refl, λ w. w) e
      (not_misplaced old Rollback (inr refl) inside e) h

  -- a commit that fails in a transaction undoes it
  pub commit_fails : (e : Error) → IsTrue old.in_transaction → Executes COMMIT.now [] old new (Err e) → IsRolledBack old new
  commit_fails e inside h = fails old new COMMIT.now Commit (commit_is old.now.schema) (refl, refl, λ w. w) e (not_misplaced old Commit (inl refl) inside e) h
