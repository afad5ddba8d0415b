-- What a store means across the calls of its connection, and what a text that isn't compiled tells of it.
use Rattle.std.proofs.Common.{◌≡◌, ◌⊎◌, inl, inr, ◌≤◌, ℕ, List, [], Bool, true, false, not, IfOk, IsTrue, Ok, Err, Result, refl, sym, subst, ap, ◌∙◌, arith}
use Rattle.std.proofs.lemmas.Bool.{both_ways, false_from_ne_true}
use Rattle.sqlite.specs.Effect.{Database}
use Rattle.sqlite.specs.View.{doubt}
use Rattle.sqlite.specs.declared.error.Error.{Error}
use Rattle.sqlite.specs.State.{State, Fails, HasCleanDisk, IsUnchanged, IsRolledBack, Executes, Survives, HasCause, IsNoStatement, IsNotRun, store_error}
use Rattle.sqlite_trees.specs.Tree.{Trees}
use Rattle.sqlite.specs.Held.{Held, state}
use Rattle.sqlite.specs.Steps.{over_memory}
use Rattle.sqlite_trees.specs.declared.memory.MemStore.{MemStore}
use Rattle.sqlite.proofs.Callers.{memory_is_clean}
use Rattle.sqlite.proofs.InsideLemmas.{fails_whole}
use Rattle.fax_store.specs.declared.store.TheConstants.{BEGIN, COMMIT, ROLLBACK}
use Rattle.fax_core.specs.Ledger.{Ledger}
use Rattle.fax_core.specs.Queue.{Queue}
use Rattle.fax_tables.specs.Tables.{TablesMean, IsAtRest}
use Rattle.fax_store.specs.Shut.{SaysShut, shut_by}
use Rattle.fax_tables.specs.declared.fault.StoreFault.{StoreFault}
use Rattle.fax_tables.specs.declared.fault.StoreFault.TheVariants.{Unavailable}
use Rattle.fax_store.specs.Store.{Serves, Means, HasRows, LeavesCommit, Stays, GoesBack}
use Rattle.fax_store.specs.Work.{Begins, BeginsAt, Commits, Forgets, Undoes}
use Rattle.fax_store.proofs.ControlLemmas.{begins, commits, commit_fails, rolls_back}
use Rattle.fax_store.proofs.StatementLemmas.{left_open, run_open}
use Rattle.sqlite.specs.declared.error.Error.TheVariants.{SqliteFailure}
use Rattle.sqlite.specs.declared.error.ErrorCode.TheVariants as code
use Rattle.sqlite_trees.specs.declared.error.StoreError.{StoreError}
use Rattle.sqlite_trees.specs.declared.error.StoreError.TheVariants.{Broken}

-- the tables mean the same in an equal database
pub same_tables : {a b : Database} (m : Queue) (k : Ledger) → b ≡ a → TablesMean a m k → TablesMean b m k
same_tables m k e h = subst (λ d. TablesMean d m k) (sym e) h

-- memory always serves
pub memory_serves : (c : Held MemStore) → Serves (state over_memory c)
memory_serves c = record { clean = memory_is_clean c; is_open = refl }

-- rows that are known, and what they mean
pub at_rest_of : (s : State) (db : Database) (m : Queue) (k : Ledger) → HasRows s db → TablesMean db m k → IsAtRest s m k
at_rest_of s db m k rows means = record { autocommit = rows.autocommit; settled = rows.now ∙ sym rows.committed; means = same_tables m k rows.now means }

-- where the rows stay, so does what they mean
pub means_stay : {old new : State} → (Serves new → Serves old) → Stays old new → (m : Queue) (k : Ledger) → Means old m k → Means new m k
means_stay {old} {new} served stays m k means s =
    let was = means (served s) in
    at_rest_of new old.now m k (stays old.now was.means.schema (λ at. let here = means at in record { autocommit = here.autocommit; now = refl; committed = sym here.settled }) s) was.means

-- the rows stay where nothing changed, or what was not committed is undone
pub rows_left : (old new : State) (db : Database) → Serves new → LeavesCommit old new → HasRows old db → HasRows new db
rows_left old new db s (inl same) was = record { autocommit = same.0.mode ∙ was.autocommit; now = same.0.now_is ∙ was.now; committed = same.0.committed_is ∙ was.committed }
rows_left old new db s (inr undone) was =
    let back = undone.undone s.is_open in
    record { autocommit = undone.autocommit; now = back.0 ∙ was.committed; committed = back.1 ∙ was.committed }

-- the disk was clean, where it still is behind a call
pub clean_in : {old new : State} {P : Trees → Type 0} → Survives old new P → HasCleanDisk new → HasCleanDisk old
clean_in survives now = let kept = survives.clean in omega arith

module _ (old new : State) (kept : doubt old.is_clean ≤ doubt new.is_clean) where
  -- the disk was clean, where it still is
  pub cleaner : HasCleanDisk new → HasCleanDisk old
  cleaner now = omega arith

  -- the old state served, where the new one does and was opened then
  pub served : Serves new → IsTrue old.is_open → Serves old
  served s is_open = record { clean = cleaner s.clean; is_open = is_open }

  -- the rows stay where a call changed nothing, or undid what was not committed
  pub rests : (HasCleanDisk new → IsUnchanged old new ⊎ IsRolledBack old new) → Stays old new
  rests left db six has s = rows_left old new db s (left s.clean) (has (served s (left_open old new [] [] (left s.clean) s.is_open)))

  -- what is not committed is undone where the call undid it
  pub goes_back : (HasCleanDisk new → IsRolledBack old new) → GoesBack old new
  goes_back left db is s =
      let undone = left s.clean in
      let back = undone.undone s.is_open in
      let was = is (served s (undone.was_open s.is_open)) in
      record { autocommit = undone.autocommit; now = back.0 ∙ was; committed = back.1 ∙ was }

  -- a begin that is done begins a work with what the store means
  pub begun : (n : ℕ) → (HasCleanDisk new → Executes BEGIN.now [] old new (Ok n)) → Begins old new false
  begun n ran m k means s =
      let began = (begins old new n (ran s.clean)).1 in
      let was = means (served s began.was_open) in
      record {
        began = same_tables m k (began.committed_is ∙ sym was.settled) was.means;
        goes_on = λ _. record { inside = began.mode; means = same_tables m k began.now_is was.means };
      }

  -- a begin that is done begins a work at the rows of the store
  pub begun_at : (n : ℕ) → (HasCleanDisk new → Executes BEGIN.now [] old new (Ok n)) → BeginsAt old new false
  begun_at n ran db six has s =
      let began = (begins old new n (ran s.clean)).1 in
      let was = has (served s began.was_open) in
      record { began = began.committed_is ∙ was.committed; goes_on = λ _. (began.mode, ap (λ (d : Database). d.schema) (began.now_is ∙ was.now) ∙ six) }

  -- where the store serves after a begin or a commit, it did before
  pub begun_served : (n : ℕ) → (HasCleanDisk new → Executes BEGIN.now [] old new (Ok n)) → Serves new → Serves old
  begun_served n ran s = served s (begins old new n (ran s.clean)).1.was_open

  pub commit_served : (n : ℕ) → (HasCleanDisk new → Executes COMMIT.now [] old new (Ok n)) → Serves new → Serves old
  commit_served n ran s = served s (commits old new n (ran s.clean)).was_open

  -- a text that is refused outside a work leaves the rows
  pub not_begun : (sql : List ℕ) (e : Error) → (HasCleanDisk new → Executes sql [] old new (Err e)) → Stays old new
  not_begun sql e ran = rests (λ clean. fails_whole old new false sql [] e (ran clean))

  -- once a commit is done, the store means what the work made
  pub committed : (n : ℕ) → (HasCleanDisk new → Executes COMMIT.now [] old new (Ok n)) → Commits old false new
  committed n ran m₀ m k₀ k works s =
      let done = commits old new n (ran s.clean) in
      let was = (works (served s done.was_open)).goes_on refl in
      record { autocommit = done.mode; settled = done.now_is ∙ sym done.committed_is; means = same_tables m k done.now_is was.means }

  -- after a commit that is done, a store with a clean disk serves
  pub commit_opens : (n : ℕ) → (HasCleanDisk new → Executes COMMIT.now [] old new (Ok n)) → HasCleanDisk new → Serves new
  commit_opens n ran clean = record { clean = clean; is_open = (commits old new n (ran clean)).is_open }

  -- where the store serves after a text that was refused, it did before
  pub fails_served : (sql : List ℕ) (e : Error) → (HasCleanDisk new → Executes sql [] old new (Err e)) → Serves new → Serves old
  fails_served sql e ran s = served s (left_open old new sql [] (fails_whole old new false sql [] e (ran s.clean)) s.is_open)

  -- where the store serves after a text, it did before
  pub ran_served : (sql : List ℕ) (r : Result ℕ Error) → (HasCleanDisk new → Executes sql [] old new r) → Serves new → Serves old
  ran_served sql (Ok n) ran s = served s (run_open old new sql [] n (ran s.clean) s.is_open)
  ran_served sql (Err e) ran s = fails_served sql e ran s

  -- a commit that fails while a work is under way undoes it
  pub not_committed : (e : Error) → (Serves old → IsTrue old.in_transaction) → (HasCleanDisk new → Executes COMMIT.now [] old new (Err e)) → GoesBack old new
  not_committed e inside ran db is s = goes_back (λ clean. commit_fails old new e (inside (fails_served COMMIT.now e ran s)) (ran clean)) db is s

  -- a rollback inside a work undoes it, whatever it answers
  pub rolled : (r : Result ℕ Error) → IsTrue old.in_transaction → (HasCleanDisk new → Executes ROLLBACK.now [] old new r) → GoesBack old new
  rolled r inside ran = goes_back (λ clean. rolls_back old new r inside (ran clean))

-- what a drop of a work leaves
pub forgets : (old new : State) (failed : _) → GoesBack old new → Forgets old failed new
forgets old new failed back db over s = back db (λ was. (over was).began) s

-- where the work is undone, the store means what it did where it began
pub undoes : (old new : State) (failed : _) → (Serves new → Serves old) → GoesBack old new → Undoes old failed new
undoes old new failed served back m₀ m k₀ k works s = at_rest_of new old.committed m₀ k₀ (back old.committed (λ _. refl) s) (works (served s)).began

-- the same of a commit that fails
pub forgets_commit : (old new : State) → ((Serves old → IsTrue old.in_transaction) → GoesBack old new) → Forgets old false new
forgets_commit old new back db over s = back (λ was. ((over was).goes_on refl).0) db (λ was. (over was).began) s

-- the store then means what it did where the work began
pub undoes_commit : (old new : State) → (Serves new → Serves old) → ((Serves old → IsTrue old.in_transaction) → GoesBack old new) → Undoes old false new
undoes_commit old new served back m₀ m k₀ k works s =
    at_rest_of new old.committed m₀ k₀ (back (λ was. ((works was).goes_on refl).inside) old.committed (λ _. refl) s) (works (served s)).began

-- no text is refused for a closed database by what it says
no_statement : (s : State) (sql : List ℕ) (e : Error) → e ≡ SqliteFailure code.Closed → ¬ (IsNoStatement s sql [] e)
no_statement s sql e is h = grind arith

module _ (old new : State) where
  -- where the cause is that the database is closed, it is closed
  closed_for : (cause : StoreError) → SqliteFailure code.Closed ≡ store_error cause → HasCause old new ⊥ cause → IsRolledBack old new → new.is_open ≡ false
  closed_for Broken e had undone = false_from_ne_true new.is_open (λ on. both_ways _ had (undone.was_open on))
  closed_for _ e had undone = absurd (let both = e in cc)

  -- it is closed where it says so
  pub is_closed : (sql : List ℕ) (e : Error) → e ≡ SqliteFailure code.Closed → IsNotRun old new sql [] e → new.is_open ≡ false
  unfolding IsNotRun
  is_closed sql e is (inl (why, same)) = absurd (no_statement old sql e is why)
  is_closed sql e is (inr failed) = closed_for failed.0 (sym is ∙ failed.1) failed.2 failed.3

  -- what the error of such a text says of it is so
  pub shut_is : (e : Error) → IsNotRun old new COMMIT.now [] e → IfOk (shut_by e) (λ shut. new.is_open ≡ not shut)
  shut_is (SqliteFailure code.Closed) h = is_closed COMMIT.now _ refl h
  shut_is _ h = tt

  -- where it is shut the answer is that it is, unless the database failed to compile for another cause
  pub shut_or_unsure : (result : Result Bool StoreFault) → SaysShut old new result → new.is_open ≡ false → (result ≡ Ok true) ⊎ ((e : Error) × (result ≡ Err Unavailable) × Fails old new ⊥ e)
  unfolding IsNotRun
  shut_or_unsure result (inl (is, same)) shut = absurd (both_ways _ shut same.0.is_open)
  shut_or_unsure result (inr (e, is, inl (why, same))) shut = absurd (both_ways _ shut same.0.is_open)
  shut_or_unsure result (inr (e, is, inr failed)) shut = by e is failed
    where
      by : (e : Error) → result ≡ shut_by e → Fails old new ⊥ e → (result ≡ Ok true) ⊎ ((f : Error) × (result ≡ Err Unavailable) × Fails old new ⊥ f)
      by (SqliteFailure code.Closed) is failed = inl is
      by e is failed = inr (e, is, failed)

  -- what such a text leaves
  not_run : (sql : List ℕ) (e : Error) → IsNotRun old new sql [] e → IsUnchanged old new ⊎ IsRolledBack old new
  unfolding IsNotRun
  not_run sql e (inl (why, same)) = inl same
  not_run sql e (inr failed) = inr failed.3

  module _ (kept : doubt old.is_clean ≤ doubt new.is_clean) (sql : List ℕ) (e : Error) (ran : HasCleanDisk new → IsNotRun old new sql [] e) where
    -- where the database serves behind it, it did before
    pub was_served : Serves new → Serves old
    was_served s = served old new kept s (left_open old new sql [] (not_run sql e (ran s.clean)) s.is_open)

    -- and has the same rows
    pub still_rests : Stays old new
    still_rests = rests old new kept (λ clean. not_run sql e (ran clean))
