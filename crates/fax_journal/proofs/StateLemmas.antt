-- What any query or statement leaves of a database.
use Rattle.std.proofs.Common.{◌≡◌, inl, inr, ℕ, false, List, Option, Some, None, IsTrue, Ok, Err, Result, OnErr, sym, ap, subst, ◌∙◌}
use Rattle.std.proofs.lemmas.Bool.{cases_Bool}
use Rattle.sqlite.specs.Clock.{timed}
use Rattle.sqlite.specs.Command.{Command}
use Rattle.sqlite.specs.Command.TheVariants.{Select, Rows, Begin, Commit, Rollback, Savepoint, Release, RollbackTo, Nothing}
use Rattle.sqlite.specs.Effect.{Database}
use Rattle.sqlite.specs.Listing.{understood}
use Rattle.sqlite.specs.Order.{Row}
use Rattle.sqlite.specs.State.{State, IsNotRun, IsUnchanged, Shown, ShowsRows, FailsToQuery, FailsToShow, Runs, shows_rows, ExecutesIn, Executes}
use Rattle.sqlite.specs.declared.error.Error.{Error}
use Rattle.sqlite.proofs.Callers.{IsPlain}
use Rattle.sqlite_resolve.specs.declared.compiled.Compiled.{Compiled}
use Rattle.sqlite_schema.specs.declared.command.Returning.{Returning}
use Rattle.sqlite_trees.specs.Tree.{Trees}
use Rattle.fax_journal.specs.Calls.{LeavesCommit}
use Rattle.fax_journal.specs.Journal.{IsAtRest, Leaves, Serves}

-- what is known anyway is known of an error
pub on_err : {T E : Type 0} (r : Result T E) {P : Type 0} → P → OnErr r P
on_err (Ok x) p = tt
on_err (Err e) p = p

module _ (old new : State) (sql : List ℕ) (params : Row) where
  -- the database was open where a query shows its rows, and is
  shows_at : (c : Compiled) (full : Row) (rows : List Row) (returning : Option Returning) → ShowsRows old new sql c full rows returning → IsTrue old.is_open × IsTrue new.is_open
  shows_at c full rows None h = (h.3.0.was_open, h.3.0.is_open)
  shows_at c full rows (Some what) h = (h.1.shown.was_open, h.1.shown.is_open)

  pub shown_at : (rows : List Row) → Shown sql params old new rows → IsTrue old.is_open × IsTrue new.is_open
  unfolding Shown
  shown_at rows h = shows_at h.0 _ rows h.0.returning h.2

  -- a query with no RETURNING changes nothing
  pub shown_keeps : IsPlain (understood old.now.schema sql) → (rows : List Row) → Shown sql params old new rows → IsUnchanged old new
  unfolding Shown
  shown_keeps plain rows h =
      (subst (ShowsRows old new sql h.0 _ rows) ((subst IsPlain h.1.is plain).0) h.2).3

  -- what fails to show its rows changes nothing, or undoes what is not committed
  not_shown : (c : Compiled) (full : Row) (e : Error) (returning : Option Returning) → FailsToShow old new sql c full e returning → LeavesCommit old new
  not_shown c full e None h = inl h.3
  not_shown c full e (Some what) (inl refused) = inl refused.1
  not_shown c full e (Some what) (inr failed) = inr failed.3

  -- a query that is refused changes nothing, or undoes what is not committed
  pub query_fails : (e : Error) → FailsToQuery sql params old new e → LeavesCommit old new
  unfolding FailsToQuery IsNotRun
  query_fails e (inl (inl refused)) = inl refused.1
  query_fails e (inl (inr failed)) = inr failed.3
  query_fails e (inr h) = not_shown h.0 _ e h.0.returning h.2

  -- where a refused statement leaves the database open, it was open before
  pub left_open : LeavesCommit old new → IsTrue new.is_open → IsTrue old.is_open
  left_open (inl same) is_open = same.0.was_open
  left_open (inr undone) is_open = undone.was_open is_open

  -- where a statement has run and the database is open, it was before
  runs_open : (returning : Option Returning) (command : Command) (text : List ℕ) (count : ℕ) → Runs old new returning command text params count → IsTrue new.is_open → IsTrue old.is_open
  runs_open returning (Select q names) text count h is_open = absurd h
  runs_open returning Begin text count h is_open = h.1.was_open
  runs_open returning Commit text count h is_open = h.1.was_open
  runs_open returning Rollback text count h is_open = h.1.was_open is_open
  runs_open returning (Savepoint name) text count h is_open = h.0.0.was_open
  runs_open returning (Release name) text count h is_open = elim h.2 [ inl commits ↦ commits.1.0.was_open | inr drops ↦ drops.1.0.was_open ]
  runs_open returning (RollbackTo name) text count h is_open = h.2.2.was_open
  runs_open returning (Rows values width names) text count h is_open = h.0.0.was_open
  runs_open returning Nothing text count h is_open = h.0.0.was_open
  runs_open returning _ text count h is_open = h.shown.was_open

module _ (old new : State) (sql : List ℕ) (params : Row) where
  -- the database was open where a statement has run and it is
  pub run_open : (count : ℕ) → Executes sql params old new (Ok count) → IsTrue new.is_open → IsTrue old.is_open
  unfolding ExecutesIn
  run_open count h is_open = elim (cases_Bool (shows_rows false h.0)) [
    | inl shows ↦ absurd (let e = (rw shows at h.2).0 in cc)
    | inr runs ↦ runs_open old new sql (timed params h.0.formats h.1.now) h.0.returning h.0.command _ count (rw runs at h.2) is_open
  ]

-- it is at rest where nothing changed, or what was not committed is undone
pub rest_left : (old new : State) (Is : Database → Type 0) → IsTrue new.is_open → LeavesCommit old new → IsAtRest Is old → IsAtRest Is new
rest_left old new Is on (inl same) was = record {
  autocommit = same.0.mode ∙ was.autocommit;
  settled = same.0.now_is ∙ was.settled ∙ sym same.0.committed_is;
  is = subst Is (sym same.0.now_is) was.is;
}
rest_left old new Is on (inr undone) was =
    let back = undone.undone on in
    record { autocommit = undone.autocommit; settled = back.0 ∙ sym back.1; is = subst Is (sym (back.0 ∙ sym was.settled)) was.is }

-- ---- a crash

-- an open store leaves what was committed alone
abbrev pub KeepsCommitted : State → Type 0
KeepsCommitted s = IsTrue s.is_open → (found : Trees) → s.may_leave found → found ≡ s.committed.trees

-- so it leaves what it is
pub leaves_itself : (s : State) (Is : Database → Type 0) → KeepsCommitted s → Serves s → IsAtRest Is s → Leaves Is s
leaves_itself s Is law serves rest found may =
    (s.now, ap (λ (d : Database). d.trees) rest.settled ∙ sym (law serves.is_open found may), rest.is)
