-- What any query or statement leaves of a database.
use Rattle.std.proofs.Common.{◌≡◌, inl, inr, ℕ, false, List, Option, Some, None, IsTrue, Ok, Err, Result, refl, sym, ap, subst, slice_get, ◌∙◌, if◌then◌else◌}
use Rattle.sqlite.specs.Does.{AtPlace, Does, OnRows, Tally}
use Rattle.sqlite.specs.Effect.{Database}
use Rattle.sqlite.specs.Order.{Row}
use Rattle.sqlite.specs.declared.error.Error.{Error}
use Rattle.sqlite_resolve.specs.declared.compiled.Compiled.{Compiled}
use Rattle.sqlite_schema.specs.declared.command.Returning.{Returning}
use Rattle.sqlite.specs.Listing.{understood}
use Rattle.sqlite.specs.Rows.{Task}
use Rattle.sqlite_schema.specs.declared.schema.Table.{Table}
use Rattle.sqlite.specs.State.{State, IsNotRun, Shown, ShowsRows, FailsToQuery, FailsToShow, IsUnchanged, Runs, Shows, Writes, mode_of, shows_rows, text_of, ExecutesIn, Executes}
use Rattle.sqlite.specs.Command.{Command}
use Rattle.sqlite.specs.Command.TheVariants.{Select, Insert, Update, Delete, Rows, Begin, Commit, Rollback, Savepoint, Release, RollbackTo, Nothing}
use Rattle.std.proofs.lemmas.Bool.{cases_Bool}
use Rattle.sqlite.specs.Clock.{timed}
use Rattle.sqlite.proofs.Callers.{IsPlain, command_of}
use Rattle.fax_store.specs.Store.{EditsRows, HasTables, IsEdit, IsEditText, LeavesCommit}
use Rattle.fax_schema.specs.Schema.{our_tables}
use Rattle.fax_schema.proofs.StatementForms.{Commands}
use Rattle.fax_layout.proofs.WriteLemmas.{same_value, went}
use Rattle.sqlite_resolve.specs.declared.error.CompileError.{CompileError}

module _ (old new : State) (sql : List ℕ) (params : Row) where
  -- the database was open where a query shows its rows, and is
  shows_at : (c : Compiled) (full : Row) (rows : List Row) (returning : Option Returning) → ShowsRows old new sql c full rows returning → IsTrue old.is_open × IsTrue new.is_open
  shows_at c full rows None h = (h.3.0.was_open, h.3.0.is_open)
  shows_at c full rows (Some what) h = (h.1.shown.was_open, h.1.shown.is_open)

  pub shown_at : (rows : List Row) → Shown sql params old new rows → IsTrue old.is_open × IsTrue new.is_open
  unfolding Shown
  shown_at rows h = shows_at h.0 _ rows h.0.returning h.2

  -- a query with no RETURNING changes nothing
  pub shown_keeps : IsPlain (understood old.now.schema sql) → (rows : List Row) → Shown sql params old new rows → IsUnchanged old new
  unfolding Shown
  shown_keeps plain rows h =
      (subst (ShowsRows old new sql h.0 _ rows) ((subst IsPlain h.1.is plain).0) h.2).3

  -- what fails to show its rows changes nothing, or undoes what is not committed
  not_shown : (c : Compiled) (full : Row) (e : Error) (returning : Option Returning) → FailsToShow old new sql c full e returning → LeavesCommit old new
  not_shown c full e None h = inl h.3
  not_shown c full e (Some what) (inl refused) = inl refused.1
  not_shown c full e (Some what) (inr failed) = inr failed.3

  -- a query that is refused changes nothing, or undoes what is not committed
  pub query_fails : (e : Error) → FailsToQuery sql params old new e → LeavesCommit old new
  unfolding FailsToQuery IsNotRun
  query_fails e (inl (inl refused)) = inl refused.1
  query_fails e (inl (inr failed)) = inr failed.3
  query_fails e (inr h) = not_shown h.0 _ e h.0.returning h.2

  -- where a refused statement leaves the database open, it was open before
  pub left_open : LeavesCommit old new → IsTrue new.is_open → IsTrue old.is_open
  left_open (inl same) is_open = same.0.was_open
  left_open (inr undone) is_open = undone.was_open is_open

  -- where a statement has run and the database is open, it was before
  runs_open : (returning : Option Returning) (command : Command) (text : List ℕ) (count : ℕ) → Runs old new returning command text params count → IsTrue new.is_open → IsTrue old.is_open
  runs_open returning (Select q names) text count h is_open = absurd h
  runs_open returning Begin text count h is_open = h.1.was_open
  runs_open returning Commit text count h is_open = h.1.was_open
  runs_open returning Rollback text count h is_open = h.1.was_open is_open
  runs_open returning (Savepoint name) text count h is_open = h.0.0.was_open
  runs_open returning (Release name) text count h is_open = elim h.2 [ inl commits ↦ commits.1.0.was_open | inr drops ↦ drops.1.0.was_open ]
  runs_open returning (RollbackTo name) text count h is_open = h.2.2.was_open
  runs_open returning (Rows values width names) text count h is_open = h.0.0.was_open
  runs_open returning Nothing text count h is_open = h.0.0.was_open
  runs_open returning _ text count h is_open = h.shown.was_open

module _ (old new : State) (sql : List ℕ) (params : Row) where
  -- the database was open where a statement has run and it is
  pub run_open : (count : ℕ) → Executes sql params old new (Ok count) → IsTrue new.is_open → IsTrue old.is_open
  unfolding ExecutesIn
  run_open count h is_open = elim (cases_Bool (shows_rows false h.0)) [
    | inl shows ↦ absurd (let e = (rw shows at h.2).0 in cc)
    | inr runs ↦ runs_open old new sql (timed params h.0.formats h.1.now) h.0.returning h.0.command _ count (rw runs at h.2) is_open
  ]

  -- the database is open where a statement that changes rows has run, its tables are as before, and nothing is committed inside a work
  module _ (tables : HasTables old) (edit : IsEditText sql) where
    -- a statement that changes rows keeps the schema
    schema_kept : (c : Compiled) (text : List ℕ) (full : Row) (tally : Tally) (after : Database) → IsEdit c.command → Does old.step_limit (mode_of old) full old.now text None c.command (Ok (tally, after)) → after.schema ≡ old.now.schema
    schema_kept c text full tally after is does = by_command c.command is does
      where
        on_table : (task : Table → Task) (command : Command) (found : Option Table) → ((t : Table) → (task t).schema ≡ old.now.schema)
            → AtPlace (λ t. OnRows (task t) (mode_of old) None command old.now.trees) found (Ok (tally, after)) → after.schema ≡ old.now.schema
        on_table task command None same h = absurd cc
        on_table task command (Some t) same h =
            ap (λ (p : Tally × Database). p.1.schema) (same_value (went (went (went h).2).2).2) ∙ same t

        task_of : Table → Task
        task_of t = record { limit = old.step_limit; keys = (mode_of old).keys; schema = old.now.schema; table = t; params = full }

        by_command : (command : Command) → IsEdit command → Does old.step_limit (mode_of old) full old.now text None command (Ok (tally, after)) → after.schema ≡ old.now.schema
        by_command (Insert at from) is h = on_table task_of (Insert at from) (slice_get old.now.schema.tables at) (λ t. refl) h
        by_command (Update at q) is h = on_table task_of (Update at q) (slice_get old.now.schema.tables at) (λ t. refl) h
        by_command (Delete at q) is h = on_table task_of (Delete at q) (slice_get old.now.schema.tables at) (λ t. refl) h
        by_command _ is h = absurd is

    -- a statement that changes rows runs as a write
    writes_of : (command : Command) (text : List ℕ) (full : Row) (count : ℕ) → IsEdit command → Runs old new None command text full count → Writes old new None command text full count
    writes_of (Insert at from) text full count is h = h
    writes_of (Update at q) text full count is h = h
    writes_of (Delete at q) text full count is h = h
    writes_of _ text full count is h = absurd is

    -- once it has run, the tables are as before; inside a work nothing is committed, and outside one all is
    pub edit_shows : (count : ℕ) → Executes sql params old new (Ok count) → (new.now.schema ≡ old.now.schema) × Shows old new new.now (if old.in_transaction then old.committed else new.now) old.in_transaction
    unfolding ExecutesIn
    edit_shows count h =
        let is : EditsRows (Ok h.0) = subst EditsRows (sym (ap (λ s. understood s sql) tables) ∙ h.1.is) edit in
        elim (cases_Bool (shows_rows false h.0)) [
          | inl shows ↦ absurd (let e = (rw shows at h.2).0 in cc)
          | inr runs ↦
              (let ran = subst (λ r. Runs old new r h.0.command (text_of sql h.0) (timed params h.0.formats h.1.now) count) is.1 (rw runs at h.2) in
              let w = writes_of h.0.command (text_of sql h.0) (timed params h.0.formats h.1.now) count is.0 ran in
              (schema_kept h.0 (text_of sql h.0) (timed params h.0.formats h.1.now) w.tally new.now is.0 w.changed, w.shown))
        ]

-- a text that is known as a command that changes rows
pub edit_text : (sql : List ℕ) (command : Command) → IsEdit command → Commands sql command → IsEditText sql
edit_text sql command is text = by (understood our_tables sql) text.is text.plain
  where
    by : (known : Result Compiled CompileError) → command_of known ≡ command → IsPlain known → EditsRows known
    by (Ok c) e plain = (subst IsEdit (sym e) is, plain.0)
    by (Err fault) e plain = absurd plain
