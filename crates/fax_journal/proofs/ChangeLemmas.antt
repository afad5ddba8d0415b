-- What a call that runs a known statement leaves of a journal, and what one that runs a query does.
use Rattle.std.proofs.Common.{◌≡◌, inl, inr, ℕ, false, List, Option, None, IsTrue, Ok, Err, Result, OnOk, IsErrAnd, unwrap_or, refl, sym, ap, subst, subst₂, ◌∙◌, if◌then◌else◌, append-nil}
use Rattle.sqlite.specs.Command.{Command}
use Rattle.sqlite.specs.Effect.{Database}
use Rattle.sqlite.specs.Listing.{understood}
use Rattle.sqlite.specs.Order.{Row}
use Rattle.sqlite.specs.State.{State, HasCleanDisk, Runs, Writes, Executes, CommitsBy, CommitsShowing, MayCommit, MayWrite, Survives}
use Rattle.sqlite.specs.declared.error.Error.{Error}
use Rattle.sqlite.proofs.Callers.{IsPlain, command_of, statement_of, runs_as, never_commits}
use Rattle.sqlite.proofs.InsideLemmas.{fails_whole}
use Rattle.sqlite_schema.specs.declared.schema.Schema.{Schema}
use Rattle.sqlite_trees.specs.Tree.{Trees}
use Rattle.fax_layout.proofs.DatabaseLemmas.{clean_before}
use Rattle.fax_layout.proofs.StopLemmas.{Ends}
use Rattle.fax_tables.specs.Fault.{OrUnavailable}
use Rattle.fax_tables.specs.declared.fault.StoreFault.{StoreFault}
use Rattle.fax_tables.specs.declared.fault.StoreFault.TheVariants.{Unavailable}
use Rattle.fax_journal.specs.Calls.{Changes, Finds, LeavesCommit, Tells}
use Rattle.fax_journal.specs.Journal.{IsAtRest, IsFound, Leaves, LeavesEither, Rests, Serves}
use Rattle.fax_journal.proofs.StateLemmas.{KeepsCommitted, leaves_itself, left_open, rest_left, run_open, shown_at, shown_keeps}

-- ---- statements

-- over the tables of this schema, the text is this command, which changes rows or tables
pub record IsText (schema : Schema) (sql : List ℕ) (command : Command) : Type 1 where
  pub is : command_of (understood schema sql) ≡ command
  pub plain : IsPlain (understood schema sql)
  pub writes : (old new : State) (text : List ℕ) (params : Row) (count : ℕ) → Runs old new None command text params count → Writes old new None command text params count
  pub ends_nothing : Ends command → ⊥

-- what such a text makes of a database
abbrev pub Makes : List ℕ → Schema → Command → Row → (Database → Type 0) → (Database → Type 0) → Type 1
Makes sql schema command params Was Is =
    (old new : State) (count : ℕ) → Was old.now → Writes old new None command (statement_of sql (understood schema sql)) params count → Is new.now

module _ (old new : State) (schema : Schema) (sql : List ℕ) (params : Row) (command : Command) (text : IsText schema sql command) (Was Is : Database → Type 0) (at : (db : Database) → Was db → db.schema ≡ schema)
    (makes : Makes sql schema command params Was Is) (law_old : KeepsCommitted old) (law_new : KeepsCommitted new) (survives : Survives old new (CommitsBy sql params old)) where
  -- the disk was clean
  cleaner : HasCleanDisk new → HasCleanDisk old
  cleaner = clean_before old new survives.clean

  -- what it commits is what it makes
  writes_found : Serves old → IsAtRest Was old → (found : Trees) → MayWrite old None command (statement_of sql (understood schema sql)) params found → IsFound Is found
  writes_found serves rest found h =
      let tally = h.1 in
      let after = h.2 in
      let next = record old { now = after; committed = after; changes = unwrap_or tally.rows old.changes; last_rowid = unwrap_or tally.last old.last_rowid } in
      let shown_committed : after ≡ (if old.in_transaction then old.committed else after) = sym (ap (λ b. if b then old.committed else after) h.0) in
      let w : Writes old next None command (statement_of sql (understood schema sql)) params (unwrap_or tally.rows 0) = record {
        tally = tally;
        changed = h.3;
        frozen = h.6;
        sound = h.4;
        shown = record { was_open = serves.is_open; is_open = serves.is_open; now_is = refl; committed_is = shown_committed; mode = refl };
        marks = refl;
        counted = refl;
        changes = refl;
        last_rowid = refl;
      } in
      (after, sym h.5, makes old next (unwrap_or tally.rows 0) rest.is w)

  commits_found : Serves old → IsAtRest Was old → (found : Trees) → CommitsBy sql params old found → IsFound Is found
  unfolding CommitsBy
  commits_found serves rest found h =
      let known = sym h.1.is ∙ ap (λ s. understood s sql) (at old.now rest.is) in
      let bare = subst IsPlain (sym known) text.plain in
      let may : MayCommit old None (command_of (understood schema sql)) (statement_of sql (understood schema sql)) params found =
      subst₂ (λ k t. MayCommit old None k t params found) (ap command_of known) (ap (statement_of sql) known) (rw (bare.0, bare.1, append-nil params) at h.2) in
      elim (subst (λ k. MayCommit old None k (statement_of sql (understood schema sql)) params found) text.is may) [
        | inl ends ↦ absurd (elim ends.0 [
          | inl commit ↦ text.ends_nothing (subst Ends (sym commit) tt)
          | inr release ↦ text.ends_nothing (subst Ends (sym release.2) tt)
        ])
        | inr writes ↦ writes_found serves rest found writes
      ]

  crash : Serves old → Rests Was old → HasCleanDisk new → LeavesEither Was Is new
  crash serves rests clean found may = elim (survives.crash clean found may) [
    | inl before ↦ inl (leaves_itself old Was law_old serves (rests serves) found before)
    | inr commits ↦ inr (commits_found serves (rests serves) found commits)
  ]

  -- the statement has run
  module _ (count : ℕ) (ran : HasCleanDisk new → Executes sql params old new (Ok count)) where
    wrote : HasCleanDisk new → IsAtRest Was old → Writes old new None command (statement_of sql (understood schema sql)) params count
    wrote clean rest = text.writes old new _ params count (runs_as sql params old new schema (at old.now rest.is) command text.is text.plain count (ran clean))

    rests_after : Serves new → IsAtRest Was old → IsAtRest Is new
    rests_after serves rest =
        let w = wrote serves.clean rest in
        record {
          autocommit = w.shown.mode ∙ rest.autocommit;
          settled = sym (w.shown.committed_is ∙ ap (λ b. if b then old.committed else new.now) rest.autocommit);
          is = makes old new count rest.is w;
        }

    served : Serves new → Serves old
    served s = record { clean = cleaner s.clean; is_open = run_open old new sql params count (ran s.clean) s.is_open }

    pub changes_done : Changes old new (Ok (tt {0})) Was Is
    changes_done = record {
      served = served;
      clean = cleaner;
      opens = λ serves rests clean. record { clean = clean; is_open = (wrote clean (rests serves)).shown.is_open };
      done = λ rests s. rests_after s (rests (served s));
      alone = λ rests s. leaves_itself new Is law_new s (rests_after s (rests (served s)));
      kept = tt;
      crash = crash;
    }

  -- it was refused
  pub changes_refused : (e : Error) (result : Result (Unit {0}) StoreFault) → IsErrAnd result (λ f. f ≡ Unavailable) → (HasCleanDisk new → Executes sql params old new (Err e)) → Changes old new result Was Is
  changes_refused e (Ok x) told ran = absurd told
  changes_refused e (Err f) told ran = record {
    served = served_before;
    clean = cleaner;
    opens = tt;
    done = tt;
    alone = tt;
    kept = λ rests s. rest_left old new Was s.is_open (left s.clean) (rests (served_before s));
    crash = crash;
  }
    where
      left : HasCleanDisk new → LeavesCommit old new
      left clean = fails_whole old new false sql params e (ran clean)

      served_before : Serves new → Serves old
      served_before s = record { clean = cleaner s.clean; is_open = left_open old new sql params (left s.clean) s.is_open }

-- ---- queries

module _ (old new : State) (sql : List ℕ) (params : Row) (Is : Database → Type 0) (plain : (db : Database) → Is db → IsPlain (understood db.schema sql)) (law_old : KeepsCommitted old) where
  -- what a query leaves, whether it finds something or is refused
  pub record LeavesAll : Type 0 where
    pub served : Serves new → Serves old
    pub clean : HasCleanDisk new → HasCleanDisk old
    pub kept : Rests Is old → Rests Is new
    pub crash : Serves old → Rests Is old → HasCleanDisk new → Leaves Is new

  module _ (survives : Survives old new (CommitsShowing sql params old)) where
    was_clean : HasCleanDisk new → HasCleanDisk old
    was_clean = clean_before old new survives.clean

    leaves_crash : Serves old → Rests Is old → HasCleanDisk new → Leaves Is new
    leaves_crash serves rests clean found may = elim (survives.crash clean found may) [
      | inl before ↦ leaves_itself old Is law_old serves (rests serves) found before
      | inr commits ↦ absurd (never_commits sql params old found (plain old.now (rests serves).is) commits)
    ]

    leaves_by : (Serves new → IsTrue old.is_open) → (Serves new → IsAtRest Is old → LeavesCommit old new) → LeavesAll
    leaves_by was_open left = record { served = before; clean = was_clean; kept = λ rests s. rest_left old new Is s.is_open (left s (rests (before s))) (rests (before s)); crash = leaves_crash }
      where
        before : Serves new → Serves old
        before s = record { clean = was_clean s.clean; is_open = was_open s }

  -- a query that finds a row or none leaves all
  pub found_leaves : (found : Option Row) → Finds old new sql params (Ok found) → LeavesAll
  found_leaves found finds =
      leaves_by finds.survives (λ s. (shown_at old new sql params (finds.found s.clean).0 (finds.found s.clean).1).0)
      (λ s rest. inl (shown_keeps old new sql params (plain old.now rest.is) (finds.found s.clean).0 (finds.found s.clean).1))

  pub found_opens : (found : Option Row) → Finds old new sql params (Ok found) → HasCleanDisk new → Serves new
  found_opens found finds clean = record { clean = clean; is_open = (shown_at old new sql params (finds.found clean).0 (finds.found clean).1).1 }

  -- so does one that is refused
  pub refused_leaves : (fault : StoreFault) → Finds old new sql params (Err fault) → LeavesAll
  refused_leaves fault finds = leaves_by finds.survives (λ s. left_open old new sql params (finds.left s.clean) s.is_open) (λ s rest. finds.left s.clean)

  -- a reading that is refused
  pub tells_refused : {A : Type 0} {P : A → Type 0} (fault : StoreFault) (result : Result A StoreFault) → IsErrAnd result (λ f. f ≡ fault) → Finds old new sql params (Err fault) → Tells old new result Is P
  tells_refused fault (Ok a) told finds = absurd told
  tells_refused fault (Err f) told finds =
      let leaves = refused_leaves fault finds in
      record { served = leaves.served; clean = leaves.clean; opens = tt; kept = leaves.kept; crash = leaves.crash; told = λ rests s. told ∙ finds.cause }

  -- one that answers by what was found
  pub tells_found : {A : Type 0} {P : A → Type 0} (found : Option Row) (result : Result A StoreFault) → Finds old new sql params (Ok found)
      → (Is old.now → HasCleanDisk new → OrUnavailable result P) → Tells old new result Is P
  tells_found {A} {P} found result finds answers =
      let leaves = found_leaves found finds in
      record {
        served = leaves.served;
        clean = leaves.clean;
        opens = opens_if result;
        kept = leaves.kept;
        crash = leaves.crash;
        told = λ rests s. answers (rests (leaves.served s)).is s.clean;
      }
    where
      opens_if : (r : Result A StoreFault) → OnOk r (HasCleanDisk new → Serves new)
      opens_if (Ok a) = found_opens found finds
      opens_if (Err f) = tt
