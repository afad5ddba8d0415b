-- What a crash behind a call may leave.
use Rattle.std.proofs.Common.{◌≡◌, ◌⊎◌, inl, inr, ℕ, Bool, List, [], false, true, None, Ok, Err, Result, is_err, IsTrue, refl, sym, ap, subst, ◌∙◌, arith}
use Rattle.std.specs.Prelude.{⊤}
use Rattle.std.proofs.lemmas.Bool.{both_ways}
use Rattle.sqlite_trees.specs.Tree.{Trees}
use Rattle.sqlite.specs.Command.{Command}
use Rattle.sqlite.specs.Command.TheVariants.{Begin, Commit, Release, Rollback}
use Rattle.sqlite.specs.Effect.{Database}
use Rattle.sqlite.specs.Listing.{understood}
use Rattle.sqlite.specs.Order.{Row}
use Rattle.sqlite.specs.State.{State, HasCleanDisk, Executes, CommitsBy, CommitsShowing, MayCommit as CommitsAs, Survives, text_of}
use Rattle.sqlite.specs.Clock.{timed}
use Rattle.sqlite_resolve.specs.declared.compiled.Compiled.{Compiled}
use Rattle.sqlite_resolve.specs.declared.error.CompileError.{CompileError}
use Rattle.sqlite.specs.Given.{IsPlain}
use Rattle.sqlite_schema.specs.declared.schema.Schema.{Schema}
use Rattle.fax_schema.specs.Schema.{our_tables}
use Rattle.fax_tables.specs.declared.fault.StoreFault.{StoreFault}
use Rattle.fax_layout.proofs.StopLemmas.{Ends, inside_commits_nothing, nothing_by, nothing_then}
use Rattle.fax_store.specs.declared.store.TheConstants.{BEGIN, COMMIT, ROLLBACK}
use Rattle.fax_store.specs.Store.{Serves, HasTables, MayFind, CommitsNothing, EditsRows, IsEdit, IsEditText, IsQueryText, Reads}
use Rattle.fax_store.specs.Work.{IsActive, Opens, Withholds, MayCommit}
use Rattle.fax_store.proofs.ControlLemmas.{IsControl, begin_is, begins, rollback_is}
use Rattle.fax_layout.proofs.ShownLemmas.{shows_nothing}
use Rattle.fax_store.proofs.StatementLemmas.{edit_shows}
use Rattle.fax_store.proofs.StoreLemmas.{cleaner}

-- ---- reading

-- a text that shows rows over our tables shows none of a write, whatever the tables are
shows_none : (sql : List ℕ) (c : Compiled) (known : Result Compiled CompileError) → understood our_tables sql ≡ known → IsPlain known → (s : Schema) → understood s sql ≡ Ok c → c.returning ≡ None
shows_none sql c (Ok e) is plain s at = shows_nothing our_tables s sql e c is plain.0 at
shows_none sql c (Err f) is plain s at = absurd plain

-- a query commits nothing by showing its rows, so a crash behind it leaves what it could leave before
pub queries_nothing : (old new : State) (sql : List ℕ) (params : Row) → IsQueryText sql → Survives old new (CommitsShowing sql params old) → CommitsNothing old new
unfolding CommitsShowing
queries_nothing old new sql params query survives = nothing_by old new (CommitsShowing sql params old) survives (λ found clean h.
    absurd (let no = rw (shows_none sql h.0 (understood our_tables sql) refl query old.now.schema h.1.is) at h.2 in cc))

-- ---- BEGIN, COMMIT and ROLLBACK

-- a command that neither ends a transaction with a commit nor writes
abbrev IsQuiet : Command → Type 0
IsQuiet Begin = ⊤
IsQuiet Rollback = ⊤
IsQuiet other = ⊥

-- a quiet command commits nothing
quiet_nothing : (s : State) (command : Command) (text : List ℕ) (params : Row) (found : Trees) → IsQuiet command → CommitsAs s None command text params found → ⊥
quiet_nothing s Begin text params found is h = grind arith
quiet_nothing s Rollback text params found is h = grind arith
quiet_nothing s _ text params found is h = absurd is

-- so a crash behind a quiet command leaves what it could leave before
control_nothing : (old new : State) (sql : List ℕ) (command : Command) → IsQuiet command → IsControl sql command (understood old.now.schema sql)
    → Survives old new (CommitsBy sql [] old) → CommitsNothing old new
unfolding CommitsBy
control_nothing old new sql command quiet is survives = nothing_by old new (CommitsBy sql [] old) survives (λ found clean h.
    let it = subst (IsControl sql command) h.1.is is in
    let text = text_of sql h.0 in
    let full = timed [] h.0.formats h.1.now in
    quiet_nothing old command text full found quiet
    (subst (λ k. CommitsAs old None k text full found) it.0 (subst (λ r. CommitsAs old r h.0.command text full found) it.1 h.2)))

-- a crash behind a begin leaves what it could leave before
pub begin_nothing : (old new : State) → Survives old new (CommitsBy BEGIN.now [] old) → CommitsNothing old new
begin_nothing old new = control_nothing old new BEGIN.now Begin tt (begin_is old.now.schema)

-- a crash behind a rollback leaves what it could leave before
pub rollback_nothing : (old new : State) → Survives old new (CommitsBy ROLLBACK.now [] old) → CommitsNothing old new
rollback_nothing old new = control_nothing old new ROLLBACK.now Rollback tt (rollback_is old.now.schema)

-- a begin over our tables makes the work active, and commits nothing
pub begun_opens : (old new : State) → Survives old new (CommitsBy BEGIN.now [] old) → (n : ℕ) → (HasCleanDisk new → Executes BEGIN.now [] old new (Ok n)) → Opens old new false
begun_opens old new survives n ran = (active, begin_nothing old new survives)
  where
    active : (Serves old → HasTables old) → IsActive new false
    active tables clean on =
        let began = (begins old new n (ran clean)).1 in
        record {
          is_open = began.is_open;
          inside = began.mode;
          schema_is = ap (λ (d : Database). d.schema) began.now_is ∙ tables (record { clean = cleaner old new survives.clean clean; is_open = began.was_open });
        }

-- inside a transaction a commit commits what it shows, if anything
pub commit_makes : (old new : State) → Survives old new (CommitsBy COMMIT.now [] old) → (HasCleanDisk old → IsTrue old.in_transaction) → (found : Trees) → MayFind new found → MayFind old found ⊎ (HasCleanDisk old × (found ≡ old.now.trees))
unfolding CommitsBy
commit_makes old new survives inside found may =
    let clean = cleaner old new survives.clean may.0 in
    elim (survives.crash may.0 found may.1) [
      | inl same ↦ inl (clean, same)
      | inr h ↦ inr (clean, elim h.2 [ inl ends ↦ ends.1 | inr outside ↦ absurd (both_ways _ outside.0 (inside clean)) ])
    ]

-- a commit of an active work commits its tables, if any
pub may_commit : (old new : State) → Survives old new (CommitsBy COMMIT.now [] old) → MayCommit old false new
may_commit old new survives active found may =
    elim (commit_makes old new survives (λ clean. (active clean refl).inside) found may) [
      | inl before ↦ inl before
      | inr made ↦ inr (refl, active made.0 refl, made.1)
    ]

-- one that is given up commits nothing
pub given_up : (old new : State) (failed : _) → CommitsNothing old new → MayCommit old failed new
given_up old new failed nothing active found may = inl (nothing found may)

-- ---- a statement that changes rows

-- a statement that changes rows ends no transaction
edit_ends_nothing : (command : Command) → IsEdit command → Ends command → ⊥
edit_ends_nothing Commit edit ends = edit
edit_ends_nothing (Release name) edit ends = edit
edit_ends_nothing _ edit ends = ends

module _ (old new : State) (sql : List ℕ) (params : Row) (edit : IsEditText sql) (survives : Survives old new (CommitsBy sql params old)) where
  -- a crash behind it, inside an active work, leaves what it could leave before
  edits_nothing : IsActive old false → CommitsNothing old new
  edits_nothing active = nothing_by old new (CommitsBy sql params old) survives (λ found clean.
      let on = active clean refl in
      inside_commits_nothing old sql params (λ c is. edit_ends_nothing c.command (subst EditsRows (sym (ap (λ t. understood t sql) on.schema_is) ∙ is) edit).0)
      on.inside found)

  -- one that has run leaves the work active, and commits nothing
  pub edit_withholds : (count : ℕ) → (HasCleanDisk new → Executes sql params old new (Ok count)) → Withholds old false new false
  edit_withholds count ran active = (after, edits_nothing active)
    where
      after : IsActive new false
      after clean none =
          let on = active (cleaner old new survives.clean clean) refl in
          let did = edit_shows old new sql params on.schema_is edit count (ran clean) in
          record { is_open = did.1.is_open; inside = did.1.mode ∙ on.inside; schema_is = did.0 ∙ on.schema_is }

  -- one that was refused commits nothing
  pub refused_withholds : Withholds old false new true
  refused_withholds active = (λ clean on. absurd cc, edits_nothing active)

-- ---- calls of a work

-- a call that only reads leaves an active work active unless it is refused, and commits nothing
pub withholds_by : (old new : State) → (HasCleanDisk new → HasCleanDisk old) → {A : Type 0} (result : Result A StoreFault) → (HasTables old → HasCleanDisk new → Reads old new result) → CommitsNothing old new → Withholds old false new (is_err result)
withholds_by old new was_clean {A} result read nothing active = (after result read, nothing)
  where
    after : (r : Result A StoreFault) → (HasTables old → HasCleanDisk new → Reads old new r) → IsActive new (is_err r)
    after (Ok a) reads clean none =
        let on = active (was_clean clean) refl in
        let same = (reads on.schema_is clean).0 in
        record { is_open = same.is_open; inside = same.mode ∙ on.inside; schema_is = ap (λ (d : Database). d.schema) same.now_is ∙ on.schema_is }
    after (Err e) reads clean on = absurd cc

-- two calls that commit nothing, the one behind the other, commit nothing
pub withholds_then : (a b c : State) {f g : Bool} (h : Bool) → Withholds a f b g → Withholds b g c h → Withholds a f c h
withholds_then a b c h first next active =
    let one = first active in
    let two = next one.0 in
    (two.0, nothing_then a b c one.1 two.1)
