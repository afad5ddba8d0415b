-- What calls leave, one after the other.
use Rattle.std.proofs.Common.{◌≡◌, inl, inr, MatchResult, ℕ, List, false, Ok, Err, Result, OnOk, IsErr, IsErrAnd, Option, is_err, not, ap, refl, subst, sym, ◌∙◌, Bool}
use Rattle.fax_store.proofs.StoreLemmas.{clean_in, same_tables, served}
use Rattle.fax_store.proofs.StatementLemmas.{left_open, run_open}
use Rattle.std.specs.Prelude.{⊤}
use Rattle.std.proofs.lemmas.Bool.{false≢true}
use Rattle.sqlite.specs.Order.{Row}
use Rattle.sqlite.specs.State.{State, Executes, IsUnchanged, HasCleanDisk, Survives, CommitsBy}
use Rattle.sqlite.specs.declared.error.Error.{Error}
use Rattle.sqlite_trees.specs.declared.store.Store.{Ghosts}
use Rattle.fax_core.specs.Ledger.{Ledger}
use Rattle.fax_core.specs.Queue.{Queue}
use Rattle.sqlite.proofs.InsideLemmas.{unchanged_keeps}
use Rattle.sqlite.proofs.StateLemmas.{unchanged}
use Rattle.sqlite.specs.Effect.{Database}
use Rattle.fax_store.specs.Adopt.{Tests}
use Rattle.fax_store.specs.Calls.{Answers, Calls, Edits, Finds, Follows, Inserts, Looks, Makes, MakesIf, MakesWhere, Queries, Runs, Writes, WritesIf, WritesIfWhere, WritesWhere, shown, within}
use Rattle.fax_store.specs.Work.{IsOnlyUnavailable, IsUnderWay, Keeps, Moves, Steps, Works}
use Rattle.fax_store.specs.Store.{CommitsNothing, FindsRow, HasRun, HasTables, Means, MeansNow, Reads, Serves, IsEditText, LeavesCommit}
use Rattle.fax_store.specs.declared.store.Store.{Store}
use Rattle.fax_store.specs.declared.work.Work.{Work}
use Rattle.fax_schema.specs.Schema.{our_tables}
use Rattle.fax_layout.proofs.WriteLemmas.{KeepsOthers}
use Rattle.fax_tables.specs.Fault.{fault_of}
use Rattle.fax_tables.specs.Tables.{TablesMean}
use Rattle.fax_tables.specs.declared.fault.StoreFault.{StoreFault}
use Rattle.fax_tables.specs.declared.fault.StoreFault.TheVariants.{Unavailable}
use Rattle.fax_store.proofs.StopLemmas.{withholds_by, withholds_then, edit_withholds, refused_withholds}
use Rattle.fax_store.proofs.WorkLemmas.{committed_is, holds_by, holds_then, left_by, moved_by, reads_same, reads_then, stays_by, steps_fault, edit_holds, left_holds, never_ok}
pub use Rattle.fax_tables.proofs.ResultLemmas.{on_err, or_weaker, passes_on, popped}
pub use Rattle.fax_store.proofs.WorkLemmas.{err_as, goes_on, inside_by, move_by, moves_by, moves_of, ok_as, only_unavailable, reads_refused, refused_as, refused_steps, step_by, step_of, steps_where, there_as}

-- the tables of a store that means something mean it now
pub means_now : {s : State} {m : Queue} {k : Ledger} → Means s m k → MeansNow s m k
means_now means serves = (means serves).means

on_any : {A X : Type 0} (result : Result A StoreFault) → X → OnOk result X
on_any (Ok a) h = h
on_any (Err e) h = tt

module _ {S : Type 0} (g : Ghosts S) where
  pub finds_by : (old new : Store S) {A : Type 0} (result : Result A StoreFault) → (Serves (shown g new) → Serves (shown g old)) → (HasCleanDisk (shown g new) → HasCleanDisk (shown g old))
      → OnOk result (HasCleanDisk (shown g new) → Serves (shown g new)) → (HasTables (shown g old) → HasCleanDisk (shown g new) → Reads (shown g old) (shown g new) result)
      → CommitsNothing (shown g old) (shown g new) → Finds g old new result
  finds_by old new result served clean opens reads crash = record {
    served = served;
    clean = clean;
    opens = opens;
    reads = reads;
    stays = stays_by (shown g old) (shown g new) served result reads;
    crash = crash;
  }

  -- so it leaves the same, whatever is made of its answer
  pub finds_as : (old new : Store S) {A B : Type 0} (x : A) (result : Result B StoreFault) → Finds g old new (Ok x) → Finds g old new result
  finds_as old new x result finds =
      finds_by old new result finds.served finds.clean (on_any result finds.opens) (λ tables clean. reads_same (shown g old) (shown g new) result (finds.reads tables clean)) finds.crash

  -- nor do two readings change anything
  pub finds_then : (old mid new : Store S) {A B : Type 0} (x : A) (result : Result B StoreFault) → Finds g old mid (Ok x) → Finds g mid new result → Finds g old new result
  finds_then old mid new x result first next =
      finds_by old new result (λ serves. first.served (next.served serves)) (λ clean. first.clean (next.clean clean)) next.opens
      (λ tables clean. let same = first.reads tables (next.clean clean) in reads_then (shown g old) (shown g mid) (shown g new) result same (next.reads (ap (λ (d : Database). d.schema) same.0.now_is ∙ tables) clean))
      (λ found may. first.crash found (next.crash found may))

  -- a test of what it reads is of the tables
  pub tests_by : {X : Database → Type 0} {old new : Store S} {A : Type 0} {x : A} (result : Result (Unit {0}) StoreFault) → Finds g old new (Ok x)
      → (HasTables (shown g old) → HasCleanDisk (shown g new) → MatchResult result (λ _. X (shown g old).now) (λ _. ¬ X (shown g old).now))
      → Tests X (shown g old) (shown g new) result
  tests_by (Ok a) finds told = record {
    ours = λ tables clean. (told tables clean, finds.reads tables clean);
    left = λ clean tables. tt;
    clean = finds.clean;
    crash = finds.crash;
    strange = λ tables clean is. absurd (let no = is in cc);
  }
  tests_by {X} {old} {new} (Err e) finds told = record {
    ours = λ tables clean. tt;
    left = λ clean tables. unchanged_keeps (shown g old) (shown g new) (inl (finds.reads tables clean));
    clean = finds.clean;
    crash = finds.crash;
    strange = λ tables clean is. told tables clean;
  }

  -- it changes nothing
  pub looks_of : {old new : Store S} {A : Type 0} {result : Result A StoreFault} → Finds g old new result → Looks g old new result
  looks_of finds = record { served = finds.served; clean = finds.clean; reads = λ tables is_open clean. finds.reads tables clean; stays = finds.stays; crash = finds.crash }

  -- and nor do two calls that change nothing, of which the first answers
  pub looks_then : {old between new : Store S} {A B E F : Type 0} {x : A} {result : Result B F} → Looks g {E = E} old between (Ok x) → Looks g between new result
      → Looks g old new result
  looks_then {old} {between} {new} {result = result} first next = record {
    served = λ serves. first.served (next.served serves);
    clean = λ clean. first.clean (next.clean clean);
    reads = λ tables is_open clean. let same = first.reads tables is_open (next.clean clean) in
        reads_then (shown g old) (shown g between) (shown g new) result same (next.reads (ap (λ (d : Database). d.schema) same.0.now_is ∙ tables) same.0.is_open clean);
    stays = λ db ours rests. next.stays db ours (first.stays db ours rests);
    crash = λ found may. first.crash found (next.crash found may);
  }

  -- no call
  pub looks_at : {store : Store S} {A E : Type 0} {result : Result A E} → Looks g store store result
  looks_at {store} {result = result} = record {
    served = λ serves. serves;
    clean = λ clean. clean;
    reads = λ tables is_open clean. reads_same (shown g store) (shown g store) result (unchanged (shown g store) is_open);
    stays = λ db ours rests. rests;
    crash = λ found may. may;
  }

  -- what an answer leaves is left, whatever is made of it
  pub looks_as : {old new : Store S} {A B E F : Type 0} {x : A} {result : Result B F} → Looks g {E = E} old new (Ok x) → Looks g old new result
  looks_as looks = looks_then looks looks_at

  -- and a refusal that is passed on leaves what it left
  pub looks_err : {old new : Store S} {A B E F : Type 0} {from : Result A E} {fault : F} → Looks g old new from → Looks g {A = B} old new (Err fault)
  looks_err {old} {new} {from = from} looks = record {
    served = looks.served;
    clean = looks.clean;
    reads = λ tables is_open clean. left_by (shown g old) (shown g new) from (looks.reads tables is_open clean);
    stays = looks.stays;
    crash = looks.crash;
  }

  pub looks_stop : {old new : Store S} {A B E F : Type 0} {from : Result A E} (result : Result B F) (P : F → Type 0) → IsErrAnd result P → Looks g old new from
      → Looks g old new result
  looks_stop (Ok x) P is looks = absurd is
  looks_stop (Err fault) P is looks = looks_err looks

  -- the tables mean then what they did
  pub means_on : {old between : Store S} {A E : Type 0} {x : A} → Looks g {E = E} old between (Ok x) → (m : Queue) (k : Ledger) → MeansNow (shown g old) m k
      → MeansNow (shown g between) m k
  means_on looks m k means serves =
      let before = looks.served serves in
      let was = means before in
      subst (λ (d : Database). TablesMean d m k) (sym (looks.reads was.schema before.is_open serves.clean).0.now_is) was

  -- and the tables mean after one what they meant before
  pub means_then : (old mid : Store S) {A : Type 0} (x : A) → Finds g old mid (Ok x) → (m : Queue) (k : Ledger) → MeansNow (shown g old) m k → MeansNow (shown g mid) m k
  means_then old mid x finds = means_on (looks_of finds)

  -- a reading commits nothing within a work
  pub runs_of : {old new : Store S} {A : Type 0} {result : Result A StoreFault} → Finds g old new result → Runs g old new result
  runs_of {old} {new} {A} {result} finds = record {
    served = finds.served;
    clean = finds.clean;
    holds = holds_by (shown g old) (shown g new) finds.served result finds.reads;
    crash = withholds_by (shown g old) (shown g new) finds.clean result finds.reads finds.crash;
  }

  -- and so do two changes within a work
  pub runs_then : {old mid new : Store S} {A B : Type 0} {a : A} {result : Result B StoreFault} → Runs g old mid (Ok a) → Runs g mid new result → Runs g old new result
  runs_then {old} {mid} {new} {A} {B} {a} {result} first next = record {
    served = λ serves. first.served (next.served serves);
    clean = λ clean. first.clean (next.clean clean);
    holds = holds_then (shown g old) (shown g mid) (shown g new) (is_err result) next.served first.holds next.holds;
    crash = withholds_then (shown g old) (shown g mid) (shown g new) (is_err result) first.crash next.crash;
  }

  -- a statement that changes rows, as the connection runs it
  module _ (old new : Store S) (sql : List ℕ) (params : Row) (edit : IsEditText sql)
      (survives : Survives (shown g old) (shown g new) (CommitsBy sql params (shown g old))) {A : Type 0} where
    pub edit_ran : (x : A) (count : ℕ) → (HasCleanDisk (shown g new) → Executes sql params (shown g old) (shown g new) (Ok count)) → Runs g old new (Ok x)
    edit_ran x count ran =
        let before = λ (s : Serves (shown g new)). served (shown g old) (shown g new) survives.clean s
        (run_open (shown g old) (shown g new) sql params count (ran s.clean) s.is_open) in
        record {
          served = before;
          clean = clean_in survives;
          holds = edit_holds (shown g old) (shown g new) sql params before edit count ran;
          crash = edit_withholds (shown g old) (shown g new) sql params edit survives count ran;
        }

    pub edit_refused : (result : Result A StoreFault) → IsErr result → (HasCleanDisk (shown g new) → LeavesCommit (shown g old) (shown g new))
        → Runs g old new result
    edit_refused (Ok x) is left = absurd (let no = is in cc)
    edit_refused (Err e) is left =
        let before = λ (s : Serves (shown g new)). served (shown g old) (shown g new) survives.clean s
        (left_open (shown g old) (shown g new) sql params (left s.clean) s.is_open) in
        record {
          served = before;
          clean = clean_in survives;
          holds = left_holds (shown g old) (shown g new) before left;
          crash = refused_withholds (shown g old) (shown g new) sql params edit survives;
        }

  -- a refusal that is passed on
  pub runs_err : {old new : Store S} {A B : Type 0} {fault : StoreFault} (result : Result A StoreFault) → IsErrAnd result (λ e. e ≡ fault)
      → Runs g {A = B} old new (Err fault) → Runs g old new result
  runs_err (Ok a) told runs = absurd told
  runs_err (Err e) told runs = record { served = runs.served; clean = runs.clean; holds = runs.holds; crash = runs.crash }

  -- what is refused makes nothing of what the tables mean, and the last commit stands
  module _ {old new : Store S} {A B : Type 0} (result : Result A StoreFault) {fault : StoreFault} (told : IsErrAnd result (λ e. e ≡ fault)) (refused : Runs g {A = B} old new (Err fault)) where
    runs : Runs g old new result
    runs = runs_err result told refused

    moved : (m₀ m after : Queue) (k₀ k kept : Ledger) → Works (shown g old) false m₀ k₀ m k → Serves (shown g new) → Moves (shown g new) result m₀ k₀ after kept
    moved m₀ m after k₀ k kept works s = moves_by (shown g old) (shown g new) result m₀ m after k₀ k kept runs.served runs.holds works s
        (λ means inside. never_ok _ result (λ e. e ≡ fault) told)

    pub writes_refused : {f : Queue → Queue} {h : Ledger → Ledger} → fault ≡ Unavailable → Writes g old new result f h
    writes_refused {f} {h} why =
        let cause = refused_as result fault told why in
        record { leaves = runs; written = λ m₀ m k₀ k works s. step_of (shown g new) result m₀ (f m) k₀ (h k) cause (moved m₀ m (f m) k₀ k (h k) works s); cause = cause }

    pub writes_where_refused : {P : Queue → Type 0} {f : Queue → Queue} {h : Ledger → Ledger} → fault ≡ Unavailable → WritesWhere g old new result P f h
    writes_where_refused {P} {f} {h} why =
        let cause = refused_as result fault told why in
        record { leaves = runs; written = λ m₀ m k₀ k p works s. step_of (shown g new) result m₀ (f m) k₀ (h k) cause (moved m₀ m (f m) k₀ k (h k) works s); cause = cause }

    pub writes_if_refused : {Fit : Queue → Ledger → Type 0} {f : Queue → Queue} {h : Ledger → Ledger} → IsOnlyUnavailable (shown g old) false (shown g new) result Fit → WritesIf g old new result Fit f h
    writes_if_refused {Fit} {f} {h} cause = record { leaves = runs; written = λ m₀ m k₀ k works s. moved m₀ m (f m) k₀ k (h k) works s; cause = cause }

    pub writes_if_where_refused : {P : Queue → Type 0} {Fit : Queue → Ledger → Type 0} {f : Queue → Queue} {h : Ledger → Ledger} → IsOnlyUnavailable (shown g old) false (shown g new) result Fit → WritesIfWhere g old new result P Fit f h
    writes_if_where_refused {P} {Fit} {f} {h} cause = record { leaves = runs; written = λ m₀ m k₀ k p works s. moved m₀ m (f m) k₀ k (h k) works s; cause = cause }

  -- what is a step of each work is refused only for want of an answer
  pub writes_if_steps : {old new : Store S} {A : Type 0} {result : Result A StoreFault} {P : Queue → Type 0} {Fit : Queue → Ledger → Type 0}
      {f : Queue → Queue} {h : Ledger → Ledger} → Runs g old new result → ((m : Queue) (k : Ledger) → Fit m k → P m)
      → ((m₀ m : Queue) (k₀ k : Ledger) → P m → Works (shown g old) false m₀ k₀ m k → Serves (shown g new) → Steps (shown g new) result m₀ k₀ (f m) (h k)) → WritesIfWhere g old new result P Fit f h
  writes_if_steps {old} {new} {A} {result} {P} {Fit} {f} {h} runs fits steps = record {
    leaves = runs;
    written = λ m₀ m k₀ k p works s. moves_of (shown g new) result m₀ (f m) k₀ (h k) (steps m₀ m k₀ k p works s);
    cause = λ m₀ m k₀ k works s fit. steps_fault (shown g new) result m₀ (f m) k₀ (h k) (steps m₀ m k₀ k (fits m k fit) works s);
  }

  -- of whatever queue
  pub writes_if_any : {old new : Store S} {A : Type 0} {result : Result A StoreFault} {Fit : Queue → Ledger → Type 0} {f : Queue → Queue}
      {h : Ledger → Ledger} → WritesIfWhere g old new result (λ _. ⊤) Fit f h → WritesIf g old new result Fit f h
  writes_if_any writes = record { leaves = writes.leaves; written = λ m₀ m k₀ k. writes.written m₀ m k₀ k tt; cause = writes.cause }

  -- a reading within a work tells of what the work means, and the work goes on
  pub reads_on : {old new : Store S} {A : Type 0} {x : A} {P : Queue → Ledger → Type 0} → Finds g old new (Ok x) → Answers g old new (Ok x) (λ m k _. P m k)
      → (m₀ m : Queue) (k₀ k : Ledger) → Works (shown g old) false m₀ k₀ m k → Serves (shown g new) → P m k × IsUnderWay (shown g new) false m₀ k₀ m k
  reads_on {old} {new} {A} {x} {P} finds answers = goes_on (shown g old) (shown g new) finds.served (Ok x) finds.reads (λ m k _. P m k) answers

  -- a statement that edits rows of one table makes of what the tables mean what it does to the rows
  module _ (old new : Store S) (result : Result (Unit {0}) StoreFault) (sql : List ℕ) (params : Row) (tree : ℕ) (f : Queue → Queue) (h : Ledger → Ledger) where
    -- the table's rows mean this
    abbrev pub Does : Queue → Ledger → Type 0
    Does m k = TablesMean (shown g old).now m k → HasRun sql params (shown g old) (shown g new) → TablesMean (shown g new).now (f m) (h k) × KeepsOthers our_tables tree (shown g old) (shown g new)

    pub writes_where_by : (P : Queue → Type 0) → Edits g old new result sql params → ((m : Queue) (k : Ledger) → P m → Does m k) → WritesWhere g old new result P f h
    writes_where_by P edits does = record {
      leaves = edits.leaves;
      written = λ m₀ m k₀ k p works s. step_by (shown g old) (shown g new) sql params tree result m₀ m (f m) k₀ k (h k) edits.leaves.served works s (edits.ran s.clean) (edits.left s.clean) edits.cause (does m k p);
      cause = edits.cause;
    }

    pub writes_by : Edits g old new result sql params → ((m : Queue) (k : Ledger) → Does m k) → Writes g old new result f h
    writes_by edits does =
        let writes = writes_where_by (λ _. ⊤) edits (λ m k _. does m k) in
        record { leaves = writes.leaves; written = λ m₀ m k₀ k. writes.written m₀ m k₀ k tt; cause = writes.cause }

    -- so does one that puts a row in, which breaks no rule where this is fit
    pub writes_if_by : (Fit : Queue → Ledger → Type 0) → Inserts g old new result sql params → ((m : Queue) (k : Ledger) → Does m k)
        → ((m : Queue) (k : Ledger) → TablesMean (shown g old).now m k → Fit m k → (e : Error) → Executes sql params (shown g old) (shown g new) (Err e) → fault_of e ≡ Unavailable)
        → WritesIf g old new result Fit f h
    writes_if_by Fit inserts does goes = record {
      leaves = inserts.leaves;
      written = λ m₀ m k₀ k works s. move_by (shown g old) (shown g new) sql params tree result m₀ m (f m) k₀ k (h k) inserts.leaves.served works s (inserts.ran s.clean) (inserts.left s.clean) (does m k);
      cause = only_unavailable (shown g old) (shown g new) sql params result Fit inserts.leaves.served inserts.told goes;
    }

  -- a query and a statement, with their parameters as they are meant
  pub queries_with : (old new : Store S) (result : Result (Option Row) StoreFault) (sql : List ℕ) (params meant : Row) → params ≡ meant
      → Queries g old new result (FindsRow sql params (shown g old) (shown g new)) → Queries g old new result (FindsRow sql meant (shown g old) (shown g new))
  queries_with old new result sql params meant same = subst (λ p. Queries g old new result (FindsRow sql p (shown g old) (shown g new))) same

  pub edits_with : (old new : Store S) (result : Result (Unit {0}) StoreFault) (sql : List ℕ) (params meant : Row) → params ≡ meant → Edits g old new result sql params → Edits g old new result sql meant
  edits_with old new result sql params meant same = subst (Edits g old new result sql) same

  pub inserts_with : (old new : Store S) (result : Result (Unit {0}) StoreFault) (sql : List ℕ) (params meant : Row) → params ≡ meant → Inserts g old new result sql params → Inserts g old new result sql meant
  inserts_with old new result sql params meant same = subst (Inserts g old new result sql) same

  -- ---- of a work

  pub follows_of : (old new : Work S) {A : Type 0} (result : Result A StoreFault) → Calls g old new result → Follows g old new
  follows_of old new result calls = record { same_reference = calls.same_reference; served = calls.served; clean = calls.clean; holds = calls.holds; crash = calls.crash }

  -- no call
  pub follows_at : (work : Work S) → Follows g work work
  follows_at work = record {
    same_reference = refl;
    served = λ serves. serves;
    clean = λ clean. clean;
    holds = λ db over serves. over serves;
    crash = λ active. (active, λ found may. may);
  }

  pub follows_then : (old between new : Work S) → Follows g old between → Follows g between new → Follows g old new
  follows_then old between new first next = record {
    same_reference = next.same_reference ∙ first.same_reference;
    served = λ serves. first.served (next.served serves);
    clean = λ clean. first.clean (next.clean clean);
    holds = λ db over serves. next.holds db (λ was. first.holds db over was) serves;
    crash = withholds_then (within g old) (within g between) (within g new) _ first.crash next.crash;
  }

  -- where no call was refused before, a look at its store leaves the work under way, or undoes it
  module _ (old new : Work S) {A E : Type 0} {result : Result A E} (on : old.failed ≡ false) (same : new.store.ghost_name ≡ old.store.ghost_name)
      (looks : Looks g old.store.now new.store.now result) (fails : new.failed ≡ not (within g new).in_transaction) where
    -- what is left under way is as it was
    left_on : LeavesCommit (within g old) (within g new) → new.failed ≡ false → IsUnchanged (within g old) (within g new)
    left_on (inl same) goes = same
    left_on (inr undone) goes = absurd (false≢true (sym goes ∙ fails ∙ ap not undone.autocommit))

    -- what was committed still is
    pub looks_follow : Follows g old new
    looks_follow = record {
      same_reference = same;
      served = looks.served;
      clean = looks.clean;
      holds = λ db over serves.
          let before = looks.served serves in
          let was = over before in
          let inside = was.goes_on on in
          let left = left_by (within g old) (within g new) result (looks.reads inside.1 before.is_open serves.clean) in
          record {
            began = committed_is (within g old) (within g new) left serves.is_open ∙ was.began;
            goes_on = λ goes. let unchanged = (left_on left goes).0 in (unchanged.mode ∙ inside.0, ap (λ (d : Database). d.schema) unchanged.now_is ∙ inside.1);
          };
      crash = λ active. (
        λ clean goes.
            let is = active (looks.clean clean) on in
            let unchanged = (left_on (left_by (within g old) (within g new) result (looks.reads is.schema_is is.is_open clean)) goes).0 in
            record { is_open = unchanged.is_open; inside = unchanged.mode ∙ is.inside; schema_is = ap (λ (d : Database). d.schema) unchanged.now_is ∙ is.schema_is },
        looks.crash,
      );
    }

    -- and so is what the work means
    pub looks_keep : Keeps (within g old) old.failed (within g new) new.failed
    looks_keep m₀ m k₀ k works serves =
        let before = looks.served serves in
        let was = works before in
        let inside = was.goes_on on in
        let left = left_by (within g old) (within g new) result (looks.reads inside.means.schema before.is_open serves.clean) in
        record {
          began = same_tables m₀ k₀ (committed_is (within g old) (within g new) left serves.is_open) was.began;
          goes_on = λ goes.
              let unchanged = (left_on left goes).0 in
              record { inside = unchanged.mode ∙ inside.inside; means = same_tables m k unchanged.now_is inside.means };
        }

    -- what the tables mean when they are looked at
    pub looks_now : (m₀ m : Queue) (k₀ k : Ledger) → Works (within g old) old.failed m₀ k₀ m k → MeansNow (within g old) m k
    looks_now m₀ m k₀ k works serves = ((works serves).goes_on on).means

  -- the work, where its store became this one, and the call was refused or not
  abbrev pub after : Work S → Store S → Bool → Work S
  after old next failed = record { store = record old.store { now = next }; failed = failed }

  -- where no call was refused before, a call of its store is one of the work
  module _ {old : Work S} {next : Store S} {failed : Bool} {A : Type 0} {result : Result A StoreFault}
      (on : old.failed ≡ false) (fails : failed ≡ is_err result) where
    pub calls_by : Runs g old.store.now next result → Calls g old (after old next failed) result
    calls_by runs = record {
      same_reference = refl;
      served = runs.served;
      clean = runs.clean;
      holds = rw (on, fails) runs.holds;
      crash = rw (on, fails) runs.crash;
      fails = fails;
      refused = λ was. absurd (false≢true (sym on ∙ was));
    }

    -- and so is what the store makes within it
    module _ {f : Queue → Queue} {h : Ledger → Ledger} where
      pub makes_by : Writes g old.store.now next result f h → Makes g old (after old next failed) result f h
      makes_by writes = record {
        leaves = calls_by writes.leaves;
        changes = rw (on, fails) (moved_by (shown g old.store.now) (shown g next) result f h
            (λ m₀ m k₀ k works s. moves_of (shown g next) result m₀ (f m) k₀ (h k) (writes.written m₀ m k₀ k works s)));
        cause = writes.cause;
      }

      pub makes_where_by : {P : Queue → Type 0} → WritesWhere g old.store.now next result P f h → MakesWhere g old (after old next failed) result P f h
      makes_where_by {P} writes = record {
        leaves = calls_by writes.leaves;
        changes = rw (on, fails) (steps_where (shown g old.store.now) (shown g next) P result f h
            (λ m₀ m k₀ k p works s. moves_of (shown g next) result m₀ (f m) k₀ (h k) (writes.written m₀ m k₀ k p works s)));
        cause = writes.cause;
      }

      pub makes_if_by : {Fit : Queue → Ledger → Type 0} → WritesIf g old.store.now next result Fit f h → MakesIf g old (after old next failed) result Fit f h
      makes_if_by writes = record {
        leaves = calls_by writes.leaves;
        changes = rw (on, fails) (moved_by (shown g old.store.now) (shown g next) result f h writes.written);
        cause = λ m₀ m k₀ k works s fits. writes.cause m₀ m k₀ k (subst (λ b. Works (shown g old.store.now) b m₀ k₀ m k) on works) s fits;
      }
