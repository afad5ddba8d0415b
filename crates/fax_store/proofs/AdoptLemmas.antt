-- What the statements do by which a store comes to a database, and raises the version of its meta.
use Rattle.std.proofs.Common.{◌≡◌, ◌≢◌, inl, inr, ℕ, List, [], ◌∷◌, codes, map, filter, get_or, if◌then◌else◌, true, false, arith, Ok, Err, IsErr, IsErrAnd, IsTrue, Result, refl, sym, subst, ap, ap₂, ◌∙◌, IfErr, ◌==◌, pos}
use Rattle.sqlite_rules.proofs.ListLemmas.{all_has}
use Rattle.sqlite_trees.proofs.ListLemmas.{all_of, filter_all, map-map}
use Rattle.std.specs.List.{list_any}
use Rattle.std.specs.List.Sorted.{IsPermutation}
use Rattle.std.proofs.lemmas.Bool.{cases_Bool, eqb-true, false_from_ne_true}
use Rattle.std.proofs.lemmas.List.Sorted.{IsPermutation-sym}
use Rattle.sqlite.specs.Effect.{Database, IsDatabase}
use Rattle.sqlite.specs.Order.{Row, column}
use Rattle.sqlite.specs.declared.error.Error.{Error}
use Rattle.sqlite.specs.State.{State, HasCleanDisk, IsUnchanged, KeepsCommit, Shown, Shows, Executes, CommitsBy, Survives}
use Rattle.sqlite_trees.specs.Tree.{Trees}
use Rattle.sqlite.proofs.Callers.{one_permutation, reads_as, runs_as}
use Rattle.sqlite_catalog.specs.Change.{KeepsRows}
use Rattle.sqlite_rules.specs.Lists.{Has}
use Rattle.fax_core.specs.Ledger.{Ledger, empty_ledger}
use Rattle.fax_core.specs.Queue.{Queue, empty_queue}
use Rattle.fax_schema.specs.declared.statements.TheConstants.{SELECT_VERSION, UPDATE_VERSION}
use Rattle.fax_store.specs.declared.store.TheConstants.{BEGIN, COMMIT}
use Rattle.fax_tables.specs.declared.fault.StoreFault.{StoreFault}
use Rattle.fax_tables.specs.declared.fault.StoreFault.TheVariants.{Strange, Unavailable}
use Rattle.fax_tables.specs.Row.{number, meta_row, raised}
use Rattle.fax_layout.specs.ByRowid.{IsByRowid}
use Rattle.fax_schema.specs.Schema as schema
use Rattle.fax_schema.specs.Schema.{AreOurs, added_list, alike_list, first_list, has_floors, has_times, no_tables, our_tables, calls_tree, core_tables, down_tree, floors_tree, grants_tree, holds_tree, jobs_tree, meta_tree, replies_tree, times_tree}
use Rattle.fax_schema.specs.declared.way.Way.{Way}
use Rattle.fax_tables.specs.Tables.{GoesOn, HasEmptyTables, HasNewCalls, HasVersion, IsAtRest, Renews, RowsMean, TablesMean, added_in, grants_as, grants_in, has_added, is_job, meta_as, meta_in, time_made, times_as, times_in, version_of, versions}
use Rattle.fax_tables.proofs.CreateLemmas.{added_none, added_there, commit_kept, goes_on, none_at_first, refused_keeps}
use Rattle.fax_layout.proofs.StopLemmas.{nothing_then}
use Rattle.fax_layout.proofs.DatabaseLemmas.{same_database}
use Rattle.fax_layout.specs.Stop.{HoldsBack}
use Rattle.fax_layout.proofs.RowsLemmas.{all_given, at_tree, kept_back, kept_rows}
use Rattle.fax_schema.proofs.OursLemmas.{not_ours}
use Rattle.fax_layout.proofs.SelectLemmas.{answers}
use Rattle.sqlite_schema.specs.declared.schema.Schema.{Schema}
use Rattle.fax_store.specs.Adopt.{Adopts, AreAdopted, AreOnTheWay, AreTaken, Founds, HasBecome, HasNone, HasNoStrays, HasThird, HasTimes, HoldsCanBeCalled, IsAdoptable, IsFilled, IsIn, IsOurs, IsRaisable, IsTakeable, IsTaken, IsUntimed, MeansAs, QueuesAreTakeable, Settles, Takes, Turns, CoreMeans, HoldJobs, IsSettled, IsWhole}
use Rattle.fax_store.specs.Store.{CommitsNothing, GoesBack, MayMake, RowsFound, Serves, HasRun}
use Rattle.fax_store.proofs.ControlLemmas.{begins, commits}
use Rattle.fax_store.proofs.HeldLemmas.{held_still, rows_callable}
use Rattle.fax_schema.proofs.StatementTexts.{select_version, version_project, raise_project, update_version}
use Rattle.fax_store.proofs.StopLemmas.{begin_nothing, commit_makes}
use Rattle.fax_store.proofs.StoreLemmas.{same_tables}
use Rattle.fax_store.proofs.WorkLemmas.{not_strange, ok_as}
use Rattle.sqlite_rules.proofs.TableLemmas.{int_is}
use Rattle.std.proofs.lemmas.List.{map-id}
use Rattle.sqlite.specs.Cast.{cast_row}
use Rattle.sqlite.specs.Tree.{rowid}
use Rattle.sqlite.specs.declared.types.Value.TheVariants.{Null}
use Rattle.sqlite_rules.specs.Cast.{cast}
use Rattle.sqlite.specs.View.{is_int}
use Rattle.sqlite_schema.specs.declared.schema.Kind.TheVariants.{Integer}
use Rattle.fax_layout.proofs.CompareLemmas.{cast_int, cast_null, same_row}
use Rattle.fax_schema.proofs.UpdateLemmas.{program_of, updated}
use Rattle.fax_store.proofs.TimedLemmas.{typed, typed_same}
use Rattle.fax_store.proofs.TurnLemmas.{Leaves, leaves_by, only_at, only_by}
use Rattle.fax_layout.proofs.WriteLemmas.{KeepsOthers, updates}
use Rattle.fax_schema.proofs.OursLemmas.{unreferred}

-- what goes back to the commit that a call kept, goes back to that before it
pub back_over : (old mid new : State) → (Serves mid → Serves old) → (HasCleanDisk mid → KeepsCommit old mid) → GoesBack mid new → GoesBack old new
back_over old mid new was kept back db is s = back db (λ at. (kept at.clean).committed at.is_open ∙ is (was at)) s

-- A begin over such tables is done.
pub record HasBegun (Ours : Schema → Type 0) (old new : State) : Type 0 where
  pub ours : Ours old.now.schema
  pub count : ℕ
  pub survives : Survives old new (CommitsBy BEGIN.now [] old)
  pub began : HasCleanDisk new → Executes BEGIN.now [] old new (Ok count)

-- as a begin without an error leaves it
pub has_begun : {Ours : Schema → Type 0} {old new : State} (k : ℕ) → Ours old.now.schema → Survives old new (CommitsBy BEGIN.now [] old)
    → (HasCleanDisk new → Executes BEGIN.now [] old new (Ok k)) → HasBegun Ours old new
has_begun k ours survives began = record { ours = ours; count = k; survives = survives; began = began }

module _ {Ours : Schema → Type 0} {s0 s1 : State} (begun : HasBegun Ours s0 s1) (clean : HasCleanDisk s1) where
  shown : Shows s0 s1 s0.now s0.committed true
  shown = (begins s0 s1 begun.count (begun.began clean)).1

  -- the transaction goes on
  pub starts : GoesOn s0 s1
  starts = record { was_open = shown.was_open; is_open = shown.is_open; now_is = refl; committed_is = shown.committed_is; mode = shown.mode }

  -- over these tables
  starts_in : IsIn Ours s1
  starts_in = record { is_open = shown.is_open; inside = shown.mode; schema_is = subst (λ (d : Database). Ours d.schema) (sym shown.now_is) begun.ours }

-- where a call is refused and the commit is kept, it settles
pub settles_refused : {A : Type 0} (old new : State) (r : Result A StoreFault) → IsErr r → (HasCleanDisk new → HasCleanDisk old) → (HasCleanDisk new → KeepsCommit old new) → Settles old new r
settles_refused old new (Ok x) is clean kept = absurd (let e = is in cc)
settles_refused old new (Err e) is clean kept = record { kept = kept; served = λ s. record { clean = clean s.clean; is_open = (kept s.clean).was_open s.is_open }; clean = clean; opens = tt }

-- and where it is done in a database that was open
pub settles_done : {A : Type 0} (old new : State) (x : A) → (HasCleanDisk new → HasCleanDisk old) → (HasCleanDisk new → IsTrue old.is_open) → (HasCleanDisk new → Serves new) → Settles old new (Ok x)
settles_done old new x clean was opens = record { kept = λ _. tt; served = λ s. record { clean = clean s.clean; is_open = was s.clean }; clean = clean; opens = opens }

-- ---- making the tables

-- what is committed is at rest
pub rests_committed : (old new : State) (k : ℕ) → Executes COMMIT.now [] old new (Ok k) → (m : Queue) (kept : Ledger) → TablesMean old.now m kept
    → IsAtRest new m kept
rests_committed old new k committed m kept means =
    let done = commits old new k committed in
    record { autocommit = done.mode; settled = done.now_is ∙ sym done.committed_is; means = same_tables m kept done.now_is means }

-- a refusal that keeps the last commit, and commits nothing
pub founds_refused : (old new : State) (r : Result (Unit {0}) StoreFault) → IsErr r → (HasCleanDisk new → HasCleanDisk old) → (HasCleanDisk new → KeepsCommit old new) → CommitsNothing old new → IfErr r (λ fault. fault ≡ Unavailable) → Founds old new r
founds_refused old new (Ok x) is clean kept nothing cause = absurd (let e = is in cc)
founds_refused old new (Err e) is clean kept nothing cause =
    record { settles = settles_refused old new (Err e) is clean kept; made = λ _. tt; crash = λ found may. inl (nothing found may); cause = cause }

module _ (s0 s1 s2 : State) (begun : HasBegun (λ schema. schema ≡ no_tables) s0 s1) where
  -- after the begin, the database still has no tables
  starts_empty : HasCleanDisk s1 → HasEmptyTables no_tables s1
  starts_empty clean = let it = starts_in begun clean in none_at_first s1 it.is_open it.inside it.schema_is

  -- making the tables commits nothing before its commit
  pub tables_hold_back : HoldsBack (HasEmptyTables no_tables) s1 s2 → CommitsNothing s0 s2
  tables_hold_back made = nothing_then s0 s1 s2 (begin_nothing s0 s1 begun.survives) (made starts_empty)

  module _ (cleaner : HasCleanDisk s2 → HasCleanDisk s1) where
    -- where making the tables keeps the commit, so does the begin with it
    pub creation_kept : (HasCleanDisk s2 → HasEmptyTables no_tables s1 → KeepsCommit s1 s2) → HasCleanDisk s2 → KeepsCommit s0 s2
    creation_kept kept clean = commit_kept s0 s1 s2 (starts begun (cleaner clean)) (kept clean (starts_empty (cleaner clean)))

    module _ (created : HasCleanDisk s2 → HasEmptyTables no_tables s1 → GoesOn s1 s2 × TablesMean s2.now empty_queue empty_ledger) (s3 : State) where
      here : HasCleanDisk s2 → GoesOn s1 s2 × TablesMean s2.now empty_queue empty_ledger
      here clean = created clean (starts_empty (cleaner clean))

      -- where the commit of new tables is refused, the commit before the begin stands
      pub commit_kept_before : HasCleanDisk s2 → (e : Error) → Executes COMMIT.now [] s2 s3 (Err e) → KeepsCommit s0 s3
      commit_kept_before clean e failed = commit_kept s0 s1 s3 (starts begun (cleaner clean)) (commit_kept s1 s2 s3 (here clean).0 (refused_keeps s2 s3 COMMIT.now e failed))

      -- once the tables that were made are committed, they mean the empty queue and no kept replies
      pub tables_made : HasCleanDisk s2 → (k : ℕ) → Executes COMMIT.now [] s2 s3 (Ok k) → IsAtRest s3 empty_queue empty_ledger
      tables_made clean k committed = rests_committed s2 s3 k committed empty_queue empty_ledger (here clean).1

      -- a crash while the tables are made leaves what it could leave before, or an empty store
      pub tables_stop : HoldsBack (HasEmptyTables no_tables) s1 s2 → Survives s2 s3 (CommitsBy COMMIT.now [] s2)
          → MayMake s0 s3 (λ found. RowsFound found empty_queue empty_ledger)
      tables_stop made committing found may = elim (commit_makes s2 s3 committing (λ clean. (here clean).0.mode) found may) [
        | inl before ↦ inl (tables_hold_back made found before)
        | inr it ↦ inr (s2.now, sym it.1, (here it.0).1)
      ]

-- ---- taking a database with our tables

-- a call that only reads leaves the tables without a call counted
pub none_still : (a b : State) → HasNone a → IsUnchanged a b → HasNone b
none_still a b has same = record {
  is_open = same.0.is_open;
  inside = same.0.mode ∙ has.inside;
  schema_is = ap (λ (d : Database). d.schema) same.0.now_is ∙ has.schema_is;
  sound = subst IsDatabase (sym same.0.now_is) has.sound;
  none = ap (λ (d : Database). d.trees calls_tree) same.0.now_is ∙ has.none;
}

-- the rows that are alike in each version stay
alike : (a b : Trees) → KeepsRows first_list a b → KeepsRows alike_list a b
alike a b rows = (rows.0, (rows.1.1.0, (rows.1.1.1.0, (rows.1.1.1.1.0, tt))))

-- ---- what the third version has of the same rows

grants_alike : (version : ℕ) (a b : Trees) → a jobs_tree ≡ b jobs_tree → a grants_tree ≡ b grants_tree → grants_as version a ≡ grants_as version b
grants_alike version a b = ap₂ (λ jobs grants. if version == 3 then grants else filter (λ grant. is_job jobs (column grant 2)) grants)

-- the times that were kept count in the third version alone
times_alike : (version : ℕ) (a b : Trees) → (version ≡ 3 → a times_tree ≡ b times_tree) → a jobs_tree ≡ b jobs_tree → a meta_tree ≡ b meta_tree → times_as version a ≡ times_as version b
times_alike version a b times jobs meta = elim (cases_Bool (version == 3)) [
  | inl on ↦ rw on (times (eqb-true version 3 on))
  | inr off ↦ rw off (ap₂ (λ js ms. map (λ job. time_made (get_or (map (λ row. column row 2) ms) 0 Null) (column job 0) (column job 18)) js) jobs meta)
]

-- tables without times aren't of the third version
untimed_first : (s : Schema) → has_times s ≡ false → version_of s ≡ 3 → ⊥
untimed_first s none is = elim (cases_Bool (has_floors s)) [
  | inl on ↦ (let two : version_of s ≡ 2 = rw (none, on) refl in absurd (let e : 2 ≡ 3 = sym two ∙ is in omega arith))
  | inr off ↦ (let one : version_of s ≡ 1 = rw (none, off) refl in absurd (let e : 1 ≡ 3 = sym one ∙ is in omega arith))
]

-- a refusal that keeps the last commit, and commits nothing
pub takes_refused : (Made : Database → State → Type 0) (Left : Database → Trees → Type 0) (Fit : Database → Type 0) (old new : State)
    (r : Result (Unit {0}) StoreFault) → IsErr r → (HasCleanDisk new → HasCleanDisk old)
    → (HasCleanDisk new → KeepsCommit old new) → CommitsNothing old new → (HasCleanDisk new → r ≡ Err Strange → ¬ Fit old.now) → Takes Made Left Fit old new r
takes_refused Made Left Fit old new (Ok x) is clean kept nothing strange = absurd (let e = is in cc)
takes_refused Made Left Fit old new (Err e) is clean kept nothing strange = record {
  settles = settles_refused old new (Err e) is clean kept;
  taken = λ _. tt;
  means = λ _ _ _. tt;
  crash = λ found may. inl (nothing found may);
  nothing = λ _. nothing;
  strange = strange;
}

-- A database with ours gets what it lacks, behind a begin.
module _ (way : Way) (s0 s1 s2 : State) (begun : HasBegun (AreOnTheWay way) s0 s1) where
  -- where that is refused, the commit before the begin stands
  pub renewing_kept : (e : StoreFault) → Turns {A = Unit {0}} (IsIn (AreOnTheWay way)) HasNewCalls s1 s2 (Err e) → HasCleanDisk s2 → KeepsCommit s0 s2
  renewing_kept e renews clean = let at = renews.clean clean in commit_kept s0 s1 s2 (starts begun at) (renews.goes clean (starts_in begun at))

  -- nothing is committed
  pub renewing_holds_back : (r : Result (Unit {0}) StoreFault) → Turns (IsIn (AreOnTheWay way)) HasNewCalls s1 s2 r → CommitsNothing s0 s2
  renewing_holds_back r renews = nothing_then s0 s1 s2 (begin_nothing s0 s1 begun.survives) (renews.crash (starts_in begun))

  -- it is done, in a database of this version
  module _ (renews : Turns {A = Unit {0}} {E = StoreFault} (IsIn (AreOnTheWay way)) HasNewCalls s1 s2 (Ok tt)) (version : ℕ) (is : version ≡ version_of s0.now.schema)
    where
      made : HasCleanDisk s2 → GoesOn s1 s2 × HasNewCalls s1.now s2.now
      made clean = renews.goes clean (starts_in begun (renews.clean clean))

      -- from the begin through what is made, the transaction goes on
      goes_on_renewed : HasCleanDisk s2 → GoesOn s0 s2
      goes_on_renewed clean = goes_on s0 s1 s2 (starts begun (renews.clean clean)) (made clean).0

      -- what is made has the rows that the database had before the begin, and a new `calls`
      renewed : HasCleanDisk s2 → HasNewCalls s0.now s2.now
      renewed clean = subst (λ (d : Database). HasNewCalls d s2.now) (shown begun (renews.clean clean)).now_is (made clean).1

      -- so it has the rows of a queue's tables
      same_rows : HasCleanDisk s2 → Renews s0.now s2.now
      same_rows clean = (renewed clean).renews begun.ours.0

      -- all tables are there, and no call is counted yet
      pub has_none : HasCleanDisk s2 → HasNone s2
      has_none clean =
          let on = goes_on_renewed clean in
          let it = renewed clean in
          record { is_open = on.is_open; inside = on.mode; schema_is = it.schema_is; sound = it.sound; none = it.none }

      module _ (clean : HasCleanDisk s2) where
        still_alike : KeepsRows alike_list s0.now.trees s2.now.trees
        still_alike = alike s0.now.trees s2.now.trees (same_rows clean).rows

        -- a table of the first version has the rows that it had
        same_at : (tree : ℕ) → list_any (λ t. t.tree == tree) first_list ≡ true → s2.now.trees tree ≡ s0.now.trees tree
        same_at tree there = at_tree (λ t. s2.now.trees t ≡ s0.now.trees t) first_list tree there (same_rows clean).rows

        -- and one of a later version, none where there was no such table
        same_added : (tree : ℕ) → has_added our_tables tree ≡ true → list_any (λ t. t.tree == tree) added_list ≡ true → s2.now.trees tree ≡ added_in s0.now tree
        same_added tree has there = sym (added_there s2.now our_tables tree (renewed clean).schema_is has) ∙ at_tree (λ t. added_in s2.now t ≡ added_in s0.now t) added_list tree there (same_rows clean).added

        -- meta has the versions that it had
        same_versions : versions s2.now ≡ versions s0.now
        same_versions = ap (map (λ r. column r 5)) (same_at meta_tree refl)

        -- the times that were kept are there
        same_times : version ≡ 3 → s2.now.trees times_tree ≡ s0.now.trees times_tree
        same_times third = elim (cases_Bool (has_times s0.now.schema)) [
          | inl there ↦ same_added times_tree refl refl ∙ added_there s0.now s0.now.schema times_tree refl there
          | inr none ↦ absurd (untimed_first s0.now.schema none (sym is ∙ third))
        ]

        -- in an earlier version there were none
        still_untimed : IsUntimed version s2.now
        still_untimed = elim (cases_Bool (has_times s0.now.schema)) [
          | inl there ↦ inl (is ∙ rw there refl)
          | inr none ↦ inr (same_added times_tree refl refl ∙ added_none s0.now s0.now.schema times_tree refl none)
        ]

        -- so the third version has the same of both
        same_grants_as : grants_as version s2.now.trees ≡ grants_in s0.now
        same_grants_as = grants_alike version s2.now.trees s0.now.trees (same_at jobs_tree refl) (same_at grants_tree refl) ∙ ap (λ v. grants_as v s0.now.trees) is

        same_meta_as : meta_as version (s2.now.trees meta_tree) ≡ meta_in s0.now
        same_meta_as = ap₂ meta_as is (same_at meta_tree refl)

        same_times_as : times_as version s2.now.trees ≡ times_in s0.now
        same_times_as = times_alike version s2.now.trees s0.now.trees same_times (same_at jobs_tree refl) (same_at meta_tree refl) ∙ ap (λ v. times_as v s0.now.trees) is

        -- meta's one row still has the version of the tables that were found
        pub still_version : HasVersion s0.now → versions s2.now ≡ number version ∷ []
        still_version has = same_versions ∙ has ∙ ap (λ v. number v ∷ []) (sym is)

        -- where each hold had a job that can be called, it still has
        pub still_callable : HoldsCanBeCalled s0.now → HoldsCanBeCalled s2.now
        still_callable = held_still s0.now s2.now still_alike

        -- rows that meant a queue and kept replies still mean them, in that version
        pub still_means : (m : Queue) (k : Ledger) → RowsMean s0.now m k → MeansAs version s2.now m k
        still_means m k mean = record {
          version_is = still_version mean.version;
          untimed = still_untimed;
          ordered = subst IsByRowid (sym (same_at grants_tree refl)) mean.ordered;
          full = mean.full;
          means = mean.means;
          rows = kept_rows alike_list s2.now.trees s0.now.trees (mean.full).trees (kept_back alike_list s0.now.trees s2.now.trees still_alike) mean.same.rows;
          grants = mean.same.grants ∙ sym same_grants_as;
          meta = mean.same.meta ∙ sym same_meta_as;
          floors = mean.same.floors ∙ sym (same_added floors_tree refl refl);
          times = mean.same.times ∙ sym same_times_as;
        }

        -- rows can be raised in the one where they can in the other
        raisable : (tree : ℕ) → list_any (λ t. t.tree == tree) first_list ≡ true → IsRaisable (version_of s0.now.schema) (s0.now.trees tree) → IsRaisable version (s2.now.trees tree)
        raisable tree there (inl third) = inl (is ∙ third)
        raisable tree there (inr by) = inr (subst IsByRowid (sym (same_at tree there)) by)

      -- then the calls are counted
      module _ (s3 : State) where
        -- where that is refused, the commit before the begin stands
        pub filling_kept : (e : StoreFault) → Turns {A = Unit {0}} HasNone (IsFilled version) s2 s3 (Err e) → HasCleanDisk s3 → KeepsCommit s0 s3
        filling_kept e fills clean = let at = fills.clean clean in commit_kept s0 s2 s3 (goes_on_renewed at) (fills.goes clean (has_none at))

        -- nothing is committed
        pub filling_holds_back : (r : Result (Unit {0}) StoreFault) → Turns HasNone (IsFilled version) s2 s3 r → CommitsNothing s0 s3
        filling_holds_back r fills = nothing_then s0 s2 s3 (renewing_holds_back (Ok tt) renews) (fills.crash has_none)

        module _ (fills : Turns {A = Unit {0}} {E = StoreFault} HasNone (IsFilled version) s2 s3 (Ok tt)) where
          filled : HasCleanDisk s3 → GoesOn s2 s3 × IsFilled version s2.now s3.now
          filled clean = fills.goes clean (has_none (fills.clean clean))

          -- a database that was filled had our tables, meta's one version, and a job for each hold
          was_ours : HasCleanDisk s3 → IsOurs s0.now
          was_ours clean =
              let at = fills.clean clean in
              let it = (filled clean).1 in
              let rows = (same_rows at).rows in
              record {
                schema_is = begun.ours.0;
                version = sym (same_versions at) ∙ it.version_is ∙ ap (λ v. number v ∷ []) is;
                held = λ hold there. let job = it.held hold (subst (λ rows. Has rows hold) (sym rows.1.1.0) there) in (job.0, subst (λ rows. Has rows job.0) rows.0 job.1, job.2);
              }

          -- once filled, it has all tables, with the rows that it had
          is_taken : HasCleanDisk s3 → IsTaken s0.now s3.now
          is_taken clean = let at = fills.clean clean in let it = (filled clean).1 in let third = it.third in record {
            schema_is = third.schema_is;
            sound = third.sound;
            rows = kept_rows alike_list s0.now.trees s2.now.trees s3.now.trees (still_alike at) third.rows;
            grants = λ can. third.grants (raisable at grants_tree refl can) ∙ same_grants_as at;
            meta = λ can. third.meta (raisable at meta_tree refl can) ∙ same_meta_as at;
            floors = third.floors ∙ same_added at floors_tree refl refl;
            times = λ can. third.times it.version_is (still_untimed at) (raisable at jobs_tree refl can) ∙ same_times_as at;
          }

          module _ (s4 : State) where
            -- where the commit is refused, the commit before the begin stands
            pub not_taken : (e : Error) → HasCleanDisk s3 → Executes COMMIT.now [] s3 s4 (Err e) → KeepsCommit s0 s4
            not_taken e clean failed = commit_kept s0 s3 s4 (goes_on s0 s2 s3 (goes_on_renewed (fills.clean clean)) (filled clean).0)
                (refused_keeps s3 s4 COMMIT.now e failed)

            -- once committed, the database has all tables with the rows that it had, and no work is under way
            pub has_taken : (k : ℕ) → HasCleanDisk s3 → Executes COMMIT.now [] s3 s4 (Ok k) → HasBecome s0.now s4
            has_taken k clean committed =
                let done = commits s3 s4 k committed in
                (was_ours clean, record { autocommit = done.mode; settled = done.now_is ∙ sym done.committed_is; taken = subst (λ (d : Database). IsTaken s0.now d) (sym done.now_is) (is_taken clean) })

            -- a crash while a database is taken leaves what it could leave before, or the rows that it had
            pub taking_stops : Survives s3 s4 (CommitsBy COMMIT.now [] s3) → MayMake s0 s4 (AreTaken s0.now)
            taking_stops committing found may = elim (commit_makes s3 s4 committing (λ clean. (filled clean).0.mode) found may) [
              | inl before ↦ inl (filling_holds_back (Ok tt) fills found before)
              | inr it ↦ inr (s3.now, sym it.1, was_ours it.0, is_taken it.0)
            ]

-- a fault that is passed on is the one that was told
pub told_strange : (r : Result (Unit {0}) StoreFault) (fault : StoreFault) → IsErrAnd r (λ e. e ≡ fault) → r ≡ Err Strange → ◌≡◌ {A = Result (Unit {0}) StoreFault} (Err fault) (Err Strange)
told_strange (Ok x) fault told is = absurd told
told_strange (Err e) fault told is = ap Err (sym told) ∙ is

-- ---- both together

-- an empty store that was made of a database with no tables
pub founds_takes : (old new : State) (r : Result (Unit {0}) StoreFault) → old.now.schema ≡ no_tables → Founds old new r → Takes Adopts AreAdopted IsAdoptable old new r
founds_takes old new r none founds = record {
  settles = founds.settles;
  taken = λ clean. ok_as r (λ rest. inl (none, rest)) (founds.made clean);
  means = λ m k clean. ok_as r (λ rest. λ ours rows. absurd (not_ours old.now.schema none ours)) (founds.made clean);
  crash = λ found may. elim (founds.crash found may) [ inl before ↦ inl before | inr rows ↦ inr (inl (none, rows)) ];
  nothing = λ is. absurd (not_strange r founds.cause is);
  strange = λ clean is. absurd (not_strange r founds.cause is);
}

-- and ours that was taken
pub ours_taken : (old new : State) (r : Result (Unit {0}) StoreFault) → AreOurs old.now.schema → Takes HasBecome AreTaken IsTakeable old new r → Takes Adopts AreAdopted IsAdoptable old new r
ours_taken old new r ours takes = record {
  settles = takes.settles;
  taken = λ clean. ok_as r (λ became. inr became) (takes.taken clean);
  means = takes.means;
  crash = λ found may. elim (takes.crash found may) [ inl before ↦ inl before | inr taken ↦ inr (inr taken) ];
  nothing = takes.nothing;
  strange = λ clean is. λ fit. takes.strange clean is (fits fit);
}
  where
    fits : IsAdoptable old.now → IsTakeable old.now
    fits (inl none) = absurd (not_ours old.now.schema none ours)
    fits (inr fit) = fit

-- ---- reading the version

-- the one value of a list of one row with one value
one_version : (v : ℕ) (rows : List Row) → map (λ r. column r 5 ∷ []) rows ≡ (number v ∷ []) ∷ [] → map (λ r. column r 5) rows ≡ number v ∷ []
one_version v rows e = sym (map-map (λ r. column r 0) (λ r. column r 5 ∷ []) rows) ∙ ap (map (λ r. column r 0)) e

-- a list of one value is that of one row with this one value
in_one_row : (v : ℕ) (rows : List Row) → map (λ r. column r 5) rows ≡ number v ∷ [] → map (λ r. column r 5 ∷ []) rows ≡ (number v ∷ []) ∷ []
in_one_row v rows e = sym (map-map (λ v. v ∷ []) (λ r. column r 5) rows) ∙ ap (map (λ v. v ∷ [])) e

module _ (v : ℕ) (old new : State) (ours : old.now.schema ≡ our_tables) (rows : List Row) (shown : Shown SELECT_VERSION.now [] old new rows) where
  -- the text on the version shows meta's versions, in any order
  shown_versions : IsPermutation (map (λ r. column r 5 ∷ []) (old.now.trees meta_tree)) rows
  shown_versions =
      let read = reads_as SELECT_VERSION.now [] old new our_tables ours _ select_version.command select_version.plain select_version.unlisted rows shown in
      subst (λ t. IsPermutation (map (λ r. column r 5 ∷ []) t) rows)
      (filter_all (λ _. true) (old.now.trees meta_tree) (all_of _ (λ _. refl) (old.now.trees meta_tree)))
      (answers meta_tree [] version_project [] old.now (old.now.trees meta_tree) refl (codes "version" ∷ []) rows read)

  -- where the text shows one version, meta has just this one
  pub version_found : rows ≡ (number v ∷ []) ∷ [] → versions old.now ≡ number v ∷ []
  version_found is =
      one_version v (old.now.trees meta_tree)
      (one_permutation (number v ∷ []) _ (subst (λ all. IsPermutation all (map (λ r. column r 5 ∷ []) (old.now.trees meta_tree))) is (IsPermutation-sym _ _ shown_versions)))

  -- where meta has one version, the text shows just this one
  pub version_shown : versions old.now ≡ number v ∷ [] → rows ≡ (number v ∷ []) ∷ []
  version_shown is = one_permutation (number v ∷ []) rows (subst (λ all. IsPermutation all rows) (in_one_row v (old.now.trees meta_tree) is) shown_versions)

-- ---- a stop

-- Rows have one meaning: the tables of any database that has them are ours, where those of one are.
pub rows_reopened : (db : Database) (m : Queue) (k : Ledger) → RowsFound db.trees m k → IsDatabase db → TablesMean db m k
rows_reopened db m k rows sound = same_tables m k (same_database db rows.0 (sym rows.1) sound rows.2.sound) rows.2

-- and it has our tables, whose rows mean this
pub means_rows : (db : Database) (m : Queue) (k : Ledger) → TablesMean db m k → AreOurs db.schema × RowsMean db m k
means_rows db m k means = (
  inl means.schema,
  record {
    version = ap (map (λ r. column r 5)) means.meta ∙ ap (λ s. number (version_of s) ∷ []) (sym means.schema);
    ordered = means.ordered.grants;
    full = db;
    means = means;
    same = record {
      rows = all_given (λ t. db.trees t.tree ≡ db.trees t.tree) alike_list (λ t. refl);
      grants = ap (λ s. grants_as (version_of s) db.trees) (sym means.schema);
      meta = ap (λ s. meta_as (version_of s) (db.trees meta_tree)) (sym means.schema);
      floors = sym (added_there db our_tables floors_tree means.schema refl);
      times = ap (λ s. times_as (version_of s) db.trees) (sym means.schema);
    };
  },
)

-- meta tells the version, and each hold has its job
pub queues_are_takeable : QueuesAreTakeable
queues_are_takeable db m k ours mean = record { schema_is = ours; version = mean.version; held = rows_callable db m k (mean.full, mean.means, kept_back alike_list db.trees (mean.full).trees mean.same.rows) }

-- ---- the text

module _ (old new : State) (has : HasNone old) (ran : HasRun UPDATE_VERSION.now [] old new) where
  -- a raised row is stored as it is
  stored : IsByRowid (old.now.trees meta_tree) → (r : Row) → Has (old.now.trees meta_tree) r → cast_row schema.meta (column r 0 ∷ Null ∷ column r 2 ∷ column r 3 ∷ column r 4 ∷ number 3 ∷ []) ≡ raised r
  stored by r there =
      let it = typed old has r there in
      let id : cast Integer (column r 0) ≡ column r 0 = rw (int_is (column r 0) (all_has (λ x. IsTrue (is_int (rowid x))) (old.now.trees meta_tree) r by.integers there)) (cast_int _) in
      same_row id (same_row cast_null (same_row (typed_same (column r 2) it.clock) (same_row (typed_same (column r 3) it.next_job) (same_row (typed_same (column r 4) it.next_grant) (same_row (cast_int (pos 3)) refl)))))

  -- the text raises each row of meta, and touches meta alone
  ran_as : IsByRowid (old.now.trees meta_tree) → KeepsOthers our_tables meta_tree old new × (new.now.trees meta_tree ≡ map raised (old.now.trees meta_tree))
  ran_as by =
      let done = updated schema.meta.name meta_tree schema.meta.columns schema.meta.key schema.meta.primary schema.meta.uniques schema.meta.orders schema.meta.checks 5 refl old new has.schema_is refl by
      [] raise_project [] (λ r. refl) _ ran.0 (λ (r : Row). r) raised (old.now.trees meta_tree) (sym (map-id (old.now.trees meta_tree))) (λ r. refl) (λ r there on. stored by r there) (λ r there off. absurd cc)
      (runs_as UPDATE_VERSION.now [] old new our_tables has.schema_is _ update_version.is update_version.plain ran.0 ran.1) in
      (done.0, done.1 ∙ map-id (map raised (old.now.trees meta_tree)))

  -- it touches meta alone
  keeps : KeepsOthers our_tables meta_tree old new
  keeps =
      (updates our_tables unreferred schema.meta.name meta_tree schema.meta.columns schema.meta.key schema.meta.primary schema.meta.uniques schema.meta.orders schema.meta.checks 5 refl old new has.schema_is [] _ ran.0 (program_of meta_tree [] raise_project)
      (runs_as UPDATE_VERSION.now [] old new our_tables has.schema_is _ update_version.is update_version.plain ran.0 ran.1)).2.keeps

  -- so meta has the third version
  pub version_raised : KeepsOthers our_tables meta_tree old new × HasThird old.now new.now
  version_raised = (keeps, record { only = only_by meta_tree old new keeps; raised = λ by. (ran_as by).1 })

-- ---- the version is settled

-- neither dropping strays nor putting in times counts a call
pub strays_leaves : Leaves HasNone HasNoStrays HasNone
strays_leaves = leaves_by grants_tree (λ e. absurd (omega arith)) (λ a b strays. strays.only)

pub times_leave : Leaves HasNone HasTimes HasNone
times_leave = leaves_by times_tree (λ e. absurd (omega arith)) (λ a b times. times.only)

-- the third is settled as it is
pub settled_third : (version : ℕ) (db : Database) → version ≡ 3 → db.schema ≡ our_tables → IsDatabase db → IsSettled version db db
settled_third version db three ours sound =
    let at : (version == 3) ≡ true = ap (λ n. n == 3) three in (
      record {
        schema_is = ours;
        sound = sound;
        rows = all_given (λ t. db.trees t.tree ≡ db.trees t.tree) alike_list (λ t. refl);
        grants = λ can. rw at refl;
        meta = λ can. rw at refl;
        floors = refl;
        times = λ was none can. rw at refl;
      },
      refl,
    )

-- an earlier version is settled once the strays are gone, all jobs have their times, and meta has the third version
module _ (version : ℕ) (a b c d : Database) (earlier : version ≢ 3) (strays : HasNoStrays a b) (times : HasTimes b c) (third : HasThird c d) where
  not_third : (version == 3) ≡ false
  not_third = false_from_ne_true (version == 3) (λ on. earlier (eqb-true version 3 on))

  -- another table has the rows that it had
  stays_at : (tree : ℕ) → list_any (λ t. t.tree == tree) our_tables.tables ≡ true → tree ≢ grants_tree → tree ≢ times_tree → tree ≢ meta_tree → d.trees tree ≡ a.trees tree
  stays_at tree there grants other meta = only_at meta_tree c d tree there meta third.only ∙ only_at times_tree b c tree there other times.only ∙ only_at grants_tree a b tree there grants strays.only

  by_rowid : (rows : List Row) → IsRaisable version rows → IsByRowid rows
  by_rowid rows (inl three) = absurd (earlier three)
  by_rowid rows (inr by) = by

  jobs_kept : b.trees jobs_tree ≡ a.trees jobs_tree
  jobs_kept = only_at grants_tree a b jobs_tree refl (λ e. absurd (omega arith)) strays.only

  meta_kept : b.trees meta_tree ≡ a.trees meta_tree
  meta_kept = only_at grants_tree a b meta_tree refl (λ e. absurd (omega arith)) strays.only

  times_kept : b.trees times_tree ≡ a.trees times_tree
  times_kept = only_at grants_tree a b times_tree refl (λ e. absurd (omega arith)) strays.only

  pub settled_earlier : IsSettled version a d
  settled_earlier = (
    record {
      schema_is = third.only.schema_is;
      sound = third.only.sound;
      rows = (
        stays_at jobs_tree refl (λ e. absurd (omega arith)) (λ e. absurd (omega arith)) (λ e. absurd (omega arith)),
        (
          stays_at holds_tree refl (λ e. absurd (omega arith)) (λ e. absurd (omega arith)) (λ e. absurd (omega arith)),
          (
            stays_at down_tree refl (λ e. absurd (omega arith)) (λ e. absurd (omega arith)) (λ e. absurd (omega arith)),
            (stays_at replies_tree refl (λ e. absurd (omega arith)) (λ e. absurd (omega arith)) (λ e. absurd (omega arith)), tt),
          ),
        ),
      );
      grants = λ can.
          let still = only_at meta_tree c d grants_tree refl (λ e. absurd (omega arith)) third.only ∙ only_at times_tree b c grants_tree refl (λ e. absurd (omega arith)) times.only in
          still ∙ strays.left (by_rowid (a.trees grants_tree) can) ∙ rw not_third refl;
      meta = λ can.
          let same = only_at times_tree b c meta_tree refl (λ e. absurd (omega arith)) times.only ∙ meta_kept in
          third.raised (subst IsByRowid (sym same) (by_rowid (a.trees meta_tree) can)) ∙ ap (map raised) same ∙ rw not_third refl;
      floors = stays_at floors_tree refl (λ e. absurd (omega arith)) (λ e. absurd (omega arith)) (λ e. absurd (omega arith));
      times = λ was untimed can.
          let none : a.trees times_tree ≡ [] = elim untimed [ inl three ↦ absurd (earlier three) | inr none ↦ none ] in
          only_at meta_tree c d times_tree refl (λ e. absurd (omega arith)) third.only
          ∙ times.made (number version) (ap (map (λ r. column r 5)) meta_kept ∙ was) (times_kept ∙ none) (subst IsByRowid (sym jobs_kept) (by_rowid (a.trees jobs_tree) can))
          ∙ times_alike 1 b.trees a.trees (λ e. absurd (omega arith)) jobs_kept meta_kept ∙ rw not_third refl;
    },
    stays_at calls_tree refl (λ e. absurd (omega arith)) (λ e. absurd (omega arith)) (λ e. absurd (omega arith)),
  )

-- ---- what the rows mean

-- one row that was raised to that of a queue stands by its rowid
by_raised : (m : Queue) (rows : List Row) → meta_row m ∷ [] ≡ map raised rows → IsByRowid rows
by_raised m [] e = absurd cc
by_raised m (r ∷ s ∷ rows) e = absurd cc
by_raised m (r ∷ []) e = let id : number 1 ≡ column r 0 = cc in record { rise = (tt, tt); integers = (subst (λ v. IsTrue (is_int v)) id refl, tt) }

-- a meta of which the rows mean a queue can be raised
can_raise : (version : ℕ) (db : Database) (m : Queue) (k : Ledger) → MeansAs version db m k → IsRaisable version (db.trees meta_tree)
can_raise version db m k mean = elim (cases_Bool (version == 3)) [
  | inl on ↦ inl (eqb-true version 3 on)
  | inr off ↦ inr (by_raised m (db.trees meta_tree) (sym mean.means.meta ∙ mean.meta ∙ rw off refl))
]

-- what the rows mean, they mean once the version is settled
pub settled_means : (version : ℕ) (db after : Database) (m : Queue) (k : Ledger) → IsSettled version db after → MeansAs version db m k → CoreMeans after m k
settled_means version db after m k settled mean =
    let third = settled.0 in
    let jobs : IsByRowid (db.trees jobs_tree) = subst IsByRowid mean.rows.0 mean.means.ordered.jobs in (
      mean.full,
      mean.means,
      (
        third.rows.0 ∙ sym mean.rows.0,
        (
          third.grants (inr mean.ordered) ∙ sym mean.grants,
          (
            third.rows.1.0 ∙ sym mean.rows.1.0,
            (
              third.rows.1.1.0 ∙ sym mean.rows.1.1.0,
              (
                third.rows.1.1.1.0 ∙ sym mean.rows.1.1.1.0,
                (
                  third.meta (can_raise version db m k mean) ∙ sym mean.meta,
                  (third.floors ∙ sym mean.floors, (third.times mean.version_is mean.untimed (inr jobs) ∙ sym mean.times, tt)),
                ),
              ),
            ),
          ),
        ),
      ),
    )

-- the tables are there without a call counted
pub settled_none : (version : ℕ) → Leaves HasNone (IsSettled version) HasNone
settled_none version old new was on settled = record { is_open = on.is_open; inside = on.mode; schema_is = settled.0.schema_is; sound = settled.0.sound; none = settled.1 ∙ was.none }

-- the version and the holds are tested, the version is settled, and the calls are counted
pub filled_by : (version : ℕ) (a b c : Database) → versions a ≡ number version ∷ [] → HoldJobs a → IsSettled version a b → IsWhole b c → IsFilled version a c
filled_by version a b c was held settled whole =
    let third = settled.0 in
    let at = λ (tree : ℕ). at_tree (λ t. c.trees t ≡ b.trees t) core_tables.tables tree in
    record {
      version_is = was;
      held = held;
      third = record {
        schema_is = whole.schema_is;
        sound = whole.sound;
        rows = kept_rows alike_list a.trees b.trees c.trees third.rows (at jobs_tree refl whole.rows, (at holds_tree refl whole.rows, (at down_tree refl whole.rows, (at replies_tree refl whole.rows, tt))));
        grants = λ can. at grants_tree refl whole.rows ∙ third.grants can;
        meta = λ can. at meta_tree refl whole.rows ∙ third.meta can;
        floors = at floors_tree refl whole.rows ∙ third.floors;
        times = λ was untimed can. at times_tree refl whole.rows ∙ third.times was untimed can;
      };
    }
