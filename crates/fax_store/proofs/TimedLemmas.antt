-- What the texts show and leave by which a store puts in the times of all jobs.
use Rattle.std.proofs.Common.{◌≡◌, inl, inr, pos, List, [], ◌∷◌, ◌++◌, map, filter, drop, Bool, true, ◌&&◌, codes, IsTrue, IsPermutation, Ok, Some, get_or, refl, sym, ap, subst, ◌∙◌, arith, if◌then◌else◌}
use Rattle.std.proofs.lemmas.Bool.{and_parts, cases_Bool}
use Rattle.std.proofs.lemmas.List.{map-append}
use Rattle.sqlite.proofs.Callers.{reads_as, runs_as}
use Rattle.sqlite.specs.Cast.{cast_row}
use Rattle.sqlite.specs.Edit.{with_rowid}
use Rattle.sqlite.specs.Effect.{Database}
use Rattle.sqlite.specs.Order.{Row, column}
use Rattle.sqlite.specs.Rowids.TheVariants.{Chosen}
use Rattle.sqlite.specs.State.{State, Executes, Shown}
use Rattle.sqlite.specs.Tree.{rowid, IsTable}
use Rattle.sqlite.specs.View.{is_int}
use Rattle.sqlite.specs.Values.{bound_value}
use Rattle.sqlite.specs.declared.types.Value.{Value}
use Rattle.sqlite.specs.declared.types.Value.TheVariants.{Null, Int, Real, Text, Blob}
use Rattle.sqlite_rules.specs.Cast.{cast}
use Rattle.sqlite_rules.specs.Lists.{Has}
use Rattle.sqlite_rules.proofs.ListLemmas.{all_from, all_has, has_either, has_left, has_right}
use Rattle.sqlite_rules.proofs.ProbeLemmas.{mapped_has}
use Rattle.sqlite_rules.proofs.TableLemmas.{int_is, put_all_adds, put_all_keeps, put_has}
use Rattle.sqlite_schema.specs.Rules.{Keeps, are_typed, is_of, passes as obeys}
use Rattle.sqlite_schema.specs.declared.schema.Constraint.TheVariants.{Datatype}
use Rattle.sqlite_schema.specs.declared.schema.Kind.TheVariants.{Integer}
use Rattle.sqlite_trees.proofs.ListLemmas.{ascending-map}
use Rattle.sqlite_trees.proofs.TreeLemmas.{IsTable-put_row}
use Rattle.fax_layout.proofs.CompareLemmas.{cast_int, cast_null, same_row}
use Rattle.fax_layout.proofs.EditLemmas.{has_mapped, one_shown, same_rows, shown_one}
use Rattle.fax_layout.proofs.RowsLemmas.{all_behind, all_front}
use Rattle.fax_layout.proofs.SelectLemmas.{answers, passes, show}
use Rattle.fax_schema.proofs.StatementTexts.{meta_project, meta_tests, select_meta}
use Rattle.fax_schema.proofs.TimesTexts.{insert_times, phases_project, select_phases, times_terms}
use Rattle.fax_layout.proofs.WriteLemmas.{InsertsRow, KeepsOthers, inserts}
use Rattle.fax_schema.proofs.OursLemmas.{unreferred}
use Rattle.fax_layout.specs.ByRowid.{IsByRowid}
use Rattle.fax_schema.specs.Schema as schema
use Rattle.fax_schema.specs.Schema.{jobs_tree, meta_tree, our_tables, times_tree}
use Rattle.fax_schema.specs.declared.statements.TheConstants.{INSERT_TIMES, SELECT_META, SELECT_PHASES}
use Rattle.fax_store.proofs.TurnLemmas.{Leaves, leaves_by, only_by, only_then}
use Rattle.fax_store.specs.Adopt.{AreNumbered, AreTimed, CanBeTimed, ChangesOnly, HasNone, HasTimes, HaveTimes, timed}
use Rattle.fax_store.specs.Store.{FindsRow, HasRun}
use Rattle.fax_tables.specs.Row.{number}
use Rattle.fax_tables.specs.Tables.{clock_in, is_over_phase, time_made, versions}

-- ---- a value of its type is stored as it is

-- a value of the type of integers is stored as it is
pub typed_same : (v : Value) → is_of Integer v ≡ true → cast Integer v ≡ v
typed_same Null h = cast_null
typed_same (Int n) h = cast_int n
typed_same (Real x) h = absurd cc
typed_same (Text t) h = absurd cc
typed_same (Blob b) h = absurd cc

-- and bound as it is
bound_same : (v : Value) → is_of Integer v ≡ true → bound_value v ≡ v
bound_same Null h = refl
bound_same (Int n) h = refl
bound_same (Real x) h = absurd cc
bound_same (Text t) h = absurd cc
bound_same (Blob b) h = absurd cc

-- an integer is of its type
int_typed : (v : Value) → IsTrue (is_int v) → is_of Integer v ≡ true
int_typed v int = ap (is_of Integer) (int_is v int)

-- the clock and next numbers of a row
pub record AreTyped (r : Row) : Type 0 where
  pub clock : is_of Integer (column r 2) ≡ true
  pub next_job : is_of Integer (column r 3) ≡ true
  pub next_grant : is_of Integer (column r 4) ≡ true

two : {a b : Bool} → (a && b) ≡ true → (a ≡ true) × (b ≡ true)
two {a} {b} h = and_parts a b h

-- a row of meta that keeps its types has integers for its clock and next numbers
row_typed : (r : Row) → are_typed (Some 0) 0 schema.meta.columns (drop 1 r) ≡ true → AreTyped r
row_typed [] h = record { clock = refl; next_job = refl; next_grant = refl }
row_typed (i ∷ []) h = record { clock = refl; next_job = refl; next_grant = refl }
row_typed (i ∷ a ∷ []) h = record { clock = refl; next_job = refl; next_grant = refl }
row_typed (i ∷ a ∷ b ∷ []) h = record { clock = (two (two h).1).0; next_job = refl; next_grant = refl }
row_typed (i ∷ a ∷ b ∷ c ∷ []) h = let more = two (two h).1 in record { clock = more.0; next_job = (two more.1).0; next_grant = refl }
row_typed (i ∷ a ∷ b ∷ c ∷ d ∷ rest) h = let more = two (two h).1 in let last = two more.1 in record { clock = more.0; next_job = last.0; next_grant = (two last.1).0 }

-- each row of meta has them
pub typed : (s : State) → HasNone s → (r : Row) → Has (s.now.trees meta_tree) r → AreTyped r
typed s has r there =
    let keeps : Keeps Datatype our_tables s.now.trees = subst (λ d. Keeps Datatype d s.now.trees) has.schema_is (has.sound.obeys.rules Datatype) in
    row_typed r (two (all_has (λ row. obeys Datatype our_tables s.now.trees schema.meta row ≡ true) (s.now.trees meta_tree) r keeps.1.1.1.1.1.0 there)).0

-- ---- the times of one job

-- when the job of a row ended
abbrev pub ended : Value → Row → Value
ended clock row = if is_over_phase (column row 1) then clock else number 0

module _ (clock : Value) (row : Row) (params : Row) (job end : Value) (params_are : params ≡ bound_value job ∷ number 0 ∷ bound_value end ∷ []) (old new : State) (was : HasNone old) (ran : HasRun INSERT_TIMES.now params old new) where
  abbrev source : Row
  source = bound_value job ∷ Null ∷ number 0 ∷ bound_value end ∷ []

  abbrev stored : Row
  stored = with_rowid Chosen (old.now.trees times_tree) (cast_row schema.times source)

  -- the text puts a row in
  put_in : InsertsRow our_tables times_tree old new stored
  put_in =
      inserts our_tables unreferred schema.times.name times_tree schema.times.columns schema.times.key schema.times.primary schema.times.uniques schema.times.orders schema.times.checks 7 refl old new was.schema_is
      (bound_value job ∷ number 0 ∷ bound_value end ∷ []) _ ran.0 times_terms 4 source stored refl refl
      (runs_as INSERT_TIMES.now (bound_value job ∷ number 0 ∷ bound_value end ∷ []) old new our_tables was.schema_is _ insert_times.is insert_times.plain ran.0 (subst (λ p. Executes INSERT_TIMES.now p old new (Ok ran.0)) params_are ran.1))

  -- the row of the job's times, as it is meant
  stored_is : job ≡ column row 0 → end ≡ ended clock row → CanBeTimed clock (row ∷ []) → stored ≡ timed clock row
  stored_is of at can =
      let int = can.numbers.0 in
      let id : cast Integer (bound_value job) ≡ column row 0 = ap (λ v. cast Integer (bound_value v)) of ∙ ap (cast Integer) (bound_same (column row 0) (int_typed (column row 0) int)) ∙ typed_same (column row 0) (int_typed (column row 0) int) in
      let stays : is_of Integer (ended clock row) ≡ true = elim (cases_Bool (is_over_phase (column row 1))) [ inl on ↦ ap (λ b. is_of Integer (if b then clock else number 0)) on ∙ can.stored | inr off ↦ ap (λ b. is_of Integer (if b then clock else number 0)) off ] in
      let last : cast Integer (bound_value end) ≡ ended clock row = ap (λ v. cast Integer (bound_value v)) at ∙ ap (cast Integer) (bound_same (ended clock row) stays) ∙ typed_same (ended clock row) stays in
      let all : cast_row schema.times source ≡ timed clock row = same_row id (same_row cast_null (same_row (cast_int (pos 0)) (same_row last refl))) in
      ap (with_rowid Chosen (old.now.trees times_tree)) all ∙ with_int (column row 0) int
    where
      with_int : (v : Value) → IsTrue (is_int v) → with_rowid Chosen (old.now.trees times_tree) (v ∷ Null ∷ number 0 ∷ ended clock row ∷ []) ≡ v ∷ Null ∷ number 0 ∷ ended clock row ∷ []
      with_int v int = rw (int_is v int) refl

  -- so the job has its times
  pub job_timed : job ≡ column row 0 → end ≡ ended clock row → KeepsOthers our_tables times_tree old new × AreTimed clock (row ∷ []) old.now new.now
  job_timed of at = (put_in.keeps, record { only = only_by times_tree old new put_in.keeps; made = made })
    where
      made : CanBeTimed clock (row ∷ []) → HaveTimes clock (row ∷ []) (old.now.trees times_tree) (new.now.trees times_tree)
      made can =
          let is = stored_is of at can in
          let news = stored ∷ [] in
          record {
            rise = λ up. subst IsTable (sym put_in.rows) (IsTable-put_row stored (old.now.trees times_tree) up);
            each = λ x has. elim (put_has stored (old.now.trees times_tree) x (subst (λ rows. Has rows x) put_in.rows has)) [ inl new ↦ inr (inl (new ∙ is)) | inr there ↦ inl there ];
            all = λ x has. subst (λ rows. Has rows x) (sym put_in.rows) (elim has [
              | inl there ↦ put_all_keeps news (old.now.trees times_tree) x put_in.fresh there
              | inr new ↦ put_all_adds news (old.now.trees times_tree) x put_in.fresh (subst (λ r. Has (r ∷ []) x) (sym is) new)
            ]);
          }

-- ---- the times of several jobs

pub none_timed : (clock : Value) (db : Database) → ChangesOnly times_tree db db → AreTimed clock [] db db
none_timed clock db only = record { only = only; made = λ can. record { rise = λ up. up; each = λ x has. inl has; all = λ x has. elim has [ inl there ↦ there | inr none ↦ absurd none ] } }

-- times count no call
pub timed_leaves : (clock : Value) (rows : List Row) → Leaves HasNone (AreTimed clock rows) HasNone
timed_leaves clock rows = leaves_by times_tree (λ e. absurd (omega arith)) (λ a b timed. timed.only)

-- one job more
pub timed_more : (clock : Value) (rows : List Row) (row : Row) (a b c : Database) → AreTimed clock rows a b → AreTimed clock (row ∷ []) b c → AreTimed clock (rows ++ row ∷ []) a c
timed_more clock rows row a b c first next = record { only = only_then times_tree a b c first.only next.only; made = made }
  where
    made : CanBeTimed clock (rows ++ row ∷ []) → HaveTimes clock (rows ++ row ∷ []) (a.trees times_tree) (c.trees times_tree)
    made can =
        let one = first.made (record { numbers = all_front (λ r. IsTrue (is_int (column r 0))) rows (row ∷ []) can.numbers; stored = can.stored }) in
        let two = next.made (record { numbers = all_behind (λ r. IsTrue (is_int (column r 0))) rows (row ∷ []) can.numbers; stored = can.stored }) in
        let both = map-append (timed clock) rows (row ∷ []) in
        record {
          rise = λ up. two.rise (one.rise up);
          each = λ x has. elim (two.each x has) [
            | inl there ↦ elim (one.each x there) [ inl was ↦ inl was | inr new ↦ inr (subst (λ all. Has all x) (sym both) (has_left (map (timed clock) rows) (map (timed clock) (row ∷ [])) x new)) ]
            | inr new ↦ inr (subst (λ all. Has all x) (sym both) (has_right (map (timed clock) rows) (map (timed clock) (row ∷ [])) x new))
          ];
          all = λ x has. elim has [
            | inl was ↦ two.all x (inl (one.all x (inl was)))
            | inr new ↦ elim (has_either (map (timed clock) rows) (map (timed clock) (row ∷ [])) x (subst (λ all. Has all x) both new)) [ inl before ↦ two.all x (inl (one.all x (inr before))) | inr last ↦ two.all x (inr last) ]
          ];
        }

-- ---- the times of all jobs

-- what is shown of a job: its number and its phase
abbrev phase_of : Row → Row
phase_of job = column job 0 ∷ column job 18 ∷ []

-- the text shows each job
phases_shown : (old new : State) → old.now.schema ≡ our_tables → (rows : List Row) → Shown SELECT_PHASES.now [] old new rows → IsPermutation (map phase_of (filter (λ _. true) (old.now.trees jobs_tree))) rows
phases_shown old new has rows shown =
    answers jobs_tree [] phases_project [] old.now (old.now.trees jobs_tree) refl (codes "job" ∷ codes "phase" ∷ []) rows
    (reads_as SELECT_PHASES.now [] old new our_tables has _ select_phases.command select_phases.plain select_phases.unlisted rows shown)

-- the clock that is found is that of the one row of meta
clock_found : (old new : State) → HasNone old → (version : Value) → versions old.now ≡ version ∷ [] → (found : Row) → FindsRow SELECT_META.now [] old new (Some found) → (column found 0 ≡ clock_in old.now.trees) × (is_of Integer (column found 0) ≡ true)
clock_found old new was version one found h =
    let read = reads_as SELECT_META.now [] old new our_tables was.schema_is _ select_meta.command select_meta.plain select_meta.unlisted h.0 h.1 in
    let shown = answers meta_tree meta_tests meta_project [] old.now (old.now.trees meta_tree) refl [] h.0 read in
    let it = shown_one (passes meta_tree meta_tests meta_project []) (show meta_tree meta_tests meta_project []) (old.now.trees meta_tree) h.0 shown found h.2 in
    (ap (λ r. column r 0) it.3 ∙ only (old.now.trees meta_tree) one it.0 it.1, ap (λ r. is_of Integer (column r 0)) it.3 ∙ (typed old was it.0 it.1).clock)
  where
    only : (rows : List Row) → map (λ r. column r 5) rows ≡ version ∷ [] → (r : Row) → Has rows r → column r 2 ≡ get_or (map (λ row. column row 2) rows) 0 Null
    only [] is r has = absurd has
    only (x ∷ []) is r (inl same) = ap (λ row. column row 2) same
    only (x ∷ []) is r (inr none) = absurd none
    only (x ∷ y ∷ rows) is r has = absurd cc

module _ (jobs rows times : List Row) (clock : Value) (by : IsByRowid jobs) (shown : IsPermutation (map phase_of (filter (λ _. true) jobs)) rows) where
  abbrev made_of : Row → Row
  made_of job = time_made clock (column job 0) (column job 18)

  -- the rows shown begin with integers
  phases_numbered : AreNumbered rows
  phases_numbered = all_from (λ row. IsTrue (is_int (column row 0))) rows (λ row has.
      let it = shown_one (λ _. true) phase_of jobs rows shown row has in
      subst (λ r. IsTrue (is_int (column r 0))) (sym it.3) (all_has (λ r. IsTrue (is_int (rowid r))) jobs it.0 by.integers it.1))

  -- the rows that have come to none are those of all jobs
  all_made : HaveTimes clock rows [] times → times ≡ map made_of jobs
  all_made have = same_rows times (map made_of jobs) (have.rise tt) (ascending-map _ made_of jobs by.rise) to from
    where
      to : (x : Row) → Has times x → Has (map made_of jobs) x
      to x has = elim (have.each x has) [
        | inl none ↦ absurd none
        | inr new ↦
            (let row = has_mapped (timed clock) rows x new in
            let it = shown_one (λ _. true) phase_of jobs rows shown row.0 row.1 in
            subst (Has (map made_of jobs)) (sym (row.2 ∙ ap (timed clock) it.3)) (mapped_has made_of jobs it.0 it.1))
      ]

      from : (x : Row) → Has (map made_of jobs) x → Has times x
      from x has =
          let it = has_mapped made_of jobs x has in
          have.all x (inr (subst (Has (map (timed clock) rows)) (sym it.2) (mapped_has (timed clock) rows (phase_of it.0) (one_shown (λ _. true) phase_of jobs rows shown it.0 it.1 refl))))

-- so all jobs have their times
pub all_timed : (old mid last : State) (found : Row) (rows : List Row) (clock : Value) (after : Database) → HasNone old → FindsRow SELECT_META.now [] old mid (Some found) → mid.now ≡ old.now → clock ≡ column found 0 → Shown SELECT_PHASES.now [] mid last rows
    → AreTimed clock rows old.now after → HasTimes old.now after
all_timed old mid last found rows clock after was finds same is shown timed = record {
  only = timed.only;
  made = λ version one none by.
      let jobs = old.now.trees jobs_tree in
      let clocked = clock_found old mid was version one found finds in
      let each = subst (λ (d : Database). IsPermutation (map phase_of (filter (λ _. true) (d.trees jobs_tree))) rows) same (phases_shown mid last (ap (λ (d : Database). d.schema) same ∙ was.schema_is) rows shown) in
      let have = timed.made (record { numbers = phases_numbered jobs rows (after.trees times_tree) clock by each; stored = ap (is_of Integer) is ∙ clocked.1 }) in
      all_made jobs rows (after.trees times_tree) clock by each (subst (λ before. HaveTimes clock rows before (after.trees times_tree)) none have) ∙ ap (λ c. map (λ job. time_made c (column job 0) (column job 18)) jobs) (is ∙ clocked.0);
}
