-- What the texts on the times of jobs write.
use Rattle.std.proofs.Common.{◌≡◌, ◌≤◌, ◌<◌, ◌^◌, ◌==◌, Some, ℕ, pos, false, [], ◌∷◌, map, None, Err, refl, sym, ap, ap₂, subst, ◌∙◌, drop}
use Rattle.std.proofs.lemmas.Bool.{cond_both, eq-eqb}
use Rattle.sqlite.specs.Cast.{cast_row}
use Rattle.sqlite.specs.Edit.{is_taken, with_rowid}
use Rattle.sqlite.specs.Order.{Row}
use Rattle.sqlite.specs.Rowids.TheVariants.{Chosen}
use Rattle.sqlite.specs.State.{State, Executes}
use Rattle.sqlite.specs.Tree.{put_row}
use Rattle.sqlite.specs.declared.error.Error.{Error}
use Rattle.sqlite.proofs.Callers.{reads_as, runs_as}
use Rattle.fax_value.specs.Limits.{last_moment}
use Rattle.sqlite.specs.Effect.{Database}
use Rattle.sqlite_trees.specs.declared.store.Store.{Ghosts}
use Rattle.fax_core.proofs.PlaceLemmas.{number_found}
use Rattle.fax_core.specs.Ledger.{Ledger}
use Rattle.fax_core.specs.Queue.{Queue, open_grants, times_numbered}
use Rattle.fax_core.specs.Stamp.{ended_where}
use Rattle.fax_core.specs.declared.times.Times.{Times}
use Rattle.fax_layout.specs.ByRowid.{IsByRowid}
use Rattle.fax_schema.specs.Schema as schema
use Rattle.fax_schema.specs.Schema.{our_tables, times_tree}
use Rattle.fax_schema.specs.declared.statements.TheConstants.{END_TIMES, INSERT_TIMES, SELECT_TIMES}
use Rattle.fax_layout.proofs.CompareLemmas.{same_row, cast_int, cast_null, number_same}
use Rattle.fax_layout.proofs.SelectLemmas.{answers, passes, show}
use Rattle.fax_schema.proofs.StatementTexts.{job_tests}
use Rattle.fax_schema.proofs.TimesTexts.{end_project, end_times, insert_times, select_times, times_names, times_project, times_terms}
use Rattle.fax_schema.proofs.UpdateLemmas.{updated}
use Rattle.fax_layout.proofs.WriteLemmas.{KeepsOthers, inserts}
use Rattle.fax_schema.proofs.OursLemmas.{unreferred}
use Rattle.fax_store.proofs.NumberedLemmas.{all_mapped}
use Rattle.fax_store.specs.Calls.{shown}
use Rattle.fax_store.specs.Store.{FindsRow, HasRun}
use Rattle.fax_store.specs.Times.{HasTimesRow, TimesStand, is_among, with_ends}
use Rattle.fax_store.specs.declared.store.Store.{Store}
use Rattle.fax_store.proofs.FoundLemmas.{Keys, none_keyed, one_numbered}
use Rattle.fax_tables.specs.Fault.{fault_of}
use Rattle.fax_tables.specs.Place.{placed}
use Rattle.fax_tables.specs.Row.{HasValues, number, times_row, times_shown}
use Rattle.fax_tables.specs.Tables.{AreLawfulTimes, TablesMean}
use Rattle.fax_tables.specs.declared.fault.StoreFault.TheVariants.{Unavailable}
use Rattle.fax_tables.proofs.FreeLemmas.{free_row}
use Rattle.fax_tables.proofs.KeyLemmas.{all_placed, asked_is, found_holds, free_of, not_asked, numbered_found, row_placed}
use Rattle.fax_tables.proofs.RefusalLemmas.{no_rule_broken}
use Rattle.fax_tables.proofs.StandLemmas.{times_may}
use Rattle.fax_tables.proofs.TablesLemmas.{AreRecords, by_rowid_put, calls_of, means_of, parts_of, times_changed}

-- ---- the rows

-- the row of times is stored as it is
stored_times : (x : Times) → cast_row schema.times (times_row x) ≡ times_row x
stored_times x =
    let n = λ (a : ℕ). cast_int (pos a) in
    same_row (n _) (same_row cast_null (same_row (n _) (same_row (n _) refl)))

-- so they are where the moments are these
pub params_of : (x : Times) (submitted ended : ℕ) → submitted ≡ x.submitted → ended ≡ x.ended → number x.job ∷ number submitted ∷ number ended ∷ [] ≡ times_shown x
params_of x submitted ended first last = ap₂ (λ (a b : ℕ). number x.job ∷ number a ∷ number b ∷ []) first last

module _ (old new : State) (m : Queue) (k : Ledger) (means : TablesMean old.now m k) where
  -- the text that adds lawful times puts them into the queue, and touches times alone
  pub times_put : (x : Times) → AreLawfulTimes x → HasRun INSERT_TIMES.now (times_shown x) old new
      → TablesMean new.now (record m { times = placed (λ y. y.job) x m.times }) k × KeepsOthers our_tables times_tree old new
  times_put x lawful h =
      let ran = runs_as INSERT_TIMES.now (times_shown x) old new our_tables means.schema _ insert_times.is insert_times.plain h.0 h.1 in
      let done = inserts our_tables unreferred schema.times.name 13 schema.times.columns schema.times.key schema.times.primary schema.times.uniques schema.times.orders schema.times.checks 7 refl old new means.schema (times_shown x) _ h.0
      times_terms 4 (times_row x) (times_row x) refl (ap (with_rowid Chosen (old.now.trees times_tree)) (stored_times x)) ran in
      let free : is_taken (map times_row m.times) (times_row x) ≡ false =
      subst (λ rows. is_taken rows (times_row x) ≡ false) means.times (free_of (old.now.trees times_tree) (times_row x) done.fresh) in
      let now : AreRecords times_row AreLawfulTimes (new.now.trees times_tree) (placed (λ (y : Times). y.job) x m.times) = record {
        is = done.rows ∙ ap (put_row (times_row x)) means.times ∙ row_placed times_row (λ (y : Times). y.job) (λ y. refl) x m.times free;
        ordered = subst IsByRowid (sym done.rows) (by_rowid_put (times_row x) (old.now.trees times_tree) refl means.ordered.times);
        lawful = all_placed times_row (λ (y : Times). y.job) (λ y. refl) AreLawfulTimes x m.times lawful means.lawful.times;
      } in (
        means_of new.now (record m { times = placed (λ (y : Times). y.job) x m.times }) k means.held
            (times_changed old new m (open_grants m) (calls_of m) k (parts_of old.now m k means) done.keeps (placed (λ (y : Times). y.job) x m.times) now),
        done.keeps,
      )

  -- those of a number that has none break no rule
  pub times_go : (x : Times) → times_numbered x.job m ≡ None → (e : Error) → Executes INSERT_TIMES.now (times_shown x) old new (Err e) → fault_of e ≡ Unavailable
  times_go x free =
      let unused : is_taken (map times_row m.times) (times_row x) ≡ false = free_row times_row (λ (y : Times). y.job) (λ y. refl) x m.times free in
      let may = times_may old.now means.schema means.sound x (subst (λ rows. is_taken rows (times_row x) ≡ false) (sym means.times) unused) in
      no_rule_broken schema.times.name 13 schema.times.columns schema.times.key schema.times.primary schema.times.uniques schema.times.orders schema.times.checks 7 refl old means.schema (times_shown x) times_terms 4 (times_row x) (times_row x) refl
      (ap (with_rowid Chosen (old.now.trees times_tree)) (stored_times x)) may INSERT_TIMES.now insert_times new

module _ (n t : ℕ) where
  abbrev pub end_params : Row
  end_params = number n ∷ number t ∷ []

  abbrev put : Times → Times
  put = ended_where t (is_among (n ∷ []))

  -- times keep their job
  same_number : (x : Times) → (put x).job ≡ x.job
  same_number x = cond_both (is_among (n ∷ []) x.job) (record x { ended = t }) x (λ y. y.job ≡ x.job) (λ _. refl) (λ _. refl)

  put_lawful : t ≤ last_moment → (x : Times) → AreLawfulTimes x → AreLawfulTimes (put x)
  put_lawful low x was = cond_both (is_among (n ∷ []) x.job) (record x { ended = t }) x AreLawfulTimes (λ _. record { submitted = was.submitted; ended = low }) (λ _. was)

  -- the text that ends a job sets its end, and touches times alone
  pub times_ended : (old new : State) (m : Queue) (k : Ledger) → TablesMean old.now m k → t ≤ last_moment → HasRun END_TIMES.now end_params old new
      → TablesMean new.now (with_ends t (is_among (n ∷ [])) m) k × KeepsOthers our_tables times_tree old new
  times_ended old new m k means low h =
      let asked = passes times_tree job_tests end_project end_params in
      let is_number = asked_is times_row (λ (y : Times). y.job) (λ y. refl) n asked (λ r. refl) in
      let is_other = not_asked times_row (λ (y : Times). y.job) (λ y. refl) n asked (λ r. refl) in
      let done = updated schema.times.name 13 schema.times.columns schema.times.key schema.times.primary schema.times.uniques schema.times.orders schema.times.checks 7 refl old new means.schema refl means.ordered.times
      job_tests end_project end_params (λ r. refl) _ h.0 times_row put m.times means.times (λ x. ap number (same_number x))
      (λ x has on. stored_times (record x { ended = t }) ∙ rw (eq-eqb x.job n (is_number x on)) refl)
      (λ x has off. rw (is_other x off) refl)
      (runs_as END_TIMES.now end_params old new our_tables means.schema _ end_times.is end_times.plain h.0 h.1) in
      let now : AreRecords times_row AreLawfulTimes (new.now.trees times_tree) (map put m.times) = record {
        is = done.1;
        ordered = done.2;
        lawful = all_mapped AreLawfulTimes put m.times (λ x has. put_lawful low x) means.lawful.times;
      } in (
        means_of new.now (with_ends t (is_among (n ∷ [])) m) k means.held
            (times_changed old new m (open_grants m) (calls_of m) k (parts_of old.now m k means) done.0 (map put m.times) now),
        done.0,
      )

-- ---- looked up

module _ (n : ℕ) where
  abbrev pub asked : Row
  asked = number n ∷ []

  module _ {S : Type 0} (g : Ghosts S) (low : n < 2 ^ 32) (old new : Store S) where
    -- times are looked up by their number
    pub times_keys : Keys g old new SELECT_TIMES.now asked (times_numbered n) times_shown (λ x. AreLawfulTimes x × (x.job < 2 ^ 32)) (λ db. HasTimesRow db n)
    times_keys = record {
      found = λ m k means found h.
          numbered_found times_row (λ (x : Times). x.job) (λ x. refl) n (passes times_tree job_tests times_project asked) (λ r. refl) m.times
          ((shown g old).now.trees times_tree) h.0 means.times means.ordered.times.rise (show times_tree job_tests times_project asked)
          (answers times_tree job_tests times_project asked (shown g old).now ((shown g old).now.trees times_tree) refl [] h.0 (reads_as SELECT_TIMES.now asked (shown g old) (shown g new) our_tables means.schema _ select_times.command select_times.plain select_times.unlisted h.0 h.1))
          found h.2;
      lawful = λ m k means x is. (
        found_holds AreLawfulTimes (λ (y : Times). y.job == n) m.times x means.lawful.times is,
        subst (λ (i : ℕ). i < 2 ^ 32) (sym (number_found (λ (y : Times). y.job) n m.times x is)) low,
      );
      none = λ db ours now.
          none_keyed SELECT_TIMES.now times_tree job_tests times_project times_names select_times (λ trees. refl) asked (shown g old) (shown g new) db ours now
          0 (number n) (λ r. refl) (number_same n);
    }

  module _ (old new : State) (db : Database) (ours : db.schema ≡ our_tables) (now : old.now ≡ db) where
    -- the times that are read of the row that is found stand in a row
    pub times_stand : (row : Row) (x : Times) → FindsRow SELECT_TIMES.now asked old new (Some row) → HasValues row 0 (times_shown x) → TimesStand db n x
    times_stand row x =
        one_numbered SELECT_TIMES.now times_tree job_tests times_project times_names select_times (λ trees. refl) asked old new db ours now
        n (2 ∷ 3 ∷ []) (λ r. refl) row x.job (drop 1 (times_shown x)) (λ r. refl)
