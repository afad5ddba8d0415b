-- What the texts on calls read and write.
use Rattle.std.proofs.Common.{◌≡◌, ◌≢◌, ◌⊎◌, inl, inr, ◌≤◌, ℕ, pos, List, [], ◌∷◌, ◌++◌, map, filter, drop, Bool, true, not, ◌&&◌, Option, Some, None, MatchOption, IsTrue, refl, sym, ap, ap₂, subst, ◌∙◌, arith, bytes_eq, IfOk, Result}
use Rattle.std.proofs.lemmas.Result.{IfOk-weaker}
use Rattle.fax_tables.specs.declared.fault.StoreFault.{StoreFault}
use Rattle.sqlite_trees.specs.Tree.{Trees}
use Rattle.fax_store.proofs.FoundLemmas.{key_of, none_keyed, none_passes, one_passes, row_passes, text_same, with_id}
use Rattle.std.proofs.lemmas.List.Elements.{filter_agree}
use Rattle.std.proofs.Math.Bool.{and-true}
use Rattle.std.proofs.lemmas.Bool.{both_ways, cond_both, false_from_ne_true, cases_eq}
use Rattle.std.proofs.lemmas.Slice.Eq.{bytes_eq-Decides}
use Rattle.sqlite.specs.Cast.{cast_row}
use Rattle.sqlite.specs.Edit.{with_rowid, next_rowid}
use Rattle.sqlite.specs.Order.{Row, column}
use Rattle.sqlite.specs.Rowids.TheVariants.{Chosen}
use Rattle.sqlite.specs.Effect.{Database, IsDatabase}
use Rattle.sqlite.specs.State.{State, IsUnchanged}
use Rattle.sqlite.specs.declared.types.Value.TheVariants.{Null, Int, Text}
use Rattle.sqlite.proofs.Callers.{runs_as}
use Rattle.sqlite_catalog.specs.Change.{KeepsRows}
use Rattle.sqlite_rules.specs.Lists.{Has}
use Rattle.sqlite_rules.proofs.ListLemmas.{has_either, has_filtered, has_kept, has_left, has_right}
use Rattle.sqlite_rules.proofs.ProbeLemmas.{mapped_has}
use Rattle.sqlite_trees.proofs.ListLemmas.{filter-map}
use Rattle.fax_schema.specs.declared.statements.TheConstants.{SELECT_OPEN, DELETE_CALLS, INSERT_CALLS}
use Rattle.fax_store.specs.Adopt.{HasNone}
use Rattle.fax_store.specs.Grant.{CallsStand, HasCalls, SetsCalls, with_count}
use Rattle.fax_store.specs.Store.{FindsRow, HasRun, StandsOrNone}
use Rattle.fax_tables.specs.Row.{HasNumber, number, call_columns}
use Rattle.fax_schema.specs.Schema as schema
use Rattle.fax_schema.specs.Schema.{core_list, core_tables, our_tables, calls_place, calls_tree}
use Rattle.fax_layout.proofs.RowsLemmas.{all_front, all_given, others_kept}
use Rattle.fax_tables.specs.Tables.{AreCalls, AreCounted}
use Rattle.fax_layout.specs.ByRowid.{IsByRowid}
use Rattle.fax_layout.proofs.AppendLemmas.{appended}
use Rattle.fax_layout.proofs.CompareLemmas.{are_equal, cast_int, cast_null, equal_texts, same_row}
use Rattle.fax_tables.proofs.CreateLemmas.{goes_on, inside_shown, kept_rows}
use Rattle.fax_layout.proofs.EditLemmas.{has_mapped}
use Rattle.fax_layout.proofs.SelectLemmas.{passes, show}
use Rattle.fax_tables.proofs.TablesLemmas.{by_rowid_put, counted_as}
use Rattle.sqlite.specs.Program.{overlay}
use Rattle.fax_schema.proofs.StatementForms.{Selects}
use Rattle.fax_schema.proofs.UpdateLemmas.{gone_project, deleted}
use Rattle.fax_layout.proofs.WriteLemmas.{KeepsOthers, inserts}
use Rattle.fax_schema.proofs.OursLemmas.{unreferred}
use Rattle.fax_schema.proofs.GrantTexts.{call_tests, call_project, call_terms, select_open, delete_calls, insert_calls}

-- ---- counts

module _ (dial : List ℕ) (count : List ℕ → ℕ) where
  -- the columns are of another number
  abbrev pub others : Row → Bool
  others columns = not (are_equal (column columns 0) (Text dial) && true)

  -- the columns of a number are others where it isn't this one
  is_other : (d : List ℕ) (n : ℕ) → others (call_columns d n) ≡ not (bytes_eq d dial)
  is_other d n = ap not (and-true (are_equal (Text d) (Text dial)) ∙ equal_texts d dial)

  -- without the row of the number
  pub without : (columns : List Row) → AreCounted count columns → AreCounted (with_count dial 0 count) (filter others columns)
  without columns was = record { each = each; all = all }
    where
      each : (row : Row) → Has (filter others columns) row → (d : List ℕ) × (row ≡ call_columns d (with_count dial 0 count d)) × (1 ≤ with_count dial 0 count d)
      each row has =
          let kept = has_filtered others columns row has in
          let it = was.each row kept.0 in
          let off = false_from_ne_true (bytes_eq it.0 dial) (λ on. both_ways _ (ap others it.1 ∙ is_other it.0 (count it.0) ∙ ap not on) kept.1) in
          (it.0, rw off it.1, rw off it.2)

      all : (d : List ℕ) → 1 ≤ with_count dial 0 count d → Has (filter others columns) (call_columns d (with_count dial 0 count d))
      all d = cond_both (bytes_eq d dial) 0 (count d) (λ n. 1 ≤ n → Has (filter others columns) (call_columns d n))
          (λ on some. absurd (omega (arith, some))) (λ off some. has_kept others columns (call_columns d (count d)) (was.all d some)
          (is_other d (count d) ∙ ap not off))

  -- so is what is left where the rows of the number are deleted
  pub left_without : (pass : Row → Bool) → ((r : Row) → pass r ≡ (are_equal (column (drop 1 r) 0) (Text dial) && true)) → (rows after : List Row)
      → after ≡ filter (λ r. not (pass r)) rows → AreCounted count (map (drop 1) rows) → AreCounted (with_count dial 0 count) (map (drop 1) after)
  left_without pass is rows after left was =
      let kept = ap (map (drop 1)) (left ∙ filter_agree (λ r. not (pass r)) (λ r. others (drop 1 r)) (λ r. ap not (is r)) rows)
      ∙ sym (filter-map others (drop 1) rows) in
      subst (AreCounted (with_count dial 0 count)) (sym kept) (without (map (drop 1) rows) was)

  -- and with another
  pub beside : (n : ℕ) (columns : List Row) → 1 ≤ n → AreCounted (with_count dial 0 count) columns → AreCounted (with_count dial n count) (columns ++ call_columns dial n ∷ [])
  beside n columns some was = record { each = λ row has. by row (has_either columns (call_columns dial n ∷ []) row has); all = all }
    where
      itself : bytes_eq dial dial ≡ true
      itself = (bytes_eq-Decides dial dial).1 refl

      by : (row : Row) → Has columns row ⊎ Has (call_columns dial n ∷ []) row → (d : List ℕ) × (row ≡ call_columns d (with_count dial n count d)) × (1 ≤ with_count dial n count d)
      by row (inl has) =
          let it = was.each row has in
          let off = false_from_ne_true (bytes_eq it.0 dial) (λ on. absurd (let none = rw on at it.2 in omega (arith, none))) in
          (it.0, rw off (rw off at it.1), rw off (rw off at it.2))
      by row (inr (inl is)) = (dial, rw itself is, rw itself some)
      by row (inr (inr none)) = absurd none

      all : (d : List ℕ) → 1 ≤ with_count dial n count d → Has (columns ++ call_columns dial n ∷ []) (call_columns d (with_count dial n count d))
      all d = cond_both (bytes_eq d dial) n (count d) (λ c. 1 ≤ c → Has (columns ++ call_columns dial n ∷ []) (call_columns d c))
          (λ on _. has_right columns (call_columns dial n ∷ []) (call_columns d n) (inl (ap (λ text. call_columns text n) ((bytes_eq-Decides d dial).0 on))))
          (λ off more. has_left columns (call_columns dial n ∷ []) (call_columns d (count d)) ((rw off at (was.all d)) more))

-- ---- reading

module _ (dial : List ℕ) where
  abbrev pub params : Row
  params = Text dial ∷ []

  -- a row passes where its first column is the number asked for
  pub is_asked : (project : List _) (r : Row) → passes calls_tree call_tests project params r ≡ (are_equal (column (drop 1 r) 0) (Text dial) && true)
  is_asked project [] = refl
  is_asked project (i ∷ r) = refl

  -- the row of a number passes where that is the one asked for
  of_number : (project : List _) (r : Row) (d : List ℕ) (n : ℕ) → drop 1 r ≡ call_columns d n → passes calls_tree call_tests project params r ≡ bytes_eq d dial
  of_number project r d n is = is_asked project r ∙ ap (λ columns. are_equal (column columns 0) (Text dial) && true) is ∙ and-true (are_equal (Text d) (Text dial)) ∙ equal_texts d dial

  -- what is found in such a table is the count, or nothing where that is 0
  pub counted_found : (tree : ℕ) (sql : List ℕ) (names : List (List ℕ)) → Selects sql tree call_tests call_project names → ((trees : Trees) → overlay trees [] tree ≡ trees tree) → (old new : State) (count : List ℕ → ℕ) → old.now.schema ≡ our_tables
      → AreCounted count (map (drop 1) (old.now.trees tree)) → (found : Option Row) → FindsRow sql params old new found → MatchOption found (count dial ≡ 0) (λ row. row ≡ number (count dial) ∷ [])
  counted_found tree sql names selects plain old new count has counted None h = elim (cases_eq (count dial) 0) [
    | inl none ↦ none
    | inr some ↦
        (let there = has_mapped (drop 1) (old.now.trees tree) (call_columns dial (count dial)) (counted.all dial (omega (arith, some))) in
        absurd (both_ways _ (none_passes sql tree call_tests call_project names selects plain params old new old.now has refl h there.0 there.1)
        (of_number call_project there.0 dial (count dial) (sym there.2) ∙ (bytes_eq-Decides dial dial).1 refl)))
  ]
  counted_found tree sql names selects plain old new count has counted (Some row) h =
      let one = row_passes sql tree call_tests call_project names selects plain params old new old.now has refl row h in
      let it = counted.each (drop 1 one.0) (mapped_has (drop 1) (old.now.trees tree) one.0 one.1) in
      let same : it.0 ≡ dial = (bytes_eq-Decides it.0 dial).0 (sym (of_number call_project one.0 it.0 (count it.0) it.1) ∙ one.2) in
      one.3 ∙ ap (show calls_tree call_tests call_project params) (with_id one.0 _ _ it.1) ∙ ap (λ d. number (count d) ∷ []) same

  -- what the text on calls finds is how many are open to the number, or nothing where none is
  pub calls_found : (old new : State) (count : List ℕ → ℕ) → old.now.schema ≡ our_tables → AreCounted count (map (drop 1) (old.now.trees calls_tree)) → (found : Option Row) → FindsRow SELECT_OPEN.now params old new found
      → MatchOption found (count dial ≡ 0) (λ row. row ≡ number (count dial) ∷ [])
  calls_found old new = counted_found calls_tree SELECT_OPEN.now _ select_open (λ trees. refl) old new

  -- whatever the rows say
  module _ (tree : ℕ) (sql : List ℕ) (names : List (List ℕ)) (selects : Selects sql tree call_tests call_project names) (plain : (trees : Trees) → overlay trees [] tree ≡ trees tree)
      (old new : State) (db : Database) (ours : db.schema ≡ our_tables) (now : old.now ≡ db) where
    -- the number that is read of the row that is found stands in a row beside the text
    one_stands : (row : Row) (n : ℕ) → FindsRow sql params old new (Some row) → HasNumber row 0 n → StandsOrNone db tree dial n
    one_stands row n found has =
        let it = one_passes sql tree call_tests call_project names selects plain params old new db ours now row (number n ∷ []) found (has, tt) in
        let equal = key_of sql tree call_tests call_project names selects plain params old new db ours now 1 (Text dial) (λ r. refl) it.0 it.2 in
        inl (record { row = it.0; has = it.1; is = ap₂ ◌∷◌ (text_same (column it.0 1) dial equal) it.3 })

    -- where none is found no row has the text, and 0 stands for it
    pub none_stands : FindsRow sql params old new None → StandsOrNone db tree dial 0
    none_stands none =
        inr (
          none_keyed sql tree call_tests call_project names selects plain params old new db ours now 1 (Text dial) (λ r. refl) (equal_texts dial dial ∙ (bytes_eq-Decides dial dial).1 refl) none,
          refl,
        )

    -- so does what is read in either case
    pub read_stands : {A : Type 0} (of : A → ℕ) (row : Row) (result : Result A StoreFault) → IfOk result (λ a. HasNumber row 0 (of a)) → FindsRow sql params old new (Some row) → IfOk result (λ a. StandsOrNone db tree dial (of a))
    read_stands of row result has found = IfOk-weaker result _ _ (λ a has. one_stands row (of a) found has) has

  -- the counts of calls stand so
  module _ (old new : State) (db : Database) (ours : db.schema ≡ our_tables) (now : old.now ≡ db) where
    pub calls_stand : {A : Type 0} (of : A → ℕ) (row : Row) (result : Result A StoreFault) → IfOk result (λ a. HasNumber row 0 (of a)) → FindsRow SELECT_OPEN.now params old new (Some row) → IfOk result (λ a. CallsStand db dial (of a))
    calls_stand = read_stands calls_tree SELECT_OPEN.now _ select_open (λ trees. refl) old new db ours now

    pub no_calls_stand : FindsRow SELECT_OPEN.now params old new None → CallsStand db dial 0
    no_calls_stand = none_stands calls_tree SELECT_OPEN.now _ select_open (λ trees. refl) old new db ours now

-- ---- writing

-- where the other tables stay and `calls` has these counts, the counts are set
as_set : (old new : State) (count : List ℕ → ℕ) → IsTrue old.in_transaction → KeepsOthers our_tables calls_tree old new → AreCalls count (new.now.trees calls_tree) → SetsCalls old new count
as_set old new count inside keeps now = record {
  goes_on = inside_shown old new _ inside keeps.shown;
  schema_is = keeps.schema_is;
  sound = keeps.sound;
  rows = others_kept core_list calls_tree old.now.trees new.now.trees refl
      (all_front (λ t. t.tree ≢ calls_tree → new.now.trees t.tree ≡ old.now.trees t.tree) core_list (schema.calls ∷ []) keeps.others);
  calls = now;
}

-- no call is counted yet
pub no_calls : (s : State) → HasNone s → HasCalls s (λ _. 0)
no_calls s has = record {
  is_open = has.is_open;
  inside = has.inside;
  tables = has.schema_is;
  sound = has.sound;
  calls = record {
    is = record { each = λ row there. absurd (subst (λ rows. Has (map (drop 1) rows) row) has.none there); all = λ dial some. absurd (omega (arith, some)) };
    ordered = subst IsByRowid (sym has.none) (record { rise = tt; integers = tt });
  };
}

-- none is set yet by a call that only reads
pub set_still : (a b : State) (count : List ℕ → ℕ) → HasCalls a count → IsUnchanged a b → SetsCalls a b count
set_still a b count has same = record {
  goes_on = record { was_open = has.is_open; is_open = same.0.is_open; now_is = refl; committed_is = same.0.committed_is; mode = same.0.mode ∙ has.inside };
  schema_is = ap (λ (d : Database). d.schema) same.0.now_is ∙ has.tables;
  sound = subst IsDatabase (sym same.0.now_is) has.sound;
  rows = subst (λ (d : Database). KeepsRows core_tables.tables a.now.trees d.trees) (sym same.0.now_is) (all_given (λ t. a.now.trees t.tree ≡ a.now.trees t.tree) core_list (λ t. refl));
  calls = subst (λ (d : Database). AreCalls count (d.trees calls_tree)) (sym same.0.now_is) has.calls;
}

-- one after the other
pub set_then : (a b c : State) (count other : List ℕ → ℕ) → SetsCalls a b count → SetsCalls b c other → SetsCalls a c other
set_then a b c count other first next = record {
  goes_on = goes_on a b c first.goes_on next.goes_on;
  schema_is = next.schema_is;
  sound = next.sound;
  rows = kept_rows core_tables.tables a.now.trees b.now.trees c.now.trees first.rows next.rows;
  calls = next.calls;
}

-- the same counts, number by number
pub sets_as : (a b : State) (count other : List ℕ → ℕ) → ((dial : List ℕ) → count dial ≡ other dial) → SetsCalls a b count → SetsCalls a b other
sets_as a b count other same set = record {
  goes_on = set.goes_on;
  schema_is = set.schema_is;
  sound = set.sound;
  rows = set.rows;
  calls = record { is = counted_as count other (map (drop 1) (b.now.trees calls_tree)) same set.calls.is; ordered = set.calls.ordered };
}

-- counts that are set are there
pub has_calls : (a b : State) (count : List ℕ → ℕ) → SetsCalls a b count → HasCalls b count
has_calls a b count set = record { is_open = set.goes_on.is_open; inside = set.goes_on.mode; tables = set.schema_is; sound = set.sound; calls = set.calls }

module _ (dial : List ℕ) (count : List ℕ → ℕ) where
  -- the text that takes a number's row off sets its count to 0
  pub calls_gone : (old new : State) → HasCalls old count → HasRun DELETE_CALLS.now (params dial) old new → SetsCalls old new (with_count dial 0 count)
  calls_gone old new was h =
      let rows = old.now.trees calls_tree in
      let pass = passes calls_tree call_tests gone_project (params dial) in
      let ran = runs_as DELETE_CALLS.now (params dial) old new our_tables was.tables _ delete_calls.is delete_calls.plain h.0 h.1 in
      let done = deleted schema.calls.name calls_tree schema.calls.columns schema.calls.key schema.calls.primary schema.calls.uniques schema.calls.orders schema.calls.checks calls_place refl old new was.tables refl was.calls.ordered
      call_tests gone_project (params dial) (λ r. refl) _ h.0 ran in
      as_set old new (with_count dial 0 count) was.inside done.0
      (record { is = left_without dial count pass (is_asked dial gone_project) rows (new.now.trees calls_tree) done.1 was.calls.is; ordered = done.2 })

  -- the text that adds a number's row, where it has none, sets its count
  pub calls_put : (n : ℕ) (old new : State) → 1 ≤ n → HasCalls old (with_count dial 0 count) → HasRun INSERT_CALLS.now (Text dial ∷ number n ∷ []) old new → SetsCalls old new (with_count dial n count)
  calls_put n old new some was h =
      let rows = old.now.trees calls_tree in
      let row = Int (next_rowid rows) ∷ call_columns dial n in
      let stored : cast_row schema.calls (Null ∷ call_columns dial n) ≡ Null ∷ call_columns dial n = same_row cast_null (same_row refl (same_row (cast_int (pos n)) refl)) in
      let ran = runs_as INSERT_CALLS.now (Text dial ∷ number n ∷ []) old new our_tables was.tables _ insert_calls.is insert_calls.plain h.0 h.1 in
      let done = inserts our_tables unreferred schema.calls.name calls_tree schema.calls.columns schema.calls.key schema.calls.primary schema.calls.uniques schema.calls.orders schema.calls.checks calls_place refl old new was.tables (Text dial ∷ number n ∷ []) _ h.0
      call_terms 3 (Null ∷ call_columns dial n) row refl (ap (with_rowid Chosen rows) stored) ran in
      let by = was.calls.ordered in
      as_set old new (with_count dial n count) was.inside done.keeps (record {
        is = subst (AreCounted (with_count dial n count)) (sym (ap (map (drop 1)) done.rows ∙ appended rows (call_columns dial n) by.integers by.rise)) (beside dial count n (map (drop 1) rows) some was.calls.is);
        ordered = subst IsByRowid (sym done.rows) (by_rowid_put row rows refl by);
      })
