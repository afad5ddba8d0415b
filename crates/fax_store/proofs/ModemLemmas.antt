-- What the texts on the modems that are down read and write.
use Rattle.std.proofs.Common.{◌≡◌, ℕ, List, [], ◌∷◌, ◌++◌, if◌then◌else◌, map, filter, drop, true, false, not, Option, Some, None, Err, is_some, refl, sym, ap, subst, ◌∙◌, bytes_eq, IsPermutation}
use Rattle.fax_store.proofs.FoundLemmas.{agree_at, none_passes, row_passes, with_id}
use Rattle.fax_store.proofs.CountLemmas.{turned}
use Rattle.std.proofs.Math.Bool.{and-true}
use Rattle.sqlite.specs.Cast.{cast_row}
use Rattle.sqlite.specs.Edit.{with_rowid, next_rowid}
use Rattle.sqlite.specs.Order.{Row, column}
use Rattle.sqlite.specs.Rowids.TheVariants.{Chosen}
use Rattle.sqlite.specs.State.{State, Executes}
use Rattle.sqlite.specs.declared.types.Value.TheVariants.{Null, Int, Text}
use Rattle.sqlite.proofs.Callers.{runs_as}
use Rattle.sqlite_rules.proofs.ListLemmas.{some_from}
use Rattle.sqlite_trees.proofs.ListLemmas.{IsPermutation-same}
use Rattle.fax_core.specs.Machine.{is_down, with_mark}
use Rattle.fax_core.specs.Ledger.{Ledger}
use Rattle.fax_core.specs.Queue.{Queue, open_grants}
use Rattle.fax_value.specs.Name.{IsName}
use Rattle.fax_schema.specs.declared.statements.TheConstants.{SELECT_DOWN, INSERT_DOWN, DELETE_DOWN}
use Rattle.fax_tables.specs.Row.{down_columns}
use Rattle.fax_schema.specs.Schema as schema
use Rattle.fax_schema.specs.Schema.{our_tables, down_tree}
use Rattle.fax_store.specs.Store.{FindsRow, HasRun}
use Rattle.fax_tables.specs.Tables.{TablesMean}
use Rattle.fax_layout.proofs.ColumnLemmas.{record_of, row_of, kept_columns, all_kept, none_holds}
use Rattle.fax_layout.proofs.CompareLemmas.{are_equal, equal_texts, same_row, cast_null}
use Rattle.fax_tables.proofs.FreeLemmas.{none_of}
use Rattle.fax_tables.proofs.RefusalLemmas.{no_rule_broken}
use Rattle.fax_tables.proofs.StandLemmas.{down_may}
use Rattle.fax_tables.specs.Fault.{fault_of}
use Rattle.fax_tables.specs.declared.fault.StoreFault.TheVariants.{Unavailable}
use Rattle.sqlite.specs.declared.error.Error.{Error}
use Rattle.fax_schema.proofs.ModemTexts.{down_tests, down_project, down_terms, select_down, insert_down, delete_down}
use Rattle.fax_layout.proofs.SelectLemmas.{passes}
use Rattle.fax_tables.proofs.TablesLemmas.{AreColumns, down, parts_of, means_of, calls_of, down_changed, one_more}
use Rattle.fax_schema.proofs.UpdateLemmas.{gone_project, deleted}
use Rattle.fax_layout.proofs.WriteLemmas.{KeepsOthers, inserts}
use Rattle.fax_schema.proofs.OursLemmas.{unreferred}

-- texts are equal either way round
module _ (modem : List ℕ) where
  abbrev pub params : Row
  params = Text modem ∷ []

  -- the rows that pass are those of the modem
  is_asked : (project : List _) (r : Row) (name : List ℕ) → drop 1 r ≡ down_columns name → passes down_tree down_tests project params r ≡ bytes_eq modem name
  is_asked project r name is = ap (passes down_tree down_tests project params) (with_id r _ _ is) ∙ and-true (are_equal (Text name) (Text modem)) ∙ equal_texts name modem ∙ turned name modem

  module _ (old new : State) (m : Queue) (k : Ledger) (means : TablesMean old.now m k) where
    -- the rows of the modems that are down are theirs, in any order
    same : IsPermutation (map down_columns m.down) (map (drop 1) (old.now.trees down_tree))
    same = IsPermutation-same (map down_columns m.down) (map (drop 1) (old.now.trees down_tree)) (sym means.down)

    -- a mark is found just where the modem is down
    pub mark_found : (found : Option Row) → FindsRow SELECT_DOWN.now params old new found → is_some found ≡ is_down modem m
    mark_found None h = sym (none_holds (bytes_eq modem) m.down (λ name has.
        let it = row_of down_columns (old.now.trees down_tree) m.down same name has in
        sym (is_asked down_project it.0 name it.2)
        ∙ none_passes SELECT_DOWN.now down_tree down_tests down_project _ select_down (λ trees. refl) params old new old.now means.schema refl h it.0 it.1))
    mark_found (Some row) h =
        let shown = row_passes SELECT_DOWN.now down_tree down_tests down_project _ select_down (λ trees. refl) params old new old.now means.schema refl row
        h in
        let it = record_of down_columns (old.now.trees down_tree) m.down same shown.0 shown.1 in
        sym (some_from (bytes_eq modem) m.down it.0 it.1 (sym (is_asked down_project shown.0 it.0 it.2) ∙ shown.2))

    -- the text that deletes a mark takes it off, and touches `down` alone
    pub mark_cleared : HasRun DELETE_DOWN.now params old new → TablesMean new.now (with_mark modem false m) k × KeepsOthers our_tables down_tree old new
    mark_cleared h =
        let ran = runs_as DELETE_DOWN.now params old new our_tables means.schema _ delete_down.is delete_down.plain h.0 h.1 in
        let done = deleted schema.down.name 6 schema.down.columns schema.down.key schema.down.primary schema.down.uniques schema.down.orders schema.down.checks 3 refl old new means.schema refl means.ordered.down
        down_tests gone_project params (λ r. refl) _ h.0 ran in
        let others = λ (name : List ℕ). not (bytes_eq modem name) in
        let now : AreColumns down_columns IsName (new.now.trees down_tree) (filter others m.down) = record {
          is = ap (map (drop 1)) done.1 ∙ kept_columns down_columns (λ r. not (passes down_tree down_tests gone_project params r)) others (λ r name is. ap not (is_asked gone_project r name is)) (old.now.trees down_tree) m.down means.down;
          ordered = done.2;
          lawful = all_kept IsName others m.down means.lawful.down;
        } in
        (means_of new.now (with_mark modem false m) k means.held (down_changed old new m (open_grants m) (calls_of m) k (parts_of old.now m k means) done.0 (filter others m.down) now), done.0)

    -- the text that inserts a mark that isn't there sets it, and touches `down` alone
    pub mark_added : IsName modem → is_down modem m ≡ false → HasRun INSERT_DOWN.now params old new → TablesMean new.now (with_mark modem true m) k × KeepsOthers our_tables down_tree old new
    mark_added lawful free h =
        let stored : cast_row schema.down (Null ∷ down_columns modem) ≡ Null ∷ down_columns modem = same_row cast_null (same_row refl refl) in
        let ran = runs_as INSERT_DOWN.now params old new our_tables means.schema _ insert_down.is insert_down.plain h.0 h.1 in
        let done = inserts our_tables unreferred schema.down.name 6 schema.down.columns schema.down.key schema.down.primary schema.down.uniques schema.down.orders schema.down.checks 3 refl old new means.schema params _ h.0
        down_terms 2 (Null ∷ down_columns modem) (Int (next_rowid (old.now.trees down_tree)) ∷ down_columns modem) refl (ap (with_rowid Chosen (old.now.trees down_tree)) stored) ran in
        let was = parts_of old.now m k means in
        let marked = m.down ++ modem ∷ [] in
        let after = down_changed old new m (open_grants m) (calls_of m) k was done.keeps marked (one_more down_columns IsName modem m.down (old.now.trees down_tree) (new.now.trees down_tree) done.rows lawful (was.says down)) in
        (subst (λ b. TablesMean new.now (record m { down = if b then m.down else marked }) k) (sym free) (means_of new.now (record m { down = marked }) k means.held after), done.keeps)

    -- a mark that is new breaks no rule
    pub mark_goes : is_down modem m ≡ false → (e : Error) → Executes INSERT_DOWN.now params old new (Err e) → fault_of e ≡ Unavailable
    mark_goes free =
        let rows = old.now.trees down_tree in
        let row = Int (next_rowid rows) ∷ down_columns modem in
        let stored : cast_row schema.down (Null ∷ down_columns modem) ≡ Null ∷ down_columns modem = same_row cast_null (same_row refl refl) in
        let may = down_may old.now means.schema means.sound modem means.ordered.down (λ r has.
        let it = record_of down_columns rows m.down same r has in
        agree_at 1 r row ∙ ap (λ r. are_equal (column r 1) (Text modem)) (with_id r _ _ it.2) ∙ equal_texts it.0 modem
        ∙ turned it.0 modem ∙ none_of (bytes_eq modem) m.down it.0 free it.1) in
        no_rule_broken schema.down.name 6 schema.down.columns schema.down.key schema.down.primary schema.down.uniques schema.down.orders schema.down.checks 3 refl old means.schema params down_terms 2 (Null ∷ down_columns modem) row refl
        (ap (with_rowid Chosen rows) stored) may INSERT_DOWN.now insert_down new

-- a mark that is there already
pub marked_already : (modem : List ℕ) (m : Queue) → is_down modem m ≡ true → with_mark modem true m ≡ m
marked_already modem m there = ap (λ b. record m { down = if b then m.down else m.down ++ modem ∷ [] }) there
