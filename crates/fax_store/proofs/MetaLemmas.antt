-- What the texts on the row of the clock and the next numbers read and write.
use Rattle.std.proofs.Common.{◌≡◌, ℕ, pos, [], ◌∷◌, true, Some, Option, refl, sym, subst}
use Rattle.std.proofs.lemmas.Bool.{both_ways}
use Rattle.sqlite.specs.Effect.{Database}
use Rattle.sqlite.specs.Order.{Row}
use Rattle.sqlite.specs.Cast.{cast_row}
use Rattle.sqlite.specs.State.{State}
use Rattle.sqlite.proofs.Callers.{runs_as, reads_as}
use Rattle.fax_schema.specs.declared.statements.TheConstants.{SELECT_META, UPDATE_META}
use Rattle.fax_schema.specs.Schema as schema
use Rattle.fax_schema.specs.Schema.{our_tables, meta_tree}
use Rattle.fax_core.specs.Ledger.{Ledger}
use Rattle.fax_core.specs.Queue.{Queue, open_grants}
use Rattle.fax_tables.specs.Row.{HasValues, number, meta_row}
use Rattle.fax_store.specs.Meta.{MetaStands}
use Rattle.fax_tables.specs.Meta.{meta_shown, numbers_shown}
use Rattle.fax_tables.specs.declared.meta.Meta.{Meta}
use Rattle.fax_tables.specs.Tables.{TablesMean, IsLawfulMeta}
use Rattle.fax_layout.specs.ByRowid.{IsByRowid}
use Rattle.fax_store.specs.Store.{FindsRow, HasRun}
use Rattle.fax_layout.proofs.CompareLemmas.{number_same, same_row, cast_int, cast_null}
use Rattle.fax_layout.proofs.SelectLemmas.{passes, answers, only_row, only_found}
use Rattle.fax_store.proofs.FoundLemmas.{one_passes}
use Rattle.fax_schema.proofs.StatementTexts.{meta_tests, meta_project, select_meta, update_meta, update_project}
use Rattle.fax_tables.proofs.TablesLemmas.{parts_of, means_of, calls_of, meta_changed}
use Rattle.fax_schema.proofs.UpdateLemmas.{updated}
use Rattle.fax_layout.proofs.WriteLemmas.{KeepsOthers}

-- the one row of meta passes the tests of its texts
meta_passes : (m : Queue) (params : Row) → passes meta_tree meta_tests [] params (meta_row m) ≡ true
meta_passes m params = rw number_same refl

-- the row of meta is stored as it is
stored : (m : Queue) → cast_row schema.meta (meta_row m) ≡ meta_row m
stored m = same_row (cast_int (pos 1)) (same_row cast_null (same_row (cast_int _) (same_row (cast_int _) (same_row (cast_int _) (same_row (cast_int (pos 3)) refl)))))

-- the one row of a table stands by its rowid
alone : (m : Queue) → IsByRowid (meta_row m ∷ [])
alone m = record { rise = (tt, tt); integers = (refl, tt) }

-- whatever the rows say, what is read of the row that is found stands in a row
pub meta_stands : (old new : State) (db : Database) → db.schema ≡ our_tables → old.now ≡ db → (row : Row) (meta : Meta)
    → FindsRow SELECT_META.now [] old new (Some row) → HasValues row 0 (numbers_shown meta) → MetaStands db meta
meta_stands old new db ours now row meta h has =
    let it = one_passes SELECT_META.now meta_tree meta_tests meta_project _ select_meta (λ trees. refl) [] old new db ours now row (numbers_shown meta) h has in
    record { row = it.0; has = it.1; is = it.3 }

module _ (old new : State) (m : Queue) (k : Ledger) (means : TablesMean old.now m k) where
  -- what the text on meta finds is its one row
  pub meta_found : (found : Option Row) → FindsRow SELECT_META.now [] old new found → found ≡ Some (meta_shown m)
  meta_found found h =
      let read = reads_as SELECT_META.now [] old new our_tables means.schema _ select_meta.command select_meta.plain select_meta.unlisted h.0 h.1 in
      let same = answers meta_tree meta_tests meta_project [] old.now (meta_row m ∷ []) means.meta [] h.0 read in
      only_found (meta_shown m) h.0 found (only_row meta_tree meta_tests meta_project [] (meta_row m) h.0 (meta_passes m []) same) h.2

  module _ (clock next_job next_grant : ℕ) where
    abbrev pub params : Row
    params = number clock ∷ number next_job ∷ number next_grant ∷ []

    abbrev pub put : Queue → Queue
    put it = record it { clock = clock; next_job = next_job; next_grant = next_grant }

    -- the text writes the clock and the next numbers, and touches meta alone: the tables mean the queue with these
    pub meta_written : IsLawfulMeta (put m) → HasRun UPDATE_META.now params old new → TablesMean new.now (put m) k × KeepsOthers our_tables meta_tree old new
    meta_written lawful h =
        let ran = runs_as UPDATE_META.now params old new our_tables means.schema _ update_meta.is update_meta.plain h.0 h.1 in
        let done = updated schema.meta.name 10 schema.meta.columns schema.meta.key schema.meta.primary schema.meta.uniques schema.meta.orders schema.meta.checks 5 refl old new means.schema refl (subst IsByRowid (sym means.meta) (alone m))
        meta_tests update_project params (λ r. refl) _ h.0 meta_row put (m ∷ []) means.meta (λ it. refl) (λ it has on. stored (put it)) (λ it has off. absurd (both_ways _ off (meta_passes it params))) ran in
        (means_of new.now (put m) k means.held (meta_changed old new m (open_grants m) (calls_of m) k (parts_of old.now m k means) done.0 clock next_job next_grant done.1 lawful), done.0)
