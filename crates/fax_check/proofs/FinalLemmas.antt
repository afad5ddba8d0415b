-- What a check of all tables comes to.
use Rattle.std.proofs.Common.{◌≡◌, inl, inr, pos, List, [], ◌∷◌, All, Option, Some, None, Ok, Err, Result, IfOk, IsTrue, ap, refl, sym, subst, ◌∙◌, arith}
use Rattle.std.proofs.lemmas.List.Elements.{recursion_from_All}
use Rattle.std.specs.Prelude.{◌==◌}
use Rattle.std.proofs.lemmas.Bool.{eqb-true}
use Rattle.sqlite.specs.Effect.{Database}
use Rattle.sqlite.specs.Order.{Row}
use Rattle.sqlite.specs.Edit.{id_in}
use Rattle.sqlite.specs.Tree.{rowid}
use Rattle.sqlite.specs.View.{is_int}
use Rattle.sqlite.specs.declared.types.Value.TheVariants.{Int}
use Rattle.sqlite_rules.specs.Lists.{Has}
use Rattle.sqlite_rules.proofs.ListLemmas.{all_has, has_filtered, has_found}
use Rattle.sqlite_rules.proofs.TableLemmas.{int_is}
use Rattle.fax_check.specs.Check.{AreCalled, AreTablesChecked, HasHolders, HasNumbers, IsChecked}
use Rattle.fax_check.specs.Whole.{AreWhole, Holder, IsWholeTable, numbers_row, passed}
use Rattle.fax_check.specs.declared.tables.Flaw.{Flaw}
use Rattle.fax_check.specs.declared.tables.Table.TheVariants as table
use Rattle.sqlite.specs.State.{State, Shown}
use Rattle.fax_check.specs.Holders.{AreHolders, AreHoldersIn, IsHoldRow, IsHoldShown}
use Rattle.fax_check.specs.declared.holders.Holders.{Holders}
use Rattle.fax_check.specs.declared.holders.Holders.TheVariants.{Right, Wrong}
use Rattle.fax_check.specs.declared.tables.TheConstants.{SELECT_ALL_HOLDS}
use Rattle.fax_check.proofs.HolderLemmas.{hold_of, holders_are}
use Rattle.fax_tables.specs.declared.fault.StoreFault.{StoreFault}
use Rattle.fax_check.specs.Sound.{IsSound, IsStored}
use Rattle.fax_check.proofs.BridgeLemmas.{at_is}
use Rattle.fax_check.proofs.MeantLemmas as meant
use Rattle.fax_check.proofs.WholeLemmas.{rows_are_sound}
use Rattle.fax_core.proofs.FitsLemmas.{fits_decides}
use Rattle.fax_core.specs.Job.{Job, fields_of}
use Rattle.fax_core.specs.Ledger.{Ledger}
use Rattle.fax_core.specs.Queue.{Queue, open_grants}
use Rattle.fax_core.specs.Sound.{FitsGrant, Sound}
use Rattle.fax_core.specs.declared.grants.Grant.{Grant}
use Rattle.fax_check.proofs.TableLemmas.{all_holds_project}
use Rattle.fax_layout.proofs.ColumnLemmas.{record_of}
use Rattle.fax_layout.proofs.SelectLemmas.{show}
use Rattle.fax_schema.specs.Schema.{holds_tree}
use Rattle.fax_tables.specs.Job.{IsLawfulJob}
use Rattle.fax_tables.specs.Meta.{meta_of, with_meta}
use Rattle.fax_tables.specs.Row.{HasValue, hold_columns, meta_row}
use Rattle.fax_tables.specs.Tables.{IsLawfulGrant, IsLawfulMeta, TablesMean}
use Rattle.fax_tables.specs.declared.meta.Meta.{Meta}

-- ---- a row of holds

module _ (db : Database) (m : Queue) (k : Ledger) (means : TablesMean db m k) (sound : Sound m) where
  -- where the rows mean a sound queue, it shows an open grant with its job
  pub hold_shown : (r : Row) → Has (db.trees holds_tree) r → IsHoldShown db (show holds_tree [] all_holds_project [] r)
  hold_shown r has =
      let it = record_of hold_columns (db.trees holds_tree) (open_grants m) means.holds r has in
      let g = it.0 in
      let here = has_filtered (λ (x : Grant). x.is_open) m.grants g it.1 in
      let of = sound.held g.number g (meant.opened db m k means g it.1) in
      let j = of.0 in
      let there = has_found (λ (x : Job). x.number == g.job) m.jobs j of.1 in
      record {
        grant = g;
        lawful = meant.of_all IsLawfulGrant m.grants g means.lawful.grants here.0;
        grants = record {
          has = meant.grant_stands db m k means g here.0;
          is_open = here.1;
          shown = record {
            modem = record { within = omega arith; is = at_is r 0 (hold_columns g) it.2 };
            job = record { within = omega arith; is = at_is r 1 (hold_columns g) it.2 };
            number = record { within = omega arith; is = at_is r 2 (hold_columns g) it.2 };
          };
        };
        job = fields_of j;
        lawful_job = subst IsLawfulJob (sym (meant.again db m k means j there.0)) (meant.lawful_job db m k means j there.0);
        its = record {
          has = meant.job_stands db m k means j there.0;
          its = eqb-true j.number g.job there.1;
          fit = (fits_decides (fields_of j) (Some g)).1 (subst (λ (x : Job). FitsGrant x g) (sym (meant.again db m k means j there.0)) of.2);
        };
      }

-- the holders in all rows that are shown are those of the table
pub holders_of : (old new : State) → IsStored old.now → (now : Database) → old.now ≡ now → (rows : List Row) → Shown SELECT_ALL_HOLDS.now [] old new rows → (r : Result Holders StoreFault)
    → IfOk r (λ holders. AreHoldersIn now rows holders) → IfOk r (AreHolders old.now)
holders_of old new stored now is rows shown (Ok (Right held)) of =
    let it = subst (λ d. AreHoldersIn d rows (Right held)) (sym is) of in
    (holders_are old new old.now stored refl rows shown held.items it.0, it.1)
holders_of old new stored now is rows shown (Ok (Wrong id)) of =
    let it = subst (λ d. AreHoldersIn d rows (Wrong id)) (sym is) of in
    let row = hold_of old new old.now stored refl rows shown it.0 it.1 in
    let wrong : ¬ IsHoldRow old.now row.0 = λ right. it.2 (subst (IsHoldShown old.now) (sym row.2) right) in
    let int = int_is (rowid row.0) (all_has (λ x. IsTrue (is_int (rowid x))) (old.now.trees holds_tree) row.0 stored.ordered.holds.integers row.1) in (
      λ sound. wrong (hold_shown old.now sound.0 sound.1 sound.2 (sound.3).sound row.0 row.1),
      record { row = row.0; has = row.1; has_id = int ∙ ap Int (sym (it.3 (id_in (rowid row.0)) (subst (λ x. HasValue x 3 (Int (id_in (rowid row.0)))) (sym row.2) (record { within = omega arith; is = int })))); wrong = wrong },
    )
holders_of old new stored now is rows shown (Err e) of = tt

-- ---- all tables

-- the numbers of meta are the queue's
same_meta : (meta : Meta) (m : Queue) → numbers_row meta ∷ [] ≡ meta_row m ∷ [] → meta ≡ meta_of m
same_meta meta m h =
    let clock : meta.clock ≡ m.clock = cc in
    let next_job : meta.next_job ≡ m.next_job = cc in
    let next_grant : meta.next_grant ≡ m.next_grant = cc in
    rw (sym clock, sym next_job, sym next_grant) refl

module _ (db : Database) (stored : IsStored db) (meta : Meta) (held : List Holder) (numbers : HasNumbers db meta) (holders : HasHolders db held) where
  -- whole tables, whose numbers to dial are counted, have whole rows
  whole : All (IsWholeTable meta held db) passed → AreCalled db held → AreWhole db meta held
  whole all called =
      record { meta_is = numbers.is; numbers = numbers.lawful; holders = holders.holders; right = holders.right; tables = all; called = called }

  -- so they mean a sound queue
  pub all_sound : All (IsWholeTable meta held db) passed → AreCalled db held → IsSound db
  all_sound all called = rows_are_sound db meta held stored (whole all called)

  -- where the rows mean a sound queue, they are whole
  meant_whole : IsSound db → AreWhole db meta held
  meant_whole sound =
      subst (λ n. AreWhole db n held) (sym (same_meta meta sound.0 (sym numbers.is ∙ sound.2.meta)))
      (meant.sound_rows_are_whole db sound.0 sound.1 held sound.2 sound.3 holders.holders holders.right)

  -- so are the tables
  pub sound_whole : IsSound db → All (IsWholeTable meta held db) passed
  sound_whole sound = (meant_whole sound).tables

  -- and the numbers to dial are counted
  pub sound_called : IsSound db → AreCalled db held
  sound_called sound = (meant_whole sound).called

  -- a flaw of a row of a table that is read
  pub row_flawed : (flaw : Flaw) → AreTablesChecked meta held db (Some flaw) → IsChecked db (Some flaw)
  row_flawed flaw told = (
    λ sound. let whole = all_has (IsWholeTable meta held db) passed told.0 (recursion_from_All (IsWholeTable meta held db) passed (sound_whole sound)) told.1 in
        (told.2).2.wrong (whole (told.2).2.row (told.2).2.has),
    inr (inr (record { meta = meta; numbers = numbers; held = held; holders = holders; is_of = inl told })),
  )

  -- and of a number to dial that isn't counted
  pub call_flawed : ¬ AreCalled db held → IsChecked db (Some (record { table = table.Calls; row = None }))
  call_flawed not_called = (
    λ sound. not_called (sound_called sound),
    inr (inr (record { meta = meta; numbers = numbers; held = held; holders = holders; is_of = inr (refl, not_called) })),
  )

-- rows that mean a queue have its numbers, and so those that have none mean none
pub no_numbers_flawed : (db : Database) → ((meta : Meta) → ¬ HasNumbers db meta) → IsChecked db (Some (record { table = table.Meta; row = Some (pos 1) }))
no_numbers_flawed db none = (λ sound. none (meta_of sound.0) (record { is = sound.2.meta; lawful = λ m. lawful_as sound.0 sound.2.lawful.meta m }), inl (refl, none))
  where
    lawful_as : (n : Queue) → IsLawfulMeta n → (m : Queue) → IsLawfulMeta (with_meta (meta_of n) m)
    lawful_as n it m = record { clock = it.clock; next_job = it.next_job; next_grant = it.next_grant }

-- what is told of the rows of one database is told of another that is the same
pub checked_rows : (db now : Database) → db ≡ now → (meta : Meta) (held : List Holder) → HasHolders db held → (r : Result (Option Flaw) StoreFault)
    → IfOk r (λ found. HasNumbers now meta → HasHolders now held → IsChecked now found)
    → IfOk r (λ found. HasNumbers db meta → IsChecked db found)
checked_rows db now is meta held holders (Ok found) told = λ numbers. subst (λ d. HasNumbers d meta → HasHolders d held → IsChecked d found) (sym is) told numbers holders
checked_rows db now is meta held holders (Err e) told = tt
