-- What is read of meta.
use Rattle.std.proofs.Common.{◌≡◌, inl, inr, ℤ, pos, negsuc, List, [], ◌∷◌, ◌&&◌, map, true, Some, None, Ok, Err, Result, IfOk, refl, sym, ap, subst, ◌∙◌}
use Rattle.std.proofs.lemmas.Bool.{and_parts}
use Rattle.sqlite.specs.Effect.{Database}
use Rattle.sqlite.specs.Order.{Row, column}
use Rattle.sqlite.specs.State.{State}
use Rattle.sqlite.specs.Tree.{rowid}
use Rattle.sqlite.specs.declared.types.Value.{Value}
use Rattle.sqlite.specs.declared.types.Value.TheVariants.{Int}
use Rattle.sqlite_rules.specs.Lists.{Has}
use Rattle.sqlite_rules.proofs.ListLemmas.{all_has}
use Rattle.sqlite_rules.proofs.TableLemmas.{int_is}
use Rattle.sqlite_sql.specs.declared.ops.CompareOp.TheVariants.{Eq}
use Rattle.sqlite_value.proofs.OrderLemmas.{value_cmp-Int, value_cmp_total}
use Rattle.std.proofs.lemmas.Cmp.{tied_itself}
use Rattle.std.specs.Ordering.{int_cmp, is_eq}
use Rattle.fax_layout.specs.ByRowid.{IsByRowid}
use Rattle.fax_check.specs.Check.{AreNumbers, HasNumbers, IsOfVersion}
use Rattle.fax_check.specs.Reading.{known_of}
use Rattle.fax_check.specs.Sound.{IsSound, IsStored}
use Rattle.fax_check.specs.Whole.{numbers_row}
use Rattle.fax_check.proofs.ShapeLemmas as shape
use Rattle.fax_core.specs.Queue.{Queue, empty_queue}
use Rattle.fax_schema.specs.Schema.{meta_tree}
use Rattle.fax_schema.specs.declared.statements.TheConstants.{SELECT_META}
use Rattle.fax_layout.proofs.CompareLemmas.{are_equal, compared, same_number}
use Rattle.fax_schema.proofs.StatementTexts.{meta_project, meta_tests, select_meta}
use Rattle.fax_store.specs.Store.{FindsRow}
use Rattle.fax_layout.proofs.SelectLemmas.{passes, show}
use Rattle.fax_store.proofs.FoundLemmas.{none_passes, one_passes, row_passes}
use Rattle.fax_tables.specs.Fault.{OrUnavailable}
use Rattle.fax_tables.specs.Meta.{meta_of, meta_shown, numbers_shown, with_meta}
use Rattle.fax_tables.specs.Row.{HasValues, number}
use Rattle.fax_tables.specs.Tables.{IsLawfulMeta}
use Rattle.fax_tables.specs.declared.fault.StoreFault.{StoreFault}
use Rattle.fax_tables.specs.declared.fault.StoreFault.TheVariants.{Strange, Unavailable}
use Rattle.fax_tables.specs.declared.meta.Meta.{Meta}

-- an integer that is equal to 1 is 1
one_int : (n : ℤ) → are_equal (Int n) (number 1) ≡ true → n ≡ pos 1
one_int (pos k) same = ap pos (same_number k 1 same)
one_int (negsuc k) same =
    let less : are_equal (Int (negsuc k)) (number 1) ≡ is_eq (int_cmp (negsuc k) (pos 1)) = compared Eq (Int (negsuc k)) (number 1) refl refl ∙ ap is_eq (value_cmp-Int (negsuc k) (pos 1)) in
    absurd (let no = sym less ∙ same in cc)

one_is : (v : Value) (n : ℤ) → v ≡ Int n → are_equal v (number 1) ≡ true → v ≡ number 1
one_is v n is same = is ∙ ap Int (one_int n (ap (λ a. are_equal a (number 1)) (sym is) ∙ same))

-- a list of one element
alone : (rows : List Row) → map (λ r. column r 5) rows ≡ number 3 ∷ [] → (r : Row) → Has rows r → (rows ≡ r ∷ []) × (column r 5 ≡ number 3)
alone [] is r has = absurd has
alone (x ∷ []) is r (inl same) = (ap (λ (y : Row). y ∷ []) (sym same), ap (λ (y : Row). column y 5) same ∙ first is)
  where
    first : {a b : Value} {xs ys : List Value} → a ∷ xs ≡ b ∷ ys → a ≡ b
    first h = cc
alone (x ∷ []) is r (inr none) = absurd none
alone (x ∷ y ∷ rows) is r has = absurd cc

-- what is in a list of one is that one
only_one : (x r : Row) → Has (x ∷ []) r → r ≡ x
only_one x r (inl is) = is
only_one x r (inr none) = absurd none

module _ (old new : State) (db : Database) (stored : IsStored db) (now : old.now ≡ db) (version : IsOfVersion db) where
  -- the numbers that are read of the row that is found are those of the one row of meta
  numbers_are : (row : Row) (meta : Meta) → FindsRow SELECT_META.now [] old new (Some row) → HasValues row 0 (numbers_shown meta) → db.trees meta_tree ≡ numbers_row meta ∷ []
  numbers_are row meta h has =
      let it = one_passes SELECT_META.now meta_tree meta_tests meta_project _ select_meta (λ trees. refl) [] old new db stored.schema_is now row (numbers_shown meta) h has in
      let r = it.0 in
      let only = alone (db.trees meta_tree) version r it.1 in
      let id : column r 0 ≡ number 1 = one_is (rowid r) _ (int_is (rowid r) (all_has _ (db.trees meta_tree) r stored.meta_ordered.integers it.1)) (and_parts (are_equal (column r 0) (number 1)) true it.2).0 in
      let clock : column r 2 ≡ number meta.clock = ap (λ values. column values 0) it.3 in
      let next_job : column r 3 ≡ number meta.next_job = ap (λ values. column values 1) it.3 in
      let next_grant : column r 4 ≡ number meta.next_grant = ap (λ values. column values 2) it.3 in
      only.0 ∙ ap (λ (x : Row). x ∷ []) (shape.meta_columns_of db stored r it.1 ∙ rw (id, clock, next_job, next_grant, only.1) refl)

  -- what is read of it, or that the rows mean no queue
  pub numbers_known : (row : Row) (read : Result Meta StoreFault) → FindsRow SELECT_META.now [] old new (Some row)
      → ((m : Queue) → row ≡ meta_shown m → IsLawfulMeta m → OrUnavailable read (λ meta. meta ≡ meta_of m)) → IfOk read (λ meta. HasValues row 0 (numbers_shown meta))
      → IfOk read (λ meta. (m : Queue) → IsLawfulMeta (with_meta meta m)) → IfOk (known_of read) (AreNumbers db)
  numbers_known row (Ok meta) h found stands lawful = record { is = numbers_are row meta h stands; lawful = lawful }
  numbers_known row (Err Unavailable) h found stands lawful = tt
  numbers_known row (Err Strange) h found stands lawful = λ meta has.
      let it = row_passes SELECT_META.now meta_tree meta_tests meta_project _ select_meta (λ trees. refl) [] old new db stored.schema_is now row h in
      let is : row ≡ numbers_shown meta = it.3 ∙ ap (show meta_tree meta_tests meta_project []) (only_one (numbers_row meta) it.0 (subst (λ all. Has all it.0) has.is it.1)) in
      absurd (let no = found (with_meta meta empty_queue) is (has.lawful empty_queue) in cc)

  pub no_numbers : FindsRow SELECT_META.now [] old new None → (meta : Meta) → ¬ HasNumbers db meta
  no_numbers h meta has =
      let off = none_passes SELECT_META.now meta_tree meta_tests meta_project _ select_meta (λ trees. refl) [] old new db stored.schema_is now h (numbers_row meta) (subst (λ all. Has all (numbers_row meta)) (sym has.is) (inl refl)) in
      let same : are_equal (number 1) (number 1) ≡ true = compared Eq (number 1) (number 1) refl refl ∙ ap is_eq (tied_itself value_cmp_total (number 1)) in
      let on : passes meta_tree meta_tests meta_project [] (numbers_row meta) ≡ true = ap (λ b. b && true) same in
      absurd cc

-- and stored as it has to be
pub sound_stored : (db : Database) → IsSound db → IsStored db
sound_stored db sound = record { schema_is = sound.2.schema; sound = sound.2.sound; ordered = sound.2.ordered; meta_ordered = subst IsByRowid (sym sound.2.meta) (record { rise = (tt, tt); integers = (refl, tt) }) }
