-- What a look-up tells of the rows, whatever they say: a row is found and read, or none is.
use Rattle.std.proofs.Common.{◌≡◌, ℕ, List, [], ◌∷◌, map, filter, true, false, ◌&&◌, Some, None, length, suc, take, sym, ap, subst, ◌∙◌, Ok, Err, Option, Result, IfOk, IfSome, IsErrAnd, refl, drop, IsPermutation, option_map, is_eq, arith}
use Rattle.std.proofs.lemmas.Bool.{and_parts, both_ways}
use Rattle.sqlite.specs.Effect.{Database}
use Rattle.sqlite.specs.Order.{Row, column}
use Rattle.sqlite.specs.Program.{overlay}
use Rattle.sqlite.specs.State.{State, Shown, HasCleanDisk}
use Rattle.sqlite.specs.declared.types.Value.{Value}
use Rattle.sqlite.specs.declared.types.Value.TheVariants.{Null, Text}
use Rattle.sqlite.proofs.Callers.{reads_as}
use Rattle.sqlite_rules.specs.Lists.{Has}
use Rattle.sqlite_schema.specs.Rules.{agree}
use Rattle.sqlite_value.specs.Keys.{first_key, plain}
use Rattle.std.proofs.Math.Bool.{and-true}
use Rattle.std.proofs.lemmas.Slice.Eq.{bytes_eq-Decides}
use Rattle.sqlite_sql.specs.Ops.{binary}
use Rattle.sqlite_sql.specs.declared.ops.CompareOp.TheVariants.{Eq}
use Rattle.sqlite_value.proofs.OrderLemmas.{value_cmp-apart}
use Rattle.sqlite_sql.specs.Term.{Term}
use Rattle.sqlite_trees.specs.Tree.{Trees}
use Rattle.fax_schema.specs.Schema.{our_tables}
use Rattle.fax_layout.proofs.CompareLemmas.{are_equal, compared, equal_texts, same_number}
use Rattle.fax_layout.proofs.EditLemmas.{none_shown, shown_one}
use Rattle.fax_layout.proofs.SelectLemmas.{passes, show, answers}
use Rattle.fax_schema.proofs.StatementForms.{Selects}
use Rattle.fax_store.specs.Store.{FindsRow, HasRow}
use Rattle.fax_tables.specs.Row.{HasValues, number}
use Rattle.fax_tables.proofs.RowLemmas.{first_from}
use Rattle.sqlite_trees.specs.declared.store.Store.{Ghosts}
use Rattle.fax_core.specs.Ledger.{Ledger}
use Rattle.fax_core.specs.Queue.{Queue}
use Rattle.fax_store.specs.Calls.{LooksUp, LooksUpLawful, Queries, shown}
use Rattle.fax_store.specs.declared.store.Store.{Store}
use Rattle.fax_tables.specs.Tables.{TablesMean}
use Rattle.fax_tables.specs.declared.fault.StoreFault.{StoreFault}
use Rattle.fax_tables.specs.declared.fault.StoreFault.TheVariants.{Unavailable}
use Rattle.fax_tables.proofs.KeyLemmas.{is_none, is_there}
use Rattle.fax_store.proofs.FrameLemmas.{finds_as, queries_with}

-- a row is its rowid and the columns behind it
pub with_id : (r : Row) (v : Value) (columns : Row) → drop 1 r ≡ v ∷ columns → r ≡ column r 0 ∷ v ∷ columns
with_id [] v columns is = absurd cc
with_id (id ∷ rest) v columns is = ap (λ r. id ∷ r) is

-- two rows agree in one column where its values are equal
pub agree_at : (at : ℕ) (r s : Row) → agree plain (at ∷ []) r (at ∷ []) s ≡ are_equal (column r at) (column s at)
unfolding first_key
agree_at at r s = and-true (are_equal (column r at) (column s at))

-- ---- what is equal to a text

-- NULL isn't
null_apart : (t : List ℕ) → are_equal Null (Text t) ≡ false
unfolding binary
null_apart t = refl

-- nor is a value of another class, but only the text itself
pub text_same : (v : Value) (t : List ℕ) → are_equal v (Text t) ≡ true → v ≡ Text t
text_same Null t h = absurd (both_ways _ (null_apart t) h)
text_same (Text s) t h = ap Text ((bytes_eq-Decides s t).0 (sym (equal_texts s t) ∙ h))
text_same other t h = absurd (both_ways _ (compared Eq other (Text t) refl refl ∙ ap is_eq (value_cmp-apart other (Text t) (λ e. omega arith))) h)

module _ (sql : List ℕ) (tree : ℕ) (tests project : List Term) (names : List (List ℕ)) (selects : Selects sql tree tests project names) (plain : (trees : Trees) → overlay trees [] tree ≡ trees tree)
    (params : Row) (old new : State) (db : Database) (ours : db.schema ≡ our_tables) (now : old.now ≡ db) where
  -- what is shown is of the rows that pass, in any order
  shows : (rows : List Row) → Shown sql params old new rows → IsPermutation (map (show tree tests project params) (filter (passes tree tests project params) (db.trees tree))) rows
  shows rows h =
      subst (λ (d : Database). IsPermutation (map (show tree tests project params) (filter (passes tree tests project params) (d.trees tree))) rows) now
      (answers tree tests project params old.now (old.now.trees tree) (plain old.now.trees) names rows
      (reads_as sql params old new our_tables (ap (λ (d : Database). d.schema) now ∙ ours) _ selects.command selects.plain selects.unlisted rows h))

  -- where no row is found, none passes
  pub none_passes : FindsRow sql params old new None → (r : Row) → Has (db.trees tree) r → passes tree tests project params r ≡ false
  none_passes h r has = none_shown (passes tree tests project params) (show tree tests project params) (db.trees tree) h.0 (shows h.0 h.1) h.2 r has

  -- the row that is found is what is shown of one that passes
  pub row_passes : (row : Row) → FindsRow sql params old new (Some row)
      → (r : Row) × Has (db.trees tree) r × (passes tree tests project params r ≡ true) × (row ≡ show tree tests project params r)
  row_passes row h = shown_one (passes tree tests project params) (show tree tests project params) (db.trees tree) h.0 (shows h.0 h.1) row h.2

  -- what is read of it stands in that one
  pub one_passes : (row values : Row) → FindsRow sql params old new (Some row) → HasValues row 0 values
      → (r : Row) × Has (db.trees tree) r × (passes tree tests project params r ≡ true) × (take (length values) (show tree tests project params r) ≡ values)
  one_passes row values h has =
      let it = row_passes row h in
      (it.0, it.1, it.2, first_from (show tree tests project params it.0) values 0 (subst (λ (found : Row). HasValues found 0 values) it.3 has))

  -- a test of one column alone
  module _ (at : ℕ) (key : Value) (by_key : (r : Row) → passes tree tests project params r ≡ (are_equal (column r at) key && true)) where
    -- where no row is found, none has this key
    pub none_keyed : are_equal key key ≡ true → FindsRow sql params old new None → ¬ HasRow db tree (at ∷ []) (key ∷ [])
    none_keyed same h it =
        let is : column it.row at ≡ key = ap (λ (values : Row). column values 0) it.is in
        both_ways _ (none_passes h it.row it.has) (by_key it.row ∙ ap (λ v. are_equal v key && true) is ∙ ap (λ b. b && true) same)

    -- the key of a row that passes is equal
    pub key_of : (r : Row) → passes tree tests project params r ≡ true → are_equal (column r at) key ≡ true
    key_of r on = (and_parts (are_equal (column r at) key) true (sym (by_key r) ∙ on)).0

  -- where the key is a number, and shown first, what is read of the row that is found is of this number, and stands in a row
  module _ (n : ℕ) (places : List ℕ) (by_key : (r : Row) → passes tree tests project params r ≡ (are_equal (column r 0) (number n) && true)) where
    pub one_numbered : (row : Row) (id : ℕ) (rest : Row) → ((r : Row) → take (suc (length rest)) (show tree tests project params r) ≡ map (column r) (0 ∷ places))
        → FindsRow sql params old new (Some row) → HasValues row 0 (number id ∷ rest) → (id ≡ n) × HasRow db tree (0 ∷ places) (number id ∷ rest)
    one_numbered row id rest shown h has =
        let it = one_passes row (number id ∷ rest) h has in
        let is : map (column it.0) (0 ∷ places) ≡ number id ∷ rest = sym (shown it.0) ∙ it.3 in
        let key : column it.0 0 ≡ number id = ap (λ (values : Row). column values 0) is in
        (same_number id n (ap (λ v. are_equal v (number n)) (sym key) ∙ key_of 0 (number n) by_key it.0 it.2), record { row = it.0; has = it.1; is = is })

-- a record is read as it is
pub as_it_is : {A : Type 0} (o : Option A) → o ≡ option_map (λ a. a) o
as_it_is None = refl
as_it_is (Some a) = refl

module _ {S : Type 0} (g : Ghosts S) where
  -- The text finds the row of one record of the queue, which is shown so.
  pub record Keys {X : Type 0} (old new : Store S) (sql : List ℕ) (params : Row) (one : Queue → Option X) (shows : X → Row) (IsLawful : X → Type 0) (HasOne : Database → Type 0) : Type 0 where
    pub found : (m : Queue) (k : Ledger) → TablesMean (shown g old).now m k → (row : Option Row) → FindsRow sql params (shown g old) (shown g new) row → row ≡ option_map shows (one m)
    pub lawful : (m : Queue) (k : Ledger) → TablesMean (shown g old).now m k → (x : X) → one m ≡ Some x → IsLawful x
    pub none : (db : Database) → db.schema ≡ our_tables → (shown g old).now ≡ db → FindsRow sql params (shown g old) (shown g new) None → ¬ HasOne db

  module _ {X A : Type 0} {old new : Store S} {sql : List ℕ} {params : Row} {one : Queue → Option X} {shows : X → Row} {IsLawful : X → Type 0}
      {HasOne : Database → Type 0} (keys : Keys old new sql params one shows IsLawful HasOne) (reads : X → A) {read_one : Queue → Option A}
      (is_read : (m : Queue) → read_one m ≡ option_map reads (one m)) {found : Option Row} {told : Row} (same : told ≡ params)
      (queried : Queries g old new (Ok found) (FindsRow sql told (shown g old) (shown g new))) where
    finds : Queries g old new (Ok found) (FindsRow sql params (shown g old) (shown g new))
    finds = queries_with g old new (Ok found) sql told params same queried

    -- none is there
    pub looks_none : {Stands : Database → A → Type 0} → found ≡ None → LooksUp g old new (Ok None) read_one HasOne Stands
    looks_none is = record {
      leaves = finds_as g old new found (Ok None) finds.leaves;
      answers = λ m k means s. let none = keys.found m k (means (finds.leaves.served s)) found (finds.found s.clean) in
          sym (is_read m ∙ ap (option_map reads) (is_none shows (one m) (sym is ∙ none)));
      missing = λ db ours now clean. keys.none db ours now (subst (FindsRow sql params (shown g old) (shown g new)) is (finds.found clean));
      stands = λ db ours now clean. tt;
    }

    module _ {row : Row} (is : found ≡ Some row) where
      -- the record whose row is found
      there : (m : Queue) (k : Ledger) → TablesMean (shown g old).now m k → HasCleanDisk (shown g new) → (x : X) × (one m ≡ Some x) × (row ≡ shows x) × IsLawful x
      there m k means clean =
          let it = is_there shows (one m) row (sym is ∙ keys.found m k means found (finds.found clean)) in
          (it.0, it.1, it.2, keys.lawful m k means it.0 it.1)

      -- it is read
      pub looks_up : {Stands : Database → A → Type 0} {a : A} → ((x : X) → row ≡ shows x → IsLawful x → a ≡ reads x)
          → ((db : Database) → db.schema ≡ our_tables → (shown g old).now ≡ db → FindsRow sql params (shown g old) (shown g new) (Some row) → Stands db a)
          → LooksUp g old new (Ok (Some a)) read_one HasOne Stands
      looks_up {Stands} {a} read stands = record {
        leaves = finds_as g old new found (Ok (Some a)) finds.leaves;
        answers = λ m k means s. let it = there m k (means (finds.leaves.served s)) s.clean in
            ap Some (read it.0 it.2 it.3) ∙ sym (is_read m ∙ ap (option_map reads) it.1);
        missing = λ db ours now clean. tt;
        stands = λ db ours now clean. stands db ours now (subst (FindsRow sql params (shown g old) (shown g new)) is (finds.found clean));
      }

      -- it isn't read, for want of memory alone where it is lawful
      pub looks_err : {Stands : Database → A → Type 0} {fault : StoreFault} (result : Result (Option A) StoreFault) → IsErrAnd result (λ e. e ≡ fault)
          → ((x : X) → row ≡ shows x → IsLawful x → fault ≡ Unavailable) → LooksUp g old new result read_one HasOne Stands
      looks_err (Ok a) told why = absurd told
      looks_err (Err e) told why = record {
        leaves = finds_as g old new found (Err e) finds.leaves;
        answers = λ m k means s. let it = there m k (means (finds.leaves.served s)) s.clean in told ∙ why it.0 it.2 it.3;
        missing = λ db ours now clean. tt;
        stands = λ db ours now clean. tt;
      }

  -- what is looked up is lawful by itself
  pub looks_lawful : {A : Type 0} {old new : Store S} {result : Result (Option A) StoreFault} {one : Queue → Option A} {HasOne : Database → Type 0}
      {Stands : Database → A → Type 0} {Lawful : A → Type 0} → LooksUp g old new result one HasOne Stands → IfOk result (λ found. IfSome found Lawful)
      → LooksUpLawful g old new result one HasOne Stands Lawful
  looks_lawful looks lawful = record {
    leaves = looks.leaves;
    answers = looks.answers;
    missing = looks.missing;
    stands = looks.stands;
    lawful = lawful;
  }
