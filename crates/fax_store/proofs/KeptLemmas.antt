-- What the texts on the kept replies read and write. A request number of a client has one at most, and a look-up finds it.
use Rattle.std.proofs.Common.{◌≡◌, inl, inr, ℕ, eqb, List, [], ◌∷◌, drop, Bool, true, false, not, ◌&&◌, Some, None, refl, sym, ap, ap₂, subst, ◌∙◌, ℤ, ◌++◌, All, Option, Err, MatchOption, find, bytes_eq, Ordering, Less, Equal, Greater}
use Rattle.sqlite_trees.proofs.ListLemmas.{IsPermutation-same}
use Rattle.fax_layout.proofs.ColumnLemmas.{row_of, record_of}
use Rattle.fax_store.proofs.MeaningLemmas.{one_entry}
use Rattle.std.specs.Ordering.{is_ne}
use Rattle.std.specs.Cmp.Lexicographic.{bytes_decides}
use Rattle.std.proofs.lemmas.Bool.{and_parts, and_from, both_ways, cases_Bool, eqb-true, eq-eqb, not-true, false_from_ne_true}
use Rattle.std.proofs.lemmas.Slice.Eq.{bytes_eq-Decides}
use Rattle.sqlite.specs.Collation.TheVariants.{Binary}
use Rattle.sqlite.specs.Effect.{Database, IsDatabase}
use Rattle.sqlite.specs.Order.{Row, column}
use Rattle.sqlite.specs.Tree.{rowid}
use Rattle.sqlite.specs.declared.types.Value.TheVariants.{Text, Null, Int, Blob}
use Rattle.sqlite_rules.specs.Lists.{Has}
use Rattle.sqlite_rules.proofs.ListLemmas.{all_has, some_from, has_found}
use Rattle.sqlite_rules.proofs.PlaceLemmas.{tied_same}
use Rattle.sqlite_rules.proofs.TableLemmas.{int_is}
use Rattle.sqlite_schema.specs.Rules.{Keeps, agree, differ, equal, clashes}
use Rattle.sqlite_schema.specs.declared.schema.Constraint.TheVariants.{Unique}
use Rattle.sqlite_sql.specs.Ops.{is_null}
use Rattle.sqlite_sql.specs.declared.ops.CompareOp.TheVariants.{Ne}
use Rattle.sqlite_value.specs.Keys.{plain, first_key}
use Rattle.sqlite_value.specs.Order.{value_cmp}
use Rattle.sqlite_value.proofs.KeyLemmas.{first_key-plain}
use Rattle.fax_core.specs.Queue.{Entry, Queue, open_grants}
use Rattle.fax_store.specs.Kept.{IsOf, AreKeptOnce, TablesKeepOnce, HasReply, IsUnkept}
use Rattle.fax_tables.specs.Row.{number, entry_columns}
use Rattle.fax_schema.specs.Schema.{our_tables, replies_tree}
use Rattle.fax_layout.specs.ByRowid.{IsByRowid}
use Rattle.fax_layout.proofs.CompareLemmas.{compared, equal_texts, number_same, are_equal, same_number, same_row, cast_int, cast_null}
use Rattle.std.proofs.lemmas.List.Elements.{recursion_from_All}
use Rattle.sqlite.specs.State.{State, Executes}
use Rattle.sqlite.specs.declared.types.Value.{Value}
use Rattle.sqlite.proofs.Callers.{runs_as}
use Rattle.fax_schema.specs.declared.statements.TheConstants.{SELECT_REPLY, INSERT_REPLY}
use Rattle.fax_schema.specs.Schema as schema
use Rattle.fax_core.specs.Ledger.{Ledger, with_reply, kept_for, IsLawfulEntry}
use Rattle.fax_tables.specs.Kept.{entry_shown}
use Rattle.fax_tables.specs.Tables.{TablesMean}
use Rattle.fax_store.specs.Store.{FindsRow, HasRun}
use Rattle.fax_tables.proofs.RefusalLemmas.{no_rule_broken}
use Rattle.fax_tables.proofs.StandLemmas.{reply_may}
use Rattle.fax_tables.specs.Fault.{fault_of}
use Rattle.fax_tables.specs.declared.fault.StoreFault.TheVariants.{Unavailable}
use Rattle.sqlite.specs.declared.error.Error.{Error}
use Rattle.fax_layout.proofs.SelectLemmas.{passes, show}
use Rattle.fax_store.proofs.FoundLemmas.{none_passes, row_passes, with_id}
use Rattle.fax_schema.proofs.StatementTexts.{reply_tests, reply_project, reply_terms, select_reply, insert_reply}
use Rattle.fax_layout.proofs.WriteLemmas.{KeepsOthers, inserts}
use Rattle.fax_schema.proofs.OursLemmas.{unreferred}
use Rattle.fax_tables.proofs.TablesLemmas.{replies, parts_of, means_of, calls_of, replies_changed, one_more}
use Rattle.sqlite.specs.Cast.{cast_row}
use Rattle.sqlite.specs.Edit.{with_rowid, next_rowid}
use Rattle.sqlite.specs.Rowids.TheVariants.{Chosen}

-- ---- rows that agree in a key are one

module _ (rows : List Row) (by : IsByRowid rows) (places : List ℕ) (r s : Row) (there : Has rows r) (also : Has rows s)
    (alone : clashes plain places rows r ≡ false) (agrees : agree plain places s places r ≡ true) where
  -- no rowid is NULL
  whole : (x : Row) → Has rows x → is_null (rowid x) ≡ false
  whole x has = ap is_null (int_is (rowid x) (all_has _ rows x by.integers has))

  -- where they differ in the rowid, they clash
  apart : is_ne (value_cmp (rowid s) (rowid r)) ≡ true → ⊥
  apart other = both_ways _ alone (some_from (λ o. agree plain places o places r && differ (rowid o) (rowid r)) rows s also
      (rw (agrees, compared Ne (rowid s) (rowid r) (whole s also) (whole r there), other) refl))

  -- so they are one, however their rowids compare
  by_order : (o : Ordering) → value_cmp (rowid s) (rowid r) ≡ o → s ≡ r
  by_order Less e = absurd (apart (ap is_ne e))
  by_order Equal e = tied_same rows s r by.rise also there e
  by_order Greater e = absurd (apart (ap is_ne e))

  pub one_row : s ≡ r
  one_row = by_order (value_cmp (rowid s) (rowid r)) refl

-- ---- a number of a client stands in one row

module _ (db : Database) (has : db.schema ≡ our_tables) (sound : IsDatabase db) (by : IsByRowid (db.trees replies_tree)) where
  -- no row of replies clashes with another in client and number, so a client's number stands in one row
  pub one_of_key : (client : List ℕ) (n : ℕ) (r s : Row) → Has (db.trees replies_tree) r → Has (db.trees replies_tree) s
      → column r 1 ≡ Text client → column s 1 ≡ Text client → column r 2 ≡ number n → column s 2 ≡ number n → s ≡ r
  one_of_key client n r s there also client_r client_s number_r number_s =
      let clients : equal Binary (column s 1) (column r 1) ≡ true = ap₂ (equal Binary) client_s client_r ∙ equal_texts client client
      ∙ (bytes_eq-Decides client client).1 refl in
      let numbers : equal Binary (column s 2) (column r 2) ≡ true = ap₂ (equal Binary) number_s number_r ∙ number_same n in
      let keeps : Keeps Unique our_tables db.trees = subst (λ s. Keeps Unique s db.trees) has (sound.obeys.rules Unique) in
      let kept = all_has _ (db.trees replies_tree) r keeps.1.1.1.1.0 there in
      let alone = not-true _ (and_parts (not (clashes plain (1 ∷ 2 ∷ []) (db.trees replies_tree) r)) _ kept).0 in
      one_row (db.trees replies_tree) by (1 ∷ 2 ∷ []) r s there also alone
      (ap (λ key. equal key.collation (column s 1) (column r 1) && (equal key.collation (column s 2) (column r 2) && true)) first_key-plain
      ∙ ap₂ (λ a b. a && (b && true)) clients numbers)

-- ---- so it has one entry

-- tables that mean kept replies keep each number of a client once
pub tables_keep_once : TablesKeepOnce
tables_keep_once db m k means client n e f has_e has_f of_e of_f =
    let r = row_of entry_columns (db.trees replies_tree) k.replies (IsPermutation-same _ _ (sym means.replies)) e has_e in
    let s = row_of entry_columns (db.trees replies_tree) k.replies (IsPermutation-same _ _ (sym means.replies)) f has_f in
    let of_r = with_id r.0 _ _ r.2 in
    let of_s = with_id s.0 _ _ s.2 in
    let same = one_of_key db means.schema means.sound means.ordered.replies client n r.0 s.0 r.1 s.1
    (ap (λ r. column r 1) of_r ∙ ap Text of_e.client_is) (ap (λ r. column r 1) of_s ∙ ap Text of_f.client_is)
    (ap (λ r. column r 2) of_r ∙ ap number of_e.number_is) (ap (λ r. column r 2) of_s ∙ ap number of_f.number_is) in
    one_entry e f (sym r.2 ∙ ap (drop 1) (sym same) ∙ s.2)

-- ---- and a look-up finds it

-- where none passes, none is found
pub find_none : {X : Type 0} (q : X → Bool) (xs : List X) → ((x : X) → Has xs x → q x ≡ false) → find q xs ≡ None
find_none q [] none = refl
find_none q (x ∷ xs) none = rw (none x (inl refl)) (find_none q xs (λ y has. none y (inr has)))

-- where one passes, there is one that is found
pub find_some : {X : Type 0} (q : X → Bool) (xs : List X) (x : X) → Has xs x → q x ≡ true → (y : X) × (find q xs ≡ Some y)
find_some q [] x has on = absurd has
find_some q (y ∷ ys) x has on = elim (cases_Bool (q y)) [
  | inl here ↦ (y, rw here refl)
  | inr off ↦ elim has [ inl is ↦ absurd (both_ways _ off (rw is at on)) | inr more ↦ (let it = find_some q ys x more on in (it.0, rw off it.1)) ]
]

-- the entry is of this client and number
abbrev is_of : List ℕ → ℕ → Entry → Bool
is_of client n e = bytes_eq e.client client && eqb e.number n

-- an entry that passes it is of the client and number
entry_of : (client : List ℕ) (n : ℕ) (e : Entry) → is_of client n e ≡ true → IsOf client n e
entry_of client n e is = let parts = and_parts (bytes_eq e.client client) (eqb e.number n) is in record { client_is = (bytes_decides e.client client).0 parts.0; number_is = eqb-true e.number n parts.1 }

-- where no entry is of them, none is found
pub none_kept : (client : List ℕ) (n : ℕ) (k : List Entry) → ((e : Entry) → Has k e → ¬ IsOf client n e) → kept_for client n k ≡ None
none_kept client n k off = find_none (is_of client n) k (λ e has. false_from_ne_true _ (λ on. off e has (entry_of client n e on)))

-- where an entry is of them, and each is kept once, it is found
pub one_kept : (client : List ℕ) (n : ℕ) (k : List Entry) (e : Entry) → AreKeptOnce k → Has k e → IsOf client n e → kept_for client n k ≡ Some e
one_kept client n k e once has of =
    let it = find_some (is_of client n) k e has
    (and_from (bytes_eq e.client client) (eqb e.number n) ((bytes_decides e.client client).1 of.client_is) (eq-eqb e.number n of.number_is)) in
    let found = has_found (is_of client n) k it.0 it.1 in
    it.1 ∙ ap Some (once client n it.0 e found.0 has (entry_of client n it.0 found.1) of)

module _ (client : List ℕ) (n : ℕ) where
  abbrev pub params : Row
  params = Text client ∷ number n ∷ []

  abbrev is_asked : Row → Bool
  is_asked r = passes replies_tree reply_tests reply_project params r

  -- a row of the client and the number passes, whatever stands beside them
  key_passes : (id said status body : Value) → is_asked (id ∷ Text client ∷ number n ∷ said ∷ status ∷ body ∷ []) ≡ true
  key_passes id said status body =
      let texts : are_equal (Text client) (Text client) ≡ true = equal_texts client client ∙ (bytes_eq-Decides client client).1 refl in
      let numbers : are_equal (number n) (number n) ≡ true = number_same n in
      rw (texts, numbers) refl

  module _ (old new : State) (m : Queue) (k : Ledger) (means : TablesMean old.now m k) where
    -- what the text on a reply finds is an entry of the client and number; where it finds nothing, there is none
    pub reply_found : (found : Option Row) → FindsRow SELECT_REPLY.now params old new found
        → MatchOption found ((e : Entry) → Has k.replies e → ¬ IsOf client n e) (λ row. (e : Entry) × Has k.replies e × IsOf client n e × (row ≡ entry_shown e))
    reply_found None h = λ e has of.
        let it = row_of entry_columns (old.now.trees replies_tree) k.replies (IsPermutation-same _ _ (sym means.replies)) e has in
        both_ways _
        (none_passes SELECT_REPLY.now replies_tree reply_tests reply_project _ select_reply (λ trees. refl) params old new old.now means.schema refl h it.0 it.1)
        (ap is_asked (with_id it.0 _ _ it.2) ∙ rw (of.client_is, of.number_is) (key_passes (column it.0 0) (Blob e.said) (number e.status) (Blob e.body)))
    reply_found (Some row) h =
        let shown = row_passes SELECT_REPLY.now replies_tree reply_tests reply_project _ select_reply (λ trees. refl) params old new old.now means.schema refl
        row h in
        let it = record_of entry_columns (old.now.trees replies_tree) k.replies (IsPermutation-same _ _ (sym means.replies)) shown.0 shown.1 in
        let is = with_id shown.0 _ _ it.2 in
        let q : (are_equal (Text it.0.client) (Text client) && (are_equal (number it.0.number) (number n) && true)) ≡ true = sym (ap is_asked is) ∙ shown.2 in
        let both = and_parts _ _ q in
        let of : IsOf client n it.0 = record {
          client_is = (bytes_eq-Decides it.0.client client).0 (sym (equal_texts it.0.client client) ∙ both.0);
          number_is = same_number it.0.number n (and_parts _ _ both.1).0;
        } in
        (it.0, it.1, of, shown.3 ∙ ap (show replies_tree reply_tests reply_project params) is)

  -- so where none is found there is no such row
  pub none_found : (old new : State) (db : Database) → db.schema ≡ our_tables → old.now ≡ db → FindsRow SELECT_REPLY.now params old new None → ¬ HasReply db client n
  none_found old new db six now h row =
      both_ways _ (none_passes SELECT_REPLY.now replies_tree reply_tests reply_project _ select_reply (λ trees. refl) params old new db six now h _ row.has) (key_passes row.id row.said row.status row.body)

-- an entry among lawful ones is lawful
pub lawful_of : (k : List Entry) (e : Entry) → All IsLawfulEntry k → Has k e → IsLawfulEntry e
lawful_of k e all has = all_has IsLawfulEntry k e (recursion_from_All IsLawfulEntry k all) has

-- the row of one more entry
stored_reply : (e : Entry) → cast_row schema.replies (Null ∷ entry_columns e) ≡ Null ∷ entry_columns e
stored_reply e = same_row cast_null (same_row refl (same_row (cast_int _) (same_row refl (same_row (cast_int _) refl))))

module _ (old new : State) (m : Queue) (k : Ledger) (means : TablesMean old.now m k) (e : Entry) where
  abbrev pub reply_params : Row
  reply_params = Text e.client ∷ number e.number ∷ Blob e.said ∷ number e.status ∷ Blob e.body ∷ []

  abbrev new_reply : Row
  new_reply = Int (next_rowid (old.now.trees replies_tree)) ∷ entry_columns e

  -- the text that keeps a lawful reply inserts its row, with the next rowid: it adds the reply, and touches replies alone
  pub reply_kept : IsLawfulEntry e → HasRun INSERT_REPLY.now reply_params old new → TablesMean new.now m (with_reply e k) × KeepsOthers our_tables replies_tree old new
  reply_kept lawful h =
      let ran = runs_as INSERT_REPLY.now reply_params old new our_tables means.schema _ insert_reply.is insert_reply.plain h.0 h.1 in
      let done = inserts our_tables unreferred schema.replies.name 8 schema.replies.columns schema.replies.key schema.replies.primary schema.replies.uniques schema.replies.orders schema.replies.checks 4 refl old new means.schema reply_params _ h.0
      reply_terms 6 (Null ∷ entry_columns e) new_reply refl (ap (with_rowid Chosen (old.now.trees replies_tree)) (stored_reply e)) ran in
      let was = parts_of old.now m k means in
      (means_of new.now m (with_reply e k) means.held (replies_changed old new m (open_grants m) (calls_of m) k was done.keeps (k.replies ++ e ∷ []) (one_more entry_columns IsLawfulEntry e k.replies (old.now.trees replies_tree) (new.now.trees replies_tree) done.rows lawful (was.says replies))), done.keeps)

  -- the row of an entry agrees with the new one where it is of the same number of the same client
  agrees : (r : Row) (other : Entry) (id : ℤ) → drop 1 r ≡ entry_columns other → agree plain (1 ∷ 2 ∷ []) r (1 ∷ 2 ∷ []) (Int id ∷ entry_columns e) ≡ true → IsOf e.client e.number other
  unfolding first_key
  agrees r other id is on =
      let q : (are_equal (Text other.client) (Text e.client) && (are_equal (number other.number) (number e.number) && true)) ≡ true =
      sym (ap (λ r. agree plain (1 ∷ 2 ∷ []) r (1 ∷ 2 ∷ []) (Int id ∷ entry_columns e)) (with_id r _ _ is)) ∙ on in
      let both = and_parts _ _ q in
      let more = and_parts _ _ both.1 in
      record { client_is = (bytes_eq-Decides other.client e.client).0 (sym (equal_texts other.client e.client) ∙ both.0); number_is = same_number other.number e.number more.0 }

  -- a reply to a number for which none is kept breaks no rule
  pub reply_goes : IsUnkept e.client e.number k.replies → (fault : Error) → Executes INSERT_REPLY.now reply_params old new (Err fault) → fault_of fault ≡ Unavailable
  reply_goes free =
      let rows = old.now.trees replies_tree in
      let may = reply_may old.now means.schema means.sound e means.ordered.replies (λ r has.
      let it = record_of entry_columns rows k.replies (IsPermutation-same _ _ (sym means.replies)) r has in
      false_from_ne_true _ (λ on. free it.0 it.1 (agrees r it.0 (next_rowid rows) it.2 on))) in
      no_rule_broken schema.replies.name 8 schema.replies.columns schema.replies.key schema.replies.primary schema.replies.uniques schema.replies.orders schema.replies.checks 4 refl old means.schema reply_params reply_terms 6
      (Null ∷ entry_columns e) new_reply refl (ap (with_rowid Chosen rows) (stored_reply e)) may INSERT_REPLY.now insert_reply new
