-- What the texts on the answers read and write.
use Rattle.std.proofs.Common.{◌≡◌, inl, inr, ℕ, ℤ, pos, codes, List, [], ◌∷◌, drop, filter, map, true, false, not, ◌&&◌, ◌||◌, Bool, Option, Some, None, MatchOption, refl, sym, ap, ap₂, subst, ◌∙◌, bytes_eq, Ordering, Less, Equal, Greater, arith}
use Rattle.std.specs.Ordering.{is_eq, is_ne}
use Rattle.std.specs.List.Sorted.{IsPermutation}
use Rattle.std.proofs.Math.Bool.{and-true}
use Rattle.std.proofs.lemmas.Bool.{and_parts, both_ways, cases_Bool, not-true}
use Rattle.std.proofs.lemmas.Slice.Eq.{bytes_eq-Decides}
use Rattle.sqlite.specs.Cast.{cast_row}
use Rattle.sqlite.specs.Command.TheVariants.{Delete}
use Rattle.sqlite.specs.Edit.{id_in, next_rowid, with_rowid, without_all}
use Rattle.sqlite.specs.Effect.{Database, IsDatabase}
use Rattle.sqlite.specs.Order.{Row, column}
use Rattle.sqlite.specs.Rowids.TheVariants.{Chosen}
use Rattle.sqlite.specs.State.{State, Shown}
use Rattle.sqlite.specs.Tree.{has_rowid, put_row, rowid, without_rowid}
use Rattle.sqlite.specs.declared.types.Value.{Value}
use Rattle.sqlite.specs.declared.types.Value.TheVariants.{Null, Int, Text, Blob}
use Rattle.sqlite.proofs.Callers.{reads_as}
use Rattle.sqlite_rules.specs.Keys.{conflicts}
use Rattle.sqlite_rules.specs.Lists.{Has}
use Rattle.sqlite_rules.proofs.ListLemmas.{all_has, has_filtered, has_kept, some_from}
use Rattle.sqlite_rules.proofs.PlaceLemmas.{tied_same}
use Rattle.sqlite_rules.proofs.TableLemmas.{int_is, put_all_adds, put_all_has, put_all_keeps, without_all_has}
use Rattle.sqlite_schema.specs.Rules.{Keeps, agree, clashes, differ}
use Rattle.sqlite_schema.specs.declared.schema.Constraint.TheVariants.{Unique}
use Rattle.sqlite_sql.specs.Ops.{is_null}
use Rattle.sqlite_sql.specs.declared.ops.CompareOp.TheVariants.{Eq, Ne}
use Rattle.sqlite_value.specs.Keys.{first_key, plain}
use Rattle.sqlite_value.specs.Order.{value_cmp}
use Rattle.fax_layout.specs.ByRowid.{IsByRowid}
use Rattle.fax_layout.proofs.AppendLemmas.{all_below}
use Rattle.fax_layout.proofs.CompareLemmas.{are_equal, cast_int, cast_null, compared, equal_texts, same_row}
use Rattle.fax_layout.proofs.EditLemmas as edit
use Rattle.fax_layout.proofs.EditLemmas.{fewer_by, none_shown, shown_one}
use Rattle.fax_layout.proofs.SelectLemmas.{answers as shown_rows, passes, show}
use Rattle.fax_layout.proofs.WriteLemmas.{deletes}
use Rattle.fax_tables.proofs.TablesLemmas.{by_rowid_put}
use Rattle.fax_journal.specs.Entry.{Entry}
use Rattle.fax_journal.specs.Journal.{Answers, AreAnswers, TablesMean, answer_columns, with_answer}
use Rattle.fax_journal.specs.Schema as schema
use Rattle.fax_journal.specs.Schema.{answers_key, answers_tree, journal_tables, journal_tree}
use Rattle.fax_journal.specs.declared.statements.TheConstants.{DELETE_ANSWER, SELECT_ANSWER, SET_ANSWER}
use Rattle.fax_journal.proofs.ChangeLemmas.{Makes}
use Rattle.fax_journal.proofs.ReplaceLemmas.{replaces}
use Rattle.fax_journal.proofs.Texts.{answer_program, answer_project, answer_terms, answer_tests, gone_project, select_answer, to_set_answer, unreferred}

-- ---- tests of a row

-- a row is its rowid and its columns
with_id : (r : Row) (v : Value) (columns : Row) → drop 1 r ≡ v ∷ columns → r ≡ column r 0 ∷ v ∷ columns
with_id [] v columns is = absurd cc
with_id (id ∷ rest) v columns is = ap (λ r. id ∷ r) is

-- the row of an answer passes by its key
is_of : (project : List _) (key : List ℕ) (r : Row) (k v : List ℕ) → drop 1 r ≡ answer_columns k v → passes answers_tree answer_tests project (Text key ∷ []) r ≡ bytes_eq k key
is_of project key r k v is =
    ap (passes answers_tree answer_tests project (Text key ∷ [])) (with_id r (Text k) (Blob v ∷ []) is) ∙ ap (λ b. b && true) (equal_texts k key) ∙ and-true (bytes_eq k key)

-- a key is itself
itself : (key : List ℕ) → bytes_eq key key ≡ true
itself key = (bytes_eq-Decides key key).1 refl

same_key : (k key : List ℕ) → bytes_eq k key ≡ true → k ≡ key
same_key k key = (bytes_eq-Decides k key).0

-- columns that are those of two answers
same_answer : (k v l w : List ℕ) → answer_columns k v ≡ answer_columns l w → v ≡ w
same_answer k v l w e = cc

-- ---- reading

module _ (old new : State) (e : Option Entry) (kept : Answers) (means : TablesMean e kept old.now) (key : List ℕ) where
  -- what is found is the answer of the key
  pub answer_found : (found : Option Row) → (rows : List Row) × Shown SELECT_ANSWER.now (Text key ∷ []) old new rows × MatchOption found (rows ≡ []) (Has rows)
      → MatchOption found (kept key ≡ None) (λ row. (v : List ℕ) × (kept key ≡ Some v) × (row ≡ Blob v ∷ []))
  answer_found found h = by found h.2
    where
      table : List Row
      table = old.now.trees answers_tree

      same : IsPermutation (map (show answers_tree answer_tests answer_project (Text key ∷ [])) (filter (passes answers_tree answer_tests answer_project (Text key ∷ [])) (old.now.trees answers_tree))) h.0
      same = shown_rows answers_tree answer_tests answer_project (Text key ∷ []) old.now (old.now.trees answers_tree) refl (codes "answer" ∷ []) h.0
          (reads_as SELECT_ANSWER.now (Text key ∷ []) old new journal_tables means.schema _ select_answer.command select_answer.plain select_answer.unlisted h.0 h.1)

      none : h.0 ≡ [] → (o : Option (List ℕ)) → kept key ≡ o → kept key ≡ None
      none empty None is = is
      none empty (Some v) is =
          let it = means.answers.all key v is in
          absurd (both_ways _
          (none_shown (passes answers_tree answer_tests answer_project (Text key ∷ [])) (show answers_tree answer_tests answer_project (Text key ∷ [])) (old.now.trees answers_tree) h.0 same empty it.0 it.1)
          (is_of answer_project key it.0 key v it.2 ∙ itself key))

      by : (o : Option Row) → MatchOption o (h.0 ≡ []) (Has h.0) → MatchOption o (kept key ≡ None) (λ row. (v : List ℕ) × (kept key ≡ Some v) × (row ≡ Blob v ∷ []))
      by None empty = none empty (kept key) refl
      by (Some row) has =
          let r = shown_one (passes answers_tree answer_tests answer_project (Text key ∷ [])) (show answers_tree answer_tests answer_project (Text key ∷ [])) (old.now.trees answers_tree) h.0 same row has in
          let it = means.answers.each r.0 r.1 in
          let is = same_key it.0 key (sym (is_of answer_project key r.0 it.0 it.1 it.2) ∙ r.2) in
          (it.1, ap kept (sym is) ∙ it.3, r.3 ∙ ap (show answers_tree answer_tests answer_project (Text key ∷ [])) (with_id r.0 (Text it.0) (Blob it.1 ∷ []) it.2))

-- a value that reads as one blob and is another
pub blob_is : (v : Value) (body other : List ℕ) → v ≡ Blob body → v ≡ Blob other → body ≡ other
blob_is v body other reads is = cc

-- none was found
pub found_none : (kept : Answers) (key : List ℕ) (found : Option Row) → found ≡ None → MatchOption found (kept key ≡ None) (λ row. (v : List ℕ) × (kept key ≡ Some v) × (row ≡ Blob v ∷ [])) → kept key ≡ None
found_none kept key None is h = h
found_none kept key (Some row) is h = absurd (let no = is in cc)

-- one was
pub found_some : (kept : Answers) (key : List ℕ) (found : Option Row) (row : Row) → found ≡ Some row → MatchOption found (kept key ≡ None) (λ row. (v : List ℕ) × (kept key ≡ Some v) × (row ≡ Blob v ∷ []))
    → (v : List ℕ) × (kept key ≡ Some v) × (row ≡ Blob v ∷ [])
found_some kept key None row is h = absurd (let no = is in cc)
found_some kept key (Some r) row is h = let same : r ≡ row = cc in (h.0, h.1, sym same ∙ h.2)

-- ---- forgetting

-- an answer under another key stays
other_stays : (kept : Answers) (key k v : List ℕ) (o : Option (List ℕ)) → bytes_eq k key ≡ false → kept k ≡ Some v → with_answer key o kept k ≡ Some v
other_stays kept key k v o off is = rw off is

-- DELETE_ANSWER forgets the answer of the key
pub answer_gone : (e : Option Entry) (kept : Answers) (key : List ℕ) → Makes DELETE_ANSWER.now journal_tables (Delete 1 answer_program) (Text key ∷ []) (TablesMean e kept) (TablesMean e (with_answer key None kept))
answer_gone e kept key old new count means w =
    let did = deletes journal_tables unreferred schema.answers.name answers_tree schema.answers.columns schema.answers.key schema.answers.primary schema.answers.uniques schema.answers.orders schema.answers.checks 1 refl old new means.schema
    (Text key ∷ []) _ count answer_program w in
    let same = shown_rows answers_tree answer_tests gone_project (Text key ∷ []) (record { schema = journal_tables; trees = old.now.trees }) (old.now.trees answers_tree) refl [] did.0 did.1 in
    let after = did.3 ∙ edit.cleared (old.now.trees answers_tree) means.answers.ordered (passes answers_tree answer_tests gone_project (Text key ∷ [])) (show answers_tree answer_tests gone_project (Text key ∷ [])) (λ r. refl) did.0 same in
    record {
      schema = did.2.schema_is;
      sound = did.2.sound;
      entry = did.2.others.0 (λ same_tree. absurd (omega (arith, same_tree))) ∙ means.entry;
      valid = means.valid;
      answers = subst (AreAnswers (with_answer key None kept)) (sym after) (left means.answers);
    }
  where
    is_kept : Row → Bool
    is_kept r = not (passes answers_tree answer_tests gone_project (Text key ∷ []) r)

    left : AreAnswers kept (old.now.trees answers_tree) → AreAnswers (with_answer key None kept) (filter (λ r. not (passes answers_tree answer_tests gone_project (Text key ∷ []) r)) (old.now.trees answers_tree))
    left was = record {
      each = λ row has. let r = has_filtered (λ r. not (passes answers_tree answer_tests gone_project (Text key ∷ []) r)) (old.now.trees answers_tree) row has in
          let it = was.each row r.0 in
          (it.0, it.1, it.2, other_stays kept key it.0 it.1 None (sym (is_of gone_project key row it.0 it.1 it.2) ∙ not-true _ r.1) it.3);
      all = λ k v is. elim (cases_Bool (bytes_eq k key)) [
        | inl on ↦ absurd (let no = rw on at is in cc)
        | inr off ↦
            (let it = was.all k v (rw off at is) in
            (it.0, has_kept (λ r. not (passes answers_tree answer_tests gone_project (Text key ∷ []) r)) (old.now.trees answers_tree) it.0 it.1 (ap not (is_of gone_project key it.0 k v it.2 ∙ off)), it.2))
      ];
      ordered = fewer_by (λ r. not (passes answers_tree answer_tests gone_project (Text key ∷ []) r)) (old.now.trees answers_tree) was.ordered;
    }

-- ---- remembering

-- two rows agree in one column where its values are equal
agree_at : (at : ℕ) (r s : Row) → agree plain (at ∷ []) r (at ∷ []) s ≡ are_equal (column r at) (column s at)
unfolding first_key
agree_at at r s = and-true (are_equal (column r at) (column s at))

-- rows that agree in a key are one
module _ (rows : List Row) (by : IsByRowid rows) (places : List ℕ) (r s : Row) (there : Has rows r) (also : Has rows s)
    (alone : clashes plain places rows r ≡ false) (agrees : agree plain places s places r ≡ true) where
  whole : (x : Row) → Has rows x → is_null (rowid x) ≡ false
  whole x has = ap is_null (int_is (rowid x) (all_has _ rows x by.integers has))

  differ_not : is_ne (value_cmp (rowid s) (rowid r)) ≡ true → ⊥
  differ_not other = both_ways _ alone (some_from (λ o. agree plain places o places r && differ (rowid o) (rowid r)) rows s also
      (rw (agrees, compared Ne (rowid s) (rowid r) (whole s also) (whole r there), other) refl))

  by_order : (o : Ordering) → value_cmp (rowid s) (rowid r) ≡ o → s ≡ r
  by_order Less e = absurd (differ_not (ap is_ne e))
  by_order Equal e = tied_same rows s r by.rise also there e
  by_order Greater e = absurd (differ_not (ap is_ne e))

  one_row : s ≡ r
  one_row = by_order (value_cmp (rowid s) (rowid r)) refl

-- so a key is in one row
one_of_key : (db : Database) → db.schema ≡ journal_tables → IsDatabase db → IsByRowid (db.trees answers_tree) → (key v w : List ℕ) (r s : Row) → Has (db.trees answers_tree) r → Has (db.trees answers_tree) s
    → drop 1 r ≡ answer_columns key v → drop 1 s ≡ answer_columns key w → s ≡ r
one_of_key db is sound by key v w r s there also of_r of_s =
    let keeps : Keeps Unique journal_tables db.trees = subst (λ t. Keeps Unique t db.trees) is (sound.obeys.rules Unique) in
    let kept = all_has _ (db.trees answers_tree) r keeps.1.0 there in
    let alone = not-true _ (and_parts (not (clashes plain (1 ∷ []) (db.trees answers_tree) r)) _ kept).0 in
    let texts : are_equal (column s 1) (column r 1) ≡ true =
    ap₂ are_equal (ap (λ x. column x 1) (with_id s (Text key) (Blob w ∷ []) of_s)) (ap (λ x. column x 1) (with_id r (Text key) (Blob v ∷ []) of_r)) ∙ equal_texts key key ∙ itself key in
    one_row (db.trees answers_tree) by (1 ∷ []) r s there also alone (agree_at 1 s r ∙ texts)

is_equal : (o : Ordering) → is_eq o ≡ true → o ≡ Equal
is_equal Less h = absurd cc
is_equal Equal h = refl
is_equal Greater h = absurd cc

-- a row that has none of these rowids is left
left_has : (ids : List ℤ) (rows : List Row) (x : Row) → Has rows x → ((id : ℤ) → Has ids id → has_rowid id x ≡ false) → Has (without_all rows ids) x
left_has [] rows x has lacks = has
left_has (id ∷ ids) rows x has lacks = left_has ids (without_rowid id rows) x (has_kept (λ y. not (has_rowid id y)) rows x has (ap not (lacks id (inl refl)))) (λ other had. lacks other (inr had))

-- what is left is by rowid
left_by : (ids : List ℤ) (rows : List Row) → IsByRowid rows → IsByRowid (without_all rows ids)
left_by [] rows by = by
left_by (id ∷ ids) rows by = left_by ids (without_rowid id rows) (fewer_by (λ y. not (has_rowid id y)) rows by)

module _ (rows : List Row) (by : IsByRowid rows) (key answer : List ℕ) where
  abbrev new_row : Row
  new_row = Int (next_rowid rows) ∷ answer_columns key answer

  -- a row that conflicts with the new one has its key
  conflict_key : (r : Row) (k v : List ℕ) → Has rows r → drop 1 r ≡ answer_columns k v → conflicts None (answers_key ∷ []) schema.answers new_row r ≡ true → bytes_eq k key ≡ true
  conflict_key r k v has is on = key_is (sym parts ∙ on)
    where
      apart_ids : are_equal (rowid r) (Int (next_rowid rows)) ≡ false
      apart_ids = compared Eq (rowid r) (Int (next_rowid rows)) (ap is_null (int_is (rowid r) (all_has _ rows r by.integers has))) refl ∙ ap is_eq (all_has _ rows r (all_below (pos 1) rows by.integers by.rise) has)

      by_id : agree plain (0 ∷ []) r (0 ∷ []) new_row ≡ false
      by_id = agree_at 0 r new_row ∙ apart_ids

      by_key : agree plain (1 ∷ []) r (1 ∷ []) new_row ≡ bytes_eq k key
      by_key = agree_at 1 r new_row ∙ ap (λ x. are_equal (column x 1) (Text key)) (with_id r (Text k) (Blob v ∷ []) is) ∙ equal_texts k key

      parts : conflicts None (answers_key ∷ []) schema.answers new_row r ≡ (false || (bytes_eq k key || false))
      parts = ap₂ (λ a b. a || (b || false)) by_id by_key

      key_is : (false || (bytes_eq k key || false)) ≡ true → bytes_eq k key ≡ true
      key_is h = elim (cases_Bool (bytes_eq k key)) [ inl on ↦ on | inr off ↦ absurd (let no = rw off at h in cc) ]

-- SET_ANSWER remembers the answer under the key
pub answer_set : (e : Option Entry) (kept : Answers) (key answer : List ℕ) → Makes SET_ANSWER.now journal_tables to_set_answer (Text key ∷ Blob answer ∷ []) (TablesMean e kept) (TablesMean e (with_answer key (Some answer) kept))
answer_set e kept key answer old new count means w =
    let rows = old.now.trees answers_tree in
    let row = new_row rows means.answers.ordered key answer in
    let source = Null ∷ answer_columns key answer in
    let stored : cast_row schema.answers source ≡ source = same_row cast_null (same_row refl (same_row refl refl)) in
    let as_it_is : cast_row schema.answers row ≡ row = same_row (cast_int _) (same_row refl (same_row refl refl)) in
    let did = replaces journal_tables unreferred schema.answers.name answers_tree schema.answers.columns schema.answers.key schema.answers.primary schema.answers.uniques schema.answers.orders schema.answers.checks 1 refl old new means.schema
    (Text key ∷ Blob answer ∷ []) _ count answer_terms 3 source row refl refl (ap (with_rowid Chosen rows) stored) as_it_is w in
    let after : new.now.trees answers_tree ≡ put_row row (without_all rows did.gone) = did.rows in
    let by : IsByRowid (new.now.trees answers_tree) = subst IsByRowid (sym after) (by_rowid_put row (without_all rows did.gone) refl (left_by did.gone rows means.answers.ordered)) in
    let row_there : Has (new.now.trees answers_tree) row = subst (λ all. Has all row) (sym after) (put_all_adds (row ∷ []) (without_all rows did.gone) row did.fresh (inl refl)) in
    record {
      schema = did.keeps.schema_is;
      sound = did.keeps.sound;
      entry = did.keeps.others.0 (λ same_tree. absurd (omega (arith, same_tree))) ∙ means.entry;
      valid = means.valid;
      answers = record {
        each = λ r has. elim (put_all_has (row ∷ []) (without_all rows did.gone) r (subst (λ all. Has all r) after has)) [
          | inl added ↦ elim added [
            | inl is ↦ (key, answer, ap (drop 1) is, remembered kept key answer)
            | inr none ↦ absurd none
          ]
          | inr was ↦
              (let it = means.answers.each r (without_all_has did.gone rows r was) in (
                it.0,
                it.1,
                it.2,
                stays kept key answer it.0 it.1 it.3 (λ is.
                    let one = one_of_key new.now did.keeps.schema_is did.keeps.sound by key answer it.1 row r row_there has refl (it.2 ∙ ap (λ k. answer_columns k it.1) is) in
                    same_answer it.0 it.1 key answer (sym it.2 ∙ ap (drop 1) one)),
              ))
        ];
        all = λ k v is. elim (cases_Bool (bytes_eq k key)) [
          | inl on ↦ (row, row_there, ap₂ answer_columns (sym (same_key k key on)) (let same = rw on at is in cc))
          | inr off ↦
              (let it = means.answers.all k v (rw off at is) in
              let lacks = λ (id : ℤ) (gone : Has did.gone id). not_gone rows means.answers.ordered key answer it.0 k v it.1 it.2 off id (did.conflicts id gone) in
              (it.0, subst (λ all. Has all it.0) (sym after) (put_all_keeps (row ∷ []) (without_all rows did.gone) it.0 did.fresh (left_has did.gone rows it.0 it.1 lacks)), it.2))
        ];
        ordered = by;
      };
    }
  where
    remembered : (kept : Answers) (key answer : List ℕ) → with_answer key (Some answer) kept key ≡ Some answer
    remembered kept key answer = rw (itself key) refl

    -- an answer that was there stays, or is the new one
    stays : (kept : Answers) (key answer k v : List ℕ) → kept k ≡ Some v → (k ≡ key → v ≡ answer) → with_answer key (Some answer) kept k ≡ Some v
    stays kept key answer k v is so = elim (cases_Bool (bytes_eq k key)) [ inl on ↦ rw on (ap Some (sym (so (same_key k key on)))) | inr off ↦ rw off is ]

    -- a row of another key has none of the rowids that are taken out
    not_gone : (rows : List Row) (by : IsByRowid rows) (key answer : List ℕ) (r : Row) (k v : List ℕ) → Has rows r → drop 1 r ≡ answer_columns k v → bytes_eq k key ≡ false → (id : ℤ)
        → (x : Row) × Has rows x × (conflicts None (answers_key ∷ []) schema.answers (new_row rows by key answer) x ≡ true) × (id ≡ id_in (rowid x)) → has_rowid id r ≡ false
    not_gone rows by key answer r k v has is off id it = elim (cases_Bool (has_rowid id r)) [
      | inl on ↦
          (let x_is : rowid it.0 ≡ Int id = int_is (rowid it.0) (all_has _ rows it.0 by.integers it.1) ∙ ap Int (sym it.3) in
          let tied : value_cmp (rowid r) (rowid it.0) ≡ Equal = ap (value_cmp (rowid r)) x_is ∙ is_equal _ on in
          let same = tied_same rows r it.0 by.rise has it.1 tied in
          absurd (both_ways _ off (conflict_key rows by key answer r k v has is (subst (λ y. conflicts None (answers_key ∷ []) schema.answers (new_row rows by key answer) y ≡ true) (sym same) it.2))))
      | inr none ↦ none
    ]
