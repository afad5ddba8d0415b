-- What the texts on the entry read and write.
use Rattle.std.proofs.Common.{◌≡◌, ◌⊎◌, inl, inr, ℤ, List, [], ◌∷◌, true, false, not, Option, Some, None, MatchOption, option_map, IfSome, refl, sym, ap, subst, ◌∙◌, arith}
use Rattle.std.specs.List.Sorted.{IsPermutation}
use Rattle.std.specs.Ordering.{is_eq}
use Rattle.std.proofs.lemmas.Bool.{and_parts, cases_Bool, both_ways, not-true}
use Rattle.std.proofs.lemmas.Cmp.{tied_itself}
use Rattle.std.proofs.lemmas.List.Sorted.{length_permutation}
use Rattle.sqlite.specs.Cast.{cast_row}
use Rattle.sqlite.specs.Edit.{are_fresh, is_taken, with_rowid, without_all}
use Rattle.sqlite.specs.Rowids.TheVariants.{Chosen}
use Rattle.sqlite.specs.Order.{Row}
use Rattle.sqlite.specs.State.{State, Shown}
use Rattle.sqlite.specs.Tree.{has_rowid, put_row, rowid}
use Rattle.sqlite.specs.declared.types.Value.TheVariants.{Null}
use Rattle.sqlite.proofs.Callers.{reads_as, one_permutation}
use Rattle.sqlite_rules.specs.Lists.{Has}
use Rattle.sqlite_value.specs.Order.{value_cmp}
use Rattle.sqlite_value.proofs.OrderLemmas.{value_cmp_total}
use Rattle.fax_layout.proofs.CompareLemmas.{same_row, cast_int, cast_null}
use Rattle.fax_layout.proofs.SelectLemmas.{answers as shown_rows, only_found, show}
use Rattle.fax_tables.specs.Row.{number}
use Rattle.fax_journal.specs.Entry.{Entry, IsValid, entry_columns, entry_row, entry_rows}
use Rattle.fax_journal.specs.Journal.{Answers, AreAnswers, TablesMean}
use Rattle.fax_journal.specs.Schema as schema
use Rattle.fax_journal.specs.Schema.{answers_tree, journal_tables, journal_tree}
use Rattle.fax_journal.specs.declared.statements.TheConstants.{SELECT_ENTRY, SET_ENTRY}
use Rattle.fax_journal.proofs.ChangeLemmas.{Makes}
use Rattle.fax_journal.proofs.FormLemmas.{Plain, plain_columns, plain_of}
use Rattle.fax_journal.proofs.ReplaceLemmas.{replaces}
use Rattle.fax_journal.proofs.Texts.{entry_names, entry_project, entry_terms, select_entry, to_set_entry, unreferred}

-- ---- reading

none_permuted : {X : Type 0} (ys : List X) → IsPermutation [] ys → ys ≡ []
none_permuted [] h = refl
none_permuted (y ∷ ys) h = absurd (omega (arith, length_permutation [] (y ∷ ys) h))

-- where there are no rows, none is found
none_found : (rows : List Row) (found : Option Row) → rows ≡ [] → MatchOption found (rows ≡ []) (Has rows) → found ≡ None
none_found rows None is h = refl
none_found rows (Some x) is h = absurd (rw is at h)

-- a row shows its columns after the first
shown_columns : (e : Entry) → show journal_tree [] entry_project [] (entry_row e) ≡ entry_columns e
shown_columns e =
    let p = plain_of e in
    ap (λ (r : Row). show journal_tree [] entry_project [] (number 1 ∷ Null ∷ r)) p.1 ∙ sym p.1

-- the row that is found is that of the entry
pub entry_found : (old new : State) (entry : Option Entry) (answers : Answers) → TablesMean entry answers old.now → (found : Option Row)
    → (rows : List Row) × Shown SELECT_ENTRY.now [] old new rows × MatchOption found (rows ≡ []) (Has rows) → found ≡ option_map entry_columns entry
entry_found old new None answers means found h =
    let read = reads_as SELECT_ENTRY.now [] old new journal_tables means.schema _ select_entry.command select_entry.plain select_entry.unlisted h.0 h.1 in
    none_found h.0 found (none_permuted h.0 (shown_rows journal_tree [] entry_project [] old.now [] means.entry entry_names h.0 read)) h.2
entry_found old new (Some e) answers means found h =
    let read = reads_as SELECT_ENTRY.now [] old new journal_tables means.schema _ select_entry.command select_entry.plain select_entry.unlisted h.0 h.1 in
    let same = shown_rows journal_tree [] entry_project [] old.now (entry_row e ∷ []) means.entry entry_names h.0 read in
    only_found (entry_columns e) h.0 found (one_permutation (show journal_tree [] entry_project [] (entry_row e)) h.0 same ∙ ap (λ (r : Row). r ∷ []) (shown_columns e)) h.2

-- ---- writing

-- no row or one is left of one
left_of_none : (ids : List ℤ) → without_all [] ids ≡ []
left_of_none [] = refl
left_of_none (id ∷ ids) = left_of_none ids

left_of_one : (r : Row) (ids : List ℤ) → (without_all (r ∷ []) ids ≡ []) ⊎ (without_all (r ∷ []) ids ≡ r ∷ [])
left_of_one r [] = inr refl
left_of_one r (id ∷ ids) = elim (cases_Bool (has_rowid id r)) [
  | inl on ↦ inl (rw on (left_of_none ids))
  | inr off ↦ (elim (left_of_one r ids) [ inl none ↦ inl (rw off none) | inr one ↦ inr (rw off one) ])
]

-- a row is not fresh among those that have its rowid
taken : (a b : Row) → rowid a ≡ number 1 → rowid b ≡ number 1 → are_fresh (a ∷ []) (b ∷ []) ≡ true → ⊥
taken a b of_a of_b fresh =
    let same : is_eq (value_cmp (rowid a) (rowid b)) ≡ true = rw (of_a, of_b) (ap is_eq (tied_itself value_cmp_total (number 1))) in
    let off : is_taken (a ∷ []) b ≡ false = not-true _ (and_parts (not (is_taken (a ∷ []) b)) _ fresh).0 in
    both_ways _ off (rw same refl)

-- so nothing is left where the row of an entry is put in
left_none : (before : Option Entry) (row : Row) (ids : List ℤ) → rowid row ≡ number 1 → are_fresh (without_all (entry_rows before) ids) (row ∷ []) ≡ true → without_all (entry_rows before) ids ≡ []
left_none None row ids is fresh = left_of_none ids
left_none (Some e) row ids is fresh = elim (left_of_one (entry_row e) ids) [
  | inl none ↦ none
  | inr one ↦ absurd (taken (entry_row e) row refl is (subst (λ rows. are_fresh rows (row ∷ []) ≡ true) one fresh))
]

abbrev stored_row : Plain → Row
stored_row p = number 1 ∷ Null ∷ plain_columns p

-- the row of plain values is stored as it is
stored : (p : Plain) → cast_row schema.journal (stored_row p) ≡ stored_row p
stored p =
    same_row (cast_int _) (same_row cast_null (same_row refl (same_row (cast_int _) (same_row (cast_int _) (same_row (cast_int _) (same_row refl (same_row refl (same_row (cast_int _) (same_row refl
    (same_row (cast_int _) (same_row (cast_int _) (same_row (cast_int _) (same_row refl (same_row (cast_int _) (same_row (cast_int _) (same_row (cast_int _) (same_row (cast_int _) refl)))))))))))))))))

-- SET_ENTRY makes the entry that of its columns
plain_set : (before : Option Entry) (answers : Answers) (e : Entry) (p : Plain) → entry_columns e ≡ plain_columns p → IsValid e
    → Makes SET_ENTRY.now journal_tables to_set_entry (plain_columns p) (TablesMean before answers) (TablesMean (Some e) answers)
plain_set before answers e p is valid old new count means w =
    let did = replaces journal_tables unreferred schema.journal.name journal_tree schema.journal.columns schema.journal.key schema.journal.primary schema.journal.uniques schema.journal.orders schema.journal.checks 0 refl old new means.schema
    (plain_columns p) _ count entry_terms 18 (stored_row p) (stored_row p) refl refl (ap (with_rowid Chosen (old.now.trees journal_tree)) (stored p)) (stored p) w in
    let fresh = subst (λ rows. are_fresh (without_all rows did.gone) (stored_row p ∷ []) ≡ true) means.entry did.fresh in
    let left = left_none before (stored_row p) did.gone refl fresh in
    record {
      schema = did.keeps.schema_is;
      sound = did.keeps.sound;
      entry = did.rows ∙ ap (λ rows. put_row (stored_row p) (without_all rows did.gone)) means.entry ∙ ap (put_row (stored_row p)) left ∙ ap (λ (r : Row). (number 1 ∷ Null ∷ r) ∷ []) (sym is);
      valid = valid;
      answers = subst (AreAnswers answers) (sym (did.keeps.others.1.0 (λ same. absurd (omega (arith, same))))) means.answers;
    }

pub entry_set : (before : Option Entry) (answers : Answers) (e : Entry) → IsValid e → Makes SET_ENTRY.now journal_tables to_set_entry (entry_columns e) (TablesMean before answers) (TablesMean (Some e) answers)
entry_set before answers e valid =
    let p = plain_of e in
    subst (λ params. Makes SET_ENTRY.now journal_tables to_set_entry params (TablesMean before answers) (TablesMean (Some e) answers)) (sym p.1) (plain_set before answers e p.0 p.1 valid)

-- ---- what is read of the row that is found

-- no entry is there
pub none_entry : (entry : Option Entry) → None ≡ option_map entry_columns entry → None ≡ entry
none_entry None is = refl
none_entry (Some e) is = absurd (let no = is in cc)

-- one is there, so what holds of each whose row it is holds
pub some_entry : (entry : Option Entry) (row : Row) → Some row ≡ option_map entry_columns entry → IfSome entry IsValid → (P : Option Entry → Type 0) → ((e : Entry) → row ≡ entry_columns e → IsValid e → P (Some e)) → P entry
some_entry None row is valid P each = absurd (let no = is in cc)
some_entry (Some e) row is valid P each = each e (let same = is in cc) valid

-- and what is found is it
pub entry_is : (entry found : Option Entry) (row : Row) → Some row ≡ option_map entry_columns entry → IfSome entry IsValid → ((e : Entry) → row ≡ entry_columns e → IsValid e → found ≡ Some e) → found ≡ entry
entry_is None found row is valid each = absurd (let no = is in cc)
entry_is (Some e) found row is valid each = each e (let same = is in cc) valid
