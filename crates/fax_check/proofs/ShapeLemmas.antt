-- The rules of our tables say that each of their rows has all its columns.
use Rattle.std.proofs.Common.{IsTrue, ◌≡◌, ℕ, zero, suc, ◌+◌, ◌≤◌, List, [], ◌∷◌, map, drop, length, slice_get, true, false, not, ◌||◌, Option, Some, None, refl, sym, ap, ap₂, subst, length-drop, add-one, ◌∙◌, arith}
use Rattle.std.specs.List.{list_all, range_with_len}
use Rattle.std.proofs.lemmas.Bool.{and_parts}
use Rattle.std.proofs.lemmas.Bool.Decides.{nat_tests}
use Rattle.std.proofs.lemmas.List.{get_or_past}
use Rattle.sqlite.specs.Effect.{Database}
use Rattle.sqlite.specs.Order.{Row, column}
use Rattle.sqlite.specs.declared.types.Value.{Value}
use Rattle.sqlite.specs.declared.types.Value.TheVariants.{Null, Int, Real, Text, Blob}
use Rattle.sqlite.specs.View.{is_int}
use Rattle.sqlite_rules.specs.Lists.{Has}
use Rattle.sqlite_rules.proofs.ListLemmas.{all_has}
use Rattle.sqlite_rules.proofs.RuleLemmas.{keeps_at}
use Rattle.sqlite_schema.specs.Names.{is_key}
use Rattle.sqlite_schema.specs.Rules.{Keeps, are_present, are_typed, is_of, passes as obeys}
use Rattle.sqlite_schema.specs.declared.schema.Kind.TheVariants as kind
use Rattle.sqlite_schema.specs.declared.schema.Column.{Column}
use Rattle.sqlite_schema.specs.declared.schema.Constraint.TheVariants.{Datatype, NotNull}
use Rattle.sqlite_schema.specs.declared.schema.Table.{Table}
use Rattle.sqlite_sql.specs.Ops.{is_null}
use Rattle.fax_check.specs.Sound.{IsStored}
use Rattle.fax_layout.proofs.RowsLemmas.{listed_at}
use Rattle.fax_schema.specs.Schema as schema
use Rattle.fax_schema.specs.Schema.{our_tables, calls_place, calls_tree, grants_tree, holds_tree, jobs_tree, meta_tree, replies_tree, times_tree}

-- ---- a row is the list of its columns

-- what is left of a row begins with the column of that place
dropped : (n : ℕ) (row vs : Row) (v : Value) → drop n row ≡ v ∷ vs → (column row n ≡ v) × (drop (suc n) row ≡ vs)
dropped zero [] vs v is = absurd cc
dropped zero (r ∷ row) vs v is = (cc, cc)
dropped (suc n) [] vs v is = absurd cc
dropped (suc n) (r ∷ row) vs v is = dropped n row vs v is

-- so it is the list of its columns from there on
columns_from : (at : ℕ) (vs row : Row) → drop at row ≡ vs → vs ≡ map (column row) (range_with_len at (length vs))
columns_from at [] row is = refl
columns_from at (v ∷ vs) row is =
    let d = dropped at row vs v is in
    ap₂ ◌∷◌ (sym d.0) (columns_from (at + 1) vs row (subst (λ n. drop n row ≡ vs) (sym (add-one at)) d.1))

-- a row of so many columns is the list of them
columns_of : (n : ℕ) (row : Row) → length row ≡ n → row ≡ map (column row) (range_with_len 0 n)
columns_of n row is = columns_from 0 row row refl ∙ ap (λ k. map (column row) (range_with_len 0 k)) is

-- ---- what its rules say of its length

module _ (key : Option ℕ) where
  -- no column is left out where each needs a value and none is the key
  missing : (c : Column) (cs : List Column) (at : ℕ) (row : Row) → column row (at + 1) ≡ Null → is_key key at ≡ false → c.not_null ≡ true → are_present key at (c ∷ cs) row ≡ true → ⊥
  missing c cs at row none off need present =
      let first : ((is_key key at || not c.not_null) || not (is_null (column row (at + 1)))) ≡ true = (and_parts _ (are_present key (at + 1) cs row) present).0 in
      absurd (let no = rw (off, need, none) at first in cc)

  -- so there are as many as the table has
  filled : (cs : List Column) (at : ℕ) (row vs : Row) → drop (at + 1) row ≡ vs → ((i : ℕ) → at ≤ i → is_key key i ≡ false) → list_all (λ c. c.not_null) cs ≡ true
      → are_typed key at cs vs ≡ true → are_present key at cs row ≡ true → length vs ≡ length cs
  filled [] at row [] is off need typed present = refl
  filled [] at row (v ∷ vs) is off need typed present = absurd cc
  filled (c ∷ cs) at row [] is off need typed present =
      let short : length row ≤ at + 1 = let e = length-drop (at + 1) row in let z = ap length is in omega (arith, e, z) in
      absurd (missing c cs at row (get_or_past row (at + 1) Null short) (off at (omega arith)) (and_parts c.not_null _ need).0 present)
  filled (c ∷ cs) at row (v ∷ vs) is off need typed present =
      let next : drop (at + 1 + 1) row ≡ vs = subst (λ n. drop n row ≡ vs) (sym (add-one (at + 1))) (dropped (at + 1) row vs v is).1 in
      ap suc (filled cs (at + 1) row vs next (λ i low. off i (omega arith)) (and_parts c.not_null _ need).1 (and_parts _ (are_typed key (at + 1) cs vs) typed).1 (and_parts _ (are_present key (at + 1) cs row) present).1)

-- a row of a table without a key has a rowid before its columns
free_row : (cs : List Column) (row : Row) → 1 ≤ length cs → list_all (λ c. c.not_null) cs ≡ true → are_typed None 0 cs (drop 1 row) ≡ true → are_present None 0 cs row ≡ true
    → length row ≡ suc (length cs)
free_row cs row some need typed present =
    let n = filled None cs 0 row (drop 1 row) refl (λ i low. refl) need typed present in
    let e = length-drop 1 row in
    omega (arith, n, e, some)

-- a value that is NULL
null_is : (v : Value) → is_null v ≡ true → v ≡ Null
null_is Null h = refl
null_is (Int n) h = absurd cc
null_is (Real x) h = absurd cc
null_is (Text t) h = absurd cc
null_is (Blob b) h = absurd cc

not_first : (i : ℕ) → 1 ≤ i → is_key (Some 0) i ≡ false
not_first zero low = absurd (omega arith)
not_first (suc i) low = grind (arith, nat_tests)

-- a row of a table whose first column is the rowid has NULL there, and the other columns
keyed_by : (k c : Column) (cs : List Column) (row vs : Row) → drop 1 row ≡ vs → list_all (λ c. c.not_null) (c ∷ cs) ≡ true → are_typed (Some 0) 0 (k ∷ c ∷ cs) vs ≡ true
    → are_present (Some 0) 1 (c ∷ cs) row ≡ true
    → (length row ≡ suc (suc (suc (length cs)))) × (column row 1 ≡ Null)
keyed_by k c cs row [] is need typed shown =
    let short : length row ≤ 1 = let e = length-drop 1 row in let z = ap length is in omega (arith, e, z) in
    absurd (missing (Some 0) c cs 1 row (get_or_past row 2 Null (omega (arith, short))) (not_first 1 (omega arith)) (and_parts c.not_null _ need).0 shown)
keyed_by k c cs row (v ∷ vs) is need typed shown =
    let d = dropped 1 row vs v is in
    let both = and_parts (is_null v) (are_typed (Some 0) 1 (c ∷ cs) vs) typed in
    let n = filled (Some 0) (c ∷ cs) 1 row vs d.1 not_first need both.1 shown in
    let e = length-drop 2 row in
    let z = ap length d.1 in
    (omega (arith, n, e, z), d.0 ∙ null_is v both.0)

keyed_row : (cs : List Column) (row : Row) → 2 ≤ length cs → list_all (λ c. c.not_null) cs ≡ true → are_typed (Some 0) 0 cs (drop 1 row) ≡ true → are_present (Some 0) 0 cs row ≡ true
    → (length row ≡ suc (length cs)) × (column row 1 ≡ Null)
keyed_row [] row some need typed present = absurd (omega (arith, some))
keyed_row (k ∷ []) row some need typed present = absurd (omega (arith, some))
keyed_row (k ∷ c ∷ cs) row some need typed present =
    keyed_by k c cs row (drop 1 row) refl (and_parts k.not_null (list_all (λ c. c.not_null) (c ∷ cs)) need).1 typed
    (and_parts ((is_key (Some 0) 0 || not k.not_null) || not (is_null (column row 1))) (are_present (Some 0) 1 (c ∷ cs) row) present).1

-- a value of a column of blobs that needs one
blob_is : (v : Value) → is_of kind.Blob v ≡ true → not (is_null v) ≡ true → (b : List ℕ) × (v ≡ Blob b)
blob_is Null t h = absurd cc
blob_is (Int n) t h = absurd cc
blob_is (Real x) t h = absurd cc
blob_is (Text s) t h = absurd cc
blob_is (Blob b) t h = (b, refl)

-- and one of a column of texts
text_is : (v : Value) → is_of kind.Text v ≡ true → not (is_null v) ≡ true → (t : List ℕ) × (v ≡ Text t)
text_is Null t h = absurd cc
text_is (Int n) t h = absurd cc
text_is (Real x) t h = absurd cc
text_is (Text s) t h = (s, refl)
text_is (Blob b) t h = absurd cc

-- and one of a column of integers
int_of : (v : Value) → is_of kind.Integer v ≡ true → not (is_null v) ≡ true → IsTrue (is_int v)
int_of Null t h = absurd cc
int_of (Int n) t h = refl
int_of (Real x) t h = absurd cc
int_of (Text s) t h = absurd cc
int_of (Blob b) t h = absurd cc

-- ---- the rows of our tables

module _ (db : Database) (stored : IsStored db) where
  -- the rules of types and of values that are needed hold
  types : Keeps Datatype our_tables db.trees
  types = subst (λ s. Keeps Datatype s db.trees) stored.schema_is (stored.sound.obeys.rules Datatype)

  needs : Keeps NotNull our_tables db.trees
  needs = subst (λ s. Keeps NotNull s db.trees) stored.schema_is (stored.sound.obeys.rules NotNull)

  typed : (t : Table) (r : Row) → Has (db.trees t.tree) r → obeys Datatype our_tables db.trees t r ≡ true → are_typed t.key 0 t.columns (drop 1 r) ≡ true
  typed t r has keeps = (and_parts (are_typed t.key 0 t.columns (drop 1 r)) _ keeps).0

  module _ (r : Row) where
    -- a job's row
    pub job_columns_of : Has (db.trees jobs_tree) r
        → r ≡ column r 0 ∷ Null ∷ column r 2 ∷ column r 3 ∷ column r 4 ∷ column r 5 ∷ column r 6 ∷ column r 7 ∷ column r 8 ∷ column r 9 ∷ column r 10 ∷ column r 11 ∷ column r 12 ∷ column r 13 ∷ column r 14 ∷ column r 15 ∷ column r 16 ∷ column r 17 ∷ column r 18 ∷ column r 19 ∷ column r 20 ∷ []
    job_columns_of has =
        let k = keyed_row (schema.jobs).columns r (omega arith) refl (typed schema.jobs r has (all_has _ (db.trees jobs_tree) r types.0 has)) (all_has _ (db.trees jobs_tree) r needs.0 has) in
        columns_of 21 r k.0 ∙ ap (λ v. column r 0 ∷ v ∷ column r 2 ∷ column r 3 ∷ column r 4 ∷ column r 5 ∷ column r 6 ∷ column r 7 ∷ column r 8 ∷ column r 9 ∷ column r 10 ∷ column r 11 ∷ column r 12 ∷ column r 13 ∷ column r 14 ∷ column r 15 ∷ column r 16 ∷ column r 17 ∷ column r 18 ∷ column r 19 ∷ column r 20 ∷ []) k.1

    -- a grant's
    pub grant_columns_of : Has (db.trees grants_tree) r → r ≡ column r 0 ∷ Null ∷ column r 2 ∷ column r 3 ∷ column r 4 ∷ column r 5 ∷ column r 6 ∷ column r 7 ∷ column r 8 ∷ []
    grant_columns_of has =
        let k = keyed_row (schema.grants).columns r (omega arith) refl (typed schema.grants r has (all_has _ (db.trees grants_tree) r types.1.0 has)) (all_has _ (db.trees grants_tree) r needs.1.0 has) in
        columns_of 9 r k.0 ∙ ap (λ v. column r 0 ∷ v ∷ column r 2 ∷ column r 3 ∷ column r 4 ∷ column r 5 ∷ column r 6 ∷ column r 7 ∷ column r 8 ∷ []) k.1

    -- the number of its job is an integer
    pub grant_job : Has (db.trees grants_tree) r → IsTrue (is_int (column r 2))
    grant_job has =
        let of_type = subst (λ (row : Row). are_typed (Some 0) 0 schema.grants.columns (drop 1 row) ≡ true) (grant_columns_of has) (typed schema.grants r has (all_has _ (db.trees grants_tree) r types.1.0 has)) in
        let of_need : are_present (Some 0) 0 schema.grants.columns r ≡ true = all_has _ (db.trees grants_tree) r needs.1.0 has in
        int_of (column r 2) (and_parts (is_of kind.Integer (column r 2)) _ of_type).0 (and_parts (not (is_null (column r 2))) _ of_need).0

    -- that of times
    pub times_columns_of : Has (db.trees times_tree) r → r ≡ column r 0 ∷ Null ∷ column r 2 ∷ column r 3 ∷ []
    times_columns_of has =
        let listed = listed_at our_tables.tables 7 schema.times refl in
        let k = keyed_row (schema.times).columns r (omega arith) refl (typed schema.times r has (keeps_at Datatype our_tables db.trees schema.times r types listed has)) (keeps_at NotNull our_tables db.trees schema.times r needs listed has) in
        columns_of 4 r k.0 ∙ ap (λ v. column r 0 ∷ v ∷ column r 2 ∷ column r 3 ∷ []) k.1

    -- that of meta
    pub meta_columns_of : Has (db.trees meta_tree) r → r ≡ column r 0 ∷ Null ∷ column r 2 ∷ column r 3 ∷ column r 4 ∷ column r 5 ∷ []
    meta_columns_of has =
        let k = keyed_row (schema.meta).columns r (omega arith) refl (typed schema.meta r has (all_has _ (db.trees meta_tree) r types.1.1.1.1.1.0 has)) (all_has _ (db.trees meta_tree) r needs.1.1.1.1.1.0 has) in
        columns_of 6 r k.0 ∙ ap (λ v. column r 0 ∷ v ∷ column r 2 ∷ column r 3 ∷ column r 4 ∷ column r 5 ∷ []) k.1

    -- a row of a table without a key is the list of its columns, behind its rowid
    pub free_columns : (t : Table) (at : ℕ) → slice_get our_tables.tables at ≡ Some t → t.key ≡ None → 1 ≤ length t.columns → list_all (λ c. c.not_null) t.columns ≡ true → Has (db.trees t.tree) r
        → r ≡ map (column r) (range_with_len 0 (suc (length t.columns)))
    free_columns t at there free some need has =
        let listed = listed_at our_tables.tables at t there in
        let of_type = subst (λ key. are_typed key 0 t.columns (drop 1 r) ≡ true) free (typed t r has (keeps_at Datatype our_tables db.trees t r types listed has)) in
        let of_need = subst (λ key. are_present key 0 t.columns r ≡ true) free (keeps_at NotNull our_tables db.trees t r needs listed has) in
        columns_of (suc (length t.columns)) r (free_row t.columns r some need of_type of_need)

    -- a hold's
    pub hold_columns_of : Has (db.trees holds_tree) r → r ≡ column r 0 ∷ column r 1 ∷ column r 2 ∷ column r 3 ∷ []
    hold_columns_of has = free_columns schema.holds 2 refl refl (omega arith) refl has

    -- a reply's
    pub reply_columns_of : Has (db.trees replies_tree) r → r ≡ column r 0 ∷ column r 1 ∷ column r 2 ∷ column r 3 ∷ column r 4 ∷ column r 5 ∷ []
    reply_columns_of has = free_columns schema.replies 4 refl refl (omega arith) refl has

    -- and that of a number that is dialed
    pub call_columns_of : Has (db.trees calls_tree) r → r ≡ column r 0 ∷ column r 1 ∷ column r 2 ∷ []
    call_columns_of has = free_columns schema.calls calls_place refl refl (omega arith) refl has

    -- what was said and the body of a reply are blobs
    pub reply_blobs : Has (db.trees replies_tree) r → (said : List ℕ) × (body : List ℕ) × (column r 3 ≡ Blob said) × (column r 5 ≡ Blob body)
    reply_blobs has =
        let of_type = subst (λ (row : Row). are_typed None 0 schema.replies.columns (drop 1 row) ≡ true) (reply_columns_of has) (typed schema.replies r has (all_has _ (db.trees replies_tree) r types.1.1.1.1.0 has)) in
        let t1 = (and_parts _ _ of_type).1 in
        let t2 = (and_parts _ _ t1).1 in
        let t3 = and_parts _ _ t2 in
        let t4 = (and_parts _ _ t3.1).1 in
        let t5 = (and_parts _ _ t4).0 in
        let of_need : are_present None 0 schema.replies.columns r ≡ true = all_has _ (db.trees replies_tree) r needs.1.1.1.1.0 has in
        let p1 = (and_parts _ _ of_need).1 in
        let p2 = (and_parts _ _ p1).1 in
        let p3 = and_parts _ _ p2 in
        let p4 = (and_parts _ _ p3.1).1 in
        let p5 = (and_parts _ _ p4).0 in
        let said = blob_is (column r 3) t3.0 p3.0 in
        let body = blob_is (column r 5) t5 p5 in
        (said.0, body.0, said.1, body.1)

    -- a number that is dialed is a text
    pub call_text : Has (db.trees calls_tree) r → (dial : List ℕ) × (column r 1 ≡ Text dial)
    call_text has =
        let of_type = subst (λ (row : Row). are_typed None 0 schema.calls.columns (drop 1 row) ≡ true) (call_columns_of has) (typed schema.calls r has (keeps_at Datatype our_tables db.trees schema.calls r types (listed_at our_tables.tables calls_place schema.calls refl) has)) in
        let of_need : are_present None 0 schema.calls.columns r ≡ true = keeps_at NotNull our_tables db.trees schema.calls r needs (listed_at our_tables.tables calls_place schema.calls refl) has in
        text_is (column r 1) (and_parts _ _ of_type).0 (and_parts _ _ of_need).0
