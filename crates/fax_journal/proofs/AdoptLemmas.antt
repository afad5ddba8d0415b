-- What the texts that make the tables leave, and what an adoption does.
use Rattle.std.proofs.Common.{◌≡◌, inl, inr, ℕ, List, [], length, None, Option, Ok, Err, Result, MatchResult, IfErr, IsErrAnd, IfSome, sym, ap, ap₂, subst, subst₂, ◌∙◌, arith}
use Rattle.std.specs.Bool.{MatchBool}
use Rattle.sqlite.specs.Command.TheVariants.{CreateTable}
use Rattle.sqlite.specs.Compile.{table_defined_by}
use Rattle.sqlite.specs.Does.{MakesTable, lacks_sequence, sequence_text}
use Rattle.sqlite.specs.Effect.{Database, IsDatabase}
use Rattle.sqlite.specs.Listing.{understood}
use Rattle.sqlite.specs.Rows.{Outcome}
use Rattle.sqlite.specs.State.{State, HasCleanDisk, Writes}
use Rattle.sqlite.proofs.Callers.{statement_of}
use Rattle.sqlite_catalog.specs.Change.{created, next_tree, KeepsRows}
use Rattle.sqlite_schema.specs.declared.schema.Schema.{Schema}
use Rattle.sqlite_schema.specs.declared.schema.Table.{Table}
use Rattle.sqlite_trees.specs.Tree.{Trees}
use Rattle.fax_layout.proofs.WriteLemmas.{went}
use Rattle.fax_tables.specs.declared.fault.StoreFault.{StoreFault}
use Rattle.fax_tables.specs.declared.fault.StoreFault.TheVariants.{Unavailable, Strange}
use Rattle.fax_journal.specs.Calls.{Changes, IsAdopted, IsGivenBack}
use Rattle.fax_journal.specs.Entry.{Entry, IsValid, entry_rows}
use Rattle.fax_journal.specs.Journal.{Answers, AreAnswers, FileMeans, IsAtRest, IsBare, IsFound, IsNew, Leaves, Rests, Serves, TablesMean}
use Rattle.fax_journal.specs.Schema.{answers, bare_tables, journal, journal_tables, no_tables}
use Rattle.fax_journal.specs.declared.statements.TheConstants.{CREATE_JOURNAL, CREATE_ANSWERS}
use Rattle.fax_journal.proofs.ChangeLemmas.{Makes}
use Rattle.fax_journal.proofs.Texts.{Creates, creates_answers, creates_journal}

same_ok : {A E : Type 0} {a b : A} → ◌≡◌ {A = Result A E} (Ok a) (Ok b) → a ≡ b
same_ok e = cc

-- one more table, with no rows, beside the rows that there were
made_table : (old new : State) (before after : Schema) (sql : List ℕ) (table : Table) (count : ℕ) → Creates before sql table after → old.now.schema ≡ before
    → Writes old new None CreateTable (statement_of sql (understood before sql)) [] count
    → (new.now.schema ≡ after) × IsDatabase new.now × KeepsRows before.tables old.now.trees new.now.trees × (new.now.trees (next_tree before) ≡ [])
made_table old new before after sql table count makes has ran =
    let on = went ran.changed in
    let it = went on.1 in
    let now : new.now ≡ on.0 = ap (λ p. p.1) (same_ok on.2) in
    let text = ap table_defined_by makes.statement ∙ makes.defined in
    let defined : it.1.table ≡ record table { tree = 0 } = same_ok (sym it.1.defined ∙ text) in
    let schema_is : it.0.schema ≡ after = it.1.is ∙ ap₂ created has defined ∙ makes.is in
    let rest : on.0 ≡ it.0 = same_ok (subst (λ b. MatchBool b (MakesTable sequence_text it.0 (Ok on.0)) (◌≡◌ {A = Outcome Database} (Ok on.0) (Ok it.0))) (ap lacks_sequence schema_is ∙ makes.lacks) it.2) in
    let made_is : new.now ≡ it.0 = now ∙ rest in
    let fresh : new.now.trees (next_tree before) ≡ [] = ap (λ d. d.trees (next_tree before)) made_is ∙ ap it.0.trees (ap next_tree (sym has)) ∙ it.1.empty in
    let kept : KeepsRows before.tables old.now.trees new.now.trees = subst₂ (λ ts d. KeepsRows ts old.now.trees d.trees) (ap (λ s. s.tables) has) (sym made_is) it.1.others in
    (ap (λ d. d.schema) made_is ∙ schema_is, ran.sound, kept, fresh)

-- CREATE_JOURNAL leaves a journal that was never set
pub journal_made : (e : Option Entry) (kept : Answers) → Makes CREATE_JOURNAL.now no_tables CreateTable [] (IsNew e kept) (IsBare e kept)
journal_made e kept old new count was w =
    let did = made_table old new no_tables bare_tables CREATE_JOURNAL.now journal count creates_journal was.schema w in
    record {
      schema = did.0;
      sound = did.1;
      entry = did.3 ∙ ap entry_rows (sym was.entry);
      valid = subst (λ o. IfSome o IsValid) (sym was.entry) tt;
      answers = was.answers;
    }

-- with no rows no answer is remembered
no_answers : (kept : Answers) → ((key : List ℕ) → kept key ≡ None) → AreAnswers kept []
no_answers kept none = record { each = λ row has. absurd has; all = λ key answer is. absurd (let e = sym (none key) ∙ is in cc); ordered = record { rise = tt; integers = tt } }

-- CREATE_ANSWERS leaves the entry
pub answers_made : (e : Option Entry) (kept : Answers) → Makes CREATE_ANSWERS.now bare_tables CreateTable [] (IsBare e kept) (TablesMean e kept)
answers_made e kept old new count was w =
    let did = made_table old new bare_tables journal_tables CREATE_ANSWERS.now answers count creates_answers was.schema w in
    record {
      schema = did.0;
      sound = did.1;
      entry = did.2.0 ∙ was.entry;
      valid = was.valid;
      answers = subst (AreAnswers kept) (sym did.3) (no_answers kept was.answers);
    }

-- ---- which of the three a database is

apart : (a b : Schema) → a ≡ b → length a.tables ≡ length b.tables
apart a b e = ap (λ (s : Schema). length s.tables) e

pub new_of : (e : Option Entry) (kept : Answers) (db : Database) → db.schema ≡ no_tables → FileMeans e kept db → IsNew e kept db
new_of e kept db is (inl new) = new
new_of e kept db is (inr (inl bare)) = absurd (omega (arith, apart no_tables bare_tables (sym is ∙ bare.schema)))
new_of e kept db is (inr (inr ours)) = absurd (omega (arith, apart no_tables journal_tables (sym is ∙ ours.schema)))

pub bare_of : (e : Option Entry) (kept : Answers) (db : Database) → db.schema ≡ bare_tables → FileMeans e kept db → IsBare e kept db
bare_of e kept db is (inl new) = absurd (omega (arith, apart bare_tables no_tables (sym is ∙ new.schema)))
bare_of e kept db is (inr (inl bare)) = bare
bare_of e kept db is (inr (inr ours)) = absurd (omega (arith, apart bare_tables journal_tables (sym is ∙ ours.schema)))

pub ours_of : (e : Option Entry) (kept : Answers) (db : Database) → db.schema ≡ journal_tables → FileMeans e kept db → TablesMean e kept db
ours_of e kept db is (inl new) = absurd (omega (arith, apart journal_tables no_tables (sym is ∙ new.schema)))
ours_of e kept db is (inr (inl bare)) = absurd (omega (arith, apart journal_tables bare_tables (sym is ∙ bare.schema)))
ours_of e kept db is (inr (inr ours)) = ours

-- ---- an adoption

rest_as : {s : State} (P Q : Database → Type 0) → (P s.now → Q s.now) → IsAtRest P s → IsAtRest Q s
rest_as P Q so rest = record { autocommit = rest.autocommit; settled = rest.settled; is = so rest.is }

found_as : (P Q : Database → Type 0) (found : Trees) → ((db : Database) → P db → Q db) → IsFound P found → IsFound Q found
found_as P Q found so it = (it.0, it.1, so it.0 it.2)

never_strange : {f : StoreFault} → f ≡ Unavailable → f ≡ Strange → ⊥
never_strange is other = let e = sym is ∙ other in cc

-- of databases that mean an entry and answers in two ways, as a file may
module _ (Was Is : Option Entry → Answers → Database → Type 0) (to_was : (e : Option Entry) (kept : Answers) (db : Database) → Was e kept db → FileMeans e kept db)
    (to_is : (e : Option Entry) (kept : Answers) (db : Database) → Is e kept db → FileMeans e kept db) (old new : State)
    (of : (e : Option Entry) (kept : Answers) → FileMeans e kept old.now → Was e kept old.now) where
  -- it rests as the first
  rests_was : (e : Option Entry) (kept : Answers) → Rests (FileMeans e kept) old → Rests (Was e kept) old
  rests_was e kept rests s = rest_as (FileMeans e kept) (Was e kept) (of e kept) (rests s)

  -- a change that is refused gives the database back
  pub given_back : (fault : StoreFault) → fault ≡ Unavailable → ((e : Option Entry) (kept : Answers) → Changes old new {A = Unit {0}} (Err fault) (Was e kept) (Is e kept)) → IsGivenBack old new fault
  given_back fault why changes = record {
    strange = λ is known. never_strange why is;
    served = (changes None (λ key. None)).served;
    clean = (changes None (λ key. None)).clean;
    means = λ e kept rests s. rest_as (Was e kept) (FileMeans e kept) (to_was e kept new.now) ((changes e kept).kept (rests_was e kept rests) s);
    crash = λ e kept serves rests clean found may. elim ((changes e kept).crash serves (rests_was e kept rests) clean found may) [
      | inl before ↦ found_as (Was e kept) (FileMeans e kept) found (to_was e kept) before
      | inr after ↦ found_as (Is e kept) (FileMeans e kept) found (to_is e kept) after
    ];
  }

pub file_new : (e : Option Entry) (kept : Answers) (db : Database) → IsNew e kept db → FileMeans e kept db
file_new e kept db is = inl is

pub file_bare : (e : Option Entry) (kept : Answers) (db : Database) → IsBare e kept db → FileMeans e kept db
file_bare e kept db is = inr (inl is)

pub file_ours : (e : Option Entry) (kept : Answers) (db : Database) → TablesMean e kept db → FileMeans e kept db
file_ours e kept db is = inr (inr is)

-- the first text is refused
pub refused_first : (old new : State) (fault : StoreFault) (result : Result (Unit {0}) StoreFault) → IsErrAnd result (λ f. f ≡ fault) → fault ≡ Unavailable → old.now.schema ≡ no_tables
    → ((e : Option Entry) (kept : Answers) → Changes old new {A = Unit {0}} (Err fault) (IsNew e kept) (IsBare e kept)) → MatchResult result (λ _. IsAdopted old new) (IsGivenBack old new)
refused_first old new fault (Ok x) told why is changes = absurd told
refused_first old new fault (Err f) told why is changes =
    subst (IsGivenBack old new) (sym told) (given_back IsNew IsBare file_new file_bare old new (λ e kept. new_of e kept old.now is) fault why changes)

-- the second text, over the first table alone
pub made_second : (old new : State) (result : Result (Unit {0}) StoreFault) → IfErr result (λ f. f ≡ Unavailable) → old.now.schema ≡ bare_tables
    → ((e : Option Entry) (kept : Answers) → Changes old new result (IsBare e kept) (TablesMean e kept)) → MatchResult result (λ _. IsAdopted old new) (IsGivenBack old new)
made_second old new (Err f) why is changes = given_back IsBare TablesMean file_bare file_ours old new (λ e kept. bare_of e kept old.now is) f why changes
made_second old new (Ok x) why is changes = record {
  known = inr (inl is);
  served = (changes None (λ key. None)).served;
  clean = (changes None (λ key. None)).clean;
  opens = λ e kept serves rests clean. (changes e kept).opens serves (was e kept rests) clean;
  means = λ e kept rests. (changes e kept).done (was e kept rests);
  crash = λ e kept serves rests clean found may. elim ((changes e kept).crash serves (was e kept rests) clean found may) [
    | inl before ↦ found_as (IsBare e kept) (FileMeans e kept) found (file_bare e kept) before
    | inr after ↦ found_as (TablesMean e kept) (FileMeans e kept) found (file_ours e kept) after
  ];
}
  where
    was : (e : Option Entry) (kept : Answers) → Rests (FileMeans e kept) old → Rests (IsBare e kept) old
    was e kept rests s = rest_as (FileMeans e kept) (IsBare e kept) (bare_of e kept old.now is) (rests s)

-- both texts
module _ (old mid new : State) (is : old.now.schema ≡ no_tables) (first : (e : Option Entry) (kept : Answers) → Changes old mid {A = Unit {0}} (Ok (tt {0})) (IsNew e kept) (IsBare e kept)) where
  as_new : (e : Option Entry) (kept : Answers) → Rests (FileMeans e kept) old → Rests (IsNew e kept) old
  as_new e kept rests s = rest_as (FileMeans e kept) (IsNew e kept) (new_of e kept old.now is) (rests s)

  as_bare : (e : Option Entry) (kept : Answers) → Rests (FileMeans e kept) old → Rests (IsBare e kept) mid
  as_bare e kept rests = (first e kept).done (as_new e kept rests)

  mid_serves : (e : Option Entry) (kept : Answers) → Serves old → Rests (FileMeans e kept) old → HasCleanDisk mid → Serves mid
  mid_serves e kept serves rests clean = (first e kept).opens serves (as_new e kept rests) clean

  module _ (result : Result (Unit {0}) StoreFault) (second : (e : Option Entry) (kept : Answers) → Changes mid new result (IsBare e kept) (TablesMean e kept)) where
    both_served : Serves new → Serves old
    both_served s = (first None (λ key. None)).served ((second None (λ key. None)).served s)

    both_clean : HasCleanDisk new → HasCleanDisk old
    both_clean clean = (first None (λ key. None)).clean ((second None (λ key. None)).clean clean)

    both_crash : (e : Option Entry) (kept : Answers) → Serves old → Rests (FileMeans e kept) old → HasCleanDisk new → Leaves (FileMeans e kept) new
    both_crash e kept serves rests clean found may =
        elim ((second e kept).crash (mid_serves e kept serves rests ((second e kept).clean clean)) (as_bare e kept rests) clean found may) [
          | inl before ↦ found_as (IsBare e kept) (FileMeans e kept) found (file_bare e kept) before
          | inr after ↦ found_as (TablesMean e kept) (FileMeans e kept) found (file_ours e kept) after
        ]

  pub made_both : (result : Result (Unit {0}) StoreFault) → IfErr result (λ f. f ≡ Unavailable) → ((e : Option Entry) (kept : Answers) → Changes mid new result (IsBare e kept) (TablesMean e kept))
      → MatchResult result (λ _. IsAdopted old new) (IsGivenBack old new)
  made_both (Ok x) why second = record {
    known = inl is;
    served = both_served (Ok x) second;
    clean = both_clean (Ok x) second;
    opens = λ e kept serves rests clean. (second e kept).opens (mid_serves e kept serves rests ((second e kept).clean clean)) (as_bare e kept rests) clean;
    means = λ e kept rests. (second e kept).done (as_bare e kept rests);
    crash = both_crash (Ok x) second;
  }
  made_both (Err f) why second = record {
    strange = λ is_strange known. never_strange why is_strange;
    served = both_served (Err f) second;
    clean = both_clean (Err f) second;
    means = λ e kept rests s. rest_as (IsBare e kept) (FileMeans e kept) (file_bare e kept new.now) ((second e kept).kept (as_bare e kept rests) s);
    crash = both_crash (Err f) second;
  }
