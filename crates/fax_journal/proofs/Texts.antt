-- What the texts mean.
use Rattle.std.proofs.Common.{◌≡◌, ℕ, List, [], ◌∷◌, codes, pos, false, Ok, refl}
use Rattle.sqlite.specs.Command.{Command}
use Rattle.sqlite.specs.Command.TheVariants.{CreateTable, Delete, InsertOr, Select}
use Rattle.sqlite.specs.Compile.{table_defined_by}
use Rattle.sqlite.specs.Does.{lacks_sequence}
use Rattle.sqlite.specs.Listing.{understood, reads_listing}
use Rattle.sqlite.specs.Order.{Row}
use Rattle.sqlite.specs.Source.TheVariants.{Values}
use Rattle.sqlite.specs.declared.types.Value.TheVariants.{Int, Null}
use Rattle.sqlite.proofs.Callers.{IsPlain, command_of, statement_of}
use Rattle.sqlite_catalog.specs.Change.{created}
use Rattle.sqlite_rules.specs.Action.{works}
use Rattle.sqlite_schema.specs.declared.command.Conflict.TheVariants.{Replace}
use Rattle.sqlite_schema.specs.declared.program.Program.{Program}
use Rattle.sqlite_schema.specs.declared.schema.Keys.TheVariants.{Enforced}
use Rattle.sqlite_schema.specs.declared.schema.Schema.{Schema}
use Rattle.sqlite_schema.specs.declared.schema.Table.{Table}
use Rattle.sqlite.specs.Collation.TheVariants.{Binary}
use Rattle.sqlite_sql.specs.Term.{Term, lit, col, op2}
use Rattle.sqlite_sql.specs.declared.ops.BinaryOp.TheVariants.{Compare}
use Rattle.sqlite_sql.specs.declared.ops.CompareOp.TheVariants.{Eq}
use Rattle.sqlite_tied.specs.Compute.{everything}
use Rattle.fax_layout.proofs.SelectLemmas.{rows_where}
use Rattle.fax_journal.specs.Schema.{answers, answers_tree, bare_tables, journal, journal_tables, journal_tree, no_tables}
use Rattle.fax_journal.specs.declared.statements.TheConstants.{CREATE_JOURNAL, CREATE_ANSWERS, SELECT_ENTRY, SET_ENTRY, SELECT_ANSWER, SET_ANSWER, DELETE_ANSWER}
use Rattle.fax_journal.proofs.ChangeLemmas.{IsText}

-- no table refers to another
pub unreferred : (tree : ℕ) (olds news : List Row) → works journal_tables Enforced 0 tree olds news ≡ []
unreferred tree olds news = refl

-- ---- queries

-- over the tables of a journal, the text is this query of one table
pub record Selects (sql : List ℕ) (tree : ℕ) (tests project : List Term) (names : List (List ℕ)) : Type 0 where
  pub command : command_of (understood journal_tables sql) ≡ Select (record { lets = []; body = rows_where tree tests project }) names
  pub plain : IsPlain (understood journal_tables sql)
  pub unlisted : reads_listing journal_tables sql ≡ false

abbrev pub entry_project : List Term
entry_project =
    col 1 2 ∷ col 1 3 ∷ col 1 4 ∷ col 1 5 ∷ col 1 6 ∷ col 1 7 ∷ col 1 8 ∷ col 1 9 ∷ col 1 10 ∷ col 1 11 ∷ col 1 12 ∷ col 1 13 ∷ col 1 14 ∷ col 1 15 ∷ col 1 16 ∷ col 1 17 ∷ []

abbrev pub entry_names : List (List ℕ)
entry_names =
    codes "client" ∷ codes "last_number" ∷ codes "unanswered" ∷ codes "number" ∷ codes "path" ∷ codes "body" ∷ codes "keyed" ∷ codes "answer_key"
    ∷ codes "holds" ∷ codes "grant_id" ∷ codes "job" ∷ codes "dial" ∷ codes "first_page" ∷ codes "last_page" ∷ codes "call" ∷ codes "pages" ∷ []

-- SELECT_ENTRY reads all columns after the first
pub select_entry : Selects SELECT_ENTRY.now journal_tree [] entry_project entry_names
unfolding understood everything
select_entry = record { command = refl; plain = (refl, refl); unlisted = refl }

abbrev pub answer_tests : List Term
answer_tests = op2 (Compare Eq Binary) (col 1 1) (col 0 0) ∷ []

abbrev pub answer_project : List Term
answer_project = col 1 2 ∷ []

-- SELECT_ANSWER reads the answer of a key
pub select_answer : Selects SELECT_ANSWER.now answers_tree answer_tests answer_project (codes "answer" ∷ [])
unfolding understood everything
select_answer = record { command = refl; plain = (refl, refl); unlisted = refl }

-- ---- statements on rows

abbrev pub entry_terms : List Term
entry_terms =
    lit (Int (pos 1)) ∷ lit Null ∷ col 0 0 ∷ col 0 1 ∷ col 0 2 ∷ col 0 3 ∷ col 0 4 ∷ col 0 5 ∷ col 0 6 ∷ col 0 7 ∷ col 0 8 ∷ col 0 9 ∷ col 0 10 ∷ col 0 11 ∷ col 0 12 ∷ col 0 13 ∷ col 0 14 ∷ col 0 15 ∷ []

abbrev pub to_set_entry : Command
to_set_entry = InsertOr 0 Replace (Values entry_terms 18) []

-- SET_ENTRY puts in the row of an entry, in place of the one before
pub set_entry : IsText journal_tables SET_ENTRY.now to_set_entry
unfolding understood everything
set_entry = record { is = refl; plain = (refl, refl); writes = λ old new text params count h. h; ends_nothing = λ h. h }

abbrev pub answer_terms : List Term
answer_terms = lit Null ∷ col 0 0 ∷ col 0 1 ∷ []

abbrev pub to_set_answer : Command
to_set_answer = InsertOr 1 Replace (Values answer_terms 3) []

-- SET_ANSWER puts in the row of an answer, in place of the one with its key
pub set_answer : IsText journal_tables SET_ANSWER.now to_set_answer
unfolding understood everything
set_answer = record { is = refl; plain = (refl, refl); writes = λ old new text params count h. h; ends_nothing = λ h. h }

abbrev pub gone_project : List Term
gone_project = col 1 0 ∷ []

abbrev pub answer_program : Program
answer_program = record { lets = []; body = rows_where answers_tree answer_tests gone_project }

-- DELETE_ANSWER takes the row of a key away
pub delete_answer : IsText journal_tables DELETE_ANSWER.now (Delete 1 answer_program)
unfolding understood everything
delete_answer = record { is = refl; plain = (refl, refl); writes = λ old new text params count h. h; ends_nothing = λ h. h }

-- ---- statements on tables

-- the text makes this table in any database with this schema, and leaves that
pub record Creates (before : Schema) (sql : List ℕ) (table : Table) (after : Schema) : Type 0 where
  pub statement : statement_of sql (understood before sql) ≡ sql
  pub defined : table_defined_by sql ≡ Ok (record table { tree = 0 })
  pub is : created before table ≡ after
  pub lacks : lacks_sequence after ≡ false

pub create_journal : IsText no_tables CREATE_JOURNAL.now CreateTable
unfolding understood everything
create_journal = record { is = refl; plain = (refl, refl); writes = λ old new text params count h. h; ends_nothing = λ h. h }

-- CREATE_JOURNAL makes the table of the entry
pub creates_journal : Creates no_tables CREATE_JOURNAL.now journal bare_tables
unfolding understood everything
creates_journal = record { statement = refl; defined = refl; is = refl; lacks = refl }

pub create_answers : IsText bare_tables CREATE_ANSWERS.now CreateTable
unfolding understood everything
create_answers = record { is = refl; plain = (refl, refl); writes = λ old new text params count h. h; ends_nothing = λ h. h }

-- CREATE_ANSWERS makes that of the answers
pub creates_answers : Creates bare_tables CREATE_ANSWERS.now answers journal_tables
unfolding understood everything
creates_answers = record { statement = refl; defined = refl; is = refl; lacks = refl }
