-- The tables of a journal as the database knows them.
use Rattle.std.specs.Prelude.{◌≡◌, ◌⊎◌, ℕ, [], ◌∷◌, codes, Some, None}
use Rattle.sqlite_schema.specs.declared.schema.Index.{Index}
use Rattle.sqlite_schema.specs.declared.schema.Schema.{Schema}
use Rattle.sqlite_schema.specs.declared.schema.Table.{Table}
use Rattle.sqlite_value.specs.Keys.{plain}
use Rattle.fax_layout.specs.Shape.{first_is_one}
use Rattle.fax_layout.specs.Tables.{integer, text, blob, table_of, key_index, laid}
pub use Rattle.fax_layout.specs.Tables.{no_tables}

abbrev pub journal_tree : ℕ
journal_tree = 0

abbrev pub answers_tree : ℕ
answers_tree = 1

-- it has one row at most
abbrev pub journal : Table
journal =
    table_of (codes "journal") journal_tree
    (integer (codes "one") ∷ text (codes "client") ∷ integer (codes "last_number") ∷ integer (codes "unanswered") ∷ integer (codes "number") ∷ text (codes "path") ∷ blob (codes "body")
    ∷ integer (codes "keyed") ∷ text (codes "answer_key") ∷ integer (codes "holds") ∷ integer (codes "grant_id") ∷ integer (codes "job") ∷ text (codes "dial") ∷ integer (codes "first_page")
    ∷ integer (codes "last_page") ∷ integer (codes "call") ∷ integer (codes "pages") ∷ [])
    (Some 0) (0 ∷ []) [] [] (first_is_one ∷ [])

abbrev pub answers : Table
answers = table_of (codes "answers") answers_tree (text (codes "answer_key") ∷ blob (codes "answer") ∷ []) None (1 ∷ []) ((1 ∷ []) ∷ []) (plain ∷ []) []

abbrev pub answers_key : Index
answers_key = key_index (codes "sqlite_autoindex_answers_1") 2 answers_tree (1 ∷ [])

-- what a crash may leave between the two statements that make the tables
abbrev pub bare_tables : Schema
bare_tables = laid (journal ∷ []) []

abbrev pub journal_tables : Schema
journal_tables = laid (journal ∷ answers ∷ []) (answers_key ∷ [])

-- the database of a journal, or one that is to be
abbrev pub AreKnown : Schema → Type 0
AreKnown schema = (schema ≡ no_tables) ⊎ (schema ≡ bare_tables) ⊎ (schema ≡ journal_tables)
