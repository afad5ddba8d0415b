-- What a text is that makes a table, or reads or writes the tables of a store.
use Rattle.std.proofs.Common.{◌≡◌, ℕ, List, [], Ok, false}
use Rattle.sqlite.specs.Collation.TheVariants.{Binary}
use Rattle.sqlite_sql.specs.Term.{Term, op2}
use Rattle.sqlite_sql.specs.declared.ops.BinaryOp.TheVariants.{Compare}
use Rattle.sqlite_sql.specs.declared.ops.CompareOp.TheVariants.{Eq}
use Rattle.sqlite.specs.Query.{Query}
use Rattle.sqlite.specs.Command.{Command}
use Rattle.sqlite.specs.Command.TheVariants.{CreateTable, Select}
use Rattle.sqlite.specs.Compile.{table_defined_by}
use Rattle.sqlite.specs.Listing.{understood, reads_listing}
use Rattle.sqlite.proofs.Callers.{IsPlain, command_of, statement_of}
use Rattle.sqlite_schema.specs.declared.schema.Schema.{Schema}
use Rattle.sqlite_schema.specs.declared.schema.Table.{Table}
use Rattle.sqlite_value.specs.declared.keys.Key.{Key}
use Rattle.fax_schema.specs.Schema.{our_tables}
use Rattle.fax_layout.proofs.SelectLemmas.{rows_by, rows_where}

abbrev pub equals : Term → Term → Term
equals = op2 (Compare Eq Binary)

-- the text is this query
pub record SelectsAll (sql : List ℕ) (query : Query) (names : List (List ℕ)) : Type 0 where
  pub command : command_of (understood our_tables sql) ≡ Select (record { lets = []; body = query }) names
  pub plain : IsPlain (understood our_tables sql)
  pub unlisted : reads_listing our_tables sql ≡ false

-- it is of one table
abbrev pub Selects : List ℕ → ℕ → List Term → List Term → List (List ℕ) → Type 0
Selects sql tree tests project = SelectsAll sql (rows_where tree tests project)

-- and in this order
abbrev pub SelectsBy : List ℕ → ℕ → List Term → List Term → List (Term × Key) → List (List ℕ) → Type 0
SelectsBy sql tree tests project order = SelectsAll sql (rows_by tree tests project order)

-- the text is this command, which shows no rows
pub record Commands (sql : List ℕ) (command : Command) : Type 0 where
  pub is : command_of (understood our_tables sql) ≡ command
  pub plain : IsPlain (understood our_tables sql)

-- the text makes this table in any database with this schema
pub record Makes (schema : Schema) (sql : List ℕ) (table : Table) : Type 0 where
  pub command : command_of (understood schema sql) ≡ CreateTable
  pub statement : statement_of sql (understood schema sql) ≡ sql
  pub defined : table_defined_by sql ≡ Ok (record table { tree = 0 })
  pub plain : IsPlain (understood schema sql)
