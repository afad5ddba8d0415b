-- Tables and indexes as a database knows them.
use Rattle.std.specs.Prelude.{ℕ, true, false, List, [], Option}
use Rattle.sqlite.specs.Collation.TheVariants.{Binary}
use Rattle.sqlite.specs.declared.types.Value.TheVariants.{Null}
use Rattle.sqlite_schema.specs.declared.schema.Column.{Column}
use Rattle.sqlite_schema.specs.declared.schema.Kind.{Kind}
use Rattle.sqlite_schema.specs.declared.schema.Kind.TheVariants.{Integer, Text, Blob}
use Rattle.sqlite_schema.specs.declared.schema.Index.{Index}
use Rattle.sqlite_schema.specs.declared.schema.Table.{Table}
use Rattle.sqlite_schema.specs.declared.schema.Schema.{Schema}
use Rattle.sqlite_sql.specs.Term.{Term}
use Rattle.sqlite_value.specs.declared.keys.Order.{Order}
use Rattle.sqlite_value.specs.Keys.{plain}

abbrev pub column_of : List ℕ → Kind → Column
column_of name kind = record { name = name; kind = kind; is_strict = true; not_null = true; default = Null; collation = Binary }

abbrev pub integer : List ℕ → Column
integer name = column_of name Integer

abbrev pub text : List ℕ → Column
text name = column_of name Text

abbrev pub blob : List ℕ → Column
blob name = column_of name Blob

-- a strict table with no rule but NOT NULL and these keys
abbrev pub table_of : List ℕ → ℕ → List Column → Option ℕ → List ℕ → List (List ℕ) → List Order → List Term → Table
table_of name tree columns key primary uniques orders checks = record {
  name = name;
  tree = tree;
  columns = columns;
  key = key;
  primary = primary;
  uniques = uniques;
  orders = orders;
  checks = checks;
  references = [];
  computed = [];
  stamps = record { places = []; terms = []; formats = [] };
  is_counted = false;
}

-- the index that a key of a table with hidden rowids has
abbrev pub key_index : List ℕ → ℕ → ℕ → List ℕ → Index
key_index name tree table places = record { name = name; tree = tree; table = table; columns = places; order = plain; is_unique = true }

-- a database with these tables and indexes, and no view
abbrev pub laid : List Table → List Index → Schema
laid tables indexes = record { tables = tables; indexes = indexes; views = [] }

-- a database with no tables
abbrev pub no_tables : Schema
no_tables = laid [] []
