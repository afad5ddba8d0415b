-- Which tables and indexes the shapes describe.
use Rattle.std.specs.Prelude.{◌≡◌, ◌↔◌, ℕ, ◌+◌, Bool, true, false, List, [], ◌∷◌, ◌++◌, Option, MatchOption, map, pos}
use Rattle.sqlite.specs.Collation.TheVariants.{Binary}
use Rattle.sqlite.specs.declared.types.Value.TheVariants.{Int}
use Rattle.sqlite_schema.specs.declared.schema.Column.{Column}
use Rattle.sqlite_schema.specs.declared.schema.Index.{Index}
use Rattle.sqlite_schema.specs.declared.schema.Schema.{Schema}
use Rattle.sqlite_schema.specs.declared.schema.Stamps.{Stamps}
use Rattle.sqlite_schema.specs.declared.schema.Table.{Table}
use Rattle.sqlite_sql.specs.Term.{Term, lit, col, op2}
use Rattle.sqlite_sql.specs.declared.ops.BinaryOp.TheVariants.{Compare}
use Rattle.sqlite_sql.specs.declared.ops.CompareOp.TheVariants.{Eq}
use Rattle.sqlite_value.specs.declared.keys.Order.{Order}
use Rattle.sqlite_value.specs.Keys.{plain}
use Rattle.fax_layout.specs.declared.shape.Shape.{Shape}
use Rattle.fax_layout.specs.declared.shape.IndexShape.{IndexShape}
use Rattle.fax_layout.specs.declared.shape.Part.{Part}
use Rattle.fax_layout.specs.declared.shape.Part.TheVariants as part
use Rattle.fax_layout.specs.declared.recognize.Left.{Left}
use Rattle.fax_layout.specs.Tables.{column_of, laid, table_of}

-- the columns of a shape
abbrev pub columns_of : Shape → List Column
columns_of s = map (λ c. column_of c.0.now c.1) s.columns.now

-- the keys of a shape, by their places
abbrev pub keys_of : Shape → List (List ℕ)
keys_of s = map (λ u. u.now) s.uniques.now

-- the order of each of their indexes
abbrev pub orders_of : Shape → List Order
orders_of s = map (λ _. plain) s.uniques.now

-- the table of this shape in that tree, with these checks
abbrev pub shaped : Shape → ℕ → List Term → Table
shaped s tree checks = table_of s.name.now tree (columns_of s) s.key s.primary.now (keys_of s) (orders_of s) checks

-- the check of a table that has one row: its first column is 1
abbrev pub first_is_one : Term
first_is_one = op2 (Compare Eq Binary) (col 1 0) (lit (Int (pos 1)))

abbrev pub checks_of : Bool → List Term
checks_of true = first_is_one ∷ []
checks_of false = []

-- the table of this shape in that tree
abbrev pub tabled : Shape → ℕ → Table
tabled s tree = shaped s tree (checks_of s.has_one_row)

pub record HasColumns (t : Table) (s : Shape) (place : ℕ) : Type 0 where
  pub name : t.name ≡ s.name.now
  pub tree : t.tree ≡ place
  pub columns : t.columns ≡ columns_of s
  pub key : t.key ≡ s.key
  pub primary : t.primary ≡ s.primary.now

pub record HasRules (t : Table) (s : Shape) : Type 0 where
  pub uniques : t.uniques ≡ keys_of s
  pub orders : t.orders ≡ orders_of s
  pub references : t.references ≡ []
  pub computed : t.computed ≡ []
  pub is_counted : t.is_counted ≡ false

-- no default reads the time
abbrev pub no_stamps : Stamps
no_stamps = record { places = []; terms = []; formats = [] }

-- the index of this shape in that tree, of the table in the other
abbrev pub indexed_as : IndexShape → ℕ → ℕ → Bool → Index
indexed_as i tree table is_key = record { name = i.name.now; tree = tree; table = table; columns = i.places.now; order = plain; is_unique = is_key }

-- the tables among these parts, of which the first is in this tree
abbrev pub tables_from : ℕ → List Part → List Table
tables_from tree [] = []
tables_from tree (part.Table s ∷ parts) = tabled s tree ∷ tables_from (tree + 1) parts
tables_from tree (part.Key i ∷ parts) = tables_from (tree + 1) parts
tables_from tree (part.Index i t ∷ parts) = tables_from (tree + 1) parts

-- the indexes among them: those of keys are of the table before them, at first of the one in the other tree; each other is of its own
abbrev pub indexes_from : ℕ → ℕ → List Part → List Index
indexes_from tree table [] = []
indexes_from tree table (part.Table s ∷ parts) = indexes_from (tree + 1) tree parts
indexes_from tree table (part.Key i ∷ parts) = indexed_as i tree table true ∷ indexes_from (tree + 1) table parts
indexes_from tree table (part.Index i t ∷ parts) = indexed_as i tree t false ∷ indexes_from (tree + 1) table parts

-- the parts of this layout, in their order
abbrev pub parts_of : List (List Part) → List Part
parts_of [] = []
parts_of (parts ∷ rest) = parts ++ parts_of rest

-- its tables and indexes
abbrev pub laid_out : List (List Part) → Schema
laid_out layout = laid (tables_from 0 (parts_of layout)) (indexes_from 0 0 (parts_of layout))

-- ---- a look at a database, part by part

-- what is left is just these parts
pub record Remains (left : Left) (parts : List Part) : Type 0 where
  pub tables : left.tables.now ≡ tables_from left.tree parts
  pub indexes : left.indexes.now ≡ indexes_from left.tree left.table parts

-- This part and others are what is left just where there is something behind it, and the others are left there.
abbrev pub Passes : Left → Part → Option Left → Type 0
Passes left first behind = (parts : List Part) → Remains left (first ∷ parts) ↔ MatchOption behind ⊥ (λ l. Remains l parts)

-- the same of some parts, one after the other
abbrev pub PassesAll : Left → List Part → Option Left → Type 0
PassesAll left front behind = (parts : List Part) → Remains left (front ++ parts) ↔ MatchOption behind ⊥ (λ l. Remains l parts)

-- this is what is left behind an index
pub record IsBehind (left : Left) (first : Index) (l : Left) : Type 0 where
  pub tables : l.tables.now ≡ left.tables.now
  pub indexes : left.indexes.now ≡ first ∷ l.indexes.now
  pub tree : l.tree ≡ left.tree + 1
  pub table : l.table ≡ left.table

-- there is something where that index comes next, and nothing where it doesn't
abbrev pub PassesIndex : Left → Index → Option Left → Type 0
PassesIndex left first behind = MatchOption behind ((others : List Index) → left.indexes.now ≡ first ∷ others → ⊥) (IsBehind left first)
