-- Rows that stand by their rowids.
use Rattle.std.specs.Prelude.{List, IsTrue}
use Rattle.std.specs.List.{AllByRecursion}
use Rattle.sqlite.specs.Order.{Row}
use Rattle.sqlite.specs.Tree.{rowid, IsTable}
use Rattle.sqlite.specs.View.{is_int}

-- the rowids rise, and are integers
pub record IsByRowid (rows : List Row) : Type 0 where
  pub rise : IsTable rows
  pub integers : AllByRecursion (λ r. IsTrue (is_int (rowid r))) rows
