-- What rows mean is one thing.
use Rattle.std.specs.Prelude.{◌≡◌}
use Rattle.sqlite.specs.Effect.{Database}
use Rattle.fax_core.specs.Ledger.{Ledger}
use Rattle.fax_core.specs.Queue.{Queue}
use Rattle.fax_tables.specs.Tables.{RowsMean}

-- the rows of a database mean one queue at most, and one list of kept replies with one floor of each client
abbrev pub RowsHaveOneMeaning : Type 0
RowsHaveOneMeaning = (db : Database) (m n : Queue) (k l : Ledger) → RowsMean db m k → RowsMean db n l → (m ≡ n) × (k ≡ l)
