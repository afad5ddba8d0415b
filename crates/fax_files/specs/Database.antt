-- What a database's file holds, and what becomes of it.
use Rattle.std.specs.Prelude.{◌≡◌}
use Rattle.sqlite.specs.Effect.{Database, IsDatabase}
use Rattle.sqlite.specs.Files.{AreFoundIn, HoldsDatabase}
use Rattle.sqlite.specs.State.{State}
use Rattle.sqlite_trees.specs.Tree.{Trees}
use Rattle.sqlite_wal.specs.Recovery.{Image}
use Rattle.fax_core.specs.Ledger.{Ledger}
use Rattle.fax_core.specs.Queue.{Queue}
use Rattle.fax_store.specs.Adopt.{Adopts}
use Rattle.fax_store.specs.Store.{LeavesAlone, Means, Serves}
use Rattle.fax_schema.specs.Schema.{AreOurs}
use Rattle.fax_tables.specs.Tables.{RowsMean}

-- the trees are those that the files hold, or there was no database yet
pub record AreHeld (image : Image) (trees : Trees) : Type 0 where
  pub holds : (held : Trees) → HoldsDatabase image held → trees ≡ held
  pub reads : AreFoundIn image trees

-- The database was found in the files: the tables that its schema lists, with their rows. It was taken, and the store serves and means what those rows mean. A crash now leaves it as it was taken, and nothing else.
pub record IsFound (image : Image) (new : State) : Type 0 where
  pub found : Database
  pub held : AreHeld image found.trees
  pub sound : IsDatabase found
  pub taken : Adopts found new
  pub serves : Serves new
  pub means : (m : Queue) (k : Ledger) → AreOurs found.schema → RowsMean found m k → Means new m k
  pub alone : LeavesAlone new new.committed.trees
