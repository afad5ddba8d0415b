-- When rows mean a consistent queue.
use Rattle.std.specs.Prelude.{◌≡◌, List}
use Rattle.sqlite.specs.Effect.{Database, IsDatabase}
use Rattle.fax_core.specs.Ledger.{Ledger}
use Rattle.fax_core.specs.Queue.{Queue}
use Rattle.fax_check.specs.Consistent.{Consistent}
use Rattle.fax_check.specs.Whole.{AreWhole, Holder}
use Rattle.fax_layout.specs.ByRowid.{IsByRowid}
use Rattle.fax_schema.specs.Schema.{our_tables, meta_tree}
use Rattle.fax_tables.specs.Tables.{AreByRowid, TablesMean}
use Rattle.fax_tables.specs.declared.meta.Meta.{Meta}

-- the rows mean a consistent queue and kept replies
abbrev pub IsSound : Database → Type 0
IsSound db = (m : Queue) × (k : Ledger) × TablesMean db m k × Consistent m

-- the nine tables, which obey their rules, each with its rows by rowid
pub record IsStored (db : Database) : Type 0 where
  pub schema_is : db.schema ≡ our_tables
  pub sound : IsDatabase db
  pub ordered : AreByRowid db
  pub meta_ordered : IsByRowid (db.trees meta_tree)

-- so they do where each is as it has to be
abbrev pub WholeRowsAreSound : Type 0
WholeRowsAreSound = (db : Database) (meta : Meta) (held : List Holder) → IsStored db → AreWhole db meta held → IsSound db
