-- The other way round: where the rows mean a consistent queue, each is as it has to be.
use Rattle.std.specs.Prelude.{◌≡◌, ℕ, List, All, map, drop}
use Rattle.std.specs.List.Sorted.{IsPermutation}
use Rattle.sqlite.specs.Effect.{Database}
use Rattle.sqlite.specs.Order.{Row}
use Rattle.sqlite_rules.specs.Lists.{Has}
use Rattle.fax_core.specs.Ledger.{Ledger}
use Rattle.fax_core.specs.Queue.{Queue}
use Rattle.fax_core.specs.Sound.{Sound}
use Rattle.fax_core.specs.declared.grants.Grant.{Grant}
use Rattle.fax_check.specs.Consistent.{Consistent}
use Rattle.fax_check.specs.Whole.{AreWhole, Holder, IsRightHolder, holder_columns}
use Rattle.fax_schema.specs.Schema.{holds_tree}
use Rattle.fax_tables.specs.Meta.{meta_of}
use Rattle.fax_tables.specs.Tables.{TablesMean}

-- the holder that an open grant has, with the number that its job dials
abbrev pub holder_of : Grant → List ℕ → Holder
holder_of g dial = record { modem = g.modem; job = g.job; grant = g.number; dial = dial }

-- each row of holds is a right holder's
abbrev pub HoldRowsAreRight : Type 0
HoldRowsAreRight =
    (db : Database) (m : Queue) (k : Ledger) → TablesMean db m k → Sound m → (row : Row) → Has (db.trees holds_tree) row
    → (h : Holder) × (drop 1 row ≡ holder_columns h) × IsRightHolder db h

-- whatever right holders the rows of holds have, all rows are whole
abbrev pub SoundRowsAreWhole : Type 0
SoundRowsAreWhole =
    (db : Database) (m : Queue) (k : Ledger) (held : List Holder) → TablesMean db m k → Consistent m
    → IsPermutation (map holder_columns held) (map (drop 1) (db.trees holds_tree)) → All (IsRightHolder db) held → AreWhole db (meta_of m) held
