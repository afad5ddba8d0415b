use Rattle.std.proofs.Common.{◌≡◌, All, map, take}
use Rattle.sqlite.specs.Held.{state}
use Rattle.sqlite.specs.State.{HasCleanDisk}
use Rattle.fax_check.specs.Sound.{IsStored}
use Rattle.fax_check.specs.Whole.{IsRightHolder, holder_columns}
use Rattle.fax_check.proofs.TellsLemmas.{Since}
use Rattle.fax_store.specs.Store.{HasTables}
use Rattle.fax_check.proofs.holders.holders_in.Given as goal

-- the holders of the rows so far
abbrev pub invariant-loop-row : goal.invariant-loop-row
invariant-loop-row g l = record {
  since : Since g.S.Store (HasTables (state g.S.Store l.initial.conn)) l.initial.conn l.conn;
  told : IsStored (state g.S.Store l.initial.conn).now → HasCleanDisk (state g.S.Store l.conn)
      → (map (take 3) (take l.row-index l.rows) ≡ map holder_columns l.held.items) × All (IsRightHolder (state g.S.Store l.initial.conn).now) l.held.items;
}
