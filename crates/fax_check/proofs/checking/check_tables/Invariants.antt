use Rattle.std.proofs.Common.{All, take}
use Rattle.sqlite.specs.Held.{state}
use Rattle.sqlite.specs.State.{HasCleanDisk}
use Rattle.fax_check.specs.Whole.{IsWholeTable, passed}
use Rattle.fax_check.specs.Sound.{IsStored}
use Rattle.fax_check.proofs.TellsLemmas.{Since}
use Rattle.fax_store.specs.Store.{HasTables}
use Rattle.fax_check.proofs.checking.check_tables.Given as goal

-- those so far are whole
abbrev pub invariant-loop-query : goal.invariant-loop-query
invariant-loop-query g l = record {
  since : Since g.S.Store (HasTables (state g.S.Store l.initial.conn)) l.initial.conn l.conn;
  told : IsStored (state g.S.Store l.initial.conn).now → HasCleanDisk (state g.S.Store l.conn) → All (IsWholeTable l.meta l.held (state g.S.Store l.initial.conn).now) (take l.query-index passed);
}
