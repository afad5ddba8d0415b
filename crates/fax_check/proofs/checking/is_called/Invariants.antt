use Rattle.std.proofs.Common.{All, take}
use Rattle.sqlite.specs.Held.{state}
use Rattle.sqlite.specs.State.{HasCleanDisk}
use Rattle.fax_check.specs.Check.{IsCalled}
use Rattle.fax_check.specs.Sound.{IsStored}
use Rattle.fax_check.proofs.TellsLemmas.{Since}
use Rattle.fax_store.specs.Store.{HasTables}
use Rattle.fax_check.proofs.checking.is_called.Given as goal

-- those so far are counted
abbrev pub invariant-loop-holder : goal.invariant-loop-holder
invariant-loop-holder g l = record {
  since : Since g.S.Store (HasTables (state g.S.Store l.initial.conn)) l.initial.conn l.conn;
  told : IsStored (state g.S.Store l.initial.conn).now → HasCleanDisk (state g.S.Store l.conn) → All (IsCalled (state g.S.Store l.initial.conn).now l.held) (take l.holder-index l.held);
}
