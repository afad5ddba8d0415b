use Rattle.std.proofs.Common.{Ok, take}
use Rattle.sqlite.specs.Held.{state}
use Rattle.fax_store.specs.Adopt.{AreDropped, HasNone, Turns}
use Rattle.fax_tables.specs.declared.fault.StoreFault.{StoreFault}
use Rattle.fax_store.proofs.store.Store.drop_rows.Given as goal

-- the grants of the rows so far are gone
abbrev pub invariant-loop-row : goal.invariant-loop-row
invariant-loop-row g l = record { turns : Turns {A = Unit {0}} {E = StoreFault} HasNone (AreDropped (take l.row-index l.rows)) (state g.S.Store l.initial.self.conn) (state g.S.Store l.self.conn) (Ok tt) }
