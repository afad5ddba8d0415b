use Rattle.std.proofs.Common.{Ok, take}
use Rattle.sqlite.specs.Held.{state}
use Rattle.sqlite_value.specs.Value.{owned}
use Rattle.fax_store.specs.Adopt.{AreTimed, HasNone, Turns}
use Rattle.fax_tables.specs.declared.fault.StoreFault.{StoreFault}
use Rattle.fax_store.proofs.store.Store.time_rows.Given as goal

-- the jobs of the rows so far have their times
abbrev pub invariant-loop-row : goal.invariant-loop-row
invariant-loop-row g l = record { turns : Turns {A = Unit {0}} {E = StoreFault} HasNone (AreTimed (owned l.clock) (take l.row-index l.rows)) (state g.S.Store l.initial.self.conn) (state g.S.Store l.self.conn) (Ok tt) }
