use Rattle.std.proofs.Common.{ℕ, List, length, take, false, ◌<◌, ◌^◌}
use Rattle.sqlite.specs.Held.{state}
use Rattle.sqlite.specs.State.{HasCleanDisk}
use Rattle.fax_core.specs.Ledger.{Ledger}
use Rattle.fax_core.specs.Queue.{Queue}
use Rattle.fax_store.specs.Adopt.{AreOfJobs, AreSmall, CoreMeans, HasSet, held_to}
use Rattle.fax_store.specs.Grant.{HasCalls, SetsCalls}
use Rattle.fax_store.specs.Work.{Withholds}
use Rattle.fax_store.proofs.store.Store.count_rows.Given as goal

-- the calls of the rows so far are counted
abbrev pub invariant-loop-row : goal.invariant-loop-row
invariant-loop-row g l = record {
  clean : HasCleanDisk (state g.S.Store l.self.conn) → HasCleanDisk (state g.S.Store l.initial.self.conn);
  crash : Withholds (state g.S.Store l.initial.self.conn) false (state g.S.Store l.self.conn) false;
  set : (count : List ℕ → ℕ) → HasCalls (state g.S.Store l.initial.self.conn) count → AreSmall count → HasCleanDisk (state g.S.Store l.self.conn) → HasSet (state g.S.Store l.initial.self.conn) (state g.S.Store l.self.conn);
  counted : (m : Queue) (k : Ledger) → CoreMeans (state g.S.Store l.initial.self.conn).now m k → AreOfJobs m l.rows → length l.rows < 2 ^ 32 → HasCalls (state g.S.Store l.initial.self.conn) (λ _. 0) → HasCleanDisk (state g.S.Store l.self.conn)
      → SetsCalls (state g.S.Store l.initial.self.conn) (state g.S.Store l.self.conn) (held_to m (take l.row-index l.rows));
}
