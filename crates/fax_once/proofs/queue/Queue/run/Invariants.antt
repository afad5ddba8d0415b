use Rattle.std.proofs.Common.{◌≡◌, ◌≤◌, length, take}
use Rattle.std.specs.Prelude.{vec_len, vec_capacity}
use Rattle.sqlite.specs.Held.{state}
use Rattle.sqlite.specs.State.{HasCleanDisk}
use Rattle.fax_core.specs.Ledger.{Ledger}
use Rattle.fax_core.specs.Queue.{Queue}
use Rattle.fax_core.specs.Sound.{Sound}
use Rattle.fax_decide.specs.Settings.{settings_of}
use Rattle.fax_store.specs.Store.{Means}
use Rattle.fax_once.specs.Queue.{ClosedWhereShut}
use Rattle.fax_once.specs.Stop.{StopsIn}
use Rattle.fax_once.proofs.queue.Queue.run.Given as goal

-- the arrivals so far have run
abbrev pub invariant-loop-arrival : goal.invariant-loop-arrival
invariant-loop-arrival g l = record {
  filled : vec_len l.replies ≡ l.arrival-index;
  room : length l.arrivals ≤ vec_capacity l.replies;
  office : l.self.office ≡ l.initial.self.office;
  clean : HasCleanDisk (state g.S.Store l.self.store.conn) → HasCleanDisk (state g.S.Store l.initial.self.store.conn);
  shut : ClosedWhereShut g.S.Store l.initial.self → ClosedWhereShut g.S.Store l.self;
  ran : (m : Queue) (k : Ledger) → Sound m → Means (state g.S.Store l.initial.self.store.conn) m k → HasCleanDisk (state g.S.Store l.self.store.conn)
      → StopsIn (settings_of l.initial.self.office.setup l.initial.self.office.controls) (record { queue = m; kept = k }) (take l.arrival-index l.arrivals) l.replies.items
      (state g.S.Store l.initial.self.store.conn) (state g.S.Store l.self.store.conn);
}
