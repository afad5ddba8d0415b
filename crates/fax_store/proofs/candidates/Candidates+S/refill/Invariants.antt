use Rattle.std.proofs.Common.{◌≡◌, List, Ok}
use Rattle.std.specs.Prelude.{⊤}
use Rattle.std.specs.Vec.Iter.{into_iter_items}
use Rattle.sqlite.specs.Held.{state}
use Rattle.fax_core.specs.Job.{Job as OneJob}
use Rattle.fax_core.specs.Ledger.{Ledger}
use Rattle.fax_core.specs.Queue.{Queue}
use Rattle.fax_store.specs.Candidates.{StandsAt}
use Rattle.fax_store.specs.Calls.{Looks}
use Rattle.fax_store.specs.Store.{Serves, MeansNow, StaysOpen}
use Rattle.fax_store.proofs.CandidateLemmas.{turns_left}
use Rattle.fax_store.proofs.candidates.Candidates+S.refill.Given as goal

abbrev pub invariant-loop-self : goal.invariant-loop-self
invariant-loop-self g l = record {
  same_reference : l.self.store.ghost_name ≡ l.initial.self.store.ghost_name;
  asked : l.self.asked ≡ l.initial.self.asked;
  leaves : Looks g.S.Store {A = ⊤} {E = ⊤} l.initial.self.store.now l.self.store.now (Ok tt);
  opens : StaysOpen (state g.S.Store l.initial.self.store.now.conn) (state g.S.Store l.self.store.now.conn);
  found : (m : Queue) (k : Ledger) (given : List OneJob) → MeansNow (state g.S.Store l.initial.self.store.now.conn) m k → Serves (state g.S.Store l.self.store.now.conn)
      → StandsAt l.initial.self.asked m given (into_iter_items l.initial.self.page) l.initial.self.front l.initial.self.most
      → StandsAt l.initial.self.asked m given (into_iter_items l.self.page) l.self.front l.self.most;
}

abbrev pub decreases-loop-self : goal.decreases-loop-self
decreases-loop-self g l = turns_left (into_iter_items l.self.page) l.self.front
