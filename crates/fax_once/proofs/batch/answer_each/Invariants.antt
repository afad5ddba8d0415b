use Rattle.std.proofs.Common.{◌≡◌, false, length, take}
use Rattle.sqlite.specs.State.{HasCleanDisk}
use Rattle.fax_core.specs.Ledger.{Ledger}
use Rattle.fax_core.specs.Queue.{Queue}
use Rattle.fax_core.specs.Sound.{Sound}
use Rattle.fax_decide.specs.Settings.{settings_of}
use Rattle.fax_store.specs.Calls.{Follows, within}
use Rattle.fax_store.specs.Store.{Serves}
use Rattle.fax_store.specs.Work.{IsActive, Works}
use Rattle.fax_run.specs.Run.{end_of}
use Rattle.fax_once.specs.Batch.{RunsWithin}
use Rattle.fax_once.specs.Known.{LeadsTo}
use Rattle.fax_once.proofs.batch.answer_each.Given as goal

-- the arrivals so far are answered
abbrev pub invariant-loop-arrival : goal.invariant-loop-arrival
invariant-loop-arrival g l = record {
  leaves : Follows g.S.Store l.initial.work l.work;
  on : l.work.failed ≡ false;
  as_many : length l.replies.items ≡ l.arrival-index;
  opens : IsActive (within g.S.Store l.initial.work) l.initial.work.failed → HasCleanDisk (within g.S.Store l.work) → Serves (within g.S.Store l.work);
  ran : (m : Queue) (k : Ledger) → Sound m → Works (within g.S.Store l.initial.work) l.initial.work.failed m k m k → Serves (within g.S.Store l.work)
      → (runs : RunsWithin (settings_of l.office.setup l.office.controls) (record { queue = m; kept = k }) (take l.arrival-index l.arrivals) l.replies.items l.has_accepted)
      × LeadsTo l.known (within g.S.Store l.work) l.work.failed m k (end_of (settings_of l.office.setup l.office.controls) (record { queue = m; kept = k }) runs.heard);
}
