use Rattle.std.proofs.Common.{subst}
use Rattle.sqlite.specs.Files.{file_state}
use Rattle.sqlite_store.specs.FileStore.{faults, is_shielded, recovers, view}
use Rattle.sqlite_trees.specs.View.{IsQuiet}
use Rattle.fax_ending.specs.Ending.{spoken}
use Rattle.faxqd.proofs.ListLemmas.{lists_by}
use Rattle.faxqd.proofs.list.list.Goals as goal

pub returns : goal.returns
returns g c =
    let ending = c.list_queue-queue.result.0 in
    record {
      lists = lists_by _ _ _ _ c.args.plan ending.status (spoken ending) c.in-Ok.office c.in-Ok-open_found_queue.queue.office c.moment_of-moment.result
          (file_state c.in-Ok-open_found_queue.queue.store.conn) c.list_queue-queue.result.1.store.conn c.into_store.result
          c.in-Ok.ensures c.in-Ok-open_found_queue.ensures.office c.moment_of-moment.ensures c.in-Ok-open_found_queue.ensures.found c.list_queue-queue.ensures.shown
          c.into_store.ensures.numbered c.into_store.ensures.sound
          (subst (λ conn. IsQuiet view faults recovers is_shielded conn.store c.into_store.result) c.close.ensures c.into_store.ensures.quiet);
    }
