use Rattle.std.proofs.Common.{subst}
use Rattle.sqlite.specs.Files.{file_state}
use Rattle.sqlite_store.specs.FileStore.{faults, is_shielded, recovers, view}
use Rattle.sqlite_trees.specs.View.{IsQuiet}
use Rattle.faxqd.proofs.ServeLemmas.{serves_by}
use Rattle.faxqd.proofs.serve.serve.Goals as goal

pub returns : goal.returns
returns g c =
    let queue = c.serve_queue-queue.result.1 in
    record {
      serves = serves_by _ _ _ g.N.Network.opened g.P.Peers.did g.C.Clock.gives _ c.args.plan c.args.clock _ _ c.in-Ok.office c.in-Ok-open_queue.queue.office queue.office
          (file_state c.in-Ok-open_queue.queue.store.conn) queue.store.conn queue.is_shut c.into_store.result
          c.in-Ok.ensures c.in-Ok-open_queue.ensures.office c.serve_queue-queue.ensures.office c.serve_queue-queue.ensures.served c.in-Ok-open_queue.ensures.found
          c.into_store.ensures.numbered c.into_store.ensures.sound
          (subst (λ conn. IsQuiet view faults recovers is_shielded conn.store c.into_store.result) c.close.ensures c.into_store.ensures.quiet);
    }
