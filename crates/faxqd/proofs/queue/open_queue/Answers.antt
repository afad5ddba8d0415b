use Rattle.std.proofs.Common.{subst, sym}
use Rattle.sqlite.specs.Files.{file_state}
use Rattle.sqlite.specs.State.{HasCleanDisk}
use Rattle.sqlite_wal.specs.Files.{image_at}
use Rattle.fax_files.specs.Database.{IsFound}
use Rattle.faxqd.proofs.queue.open_queue.Goals as goal

pub returns-clause-found : goal.returns-clause-found
returns-clause-found g c =
    subst (λ store. HasCleanDisk (file_state store.conn) → IsFound (image_at g.S.Start) (file_state store.conn)) (sym c.in_ok-queue_over.ensures.store) c.in_ok-store.ensures
