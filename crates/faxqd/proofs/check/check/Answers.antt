use Rattle.std.proofs.Common.{subst, sym}
use Rattle.sqlite.specs.Files.{file_state}
use Rattle.sqlite.specs.State.{HasCleanDisk}
use Rattle.sqlite_wal.specs.Files.{image_at}
use Rattle.fax_ending.specs.Ending.{spoken}
use Rattle.fax_files.specs.Database.{IsFound}
use Rattle.faxqd.proofs.CheckLemmas.{checks_by}
use Rattle.faxqd.proofs.check.check.Goals as goal

pub returns : goal.returns
returns g c =
    let found = subst (λ conn. HasCleanDisk (file_state conn) → IsFound (image_at g.S.Start) (file_state conn)) (sym c.close-conn.ensures) c.in-Ok.ensures in
    record {
      checks = checks_by _ _ _ _ c.tell-ending.result.status (spoken c.tell-ending.result) c.close-conn.result c.check-verdict.new.conn c.check-verdict.result
          c.into_store.result found c.check-verdict.ensures c.tell-ending.ensures
          c.into_store.ensures.numbered c.into_store.ensures.sound c.into_store.ensures.quiet;
    }
