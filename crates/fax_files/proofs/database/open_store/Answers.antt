use Rattle.std.proofs.lemmas.Result.{IfOk-weaker}
use Rattle.sqlite.specs.Files.{file_state}
use Rattle.sqlite_wal.specs.Files.{image_at}
use Rattle.fax_files.proofs.DatabaseLemmas.{found_by}
use Rattle.fax_files.proofs.database.open_store.Goals as goal

pub returns : goal.returns
returns g c = IfOk-weaker c.adopted.result _ _ (λ store is clean.
    let before = is.clean clean in
    found_by (image_at g.S.Start) (file_state c.in_ok-conn.conn) (file_state store.conn)
    (c.in_ok-conn.ensures.found before) (c.in_ok-conn.ensures.opened before).0 (c.in_ok-conn.ensures.opened before).1 (is.adopts clean)
    (is.opens clean) is.means_rows is.alone) c.adopted.ensures
