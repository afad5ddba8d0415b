-- What a file held.
use Rattle.std.proofs.Common.{ap, ◌∙◌, subst, sym}
use Rattle.sqlite.specs.Effect.{Database}
use Rattle.sqlite.specs.Files.{AreFoundIn}
use Rattle.sqlite.specs.Start.{FindsIn}
use Rattle.sqlite.specs.State.{State, IsLive, Opens}
use Rattle.sqlite_wal.specs.Recovery.{Image}
use Rattle.fax_core.specs.Ledger.{Ledger}
use Rattle.fax_core.specs.Queue.{Queue}
use Rattle.fax_store.specs.Adopt.{Adopts}
use Rattle.fax_store.specs.Store.{LeavesAlone, Means, Serves}
use Rattle.fax_schema.specs.Schema.{AreOurs}
use Rattle.fax_tables.specs.Tables.{RowsMean}
use Rattle.fax_files.specs.Database.{IsFound}

-- a database that was opened and adopted has what was found in its file
pub found_by : (image : Image) (opened new : State) → FindsIn image opened → Opens opened → IsLive opened → Adopts opened.now new → Serves new
    → ((m : Queue) (k : Ledger) → AreOurs opened.now.schema → RowsMean opened.now m k → Means new m k)
    → (Serves new → LeavesAlone new new.committed.trees) → IsFound image new
found_by image opened new finds opens live adopts serves means_rows alone =
    let same = ap (λ (db : Database). db.trees) opens.clean in
    let sound = (live opens.is_open).0 in
    record {
      found = opened.now;
      sound = sound;
      held = record {
        holds = λ held holds. same ∙ finds.holds held holds;
        reads = subst (AreFoundIn image) (sym same) finds.reads;
      };
      taken = adopts;
      serves = serves;
      means = means_rows;
      alone = alone serves;
    }
