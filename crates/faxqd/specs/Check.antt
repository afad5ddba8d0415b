-- How the command `check` ends, and what it tells.
use Rattle.std.specs.Prelude.{◌≡◌, ◌⊎◌, ℕ, ℤ, pos, negsuc, false, List, [], ◌∷◌, ◌++◌, codes, Option, Some, None, Result, Ok, Err, IfOk}
use Rattle.std.specs.Fmt.{decimal}
use Rattle.sqlite.specs.Effect.{Database, IsDatabase}
use Rattle.sqlite.specs.Files.{file_state}
use Rattle.sqlite.specs.Held.{Held}
use Rattle.sqlite_disk.specs.declared.Disk.{Ghosts}
use Rattle.sqlite_store.specs.FileStore.{view, state as stored}
use Rattle.sqlite_store.specs.declared.store.FileStore.{FileStore}
use Rattle.sqlite_trees.specs.View.{IsClean}
use Rattle.sqlite_wal.specs.Recovery.{Image}
use Rattle.fax_check.specs.Check.{IsFlawed}
use Rattle.fax_check.specs.Consistent.{Consistent}
use Rattle.fax_check.specs.Whole.{table_name}
use Rattle.fax_check.specs.declared.tables.Flaw.{Flaw}
use Rattle.fax_core.specs.Ledger.{Ledger}
use Rattle.fax_core.specs.Queue.{Queue}
use Rattle.fax_ending.specs.Ending.{no_database, write_failed}
use Rattle.fax_files.specs.Database.{AreHeld, IsFound}
use Rattle.fax_files.specs.FaultLine.{open_line}
use Rattle.fax_files.specs.declared.database.OpenFault.{OpenFault}
use Rattle.fax_http.specs.Device.{BrokeOff, Put}
use Rattle.fax_http.specs.declared.device.Watched.{Watched}
use Rattle.fax_layout.specs.ByRowid.{IsByRowid}
use Rattle.fax_schema.specs.Schema.{grants_tree, jobs_tree, meta_tree, no_tables}
use Rattle.fax_store.specs.Adopt.{IsOurs}
use Rattle.fax_tables.specs.Tables.{AreByRowid, RowsMean}
use Rattle.fax_tables.specs.declared.fault.StoreFault.{StoreFault}
use Rattle.fax_run.specs.Run.{Start}
use Rattle.faxqd.specs.Restarts.{HoldStart, KeepsQueue}
use Rattle.fax_text.specs.declared.status.Status.{Status}
use Rattle.fax_text.specs.declared.status.Status.TheVariants.{Success, Fault, Usage, Unused, Later}

-- ---- what is told

-- the rows that were found mean a consistent queue
abbrev pub MeanSound : Database → Type 0
MeanSound found = (m : Queue) × (k : Ledger) × RowsMean found m k × Consistent m

-- Rows stand by rowid, as `sqlite` keeps those of every table: those that are checked, and those of jobs, grants and meta as they were found.
pub record StandByRowid (found now : Database) : Type 0 where
  pub rows : AreByRowid now
  pub jobs : IsByRowid (found.trees jobs_tree)
  pub grants : IsByRowid (found.trees grants_tree)
  pub meta : IsByRowid (found.trees meta_tree)

-- where no flaw is told the rows mean a consistent queue, and where one is they mean none, and it is of a row that isn't as it has to be
abbrev pub IsTrueOf : Database → Database → Option Flaw → Type 0
IsTrueOf found now None = StandByRowid found now → MeanSound found
IsTrueOf found now (Some flaw) = (¬ MeanSound found) × (StandByRowid found now → IsFlawed now flaw)

-- What the files held has no tables, and no flaw is told; or it is a queue's, and that is true of it. The rows that are checked are these.
pub record IsVerdictOn (image : Image) (now : Database) (verdict : Option Flaw) : Type 0 where
  pub found : Database
  pub held : AreHeld image found.trees
  pub sound : IsDatabase found
  pub told : ((found.schema ≡ no_tables) × (verdict ≡ None)) ⊎ (IsOurs found × IsTrueOf found now verdict)

-- the files hold a consistent queue
abbrev pub HoldConsistent : Image → Type 0
HoldConsistent image = ∥ ((start : Start) × Consistent start.queue × HoldStart image start) ∥₁

-- ---- the end

abbrev pub sound_line : List ℕ
sound_line = codes "faxqd: sound\n"

-- the row of the table with this number, if it isn't below 0; or one is missing
abbrev pub row_line : List ℕ → Option ℤ → List ℕ
row_line table (Some (pos number)) = codes "faxqd: unsound: row " ++ decimal number ++ codes " of " ++ table ++ 10 ∷ []
row_line table (Some (negsuc number)) = codes "faxqd: unsound: a row of " ++ table ++ 10 ∷ []
row_line table None = codes "faxqd: unsound: a row of " ++ table ++ codes " is missing" ++ 10 ∷ []

abbrev pub flaw_line : Flaw → List ℕ
flaw_line flaw = row_line (table_name flaw.table) flaw.row

-- what is wrong with the database
abbrev pub HasNoDatabase : List ℕ → Type 0
HasNoDatabase line = (cause : OpenFault) × (line ≡ open_line cause)

module _ {W : Type 0} (contents : W → Option (List ℕ)) (out out₂ : Watched W) where
  -- That no row has a flaw is printed, or the output failed. A flaw is said, and so is it where the database gave no answer, and nothing is printed.
  abbrev pub Prints : Result (Option Flaw) StoreFault → Status → List ℕ → Type 0
  Prints (Ok None) Success line = Put contents out out₂ sound_line false × (line ≡ [])
  Prints (Ok None) Fault line = BrokeOff contents out out₂ sound_line × (line ≡ write_failed)
  Prints (Ok (Some flaw)) Fault line = (out₂ ≡ out) × (line ≡ flaw_line flaw)
  Prints (Err fault) Fault line = (out₂ ≡ out) × (line ≡ no_database)
  Prints verdict status line = ⊥

  -- It told what is true of the rows that were found in the database's files. Whatever a crash leaves in these holds the queue that they held before.
  pub record ChecksBy (image : Image) (status : Status) (line : List ℕ) {D : Type 0} {g : Ghosts D} (store : FileStore D g) : Type 0 where
    pub verdict : Result (Option Flaw) StoreFault
    pub prints : Prints verdict status line
    pub held : IsClean (view store)
        → (conn : Held (FileStore D g)) × IsFound image (file_state conn) × IfOk verdict (IsVerdictOn image (file_state conn).now)
    pub leaves : IsClean (view store) → (left : Image) → (stored store).may_leave left → KeepsQueue image left
    -- Where no flaw is told of rows that stand by rowid, whatever a crash leaves holds a consistent queue, which is sound: that is the premise of `laws::restarts`.
    pub premise : (clean : IsClean (view store)) → verdict ≡ Ok None → StandByRowid (held clean).1.found (file_state (held clean).0).now
        → (left : Image) → (stored store).may_leave left → HoldConsistent left

  -- So where it succeeds, it printed that they are sound. Where it doesn't, it has no database, or told something else, or the output failed.
  abbrev pub Checks : Status → List ℕ → Type 0
  Checks Success line = Put contents out out₂ sound_line false × (line ≡ [])
  Checks Fault line = ((out₂ ≡ out) × HasNoDatabase line) ⊎ ((verdict : Result (Option Flaw) StoreFault) × Prints verdict Fault line)
  Checks Usage line = ⊥
  Checks Unused line = ⊥
  Checks Later line = ⊥
