-- How the command `list` ends, and what it prints.
use Rattle.std.specs.Prelude.{◌≡◌, ◌⊎◌, ℕ, false, List, [], Option, Ok, codes}
use Rattle.sqlite.specs.Effect.{Database, IsDatabase}
use Rattle.sqlite.specs.Files.{file_state}
use Rattle.sqlite.specs.Held.{Held}
use Rattle.sqlite.specs.State.{State, HasCleanDisk}
use Rattle.sqlite_disk.specs.declared.Disk.{Ghosts}
use Rattle.sqlite_store.specs.FileStore.{view, state as stored}
use Rattle.sqlite_store.specs.declared.store.FileStore.{FileStore}
use Rattle.sqlite_trees.specs.View.{IsClean}
use Rattle.sqlite_wal.specs.Recovery.{Image}
use Rattle.fax_ask.specs.Response.{Response}
use Rattle.fax_ask.specs.declared.method.Method.TheVariants.{Get}
use Rattle.fax_core.specs.Ledger.{Ledger, empty_ledger}
use Rattle.fax_core.specs.Queue.{Queue, empty_queue}
use Rattle.fax_core.specs.Settings.{Settings}
use Rattle.fax_core.specs.Sound.{Sound}
use Rattle.fax_decide.specs.declared.office.Office.{Office}
use Rattle.fax_desk.specs.Replaying.{settings_in}
use Rattle.fax_files.specs.Database.{AreHeld}
use Rattle.fax_http.specs.Clock.{IsMoment}
use Rattle.fax_http.specs.Device.{BrokeOff, Put}
use Rattle.fax_http.specs.declared.device.Watched.{Watched}
use Rattle.fax_once.specs.Handled.{Handles}
use Rattle.fax_run.specs.declared.arrival.Arrival.{Arrival}
use Rattle.fax_schema.specs.Schema.{no_tables}
use Rattle.fax_store.specs.Adopt.{IsOurs}
use Rattle.fax_store.specs.Store.{CommitsNothing, Means, Stays}
use Rattle.fax_tables.specs.Tables.{RowsMean}
use Rattle.fax_files.specs.Office.{ComesOf}
use Rattle.faxqd.specs.NoQueue.{HasNoQueue}
use Rattle.faxqd.specs.Restarts.{KeepsQueue}
use Rattle.fax_ending.specs.Ending.{no_database, write_failed}
use Rattle.fax_text.specs.declared.status.Status.{Status}
use Rattle.fax_text.specs.declared.status.Status.TheVariants.{Success, Fault, Usage, Unused, Later}
use Rattle.fax_text.specs.declared.list_words.ListPlan.{ListPlan}

-- the queue's reply to GET of /jobs at that moment
abbrev pub IsReply : Settings → ℕ → Queue → Ledger → State → Response → Type 0
IsReply s moment m k new reply =
    (a : Arrival) × (a.method ≡ Get) × (a.path.now ≡ codes "/jobs") × (a.moment ≡ moment) × Handles s a m k reply new

-- The reply is that of the queue, where the store means a sound one. The rows stay as they are, and a crash leaves what one before could leave.
pub record IsSeen (s : Settings) (moment : ℕ) (old new : State) (reply : Response) : Type 0 where
  pub stays : Stays old new
  pub clean : HasCleanDisk new → HasCleanDisk old
  pub seen : (m : Queue) (k : Ledger) → Sound m → Means old m k → HasCleanDisk new → IsReply s moment m k new reply
  pub crash : (m : Queue) (k : Ledger) → Sound m → Means old m k → CommitsNothing old new

-- the reply is that of an empty queue where the files had no tables, or of the sound one that their rows mean
pub record IsHeldIn (image : Image) (s : Settings) (moment : ℕ) (new : State) (reply : Response) : Type 0 where
  pub found : Database
  pub held : AreHeld image found.trees
  pub sound : IsDatabase found
  pub seen :
      ((found.schema ≡ no_tables) × IsReply s moment empty_queue empty_ledger new reply)
      ⊎ (IsOurs found × ((m : Queue) (k : Ledger) → Sound m → RowsMean found m k → IsReply s moment m k new reply))

module _ {W : Type 0} (contents : W → Option (List ℕ)) (out out₂ : Watched W) where
  -- a reply of status 200 is printed; or there is another reply, or the output failed
  abbrev pub Prints : Response → Status → List ℕ → Type 0
  Prints reply Success line = (reply.status ≡ 200) × Put contents out out₂ reply.body false × (line ≡ [])
  Prints reply Fault line =
      (¬ (reply.status ≡ 200) × (out₂ ≡ out) × (line ≡ no_database)) ⊎ ((reply.status ≡ 200) × BrokeOff contents out out₂ reply.body × (line ≡ write_failed))
  Prints reply Usage line = ⊥
  Prints reply Unused line = ⊥
  Prints reply Later line = ⊥

  -- what the queue replies is printed
  abbrev pub Shows : Settings → ℕ → State → State → Status → List ℕ → Type 0
  Shows s moment old new status line = (reply : Response) × IsSeen s moment old new reply × Prints reply status line

  -- It listed by the office that the files say, at the moment that the plan says, the queue of the database's files. Whatever a crash leaves in these holds that queue still.
  pub record ListsBy (image : Image) (plan : ListPlan) (status : Status) (line : List ℕ) {D : Type 0} {g : Ghosts D} (store : FileStore D g) : Type 0 where
    pub office : Office
    pub comes : ComesOf plan.files (Ok office)
    pub moment : ℕ
    pub its : IsMoment plan.moment moment
    pub reply : Response
    pub prints : Prints reply status line
    pub held : IsClean (view store) → (conn : Held (FileStore D g)) × IsHeldIn image (settings_in office) moment (file_state conn) reply
    pub leaves : IsClean (view store) → (left : Image) → (stored store).may_leave left → KeepsQueue image left

  -- So where it succeeds, the files say an office, and a reply is printed. Where it doesn't, it has no queue, or this replied something else, or the output failed.
  abbrev pub Lists : ListPlan → Status → List ℕ → Type 0
  Lists plan Success line = ((office : Office) × ComesOf plan.files (Ok office)) × (reply : Response) × Prints reply Success line
  Lists plan Fault line = ((out₂ ≡ out) × HasNoQueue plan.files line) ⊎ ((reply : Response) × Prints reply Fault line)
  Lists plan Usage line = ⊥
  Lists plan Unused line = ⊥
  Lists plan Later line = ⊥
