-- What serving shows.
use Rattle.std.proofs.Common.{◌≡◌, ◌⊎◌, ℕ, Bool, List, Option, Some, None, Ok, subst, sym, inl, inr, arith}
use Rattle.std.specs.Prelude.{IsTrue, MatchOption}
use Rattle.sqlite.specs.Effect.{Database}
use Rattle.sqlite.specs.Files.{file_state}
use Rattle.sqlite.specs.Held.{Held, AreDatabases}
use Rattle.sqlite.specs.State.{State, HasCleanDisk}
use Rattle.sqlite_disk.specs.declared.Disk.{Ghosts}
use Rattle.sqlite_store.specs.FileStore.{faults, is_shielded, recovers, view}
use Rattle.sqlite_store.specs.declared.store.FileStore.{FileStore}
use Rattle.sqlite_trees.specs.View.{IsClean, IsQuiet}
use Rattle.sqlite_wal.specs.Recovery.{Image}
use Rattle.fax_core.specs.Settings.{Settings}
use Rattle.fax_decide.specs.declared.office.Office.{Office}
use Rattle.fax_desk.specs.Conversing.{ServesFrom}
use Rattle.fax_desk.specs.Replaying.{settings_in}
use Rattle.fax_desk.specs.Turns.{AreServed}
use Rattle.fax_http.specs.Conversation.{Turn}
use Rattle.fax_http.specs.declared.device.Watched.{Watched}
use Rattle.fax_once.proofs.HandledLemmas.{open_stops}
use Rattle.fax_run.specs.Run.{Start}
use Rattle.fax_store.specs.Adopt.{Adopts, IsOurs}
use Rattle.fax_store.specs.Store.{LeavesAlone, Means}
use Rattle.fax_schema.specs.Schema.{no_tables}
use Rattle.fax_files.specs.Database.{IsFound}
use Rattle.fax_files.specs.Office.{ComesOf}
use Rattle.fax_net.specs.History.{Step}
use Rattle.fax_net.specs.Listening.{Listens}
use Rattle.faxqd.specs.NoQueue.{HasNoQueue}
use Rattle.faxqd.proofs.RestartsLemmas.{leads_from, means_found}
use Rattle.faxqd.specs.Restarts.{Served}
use Rattle.faxqd.specs.Serve.{Ends, HasServed, ServesBy, ServesHeld}
use Rattle.fax_text.specs.declared.status.Status.{Status}
use Rattle.fax_text.specs.declared.status.Status.TheVariants.{Success, Fault, Usage, Unused, Later}
use Rattle.fax_text.specs.declared.server.ServePlan.{ServePlan}

-- ---- what was found

-- from a start that an opened store means the messages were served, and a crash leaves what such a session left: as it was opened, a crash left just what it means
has_served : {C : Type 0} (gives : C → List ℕ → ℕ → C → Type 0) (settings : Settings) (clock : C) (turns : List Turn) (opened new : State) (start : Start)
    → IsTrue opened.is_open → LeavesAlone opened opened.committed.trees → Means opened start.queue start.kept
    → AreServed gives settings start clock turns opened new → HasServed gives settings start clock turns new
has_served gives settings clock turns opened new start is_open alone means it = record {
  arrivals = it.arrivals;
  are = it.are;
  end = it.session.left;
  answered = it.answered;
  session = it.session.session;
  sound = it.sound;
  means = it.session.means;
  stopped = it.session.stopped (λ found may. open_stops opened start means (λ _. alone) found may is_open);
}

-- what was found had no tables, or is ours
taken_as : (found : Database) (opened : State) → Adopts found opened → (found.schema ≡ no_tables) ⊎ IsOurs found
taken_as found opened (inl (none, rest)) = inl none
taken_as found opened (inr (ours, whole)) = inr ours

-- the queue of what the files held is the one that was served
pub held_by : {C : Type 0} (gives : C → List ℕ → ℕ → C → Type 0) (settings : Settings) (image : Image) (clock : C) (turns : List Turn) (opened new : State)
    → (HasCleanDisk opened → IsFound image opened) → ServesFrom gives settings clock opened turns new → HasCleanDisk new → ServesHeld gives settings image clock turns new
held_by gives settings image clock turns opened new found from clean =
    let it = found (from.clean clean) in
    record {
      found = it.found;
      held = it.held;
      sound = it.sound;
      taken = taken_as it.found opened it.taken;
      served = λ start sound found_as.
          let means = means_found image opened it start found_as in
          has_served gives settings clock turns opened new start it.serves.is_open it.alone means (from.served start.queue start.kept sound means clean);
    }

-- ---- the end

module _ {W P : Type 0} (contents : W → Option (List ℕ)) (out out₂ : Watched W) (opens : P → Type 0) (did : P → Step → P → Type 0)
    {C : Type 0} (gives : C → List ℕ → ℕ → C → Type 0) (image : Image) (plan : ServePlan) (clock : C) where
  -- what the files say, what was found, what was served and what is left are of one office and one database
  pub serves_by : {D : Type 0} {g : Ghosts D} (status : Status) (line : List ℕ) (said held left : Office) (opened : State) (conn : Held (FileStore D g)) (shut : Bool)
      (store : FileStore D g) → ComesOf plan.files (Ok said) → held ≡ said → left ≡ held
      → ((turns : List Turn) × Listens contents out out₂ opens did plan.connections turns shut status line × ServesFrom gives (settings_in held) clock opened turns (file_state conn))
      → (HasCleanDisk opened → IsFound image opened) → (IsClean (view store) → IsTrue (view store).is_numbered)
      → (IsClean (view store) → AreDatabases (recovers store)) → IsQuiet view faults recovers is_shielded conn.store store
      → ServesBy contents out out₂ opens did gives image plan clock status line store
  serves_by status line said held left opened conn shut store comes is same served found numbered databases quiet = record {
    office = said;
    comes = comes;
    turns = served.0;
    shut = shut;
    told = served.1;
    leaves = λ clean.
        let before : HasCleanDisk (file_state conn) = (let less = quiet.clean in omega (arith, clean, less)) in
        let run : Served C = record { settings = settings_in said; clock = clock; turns = served.0 } in
        leads_from gives run image conn store (numbered clean) (databases clean) quiet.outcomes before
        (subst (λ o. ServesHeld gives (settings_in o) image clock served.0 (file_state conn)) is
        (held_by gives (settings_in held) image clock served.0 opened (file_state conn) found served.2 before));
  }

  -- what was served ends the program
  ends_by : {D : Type 0} {g : Ghosts D} (status : Status) (line : List ℕ) (store : FileStore D g)
      → ServesBy contents out out₂ opens did gives image plan clock status line store → Ends contents out out₂ plan status line
  ends_by Success line store by = ((by.office, by.comes), by.told.0.said, by.told.2)
  ends_by Fault line store by = elim by.told [
    | inl (none, nothing) ↦ inr (inl nothing)
    | inr (listened, is, says) ↦ inr (inr (listened.said, says))
  ]
  ends_by Usage line store by = absurd by.told
  ends_by Unused line store by = absurd by.told
  ends_by Later line store by = absurd by.told

  -- where no queue was there, it ends with a fault
  no_queue : (status : Status) (line : List ℕ) → status ≡ Fault → out₂ ≡ out → HasNoQueue plan.files line → Ends contents out out₂ plan status line
  no_queue status line fault same none = subst (λ s. Ends contents out out₂ plan s line) (sym fault) (inl (same, none))

  -- however it ends, that is its end
  pub ends_with : {D : Type 0} {g : Ghosts D} (status : Status) (line : List ℕ) (left : Option (FileStore D g))
      → MatchOption left ((status ≡ Fault) × (out₂ ≡ out) × HasNoQueue plan.files line)
      (λ store. ServesBy contents out out₂ opens did gives image plan clock status line store)
      → Ends contents out out₂ plan status line
  ends_with status line (Some store) by = ends_by status line store by
  ends_with status line None (fault, same, none) = no_queue status line fault same none
