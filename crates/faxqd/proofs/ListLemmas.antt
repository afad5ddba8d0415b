-- How a listing ends the command `list`.
use Rattle.std.proofs.Common.{◌≡◌, inl, inr, sym, subst, ℕ, List, Option, Some, None, Ok, arith}
use Rattle.std.specs.Prelude.{IsTrue, MatchOption}
use Rattle.sqlite.specs.Files.{file_state}
use Rattle.sqlite.specs.Held.{Held, AreDatabases}
use Rattle.sqlite.specs.State.{State, HasCleanDisk}
use Rattle.sqlite_disk.specs.declared.Disk.{Ghosts}
use Rattle.sqlite_store.specs.FileStore.{faults, is_shielded, recovers, view}
use Rattle.sqlite_store.specs.declared.store.FileStore.{FileStore}
use Rattle.sqlite_trees.specs.View.{IsClean, IsQuiet}
use Rattle.sqlite_wal.specs.Recovery.{Image}
use Rattle.fax_ask.specs.Response.{Response}
use Rattle.fax_core.specs.Ledger.{Ledger, empty_ledger}
use Rattle.fax_core.specs.Queue.{Queue, empty_queue}
use Rattle.fax_core.proofs.StepLemmas.{empty_sound}
use Rattle.fax_core.specs.Settings.{Settings}
use Rattle.fax_core.specs.Sound.{Sound}
use Rattle.fax_decide.specs.declared.office.Office.{Office}
use Rattle.fax_desk.specs.Replaying.{settings_in}
use Rattle.fax_files.specs.Database.{IsFound}
use Rattle.fax_http.specs.Clock.{IsMoment}
use Rattle.fax_http.specs.declared.device.Watched.{Watched}
use Rattle.fax_store.specs.Store.{CommitsNothing, Means, Stays}
use Rattle.faxqd.proofs.RestartsLemmas.{keeps_queue}
use Rattle.fax_text.specs.declared.list_words.ListPlan.{ListPlan}
use Rattle.faxqd.specs.NoQueue.{HasNoQueue}
use Rattle.faxqd.specs.List.{IsHeldIn, IsReply, IsSeen, Lists, ListsBy, Shows}
use Rattle.fax_files.specs.Office.{ComesOf}
use Rattle.fax_text.specs.declared.status.Status.{Status}
use Rattle.fax_text.specs.declared.status.Status.TheVariants.{Success, Fault, Usage, Unused, Later}

-- a reply is seen where the rows stay, and it is that of each sound queue that they mean
pub is_seen : (s : Settings) (moment : ℕ) (old new : State) (reply : Response) → Stays old new → (HasCleanDisk new → HasCleanDisk old)
    → ((m : Queue) (k : Ledger) → Sound m → Means old m k → HasCleanDisk new → IsReply s moment m k new reply)
    → ((m : Queue) (k : Ledger) → Sound m → Means old m k → CommitsNothing old new) → IsSeen s moment old new reply
is_seen s moment old new reply stays clean seen crash = record { stays = stays; clean = clean; seen = seen; crash = crash }

-- the queue of what the files held is the one that is listed
listed_by : (image : Image) (s : Settings) (moment : ℕ) (opened new : State) (reply : Response) → (HasCleanDisk opened → IsFound image opened)
    → IsSeen s moment opened new reply → HasCleanDisk new → IsHeldIn image s moment new reply
listed_by image s moment opened new reply found is clean =
    let it = found (is.clean clean) in
    record {
      found = it.found;
      held = it.held;
      sound = it.sound;
      seen = elim it.taken [
        | inl (none, rest) ↦ inl (none, is.seen empty_queue empty_ledger empty_sound (λ serves. rest) clean)
        | inr (ours, whole) ↦ inr (ours, λ m k sound rows. is.seen m k sound (it.means m k ours.schema_is rows) clean)
      ];
    }

module _ {W : Type 0} (contents : W → Option (List ℕ)) (out out₂ : Watched W) (image : Image) (plan : ListPlan) where
  -- a listing that is shown is of the files that the plan names
  pub lists_by : {D : Type 0} {g : Ghosts D} (status : Status) (line : List ℕ) (said held : Office) (moment : ℕ) (opened : State) (conn : Held (FileStore D g))
      (store : FileStore D g) → ComesOf plan.files (Ok said) → held ≡ said
      → IsMoment plan.moment moment → (HasCleanDisk opened → IsFound image opened) → Shows contents out out₂ (settings_in held) moment opened (file_state conn) status line
      → (IsClean (view store) → IsTrue (view store).is_numbered) → (IsClean (view store) → AreDatabases (recovers store))
      → IsQuiet view faults recovers is_shielded conn.store store → ListsBy contents out out₂ image plan status line store
  lists_by status line said held moment opened conn store comes is its found (reply, seen, prints) numbered databases quiet =
      let before : IsClean (view store) → HasCleanDisk (file_state conn) = (λ clean. let less = quiet.clean in omega (arith, clean, less)) in
      record {
        office = said;
        comes = comes;
        moment = moment;
        its = its;
        reply = reply;
        prints = prints;
        held = λ clean. (
          conn,
          subst (λ o. IsHeldIn image (settings_in o) moment (file_state conn) reply) is
              (listed_by image (settings_in held) moment opened (file_state conn) reply found seen (before clean)),
        );
        leaves = λ clean. keeps_queue image conn store opened (numbered clean) (databases clean) quiet.outcomes (before clean)
            (found (seen.clean (before clean))) seen.crash;
      }

  -- what is shown of a listing ends the program
  lists_of : {D : Type 0} {g : Ghosts D} (status : Status) (line : List ℕ) (store : FileStore D g) → ListsBy contents out out₂ image plan status line store
      → Lists contents out out₂ plan status line
  lists_of Success line store by = ((by.office, by.comes), by.reply, by.prints)
  lists_of Fault line store by = inr (by.reply, by.prints)
  lists_of Usage line store by = absurd by.prints
  lists_of Unused line store by = absurd by.prints
  lists_of Later line store by = absurd by.prints

  -- where no queue was there, it ends with a fault
  no_listing : (status : Status) (line : List ℕ) → status ≡ Fault → out₂ ≡ out → HasNoQueue plan.files line → Lists contents out out₂ plan status line
  no_listing status line fault same none = subst (λ s. Lists contents out out₂ plan s line) (sym fault) (inl (same, none))

  -- however it ends, that is its end
  pub lists_with : {D : Type 0} {g : Ghosts D} (status : Status) (line : List ℕ) (left : Option (FileStore D g))
      → MatchOption left ((status ≡ Fault) × (out₂ ≡ out) × HasNoQueue plan.files line) (λ store. ListsBy contents out out₂ image plan status line store)
      → Lists contents out out₂ plan status line
  lists_with status line (Some store) by = lists_of status line store by
  lists_with status line None (fault, same, none) = no_listing status line fault same none
