-- How the command `serve` ends, and what it answers.
use Rattle.std.specs.Prelude.{◌≡◌, ◌⊎◌, ℕ, Bool, false, List, [], Option, Ok}
use Rattle.sqlite.specs.Effect.{Database, IsDatabase}
use Rattle.sqlite.specs.State.{State}
use Rattle.sqlite_disk.specs.declared.Disk.{Ghosts}
use Rattle.sqlite_store.specs.FileStore.{view, state as stored}
use Rattle.sqlite_store.specs.declared.store.FileStore.{FileStore}
use Rattle.sqlite_trees.specs.Tree.{Trees}
use Rattle.sqlite_trees.specs.View.{IsClean}
use Rattle.sqlite_wal.specs.Recovery.{Image}
use Rattle.fax_core.specs.Settings.{Settings}
use Rattle.fax_core.specs.Sound.{Sound}
use Rattle.fax_decide.specs.declared.office.Office.{Office}
use Rattle.fax_desk.specs.Desk.{replies_of}
use Rattle.fax_desk.specs.Replaying.{empty_start, settings_in}
use Rattle.fax_desk.specs.Turns.{AreArrivals, AreTurns}
use Rattle.fax_http.specs.Conversation.{Turn}
use Rattle.fax_http.specs.Device.{Put}
use Rattle.fax_http.specs.declared.device.Watched.{Watched}
use Rattle.fax_run.specs.Run.{Start}
use Rattle.fax_run.specs.Sessions.{IsSession, Nothing, session_of}
use Rattle.fax_once.specs.Ran.{LeftBySession}
use Rattle.fax_run.specs.declared.arrival.Arrival.{Arrival}
use Rattle.fax_store.specs.Adopt.{IsOurs}
use Rattle.fax_store.specs.Store.{MayFind, Means}
use Rattle.fax_tables.specs.Tables.{RowsMean}
use Rattle.fax_schema.specs.Schema.{AreOurs, no_tables}
use Rattle.fax_net.specs.Listening.{Listens, SaidNothing, listening}
use Rattle.fax_files.specs.Database.{AreHeld}
use Rattle.fax_files.specs.Office.{ComesOf}
use Rattle.faxqd.specs.NoQueue.{HasNoQueue}
use Rattle.faxqd.specs.Restarts.{LeadsFrom}
use Rattle.fax_ending.specs.Ending.{no_database}
use Rattle.fax_text.specs.declared.status.Status.{Status}
use Rattle.fax_text.specs.declared.status.Status.TheVariants.{Success, Fault, Usage, Unused, Later}
use Rattle.fax_net.specs.History.{Step}
use Rattle.fax_text.specs.declared.server.ServePlan.{ServePlan}

-- ---- messages

-- what was found in a database's files means this start: the empty queue, where it had no tables, or what its rows mean
abbrev pub IsFoundAs : Database → Start → Type 0
IsFoundAs found start = ((found.schema ≡ no_tables) × (start ≡ empty_start)) ⊎ (AreOurs found.schema × RowsMean found start.queue start.kept)

module _ {C : Type 0} (gives : C → List ℕ → ℕ → C → Type 0) (settings : Settings) where
  -- These messages were answered one after the other from this start on, and the tables mean the sound queue that they lead to. They are a session, and what a crash leaves, such a session left.
  pub record HasServed (start : Start) (clock : C) (turns : List Turn) (new : State) : Type 0 where
    pub arrivals : List Arrival
    pub are : AreArrivals gives clock turns arrivals
    pub end : Start
    pub answered : AreTurns gives settings start clock turns end
    pub session : IsSession start (session_of settings arrivals (replies_of turns) Nothing) end
    pub sound : Sound end.queue
    pub means : Means new end.queue end.kept
    pub stopped : (found : Trees) → MayFind new found → LeftBySession settings start arrivals (replies_of turns) found

  -- so they were from what a database's files held
  pub record ServesHeld (image : Image) (clock : C) (turns : List Turn) (new : State) : Type 0 where
    pub found : Database
    pub held : AreHeld image found.trees
    pub sound : IsDatabase found
    pub taken : (found.schema ≡ no_tables) ⊎ IsOurs found
    pub served : (start : Start) → Sound start.queue → IsFoundAs found start → HasServed start clock turns new

-- ---- the end

module _ {W : Type 0} (contents : W → Option (List ℕ)) (out out₂ : Watched W) where
  -- Where it succeeds, the files say an office, and it said that it listens. Where it doesn't, it has no queue, or didn't say so, or its store was shut.
  abbrev pub Ends : ServePlan → Status → List ℕ → Type 0
  Ends plan Success line = ((office : Office) × ComesOf plan.files (Ok office)) × Put contents out out₂ listening false × (line ≡ [])
  Ends plan Fault line =
      ((out₂ ≡ out) × HasNoQueue plan.files line) ⊎ (SaidNothing contents out out₂ line ⊎ (Put contents out out₂ listening false × (line ≡ no_database)))
  Ends plan Usage line = ⊥
  Ends plan Unused line = ⊥
  Ends plan Later line = ⊥

  module _ {P : Type 0} (opened : P → Type 0) (did : P → Step → P → Type 0) where
    module _ {C : Type 0} (gives : C → List ℕ → ℕ → C → Type 0) (image : Image) (plan : ServePlan) (clock : C) (status : Status) (line : List ℕ) where
      -- It served by the office that the files say. Whatever a crash leaves in the database's files, a session of these messages left, from the sound queue that they held before: each message came at the moment that the clock gave.
      pub record ServesBy {D : Type 0} {g : Ghosts D} (store : FileStore D g) : Type 0 where
        pub office : Office
        pub comes : ComesOf plan.files (Ok office)
        pub turns : List Turn
        pub shut : Bool
        pub told : Listens contents out out₂ opened did plan.connections turns shut status line
        pub leaves : IsClean (view store) → (left : Image) → (stored store).may_leave left
            → LeadsFrom gives (record { settings = settings_in office; clock = clock; turns = turns }) image left
