-- The program is started over and over on one database's files: from what these held at first to what a crash behind the last start leaves in them.
use Rattle.std.specs.Prelude.{◌≡◌, ◌⊎◌, ⊤, ℕ, List, [], ◌∷◌}
use Rattle.sqlite.specs.Effect.{Database, IsDatabase}
use Rattle.sqlite.specs.Files.{HoldsDatabase}
use Rattle.sqlite_wal.specs.Recovery.{Image}
use Rattle.fax_core.specs.Settings.{Settings}
use Rattle.fax_core.specs.Sound.{Sound}
use Rattle.fax_desk.specs.Desk.{replies_of}
use Rattle.fax_desk.specs.Replaying.{empty_start}
use Rattle.fax_desk.specs.Turns.{AreArrivals}
use Rattle.fax_files.specs.Database.{AreHeld}
use Rattle.fax_http.specs.Conversation.{Turn}
use Rattle.fax_run.specs.Run.{Start}
use Rattle.fax_run.specs.Sessions.{AllAnswered, Follow, HaveOneList, IsSession, Session}
use Rattle.fax_schema.specs.Schema.{AreOurs, no_tables}
use Rattle.fax_tables.specs.Tables.{RowsMean}

-- ---- what files hold

-- a database with a queue's tables, of either version, whose rows mean this
pub record HaveTables (image : Image) (start : Start) : Type 0 where
  pub db : Database
  pub holds : HoldsDatabase image db.trees
  pub sound : IsDatabase db
  pub ours : AreOurs db.schema
  pub means : RowsMean db start.queue start.kept

-- or nothing yet, so that the queue is the empty one: whatever an open finds in them has no tables
pub record HaveNone (image : Image) (start : Start) : Type 0 where
  pub empty : start ≡ empty_start
  pub none : (db : Database) → AreHeld image db.trees → IsDatabase db → db.schema ≡ no_tables

abbrev pub HoldStart : Image → Start → Type 0
HoldStart image start = HaveTables image start ⊎ HaveNone image start

-- ---- one start of the program

-- one that served: its settings, its clock as it began, and its messages as they were answered
pub record Served (C : Type 0) : Type 0 where
  pub settings : Settings
  pub clock : C
  pub turns : List Turn

-- it served, or it looked at the queue and changed nothing
pub data Link (C : Type 0) : Type 0 where
  Ran : Served C → Link C
  Looked : Link C

-- whatever sound queue the first files held, the second hold it too
abbrev pub KeepsQueue : Image → Image → Type 0
KeepsQueue from left = (start : Start) → Sound start.queue → HoldStart from start → ∥ HaveTables left start ∥₁

module _ {C : Type 0} (gives : C → List ℕ → ℕ → C → Type 0) where
  -- The session has these settings. Its arrivals and replies are those of the messages, each at the moment that the clock gave; what was under way at its end was one of them, answered 503.
  pub record IsOf (run : Served C) (x : Session) : Type 0 where
    pub settings : x.settings ≡ run.settings
    pub arrivals : AreArrivals gives run.clock run.turns x.arrivals
    pub replies : x.replies ≡ replies_of run.turns
    pub under_way : AllAnswered x.under_way

  -- From whatever sound queue the first files held, such a session left what the second hold.
  abbrev pub LeadsFrom : Served C → Image → Image → Type 0
  LeadsFrom run from left = (start : Start) → Sound start.queue → HoldStart from start
      → ∥ ((x : Session) × IsOf run x × ((end : Start) × IsSession start x end × HaveTables left end)) ∥₁

  -- ---- all of them

  -- where a start leads from the files that it found
  abbrev pub Links : Link C → Image → Image → Type 0
  Links (Ran run) from last = LeadsFrom run from last
  Links Looked from last = KeepsQueue from last

  -- of these starts, the newest first, each began with files that the one before it may have left
  abbrev pub LeadOn : Image → List (Link C) → Image → Type 0
  LeadOn first [] last = last ≡ first
  LeadOn first (link ∷ earlier) last = (from : Image) × LeadOn first earlier from × Links link from last

  -- these are the sessions of those that served
  abbrev pub AreOf : List (Link C) → List Session → Type 0
  AreOf [] [] = ⊤
  AreOf [] (x ∷ sessions) = ⊥
  AreOf (Looked ∷ earlier) sessions = AreOf earlier sessions
  AreOf (Ran run ∷ earlier) [] = ⊥
  AreOf (Ran run ∷ earlier) (x ∷ sessions) = IsOf run x × AreOf earlier sessions

  -- one list of accepted requests tells what was answered to all their messages, and what the last files hold
  pub record HaveOneHistory (start : Start) (links : List (Link C)) (last : Image) : Type 0 where
    pub sessions : List Session
    pub are : AreOf links sessions
    pub end : Start
    pub follow : Follow start sessions end
    pub one : HaveOneList start sessions end
    pub holds : HoldStart last end

  -- However often the program was started on files that held a sound queue at first, and however each start ended, they have one history.
  abbrev pub RestartsHaveOneHistory : Type 0
  RestartsHaveOneHistory = (first last : Image) (links : List (Link C)) → LeadOn first links last
      → (start : Start) → Sound start.queue → HoldStart first start → ∥ HaveOneHistory start links last ∥₁
