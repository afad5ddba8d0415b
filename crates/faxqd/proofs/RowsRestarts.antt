-- Worked rows of starts that follow one another on a database's files. Of starts and of sessions the newest comes first.
use Rattle.std.proofs.Common.{◌≡◌, inl, inr, refl, subst, List, [], ◌∷◌, ℕ}
use Rattle.sqlite.specs.Effect.{Database, IsDatabase}
use Rattle.sqlite.specs.Files.{HoldsDatabase}
use Rattle.sqlite_wal.specs.Recovery.{Image}
use Rattle.fax_core.specs.Sound.{Sound}
use Rattle.fax_desk.specs.Desk.{replies_of}
use Rattle.fax_desk.specs.Replaying.{empty_start}
use Rattle.fax_desk.specs.Turns.{AreArrivals}
use Rattle.fax_files.specs.Database.{AreHeld}
use Rattle.fax_run.specs.Run.{Start}
use Rattle.fax_run.specs.Sessions.{Failed, Follow, HaveOneList, IsSession, Session, Unanswered, session_of}
use Rattle.fax_run.specs.declared.arrival.Arrival.{Arrival}
use Rattle.fax_schema.specs.Schema.{AreOurs, no_tables}
use Rattle.fax_tables.specs.Tables.{RowsMean}
use Rattle.fax_check.specs.Consistent.{Consistent}
use Rattle.faxqd.specs.Check.{HoldConsistent}
use Rattle.faxqd.specs.Restarts.{AreOf, HaveNone, HaveOneHistory, HaveTables, HoldStart, IsOf, KeepsQueue, LeadOn, LeadsFrom, Link, Looked, Ran, Served}

-- ---- what files hold

-- a queue's tables, in a whole database whose rows mean the start
tables_row : (image : Image) (start : Start) → HaveTables image start
    → (db : Database) × HoldsDatabase image db.trees × IsDatabase db × AreOurs db.schema × RowsMean db start.queue start.kept
tables_row image start have = (have.db, have.holds, have.sound, have.ours, have.means)

-- or nothing yet, and the queue is the empty one
none_row : (image : Image) (start : Start) → HaveNone image start
    → (start ≡ empty_start) × ((db : Database) → AreHeld image db.trees → IsDatabase db → db.schema ≡ no_tables)
none_row image start have = (have.empty, have.none)

-- the one or the other
hold_row : (image : Image) (start : Start) → (HaveTables image start → HoldStart image start) × (HaveNone image start → HoldStart image start)
hold_row image start = (λ have. inl have, λ have. inr have)

-- files that a check passes hold a consistent queue
consistent_row : (image : Image) → HoldConsistent image → ∥ ((start : Start) × Consistent start.queue × HoldStart image start) ∥₁
consistent_row image holds = holds

-- ---- one start

module _ {C : Type 0} (gives : C → List ℕ → ℕ → C → Type 0) where
  -- its session has its settings, and the arrivals and replies of its messages, at the moments that its clock gave
  of_row : (run : Served C) (x : Session) → IsOf gives run x
      → (x.settings ≡ run.settings) × AreArrivals gives run.clock run.turns x.arrivals × (x.replies ≡ replies_of run.turns)
  of_row run x of = (of.settings, of.arrivals, of.replies)

  -- each was answered: what was under way at the end is none that had no answer
  unanswered_row : (run : Served C) (a b : Arrival) (arrivals : List Arrival) → AreArrivals gives run.clock run.turns arrivals
      → ¬ IsOf gives run (session_of run.settings arrivals (replies_of run.turns) (Unanswered (a ∷ [])))
      × IsOf gives run (session_of run.settings arrivals (replies_of run.turns) (Failed (b ∷ [])))
  unanswered_row run a b arrivals are = (λ of. of.under_way, record { settings = refl; arrivals = are; replies = refl; under_way = tt })

  -- from a sound queue that the files held, such a session left what they hold afterwards
  leads_row : (run : Served C) (from left : Image) (start : Start) → LeadsFrom gives run from left → Sound start.queue → HoldStart from start
      → ∥ ((x : Session) × IsOf gives run x × ((end : Start) × IsSession start x end × HaveTables left end)) ∥₁
  leads_row run from left start leads sound holds = leads start sound holds

  -- ---- one after the other

  -- without a start the files are as they were
  no_start_row : (first last : Image) → LeadOn gives first [] last → last ≡ first
  no_start_row first last leads = leads

  -- one start leads on from what they held at first
  one_start_row : (first last : Image) (run : Served C) → LeadOn gives first (Ran run ∷ []) last → LeadsFrom gives run first last
  one_start_row first last run (from, same, leads) = subst (λ (image : Image). LeadsFrom gives run image last) same leads

  -- and a second one from what it left
  two_starts_row : (first middle last : Image) (run next : Served C) → LeadsFrom gives run first middle → LeadsFrom gives next middle last
      → LeadOn gives first (Ran next ∷ Ran run ∷ []) last
  two_starts_row first middle last run next one two = (middle, (first, refl, one), two)

  -- one that only looked keeps the queue that the files held, and has no session
  looked_row : (first last : Image) → LeadOn gives first (Looked ∷ []) last → KeepsQueue first last
  looked_row first last (from, same, keeps) = subst (λ (image : Image). KeepsQueue image last) same keeps

  looked_last_row : (first middle last : Image) (run : Served C) → LeadsFrom gives run first middle → KeepsQueue middle last
      → LeadOn gives first (Looked ∷ Ran run ∷ []) last
  looked_last_row first middle last run one keeps = (middle, (first, refl, one), keeps)

  none_of_looked_row : (run : Served C) (x : Session) → AreOf gives (Looked ∷ Ran run ∷ []) (x ∷ []) → IsOf gives run x
  none_of_looked_row run x (of, none) = of

  keeps_row : (from left : Image) (start : Start) → KeepsQueue from left → Sound start.queue → HoldStart from start → ∥ HaveTables left start ∥₁
  keeps_row from left start keeps sound holds = keeps start sound holds

  -- each start that served has its session, and no session is without one
  are_of_row : (run : Served C) (x : Session) → AreOf gives (Ran run ∷ []) (x ∷ []) → IsOf gives run x
  are_of_row run x (of, none) = of

  each_of_row : (run next : Served C) (x y : Session) → AreOf gives (Ran next ∷ Ran run ∷ []) (y ∷ x ∷ []) → IsOf gives run x
  each_of_row run next x y (later, (of, none)) = of

  no_session_row : (run : Served C) (x : Session) → (¬ AreOf gives (Ran run ∷ []) []) × (¬ AreOf gives [] (x ∷ []))
  no_session_row run x = (λ are. are, λ are. are)

  -- one list of accepted requests says what was answered to all messages, and what the last files hold
  history_row : (start : Start) (links : List (Link C)) (last : Image) (all : HaveOneHistory gives start links last)
      → AreOf gives links all.sessions × Follow start all.sessions all.end × HaveOneList start all.sessions all.end × HoldStart last all.end
  history_row start links last all = (all.are, all.follow, all.one, all.holds)
