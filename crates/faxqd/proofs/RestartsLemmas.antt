-- Starts of the program on one database's files have one history.
use Rattle.std.proofs.Common.{ℕ, List, [], ◌∷◌, refl, sym, subst, inl, inr, IsTrue}
use Rattle.std.proofs.Math.Logic.{∥∥₁_elim, ∥∥₁_map}
use Rattle.sqlite.proofs.Theorems.{opens_again}
use Rattle.sqlite.specs.Effect.{Database, IsDatabase}
use Rattle.sqlite.specs.Files.{HoldsDatabase, file_state}
use Rattle.sqlite.specs.Held.{Held, AreDatabases}
use Rattle.sqlite.specs.State.{State, HasCleanDisk}
use Rattle.sqlite_disk.specs.declared.Disk.{Ghosts}
use Rattle.sqlite_store.specs.FileStore.{recovers, state, view}
use Rattle.sqlite_store.specs.declared.store.FileStore.{FileStore}
use Rattle.sqlite_trees.specs.Tree.{Trees}
use Rattle.sqlite_wal.specs.Recovery.{Image}
use Rattle.fax_core.specs.Ledger.{Ledger}
use Rattle.fax_core.specs.Queue.{Queue}
use Rattle.fax_core.specs.Sound.{Sound}
use Rattle.fax_desk.specs.Desk.{replies_of}
use Rattle.fax_run.proofs.SessionsLemmas.{sessions_have_one_list}
use Rattle.fax_run.specs.Run.{Start}
use Rattle.fax_run.specs.Sessions.{Follow, session_of}
use Rattle.fax_schema.specs.Schema.{AreOurs}
use Rattle.fax_store.proofs.AdoptLemmas.{means_rows}
use Rattle.fax_store.specs.Store.{CommitsNothing, LeavesAlone, Means}
use Rattle.fax_schema.proofs.OursLemmas.{not_ours}
use Rattle.fax_files.specs.Database.{AreHeld, IsFound}
use Rattle.fax_once.proofs.HandledLemmas.{open_stops}
use Rattle.fax_layout.proofs.DatabaseLemmas.{same_database}
use Rattle.fax_tables.specs.Tables.{RowsMean}
use Rattle.faxqd.specs.Restarts.{HaveOneHistory, HaveTables, HoldStart, KeepsQueue, LeadsFrom, Link, Links, Looked, Ran, RestartsHaveOneHistory, Served}
use Rattle.faxqd.specs.Serve.{IsFoundAs, ServesHeld}

-- ---- what was found

-- what the files held means a start, and so does the store that was opened over it
pub means_found : (image : Image) (opened : State) (it : IsFound image opened) (start : Start) → IsFoundAs it.found start → Means opened start.queue start.kept
means_found image opened it start (inr (ours, rows)) = it.means start.queue start.kept ours rows
means_found image opened it start (inl (none, is)) = elim it.taken [
  | inl (_, rest) ↦ subst (λ (e : Start). Means opened e.queue e.kept) (sym is) (λ _. rest)
  | inr (ours, _) ↦ absurd (not_ours it.found.schema none ours.schema_is)
]

-- what the files held is what was found in them
found_in : (from : Image) (found : Database) → AreHeld from found.trees → IsDatabase found → (start : Start) → HoldStart from start → IsFoundAs found start
found_in from found held sound start (inr none) = inl (none.none found held sound, none.empty)
found_in from found held sound start (inl have) =
    let same = same_database have.db found (sym (held.holds have.db.trees have.holds)) have.sound sound in
    inr (subst (λ (db : Database). AreOurs db.schema × RowsMean db start.queue start.kept) same (have.ours, have.means))

-- ---- one start

module _ {C : Type 0} (gives : C → List ℕ → ℕ → C → Type 0) (run : Served C) (from : Image) where
  -- what a crash leaves in the files means what such a session left
  pub leads_from : {D : Type 0} {g : Ghosts D} (conn : Held (FileStore D g)) (store : FileStore D g) → IsTrue (view store).is_numbered → AreDatabases (recovers store)
      → ((db : Trees) → recovers store db → recovers conn.store db) → HasCleanDisk (file_state conn)
      → ServesHeld gives run.settings from run.clock run.turns (file_state conn) → (left : Image) → (state store).may_leave left → LeadsFrom gives run from left
  leads_from conn store numbered databases outcomes clean held left may start sound holds =
      let served = held.served start sound (found_in from held.found held.held held.sound start holds) in
      ∥∥₁_map (opens_again store numbered databases left may) (λ it.
      let by = served.stopped it.0 (clean, outcomes it.0 it.1) in
      let rows = by.2.2 in
      let means = means_rows rows.0 by.2.0.queue by.2.0.kept rows.2 in (
        session_of run.settings served.arrivals (replies_of run.turns) by.0,
        record { settings = refl; arrivals = served.are; replies = refl; under_way = by.1 },
        (by.2.0, by.2.1, record { db = rows.0; holds = subst (HoldsDatabase left) (sym rows.1) it.2; sound = rows.2.sound; ours = means.0; means = means.1 }),
      ))

-- what a crash leaves after nothing was committed means what the opened store meant
pub leaves_queue : {D : Type 0} {g : Ghosts D} (conn : Held (FileStore D g)) (store : FileStore D g) (opened : State) (start : Start) → IsTrue (view store).is_numbered → AreDatabases (recovers store)
    → ((db : Trees) → recovers store db → recovers conn.store db) → HasCleanDisk (file_state conn) → IsTrue opened.is_open → LeavesAlone opened opened.committed.trees
    → Means opened start.queue start.kept → CommitsNothing opened (file_state conn) → (left : Image) → (state store).may_leave left → ∥ HaveTables left start ∥₁
leaves_queue conn store opened start numbered databases outcomes clean is_open alone means nothing left may =
    ∥∥₁_map (opens_again store numbered databases left may) (λ db.
    let before = nothing db.0 (clean, outcomes db.0 db.1) in
    let rows = open_stops opened start means (λ _. alone) db.0 before is_open in
    let same = means_rows rows.0 start.queue start.kept rows.2 in
    record { db = rows.0; holds = subst (HoldsDatabase left) (sym rows.1) db.2; sound = rows.2.sound; ours = same.0; means = same.1 })

-- so it means what the files held
pub keeps_queue : (from : Image) {D : Type 0} {g : Ghosts D} (conn : Held (FileStore D g)) (store : FileStore D g) (opened : State) → IsTrue (view store).is_numbered → AreDatabases (recovers store)
    → ((db : Trees) → recovers store db → recovers conn.store db) → HasCleanDisk (file_state conn) → IsFound from opened
    → ((m : Queue) (k : Ledger) → Sound m → Means opened m k → CommitsNothing opened (file_state conn))
    → (left : Image) → (state store).may_leave left → KeepsQueue from left
keeps_queue from conn store opened numbered databases outcomes clean it nothing left may start sound holds =
    let means = means_found from opened it start (found_in from it.found it.held it.sound start holds) in
    leaves_queue conn store opened start numbered databases outcomes clean it.serves.is_open it.alone means (nothing start.queue start.kept sound means) left may

-- ---- all of them

module _ {C : Type 0} (gives : C → List ℕ → ℕ → C → Type 0) where
  -- one history goes on by a start
  history_on : (start : Start) (links : List (Link C)) (link : Link C) (from last : Image) → Sound start.queue
      → HaveOneHistory gives start links from → Links gives link from last → ∥ HaveOneHistory gives start (link ∷ links) last ∥₁
  history_on start links Looked from last sound old keeps =
      let here : Sound old.end.queue = subst (λ (e : Start). Sound e.queue) (sym old.one.left) old.one.well.sound in
      ∥∥₁_map (keeps old.end here old.holds) (λ have.
      record { sessions = old.sessions; are = old.are; end = old.end; follow = old.follow; one = old.one; holds = inl have })
  history_on start links (Ran run) from last sound old leads =
      let here : Sound old.end.queue = subst (λ (e : Start). Sound e.queue) (sym old.one.left) old.one.well.sound in
      ∥∥₁_map (leads old.end here old.holds) (λ it.
      let follow : Follow start (it.0 ∷ old.sessions) it.2.0 = (old.end, old.follow, it.2.1) in
      record {
        sessions = it.0 ∷ old.sessions;
        are = (it.1, old.are);
        end = it.2.0;
        follow = follow;
        one = sessions_have_one_list start it.2.0 (it.0 ∷ old.sessions) sound follow;
        holds = inl it.2.2;
      })

  pub restarts_have_one_history : RestartsHaveOneHistory gives
  restarts_have_one_history first last [] same start sound holds = ∣ record {
    sessions = [];
    are = tt;
    end = start;
    follow = refl;
    one = sessions_have_one_list start start [] sound refl;
    holds = subst (λ (image : Image). HoldStart image start) (sym same) holds;
  } ∣₁
  restarts_have_one_history first last (link ∷ earlier) (from, before, leads) start sound holds =
      ∥∥₁_elim (restarts_have_one_history first from earlier before start sound holds) squash₁
      (λ old. history_on start earlier link from last sound old leads)
