-- What a check tells of what the files held.
use Rattle.std.proofs.Common.{◌≡◌, ◌==◌, inl, inr, refl, sym, subst, ℕ, List, [], ◌∷◌, map, Bool, if◌then◌else◌, Option, Some, None, Result, Ok, Err, arith}
use Rattle.std.proofs.lemmas.Bool.{cases_Bool}
use Rattle.std.specs.Prelude.{IfOk, IsTrue, MatchOption, false}
use Rattle.sqlite.specs.Effect.{Database}
use Rattle.sqlite.specs.Order.{Row, column}
use Rattle.sqlite.specs.Files.{file_state}
use Rattle.sqlite.specs.Held.{Held, AreDatabases}
use Rattle.sqlite.specs.State.{State, HasCleanDisk}
use Rattle.sqlite_disk.specs.declared.Disk.{Ghosts}
use Rattle.sqlite_store.specs.FileStore.{faults, is_shielded, recovers, view}
use Rattle.sqlite_store.specs.declared.store.FileStore.{FileStore}
use Rattle.sqlite_trees.specs.View.{IsClean, IsQuiet}
use Rattle.sqlite.specs.declared.types.Value.{Value}
use Rattle.sqlite_wal.specs.Recovery.{Image}
use Rattle.fax_check.proofs.ConsistentLemmas.{empty_consistent}
use Rattle.fax_check.proofs.NumberLemmas.{sound_stored}
use Rattle.fax_check.specs.Check.{IsChecked}
use Rattle.fax_check.specs.Reading.{Tells}
use Rattle.fax_check.specs.Sound.{IsSound, IsStored}
use Rattle.fax_check.specs.declared.tables.Flaw.{Flaw}
use Rattle.fax_core.specs.Ledger.{Ledger, empty_ledger}
use Rattle.fax_core.specs.Queue.{Queue, empty_queue}
use Rattle.fax_files.specs.Database.{IsFound}
use Rattle.fax_http.specs.Device.{Put}
use Rattle.fax_http.specs.declared.device.Watched.{Watched}
use Rattle.fax_layout.specs.ByRowid.{IsByRowid}
use Rattle.fax_schema.specs.Schema.{AreOurs, meta_tree}
use Rattle.fax_store.specs.Adopt.{HasTaken, IsOurs, IsTaken}
use Rattle.fax_store.specs.Store.{Means, Serves}
use Rattle.fax_tables.specs.Row.{number, raised}
use Rattle.fax_tables.specs.Tables.{RowsMean, TablesMean, meta_as, version_of}
use Rattle.fax_tables.specs.declared.fault.StoreFault.{StoreFault}
use Rattle.fax_text.specs.declared.status.Status.{Status}
use Rattle.fax_text.specs.declared.status.Status.TheVariants.{Success, Fault, Usage, Unused, Later}
use Rattle.std.proofs.Math.Logic.{∥∥₁_map}
use Rattle.fax_check.specs.Consistent.{Consistent}
use Rattle.fax_desk.specs.Replaying.{empty_start}
use Rattle.fax_run.specs.Run.{Start}
use Rattle.faxqd.proofs.RestartsLemmas.{keeps_queue, leaves_queue}
use Rattle.faxqd.specs.Check.{Checks, ChecksBy, HasNoDatabase, IsTrueOf, IsVerdictOn, MeanSound, Prints, StandByRowid, sound_line}

-- ---- rows that were taken

-- one row of meta stands by rowid, as the third version has it
raised_by : (rows : List Row) (v : Value) → map (λ r. column r 5) rows ≡ v ∷ [] → IsByRowid rows → IsByRowid (map raised rows)
raised_by [] v one by = absurd cc
raised_by (r ∷ []) v one by = record { rise = (tt, tt); integers = (by.integers.0, tt) }
raised_by (r ∷ s ∷ rows) v one by = absurd cc

-- so it does, of whatever version it is
meta_by : (version : ℕ) (rows : List Row) (v : Value) → map (λ r. column r 5) rows ≡ v ∷ [] → IsByRowid rows → IsByRowid (meta_as version rows)
meta_by version rows v one by =
    let raises = λ (is : Bool). IsByRowid (if is then rows else map raised rows) in
    elim (cases_Bool (version == 3)) [
      | inl third ↦ subst raises (sym third) by
      | inr other ↦ subst raises (sym other) (raised_by rows v one by)
    ]

module _ (found now : Database) (ours : IsOurs found) (taken : IsTaken found now) where
  -- the tables that were taken are stored as a check wants them
  taken_stored : StandByRowid found now → IsStored now
  taken_stored by = record {
    schema_is = taken.schema_is;
    sound = taken.sound;
    ordered = by.rows;
    meta_ordered = subst IsByRowid (sym (taken.meta (inr by.meta))) (meta_by (version_of found.schema) (found.trees meta_tree) (number (version_of found.schema)) ours.version by.meta);
  }

  -- where they mean a consistent queue, so do the rows that were found
  found_sound : StandByRowid found now → IsSound now → MeanSound found
  found_sound by sound = (
    sound.0,
    sound.1,
    record {
      version = ours.version;
      ordered = by.grants;
      full = now;
      means = sound.2;
      same = record { rows = taken.rows; grants = taken.grants (inr by.grants); meta = taken.meta (inr by.meta); floors = taken.floors; times = taken.times (inr by.jobs) };
    },
    sound.3,
  )

-- ---- what is told

-- of an empty queue no flaw is told
no_flaw : (opened new : State) (verdict : Option Flaw) → TablesMean opened.now empty_queue empty_ledger → Tells opened new (Ok verdict) IsChecked → HasCleanDisk new → verdict ≡ None
no_flaw opened new None means it clean = refl
no_flaw opened new (Some flaw) means it clean =
    let sound : IsSound opened.now = (empty_queue, empty_ledger, means, empty_consistent) in
    absurd ((it.tells (sound_stored opened.now sound) clean).0 sound)

-- of a queue's rows what is told is true
is_true : (found : Database) (opened new : State) (verdict : Option Flaw) → IsOurs found → HasTaken opened found → Serves opened
    → ((m : Queue) (k : Ledger) → AreOurs found.schema → RowsMean found m k → Means opened m k)
    → Tells opened new (Ok verdict) IsChecked → HasCleanDisk new → IsTrueOf found opened.now verdict
is_true found opened new None ours has serves means it clean = λ by.
    found_sound found opened.now ours has.taken by (it.tells (taken_stored found opened.now ours has.taken by) clean)
is_true found opened new (Some flaw) ours has serves means it clean = (
  λ mean.
      let sound : IsSound opened.now = (mean.0, mean.1, (means mean.0 mean.1 ours.schema_is mean.2 serves).means, mean.3) in
      (it.tells (sound_stored opened.now sound) clean).0 sound,
  λ by. (it.tells (taken_stored found opened.now ours has.taken by) clean).1,
)

-- so it is of whatever the files held
verdict_on : (image : Image) (opened new : State) (verdict : Result (Option Flaw) StoreFault) → IsFound image opened
    → Tells opened new verdict IsChecked → HasCleanDisk new → IfOk verdict (IsVerdictOn image opened.now)
verdict_on image opened new (Err fault) was it clean = tt
verdict_on image opened new (Ok verdict) was it clean =
    record {
      found = was.found;
      held = was.held;
      sound = was.sound;
      told = elim was.taken [
        | inl (none, rest) ↦ inl (none, no_flaw opened new verdict rest.means it clean)
        | inr (ours, has) ↦ inr (ours, is_true was.found opened new verdict ours has was.serves was.means it clean)
      ];
    }

-- where no flaw is told, what was opened means a consistent queue
consistent_by : (image : Image) (opened new : State) (verdict : Result (Option Flaw) StoreFault) → (was : IsFound image opened) → Tells opened new verdict IsChecked → HasCleanDisk new
    → verdict ≡ Ok None → StandByRowid was.found opened.now → (start : Start) × Consistent start.queue × Means opened start.queue start.kept
consistent_by image opened new verdict was it clean is by = elim was.taken [
  | inl (none, rest) ↦ (empty_start, empty_consistent, λ _. rest)
  | inr (ours, has) ↦
      (let mean = is_true was.found opened new None ours has was.serves was.means (subst (λ (v : Result (Option Flaw) StoreFault). Tells opened new v IsChecked) is it) clean by in
      (record { queue = mean.0; kept = mean.1 }, mean.3, was.means mean.0 mean.1 ours.schema_is mean.2))
]

-- ---- the end

module _ {W : Type 0} (contents : W → Option (List ℕ)) (out out₂ : Watched W) (image : Image) where
  -- what is told of the opened database is told of its files, and these keep their queue
  pub checks_by : {D : Type 0} {g : Ghosts D} (status : Status) (line : List ℕ) (opened conn : Held (FileStore D g)) (verdict : Result (Option Flaw) StoreFault)
      (store : FileStore D g) → (HasCleanDisk (file_state opened) → IsFound image (file_state opened))
      → Tells (file_state opened) (file_state conn) verdict IsChecked → Prints contents out out₂ verdict status line
      → (IsClean (view store) → IsTrue (view store).is_numbered) → (IsClean (view store) → AreDatabases (recovers store))
      → IsQuiet view faults recovers is_shielded conn.store store → ChecksBy contents out out₂ image status line store
  checks_by status line opened conn verdict store found it prints numbered databases quiet =
      let before : IsClean (view store) → HasCleanDisk (file_state conn) = (λ clean. let less = quiet.clean in omega (arith, clean, less)) in
      record {
        verdict = verdict;
        prints = prints;
        held = λ clean.
            let was = found (it.clean (before clean)) in
            (opened, was, verdict_on image (file_state opened) (file_state conn) verdict was it (before clean));
        leaves = λ clean. keeps_queue image conn store (file_state opened) (numbered clean) (databases clean) quiet.outcomes (before clean)
            (found (it.clean (before clean))) (λ m k sound means. it.crash);
        premise = λ clean is by left may.
            let was = found (it.clean (before clean)) in
            let mean = consistent_by image (file_state opened) (file_state conn) verdict was it (before clean) is by in
            ∥∥₁_map (leaves_queue conn store (file_state opened) mean.0 (numbered clean) (databases clean) quiet.outcomes (before clean) was.serves.is_open was.alone mean.2 it.crash left may)
            (λ have. (mean.0, mean.1, inl have));
      }

  -- a check succeeds where it prints that there is no flaw
  well : (verdict : Result (Option Flaw) StoreFault) (line : List ℕ) → Prints contents out out₂ verdict Success line → Put contents out out₂ sound_line false × (line ≡ [])
  well (Ok None) line prints = prints
  well (Ok (Some flaw)) line prints = absurd prints
  well (Err fault) line prints = absurd prints

  -- and is no usage fault
  no_usage : (verdict : Result (Option Flaw) StoreFault) (line : List ℕ) → Prints contents out out₂ verdict Usage line → ⊥
  no_usage (Ok None) line prints = prints
  no_usage (Ok (Some flaw)) line prints = prints
  no_usage (Err fault) line prints = prints

  -- nor is anything not used
  all_used : (verdict : Result (Option Flaw) StoreFault) (line : List ℕ) → Prints contents out out₂ verdict Unused line → ⊥
  all_used (Ok None) line prints = prints
  all_used (Ok (Some flaw)) line prints = prints
  all_used (Err fault) line prints = prints

  -- nor is there anything to wait for
  never_later : (verdict : Result (Option Flaw) StoreFault) (line : List ℕ) → Prints contents out out₂ verdict Later line → ⊥
  never_later (Ok None) line prints = prints
  never_later (Ok (Some flaw)) line prints = prints
  never_later (Err fault) line prints = prints

  checks_of : {D : Type 0} {g : Ghosts D} (status : Status) (line : List ℕ) (store : FileStore D g) → ChecksBy contents out out₂ image status line store
      → Checks contents out out₂ status line
  checks_of Success line store by = well by.verdict line by.prints
  checks_of Fault line store by = inr (by.verdict, by.prints)
  checks_of Usage line store by = no_usage by.verdict line by.prints
  checks_of Unused line store by = all_used by.verdict line by.prints
  checks_of Later line store by = never_later by.verdict line by.prints

  -- however it ends, that is its end
  pub checks_with : {D : Type 0} {g : Ghosts D} (status : Status) (line : List ℕ) (left : Option (FileStore D g))
      → MatchOption left ((status ≡ Fault) × (out₂ ≡ out) × HasNoDatabase line) (λ store. ChecksBy contents out out₂ image status line store)
      → Checks contents out out₂ status line
  checks_with status line (Some store) by = checks_of status line store by
  checks_with status line None (fault, same, none) = subst (λ s. Checks contents out out₂ s line) (sym fault) (inl (same, none))
