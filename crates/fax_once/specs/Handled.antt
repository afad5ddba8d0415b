-- What an arrival that was handled leaves in the store.
use Rattle.std.specs.Prelude.{◌≡◌, ◌≢◌, ◌⊎◌, ◌≤◌, ⊤, ℕ, Bool, true, false, List, [], ◌∷◌, Result, Ok, MatchResult}
use Rattle.sqlite.specs.Effect.{Database}
use Rattle.sqlite.specs.State.{State}
use Rattle.sqlite_trees.specs.View.{Tells}
use Rattle.sqlite_trees.specs.declared.error.StoreError.{StoreError}
use Rattle.sqlite_trees.specs.declared.error.StoreError.TheVariants.{Broken}
use Rattle.sqlite.specs.declared.types.Value.TheVariants.{Text}
use Rattle.fax_job.specs.declared.refusal.Refusal.TheVariants.{Unavailable}
use Rattle.fax_ask.specs.Response.{Response, refused_response}
use Rattle.fax_core.specs.declared.ask.Ask.{Ask}
use Rattle.fax_core.specs.Ledger.{Ledger, with_reply, IsKeptStatus}
use Rattle.fax_core.specs.Queue.{Queue, Entry}
use Rattle.fax_core.specs.Reply.{NoKeys}
use Rattle.fax_core.specs.Settings.{Settings}
use Rattle.fax_core.specs.Sound.{Sound}
use Rattle.fax_run.specs.Arrival.{number_of}
use Rattle.fax_run.specs.declared.arrival.Arrival.{Arrival}
use Rattle.fax_store.specs.Kept.{HasReply}
use Rattle.fax_schema.specs.Schema.{floors_tree}
use Rattle.fax_store.specs.Store.{HasRow, Means, Serves}
use Rattle.fax_tables.specs.Row.{number}
use Rattle.fax_tables.specs.Tables.{IsAtRest}
use Rattle.fax_run.specs.Verdict.{Verdict, Told, Repeated, Accepted, IsVerdict, without_given}

-- The reply is that of the verdict. What is told changes nothing. A kept reply comes from an open store, and changes nothing either. What is accepted leaves an open store, with what the verdict leaves: a sound queue.
abbrev pub Leaves : Queue → Ledger → Response → State → Verdict → Type 0
Leaves m k reply s (Told told) = (reply ≡ told) × Means s m k
Leaves m k reply s (Repeated told) = (reply ≡ told) × Serves s × IsAtRest s m k
Leaves m k reply s (Accepted after kept told) = (reply ≡ told) × Serves s × IsAtRest s after kept × Sound after

-- the same of a result: where there is none, nothing has changed
abbrev pub LeavesBy : {E : Type 0} → Queue → Ledger → Result Response E → State → Verdict → Type 0
LeavesBy m k result s v = MatchResult result (λ reply. Leaves m k reply s v) (λ _. Means s m k)

-- an arrival is answered by its verdict, or nothing has changed
abbrev pub Answers : {E : Type 0} → Settings → Arrival → Queue → Ledger → Result Response E → State → Type 0
Answers settings a m k result s = MatchResult result (λ reply. (v : Verdict) × IsVerdict settings a m k v × Leaves m k reply s v) (λ _. Means s m k)

-- Memory or the store gave out, or rows don't fit together. The store serves, and nothing has changed; or a fault of the disk has shut it, and what the next start finds is told by `Stops` alone.
abbrev pub GivesOut : Queue → Ledger → Response → State → Type 0
GivesOut m k reply s = (reply ≡ refused_response Unavailable NoKeys) × ((Serves s × IsAtRest s m k) ⊎ (s.is_open ≡ false))

-- there is no reply, or one that refuses
abbrev pub IsNotAccepted : {E : Type 0} → Result Response E → Type 0
IsNotAccepted result = MatchResult result (λ reply. ¬ IsKeptStatus reply.status) (λ _. ⊤)

-- the rows have a reply to the arrival's number of its client, whatever else they say
pub record IsUsed (a : Arrival) (db : Database) : Type 0 where
  pub number : ℕ
  pub its : number_of a ≡ Ok number
  pub kept : HasReply db a.client.now number

-- the rows have a floor of the client, and each that is a number is this one or higher, whatever else they say
pub record ReachesTo (db : Database) (client : List ℕ) (n : ℕ) : Type 0 where
  pub some : HasRow db floors_tree (1 ∷ []) (Text client ∷ [])
  pub each : (floor : ℕ) → HasRow db floors_tree (1 ∷ 2 ∷ []) (Text client ∷ number floor ∷ []) → n ≤ floor

-- the rows say that the client has given the arrival's number up, or its floor is damaged
pub record IsGivenUp (a : Arrival) (db : Database) : Type 0 where
  pub number : ℕ
  pub under : number_of a ≡ Ok number
  pub reaches : ReachesTo db a.client.now number

-- SQLite failed as it was asked, and not since its database is shut: it ran out of memory, for example
pub record IsUnknown (s : State) : Type 0 where
  pub cause : StoreError
  pub other : cause ≢ Broken
  pub blamed : Tells s.blamed cause

-- a store that is shut is said to be, or nothing is known
abbrev pub SaysShut : Bool → State → Type 0
SaysShut says s = s.is_open ≡ false → (says ≡ true) ⊎ IsUnknown s

-- an arrival is answered by its verdict, or 503
abbrev pub Handles : Settings → Arrival → Queue → Ledger → Response → State → Type 0
Handles settings a m k reply s = ((v : Verdict) × IsVerdict settings a m k v × Leaves m k reply s v) ⊎ GivesOut m k reply s

-- this is kept, or one reply more, without those that the client gives up with it
abbrev pub IsKeptOrOneMore : Ledger → Ledger → Type 0
IsKeptOrOneMore k kept = (kept ≡ k) ⊎ ((e : Entry) × (ask : Ask) × (kept ≡ with_reply e (without_given e.client ask k)))

-- the store has a sound queue, and what was kept, with one reply more at most
abbrev pub IsSoundWith : Ledger → State → Type 0
IsSoundWith k s = (after : Queue) × (kept : Ledger) × Means s after kept × Sound after × IsKeptOrOneMore k kept
