-- What a crash may leave behind an arrival.
use Rattle.std.specs.Prelude.{◌≡◌, ◌⊎◌, Bool, true, false, List}
use Rattle.sqlite.specs.State.{State}
use Rattle.sqlite_trees.specs.Tree.{Trees}
use Rattle.fax_job.specs.declared.refusal.Refusal.TheVariants.{Unavailable}
use Rattle.fax_core.specs.Ledger.{Ledger}
use Rattle.fax_core.specs.Queue.{Queue}
use Rattle.fax_core.specs.Reply.{NoKeys}
use Rattle.fax_core.specs.Settings.{Settings}
use Rattle.fax_ask.specs.Response.{Response, refused_response}
use Rattle.fax_store.specs.Store.{MayFind, MayMake, RowsFound, Serves}
use Rattle.fax_once.specs.Ran.{HasRun}
use Rattle.fax_run.specs.Reading.{Reading}
use Rattle.fax_run.specs.Run.{Start, end_of}
use Rattle.fax_run.specs.Sessions.{AreHeard, HasFailed}
use Rattle.fax_run.specs.Verdict.{Verdict, Told, Repeated, Accepted, IsVerdict}
use Rattle.fax_run.specs.declared.arrival.Arrival.{Arrival}

-- these are the rows of what the verdict accepts, its reply kept. A refusal, a view and a repeat make none.
abbrev pub AreMadeBy : Verdict → Trees → Type 0
AreMadeBy (Accepted after kept reply) found = RowsFound found after kept
AreMadeBy other found = ⊥

-- it accepts
abbrev pub accepts : Verdict → Bool
accepts (Told reply) = false
accepts (Repeated reply) = false
accepts (Accepted after kept reply) = true

-- only what is accepted makes rows
abbrev pub OnlyAcceptedMakeRows : Type 0
OnlyAcceptedMakeRows = (v : Verdict) (found : Trees) → AreMadeBy v found → accepts v ≡ true

-- A crash leaves what a crash before could leave, or, where the store served, what the verdict makes.
abbrev pub StopsBy : State → State → Verdict → Type 0
StopsBy old new v = MayMake old new (λ found. Serves old × AreMadeBy v found)

-- the same of an arrival: what its verdict makes
abbrev pub Stops : Settings → Arrival → Queue → Ledger → State → State → Type 0
Stops s a m k old new = MayMake old new (λ found. (v : Verdict) × IsVerdict s a m k v × AreMadeBy v found)

-- The same of an arrival that was answered: what its verdict makes may be found where the store is open, or where it was answered 503.
abbrev pub StopsAnswered : Settings → Arrival → Queue → Ledger → Response → State → State → Type 0
StopsAnswered s a m k reply old new =
    MayMake old new (λ found. (v : Verdict) × IsVerdict s a m k v × AreMadeBy v found × ((new.is_open ≡ true) ⊎ (reply ≡ refused_response Unavailable NoKeys)))

-- These are the rows of where a batch of the arrivals leads, all of it heard. Each of it was answered 503, and nothing was taken since.
pub record IsMadeIn (s : Settings) (start : Start) (arrivals : List Arrival) (replies : List Response) (heard : List Reading) (found : Trees) : Type 0 where
  pub batch : List Arrival
  pub failed : HasFailed s start arrivals replies heard batch
  pub all : List Reading
  pub taken : AreHeard batch failed.earlier all
  pub made : RowsFound found (end_of s start all).queue (end_of s start all).kept

-- what a crash behind a run may leave
pub data IsLeftBehind (s : Settings) (start : Start) (arrivals : List Arrival) (replies : List Response) (heard : List Reading) (old : State)
    (found : Trees) : Type 0 where
  -- what a crash before the run could leave, where nothing was taken
  Before : MayFind old found → end_of s start heard ≡ start → IsLeftBehind s start arrivals replies heard old found
  -- the rows of where it leads
  AtEnd : RowsFound found (end_of s start heard).queue (end_of s start heard).kept → IsLeftBehind s start arrivals replies heard old found
  -- or those that a batch of its arrivals makes besides
  Besides : IsMadeIn s start arrivals replies heard found → IsLeftBehind s start arrivals replies heard old found

-- A run is done, and a crash behind it leaves such rows.
abbrev pub StopsIn : Settings → Start → List Arrival → List Response → State → State → Type 0
StopsIn s start arrivals replies old new =
    (ran : HasRun s start arrivals replies new) × ((found : Trees) → MayFind new found → IsLeftBehind s start arrivals replies ran.heard old found)
