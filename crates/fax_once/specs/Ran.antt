-- What a run of a queue has done, and leaves in the store.
use Rattle.std.specs.Prelude.{List, []}
use Rattle.sqlite.specs.State.{State}
use Rattle.fax_ask.specs.Response.{Response}
use Rattle.fax_core.specs.Settings.{Settings}
use Rattle.fax_store.specs.Store.{Means, MayFind, RowsFound}
use Rattle.fax_run.specs.Reading.{Reading}
use Rattle.fax_run.specs.Run.{Start, IsRun, end_of, taken}
use Rattle.fax_run.specs.declared.arrival.Arrival.{Arrival}
use Rattle.sqlite_trees.specs.Tree.{Trees}
use Rattle.fax_run.specs.Laws.{AreAccepted, GoesWell}
use Rattle.fax_run.specs.Sessions.{AllAnswered, IsSession, Nothing, UnderWay, session_of}

-- What a run has done: each reply is by what was heard before, and the store has where that leads. What was taken is lawful, each under a new number.
pub record HasRun (s : Settings) (start : Start) (arrivals : List Arrival) (replies : List Response) (store : State) : Type 0 where
  pub heard : List Reading
  pub answered : IsRun s start [] arrivals replies heard
  pub means : Means store (end_of s start heard).queue (end_of s start heard).kept
  pub accepted : AreAccepted start (taken s start heard)

-- so it went well
pub record RunsWell (s : Settings) (start : Start) (arrivals : List Arrival) (replies : List Response) (store : State) : Type 0 where
  pub run : HasRun s start arrivals replies store
  pub well : GoesWell start (taken s start run.heard)

-- ---- a run is a session

-- such a session left these rows. What was under way, if anything, was one of its arrivals that was answered 503.
abbrev pub LeftBySession : Settings → Start → List Arrival → List Response → Trees → Type 0
LeftBySession s start arrivals replies found =
    (under_way : UnderWay) × AllAnswered under_way
    × ((left : Start) × IsSession start (session_of s arrivals replies under_way) left × RowsFound found left.queue left.kept)

-- A run is done, as a session. What a crash behind it leaves, such a session left, where a crash before it could leave just what it began from.
pub record RunsAsSession (s : Settings) (start : Start) (arrivals : List Arrival) (replies : List Response) (old new : State) : Type 0 where
  pub left : Start
  pub session : IsSession start (session_of s arrivals replies Nothing) left
  pub means : Means new left.queue left.kept
  pub stopped : ((found : Trees) → MayFind old found → RowsFound found start.queue start.kept)
      → (found : Trees) → MayFind new found → LeftBySession s start arrivals replies found
