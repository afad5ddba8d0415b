-- A run is a session, also where it was broken off.
use Rattle.std.proofs.Common.{◌≡◌, inr, List, [], ◌∷◌, refl, sym, ap, subst, ◌∙◌}
use Rattle.sqlite.specs.State.{State}
use Rattle.sqlite_trees.specs.Tree.{Trees}
use Rattle.fax_ask.specs.Response.{Response}
use Rattle.fax_core.specs.Settings.{Settings}
use Rattle.fax_store.specs.Store.{MayFind, RowsFound}
use Rattle.fax_run.proofs.RunLemmas.{runs_thread}
use Rattle.fax_run.specs.Laws.{left_of}
use Rattle.fax_run.specs.Reading.{Reading}
use Rattle.fax_run.specs.Run.{Start, IsRun, end_of}
use Rattle.fax_run.specs.Sessions.{AreHeard, Failed, Nothing}
use Rattle.fax_once.specs.Ran.{LeftBySession, RunsAsSession}
use Rattle.fax_once.specs.Stop.{AtEnd, Before, Besides, IsLeftBehind, StopsIn}
use Rattle.fax_run.specs.Verdict.{verdict}
use Rattle.fax_run.specs.declared.arrival.Arrival.{Arrival}

-- a batch that is heard behind one past leads where it leads behind another with the same end
pub leads_on : (s : Settings) (start : Start) (batch : List Arrival) (past other all : List Reading) → end_of s start past ≡ end_of s start other → AreHeard batch past all
    → (others : List Reading) × AreHeard batch other others × (end_of s start all ≡ end_of s start others)
leads_on s start [] past other all same is = (other, refl, ap (end_of s start) is ∙ same)
leads_on s start (a ∷ batch) past other all same (r, reads, more) =
    let next : end_of s start (r ∷ past) ≡ end_of s start (r ∷ other) =
    runs_thread s start past r ∙ ap (λ (e : Start). left_of e (verdict s e.queue e.kept r)) same ∙ sym (runs_thread s start other r) in
    let on = leads_on s start batch (r ∷ past) (r ∷ other) all next more in
    (on.0, (r, reads, on.1), on.2)

module _ (s : Settings) (start : Start) (arrivals : List Arrival) (replies : List Response) (heard : List Reading)
    (answered : IsRun s start [] arrivals replies heard) (old : State) (found : Trees) where
  -- what is left after a run is what such a session leaves
  left_by_session : (MayFind old found → RowsFound found start.queue start.kept) → IsLeftBehind s start arrivals replies heard old found
      → LeftBySession s start arrivals replies found
  left_by_session rests (Before may none) = (Nothing, tt, (start, record { heard = heard; answered = answered; leaves = sym none }, rests may))
  left_by_session rests (AtEnd rows) = (Nothing, tt, (end_of s start heard, record { heard = heard; answered = answered; leaves = refl }, rows))
  left_by_session rests (Besides it) =
      let on = leads_on s start it.batch it.failed.earlier heard it.all (sym it.failed.still) it.taken in (
        Failed it.batch,
        tt,
        (
          end_of s start on.0,
          record { heard = heard; answered = answered; leaves = (it.failed, inr (on.0, on.1, refl)) },
          subst (λ (e : Start). RowsFound found e.queue e.kept) on.2 it.made,
        ),
      )

-- a run is a session, also where it was broken off
pub runs_as_session : (s : Settings) (start : Start) (arrivals : List Arrival) (replies : List Response) (old new : State)
    → StopsIn s start arrivals replies old new → RunsAsSession s start arrivals replies old new
runs_as_session s start arrivals replies old new (ran, stops) = record {
  left = end_of s start ran.heard;
  session = record { heard = ran.heard; answered = ran.answered; leaves = refl };
  means = ran.means;
  stopped = λ rests found may. left_by_session s start arrivals replies ran.heard ran.answered old found (rests found) (stops found may);
}
