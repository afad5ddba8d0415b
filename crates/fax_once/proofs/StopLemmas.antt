-- What a crash may leave behind an arrival.
use Rattle.std.proofs.Common.{◌≡◌, inl, inr, Bool, true, refl, subst}
use Rattle.sqlite.specs.State.{State}
use Rattle.fax_job.specs.declared.refusal.Refusal.TheVariants.{Unavailable}
use Rattle.fax_ask.specs.Response.{Response, refused_response}
use Rattle.fax_core.specs.Ledger.{Ledger}
use Rattle.fax_core.specs.Queue.{Queue}
use Rattle.fax_core.specs.Reply.{NoKeys}
use Rattle.fax_core.specs.Settings.{Settings}
use Rattle.fax_store.specs.Store.{CommitsNothing, HasTables, Means, Serves}
use Rattle.fax_store.specs.Work.{Opens, Withholds}
use Rattle.fax_run.specs.Reading.{IsReading, Reading, Faulty, Sees, Posts}
use Rattle.fax_once.specs.Handled.{Leaves}
use Rattle.fax_once.specs.Stop.{AreMadeBy, Stops, StopsAnswered, OnlyAcceptedMakeRows}
use Rattle.fax_run.specs.Laws.{OneVerdict}
use Rattle.fax_run.specs.Verdict.{Verdict, IsVerdict, verdict, Told, Repeated, Accepted}
use Rattle.fax_run.specs.declared.arrival.Arrival.{Arrival}
use Rattle.fax_ask.specs.declared.method.Method.TheVariants.{Get}
use Rattle.sqlite_trees.specs.Tree.{Trees}
use Rattle.fax_once.proofs.GetLemmas.{no_post}

-- what isn't accepted makes no rows
pub only_accepted : OnlyAcceptedMakeRows
only_accepted (Told reply) found none = absurd none
only_accepted (Repeated reply) found none = absurd none
only_accepted (Accepted after kept reply) found made = refl

-- the tables are ours where they mean something
pub has_tables : (s : State) (m : Queue) (k : Ledger) → Means s m k → Serves s → HasTables s
has_tables s m k means serves = (means serves).means.schema

module _ (s0 s1 s2 s3 : State) (begun written : Bool) (opens : Opens s0 s1 begun) (tables : Serves s0 → HasTables s0) (writes : Withholds s1 begun s2 written) where
  -- a work that is given up
  pub dropped_stops : CommitsNothing s2 s3 → CommitsNothing s0 s3
  dropped_stops drops found may = opens.1 found ((writes (opens.0 tables)).1 found (drops found may))

-- ---- an arrival that was answered

module _ (s : Settings) (a : Arrival) (m : Queue) (k : Ledger) (reply : Response) (old new : State) (stops : Stops s a m k old new) where
  -- with 503
  pub stops_failed : reply ≡ refused_response Unavailable NoKeys → StopsAnswered s a m k reply old new
  stops_failed failed found may = elim (stops found may) [
    | inl before ↦ inl before
    | inr (v, is, made) ↦ inr (v, is, made, inr failed)
  ]

  -- by its verdict, which is the only one: what makes rows leaves an open store
  pub stops_by_verdict : OneVerdict → (v : Verdict) → IsVerdict s a m k v → Leaves m k reply new v → StopsAnswered s a m k reply old new
  stops_by_verdict one v is leaves found may = elim (stops found may) [
    | inl before ↦ inl before
    | inr (w, its, made) ↦ inr (w, its, made, inl (opened v (subst (λ (x : Verdict). AreMadeBy x found) (one s a m k w v its is) made) leaves))
  ]
    where
      opened : (x : Verdict) → AreMadeBy x found → Leaves m k reply new x → new.is_open ≡ true
      opened (Told told) none left = absurd none
      opened (Repeated told) none left = absurd none
      opened (Accepted after kept told) rows (is, serves, rests, sound) = serves.is_open

-- ---- a GET

-- what a GET comes to makes no rows
none_made : (s : Settings) (a : Arrival) (m : Queue) (k : Ledger) (found : Trees) → a.method ≡ Get → (r : Reading) → IsReading a r → AreMadeBy (verdict s m k r) found → ⊥
none_made s a m k found get (Faulty refusal) reads made = made
none_made s a m k found get (Sees moment what) reads made = made
none_made s a m k found get (Posts p) reads made = no_post a (Posts p) p get reads refl

-- it makes no rows
pub gets_nothing : (s : Settings) (a : Arrival) (m : Queue) (k : Ledger) (reply : Response) (old new : State) → a.method ≡ Get → StopsAnswered s a m k reply old new → CommitsNothing old new
gets_nothing s a m k reply old new get stops found may = elim (stops found may) [
  | inl before ↦ before
  | inr (v, (r, reads, is), made, so) ↦ absurd (none_made s a m k found get r reads (subst (λ w. AreMadeBy w found) is made))
]
