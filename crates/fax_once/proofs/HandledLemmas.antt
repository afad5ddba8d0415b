-- What an arrival that is handled leaves, and the run that it is.
use Rattle.std.proofs.Common.{◌≡◌, ◌⊎◌, inl, inr, Bool, true, false, List, [], ◌∷◌, refl, sym, ap, subst, ◌∙◌, true≢false}
use Rattle.std.proofs.lemmas.List.{append-nil}
use Rattle.sqlite.specs.Effect.{Database}
use Rattle.sqlite.specs.State.{State}
use Rattle.sqlite_trees.specs.Tree.{Trees}
use Rattle.fax_job.specs.declared.refusal.Refusal.TheVariants.{Unavailable}
use Rattle.fax_ask.specs.Response.{Response, refused_response}
use Rattle.fax_core.specs.Reply.{NoKeys}
use Rattle.fax_core.specs.Settings.{Settings}
use Rattle.fax_core.specs.Queue.{Queue}
use Rattle.fax_core.specs.Sound.{Sound}
use Rattle.fax_run.proofs.OnceLemmas.{sound_after}
use Rattle.fax_run.proofs.RunLemmas.{runs_thread}
use Rattle.fax_once.specs.Ran.{HasRun, RunsWell}
use Rattle.fax_run.specs.Laws.{left_of}
use Rattle.fax_run.specs.Reading.{Reading, IsReading}
use Rattle.fax_run.specs.Run.{Start, end_of, taken}
use Rattle.fax_run.specs.Verdict.{Verdict, Told, Repeated, Accepted, IsVerdict, reply_of, verdict}
use Rattle.fax_once.specs.Handled.{Handles, Leaves, IsSoundWith}
use Rattle.fax_run.specs.declared.arrival.Arrival.{Arrival}
use Rattle.fax_once.specs.Stop.{AreMadeBy, AtEnd, Before, Besides, IsLeftBehind, IsMadeIn, StopsAnswered, StopsIn}
use Rattle.fax_store.specs.Store.{LeavesAlone, MayFind, Means, RowsFound, Serves}
use Rattle.fax_once.proofs.VerdictLemmas.{still_means}
use Rattle.fax_core.specs.Ledger.{Ledger, entry}
use Rattle.fax_run.specs.Arrival.{said_of}
use Rattle.fax_run.proofs.FedLemmas.{accepted_more, are_taken, goes_well, lawful_reading}
use Rattle.fax_run.proofs.AcceptedLemmas.{accepted_once}

-- ---- what is left of what was kept

module _ (settings : Settings) (a : Arrival) (m : Queue) (k : Ledger) (reply : Response) (s : State) (sound : Sound m) where
  -- where the store means what it did, its queue is sound and nothing kept is lost
  unchanged : Means s m k → IsSoundWith k s
  unchanged rest = (m, k, rest, sound, inl refl)

  -- the same where it has what a verdict leaves
  left_by : (v : Verdict) → IsVerdict settings a m k v → Leaves m k reply s v → IsSoundWith k s
  left_by (Told told) is (same, rest) = unchanged rest
  left_by (Repeated told) is (same, serves, rest) = unchanged (λ _. rest)
  left_by (Accepted after kept told) is (same, serves, rest, stays) =
      let once = accepted_once settings a m k after kept told is in
      (after, kept, (λ _. rest), stays, inr (entry a.client.now once.0 (said_of a) told.status told.body, once.1, once.5))

  -- whatever an arrival comes to, the store has a sound queue afterwards, and no kept reply is lost
  pub stays_sound : Handles settings a m k reply s → IsSoundWith k s
  stays_sound (inl (v, is, leaves)) = left_by v is leaves
  stays_sound (inr (same, left)) = unchanged (still_means s m k left)

-- ---- one arrival

-- a verdict is answered, and the store has where it leads
pub leaves_at : (here : Start) (reply : Response) (store : State) (v : Verdict) → Leaves here.queue here.kept reply store v → (reply ≡ reply_of v) × Means store (left_of here v).queue (left_of here v).kept
leaves_at here reply store (Told told) (is, rest) = (is, rest)
leaves_at here reply store (Repeated told) (is, serves, rest) = (is, λ _. rest)
leaves_at here reply store (Accepted after kept told) (is, serves, rest, sound) = (is, λ _. rest)

-- what a verdict makes are the rows of where it leads
rows_of : (here : Start) (v : Verdict) (found : Trees) → AreMadeBy v found → RowsFound found (left_of here v).queue (left_of here v).kept
rows_of here (Told reply) found made = absurd made
rows_of here (Repeated reply) found made = absurd made
rows_of here (Accepted after kept reply) found made = made

-- what a crash leaves of a store that is open: what it means
pub open_stops : (store : State) (e : Start) → Means store e.queue e.kept → (Serves store → LeavesAlone store store.committed.trees)
    → (found : Trees) → MayFind store found → store.is_open ≡ true → RowsFound found e.queue e.kept
open_stops store e means alone found may is_open =
    let serves : Serves store = record { clean = may.0; is_open = is_open } in
    let rests = means serves in
    (store.now, ap (λ (db : Database). db.trees) rests.settled ∙ sym (alone serves found may.1), rests.means)

module _ (s : Settings) (here : Start) (a : Arrival) (reply : Response) (old new : State) where
  -- an arrival that is read and answered by its verdict is a run
  handled : (r : Reading) → IsReading a r → (reply ≡ reply_of (verdict s here.queue here.kept r)) × Means new (left_of here (verdict s here.queue here.kept r)).queue (left_of here (verdict s here.queue here.kept r)).kept
      → HasRun s here (a ∷ []) (reply ∷ []) new
  handled r reads (told, rests) = record {
    heard = r ∷ [];
    answered = inr (r, reads, told, refl);
    means = subst (λ (e : Start). Means new e.queue e.kept) (sym (runs_thread s here [] r)) rests;
    accepted = accepted_more s here [] r (lawful_reading a r reads) tt;
  }

  -- and so is one that is handled
  runs_alone : Handles s a here.queue here.kept reply new → HasRun s here (a ∷ []) (reply ∷ []) new
  runs_alone (inl (v, (r, reads, is), leaves)) = handled r reads (leaves_at here reply new (verdict s here.queue here.kept r) (subst (λ (w : Verdict). Leaves here.queue here.kept reply new w) is leaves))
  runs_alone (inr (gone, left)) = record { heard = []; answered = inl (gone, refl); means = still_means new here.queue here.kept left; accepted = tt }

  -- where a verdict leaves a shut store, it leads nowhere
  led_nowhere : (v : Verdict) → Leaves here.queue here.kept reply new v → new.is_open ≡ false → left_of here v ≡ here
  led_nowhere (Told told) leaves shut = refl
  led_nowhere (Repeated told) (is, serves, rests) shut = absurd (true≢false (sym serves.is_open ∙ shut))
  led_nowhere (Accepted after kept told) (is, serves, rests, sound) shut = absurd (true≢false (sym serves.is_open ∙ shut))

  -- so an arrival that shuts the store leads nowhere
  same_end : (h : Handles s a here.queue here.kept reply new) → new.is_open ≡ false → end_of s here (runs_alone h).heard ≡ here
  unfolding runs_alone handled
  same_end (inl (v, (r, reads, is), leaves)) shut = runs_thread s here [] r ∙ ap (left_of here) (sym is) ∙ led_nowhere v leaves shut
  same_end (inr (gone, left)) shut = refl

  module _ (stops : StopsAnswered s a here.queue here.kept reply old new) (h : Handles s a here.queue here.kept reply new) where
    abbrev heard : List Reading
    heard = (runs_alone h).heard

    -- an arrival that was answered 503 may have made what it makes
    made_now : reply ≡ refused_response Unavailable NoKeys → end_of s here heard ≡ here → (found : Trees) (v : Verdict) → IsVerdict s a here.queue here.kept v → AreMadeBy v found
        → IsMadeIn s here (a ∷ []) (reply ∷ []) heard found
    made_now failed stays found v (r, reads, is) made =
        let same : end_of s here (r ∷ []) ≡ left_of here v = runs_thread s here [] r ∙ ap (left_of here) (sym is) in
        record {
          batch = a ∷ [];
          failed = record {
            before = [];
            after = [];
            one = refl;
            replied = [];
            failed = reply ∷ [];
            more = [];
            answers = refl;
            each = (failed, tt);
            later = heard;
            earlier = [];
            parts = sym (append-nil heard);
            answered = refl;
            still = stays;
          };
          all = r ∷ [];
          taken = (r, reads, refl);
          made = subst (λ (e : Start). RowsFound found e.queue e.kept) (sym same) (rows_of here v found made);
        }

    -- so a shut store's crash leaves what a crash before left, or what this arrival made
    shut_stops : (found : Trees) → new.is_open ≡ false → MayFind old found ⊎ ((v : Verdict) × IsVerdict s a here.queue here.kept v × AreMadeBy v found × ((new.is_open ≡ true) ⊎ (reply ≡ refused_response Unavailable NoKeys)))
        → IsLeftBehind s here (a ∷ []) (reply ∷ []) heard old found
    shut_stops found shut (inl may) = Before may (same_end h shut)
    shut_stops found shut (inr (v, is, made, inl opened)) = absurd (true≢false (sym opened ∙ shut))
    shut_stops found shut (inr (v, is, made, inr failed)) = Besides (made_now failed (same_end h shut) found v is made)

    -- one arrival is a run, and a crash behind it leaves such rows
    pub stops_alone : (Serves new → LeavesAlone new new.committed.trees) → StopsIn s here (a ∷ []) (reply ∷ []) old new
    stops_alone alone = (runs_alone h, λ found may. by found may new.is_open refl)
      where
        by : (found : Trees) → MayFind new found → (b : Bool) → new.is_open ≡ b → IsLeftBehind s here (a ∷ []) (reply ∷ []) heard old found
        by found may true is_open = AtEnd (open_stops new (end_of s here heard) (runs_alone h).means alone found may is_open)
        by found may false shut = shut_stops found shut (stops found may)

-- a run of no arrivals is done, and leaves what was left
pub stops_at_first : (s : Settings) (start : Start) (store : State) → Means store start.queue start.kept → StopsIn s start [] [] store store
stops_at_first s start store means = (record { heard = []; answered = refl; means = means; accepted = tt }, λ found may. Before may refl)

-- where a run leads is sound
pub run_sound : (s : Settings) (start : Start) (arrivals : List Arrival) (replies : List Response) (store : State) → Sound start.queue
    → (ran : HasRun s start arrivals replies store) → Sound (end_of s start ran.heard).queue
run_sound s start arrivals replies store sound ran =
    let fed = taken s start ran.heard in
    sound_after start.queue fed sound (are_taken start fed ran.accepted)

-- what holds of each run
pub runs_well : (s : Settings) (start : Start) (arrivals : List Arrival) (replies : List Response) (store : State) → Sound start.queue
    → HasRun s start arrivals replies store → RunsWell s start arrivals replies store
runs_well s start arrivals replies store sound ran =
    let fed = taken s start ran.heard in
    record { run = ran; well = goes_well start fed sound (are_taken start fed ran.accepted) }
