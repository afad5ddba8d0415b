-- Worked rows of what an answer leaves in the store, and of what a crash behind it may leave.
use Rattle.std.proofs.Common.{arith, ◌≡◌, ◌⊎◌, ◌∙◌, inl, inr, refl, sym, ap, subst, true, false, ℕ, ◌≤◌, List, [], ◌∷◌, ◌++◌, map}
use Rattle.std.specs.Prelude.{Ok, Err}
use Rattle.std.proofs.lemmas.Bool.{true≢false}
use Rattle.sqlite.specs.Effect.{Database}
use Rattle.sqlite.specs.State.{State}
use Rattle.sqlite_trees.specs.View.{Tells}
use Rattle.sqlite_trees.specs.declared.error.StoreError.TheVariants.{OutOfMemory}
use Rattle.sqlite.specs.declared.types.Value.TheVariants.{Text}
use Rattle.sqlite_trees.specs.Tree.{Trees}
use Rattle.fax_job.specs.declared.refusal.Refusal.TheVariants.{NoModem, Unavailable}
use Rattle.fax_ask.specs.Response.{Response, refused_response}
use Rattle.fax_core.specs.Ledger.{Ledger, empty_ledger}
use Rattle.fax_core.specs.Queue.{Queue, empty_queue}
use Rattle.fax_core.specs.Reply.{NoKeys, Submitted}
use Rattle.fax_core.specs.Settings.{Settings}
use Rattle.fax_core.specs.Sound.{Sound}
use Rattle.fax_core.proofs.RowWords.{settings}
use Rattle.fax_store.specs.Kept.{HasReply}
use Rattle.fax_schema.specs.Schema.{floors_tree}
use Rattle.fax_store.specs.Store.{HasRow, MayFind, Means, RowsFound, Serves}
use Rattle.fax_tables.specs.Row.{number}
use Rattle.fax_tables.specs.Tables.{IsAtRest}
use Rattle.fax_run.proofs.RowsRuns.{accepted, comes_to, looks, refused, start, submitted, unknown_modem, worker}
use Rattle.fax_run.specs.Arrival.{number_of}
use Rattle.fax_run.specs.Laws.{left_of}
use Rattle.fax_run.specs.Reading.{IsReading, Reading}
use Rattle.fax_run.specs.Run.{IsRun, Start, end_of}
use Rattle.fax_once.specs.Stop.{AreMadeBy, AtEnd, Before, Besides, IsLeftBehind, IsMadeIn, OnlyAcceptedMakeRows, Stops, StopsAnswered, StopsBy, StopsIn, accepts}
use Rattle.fax_run.specs.Verdict.{Verdict, Told, Repeated, Accepted, IsVerdict, reply_of, verdict}
use Rattle.fax_once.specs.Handled.{Answers, GivesOut, Handles, IsGivenUp, IsNotAccepted, IsUsed, Leaves, LeavesBy, SaysShut}
use Rattle.fax_run.specs.declared.arrival.Arrival.{Arrival}
use Rattle.fax_run.specs.Sessions.{AreHeard, Failed, IsSession, MayTake, Nothing, Unanswered, session_of}
use Rattle.fax_once.specs.Ran.{LeftBySession, RunsAsSession}

-- ---- an answer

-- from this queue, with these kept replies
abbrev from : Queue → Ledger → Start
from m k = record { queue = m; kept = k }

-- what is answered is the verdict's reply, and the store means where the verdict leads
leaves_row : (m : Queue) (k : Ledger) (reply : Response) (s : State) (v : Verdict) → Leaves m k reply s v
    → (reply ≡ reply_of v) × Means s (left_of (from m k) v).queue (left_of (from m k) v).kept
leaves_row m k reply s (Told told) (is, means) = (is, means)
leaves_row m k reply s (Repeated told) (is, serves, rests) = (is, λ _. rests)
leaves_row m k reply s (Accepted after kept told) (is, serves, rests, sound) = (is, λ _. rests)

-- a repeat and what is accepted leave a store that serves, and that a sound queue
repeated_row : (m : Queue) (k : Ledger) (reply told : Response) (s : State) → Leaves m k reply s (Repeated told) → Serves s
repeated_row m k reply told s (is, serves, rests) = serves

accepted_row : (m after : Queue) (k kept : Ledger) (reply told : Response) (s : State) → Leaves m k reply s (Accepted after kept told) → Serves s × Sound after
accepted_row m after k kept reply told s (is, serves, rests, sound) = (serves, sound)

-- without an answer the store means what it meant, and with one it is by the verdict
by_row : (m : Queue) (k : Ledger) (reply : Response) (s : State) (v : Verdict) → LeavesBy {E = ℕ} m k (Ok reply) s v → Leaves m k reply s v
by_row m k reply s v leaves = leaves

unanswered_by_row : (m : Queue) (k : Ledger) (s : State) (v : Verdict) → LeavesBy {E = ℕ} m k (Err 0) s v → Means s m k
unanswered_by_row m k s v means = means

answered_row : (set : Settings) (a : Arrival) (m : Queue) (k : Ledger) (reply : Response) (s : State) → Answers {E = ℕ} set a m k (Ok reply) s → Handles set a m k reply s
answered_row set a m k reply s answers = inl answers

unanswered_row : (set : Settings) (a : Arrival) (m : Queue) (k : Ledger) (s : State) → Answers {E = ℕ} set a m k (Err 0) s → Means s m k
unanswered_row set a m k s means = means

-- whoever isn't told that the store gave out is told the reply of a verdict, and the store means where it leads
handled_row : (set : Settings) (a : Arrival) (m : Queue) (k : Ledger) (reply : Response) (s : State) → Handles set a m k reply s → ¬ GivesOut m k reply s
    → (v : Verdict) × IsVerdict set a m k v × ((reply ≡ reply_of v) × Means s (left_of (from m k) v).queue (left_of (from m k) v).kept)
handled_row set a m k reply s (inl (v, is, leaves)) not = (v, is, leaves_row m k reply s v leaves)
handled_row set a m k reply s (inr gives) not = absurd (not gives)

-- who is told 27 by a store that is open finds it as it was
gives_out_row : (m : Queue) (k : Ledger) (reply : Response) (s : State) → GivesOut m k reply s → s.is_open ≡ true
    → (reply ≡ refused_response Unavailable NoKeys) × Serves s × IsAtRest s m k
gives_out_row m k reply s (is, inl (serves, rests)) opened = (is, serves, rests)
gives_out_row m k reply s (is, inr shut) opened = absurd (true≢false (sym opened ∙ shut))

-- a refusal isn't accepted, and neither is what has no reply; 201 is
refusal_row : IsNotAccepted {E = ℕ} (Ok (refused NoModem))
refusal_row (inl is) = absurd (omega (arith, is))
refusal_row (inr is) = absurd (omega (arith, is))

no_reply_row : IsNotAccepted {E = ℕ} (Err 0)
no_reply_row = tt

created_row : ¬ IsNotAccepted {E = ℕ} (Ok (accepted (Submitted 1)))
created_row not = not (inr refl)

-- a number is used where the rows have a reply to it of its client
used_row : (a : Arrival) (db : Database) → number_of a ≡ Ok 7 → HasReply db a.client.now 7 → IsUsed a db
used_row a db its kept = record { number = 7; its = its; kept = kept }

number_used_row : (a : Arrival) (db : Database) → number_of a ≡ Ok 7 → IsUsed a db → HasReply db a.client.now 7
number_used_row a db its used =
    let both : Ok used.number ≡ number_of a = sym used.its in
    let same : used.number ≡ 7 = cc in
    subst (HasReply db a.client.now) same used.kept

-- a number is given up where the client has a floor and none is below it; also where its floor is no number
given_up_row : (a : Arrival) (db : Database) → number_of a ≡ Ok 7 → HasRow db floors_tree (1 ∷ []) (Text a.client.now ∷ [])
    → ((floor : ℕ) → HasRow db floors_tree (1 ∷ 2 ∷ []) (Text a.client.now ∷ number floor ∷ []) → 7 ≤ floor) → IsGivenUp a db
given_up_row a db its some each = record { number = 7; under = its; reaches = record { some = some; each = each } }

-- and not where a floor is below it, or there is none
floor_below_row : (a : Arrival) (db : Database) → number_of a ≡ Ok 7 → HasRow db floors_tree (1 ∷ 2 ∷ []) (Text a.client.now ∷ number 6 ∷ []) → ¬ IsGivenUp a db
floor_below_row a db its below given =
    let both : Ok given.number ≡ number_of a = sym given.under in
    let same : given.number ≡ 7 = cc in
    omega (arith, same, given.reaches.each 6 below)

no_floor_row : (a : Arrival) (db : Database) → ¬ HasRow db floors_tree (1 ∷ []) (Text a.client.now ∷ []) → ¬ IsGivenUp a db
no_floor_row a db none given = none given.reaches.some

-- a shut store is said to be shut; of an open one either may be said
says_row : (s : State) → SaysShut true s
says_row s = λ shut. inl refl

open_says_row : (s : State) → s.is_open ≡ true → SaysShut false s
open_says_row s opened = λ shut. absurd (true≢false (sym opened ∙ shut))

-- nothing is known where the engine ran out of memory
unknown_row : (s : State) → Tells s.blamed OutOfMemory → SaysShut false s
unknown_row s tells = λ shut. inr (record { cause = OutOfMemory; other = λ is. absurd cc; blamed = tells })

-- ---- a crash behind an arrival

-- the rows that a verdict makes mean where it leads
made_row : (m : Queue) (k : Ledger) (v : Verdict) (found : Trees) → AreMadeBy v found → RowsFound found (left_of (from m k) v).queue (left_of (from m k) v).kept
made_row m k (Told reply) found none = absurd none
made_row m k (Repeated reply) found none = absurd none
made_row m k (Accepted after kept reply) found rows = rows

-- what is accepted is, and no refusal and no repeat
accepts_row : map accepts (comes_to [] submitted ∷ comes_to (submitted ∷ []) submitted ∷ comes_to [] unknown_modem ∷ []) ≡ true ∷ false ∷ false ∷ []
accepts_row = refl

-- so what isn't accepted makes no rows
only_accepted_row : OnlyAcceptedMakeRows → (v : Verdict) (found : Trees) → accepts v ≡ false → ¬ AreMadeBy v found
only_accepted_row law v found not made = true≢false (sym (law v found made) ∙ not)

-- what no crash before could leave was made by the verdict, in a store that served
stops_by_row : (old new : State) (v : Verdict) (found : Trees) → StopsBy old new v → MayFind new found → ¬ MayFind old found → Serves old × AreMadeBy v found
stops_by_row old new v found stops may not = elim (stops found may) [ inl before ↦ absurd (not before) | inr made ↦ made ]

-- behind a refusal a crash leaves what one before it could leave
refused_stop_row : (a : Arrival) (old new : State) (found : Trees) → ((r : Reading) → IsReading a r → r ≡ unknown_modem)
    → Stops settings a empty_queue empty_ledger old new → MayFind new found → MayFind old found
refused_stop_row a old new found says stops may = elim (stops found may) [
  | inl before ↦ before
  | inr (v, (r, reads, is), made) ↦ absurd (subst (λ w. AreMadeBy w found) (is ∙ ap (verdict settings empty_queue empty_ledger) (says r reads)) made)
]

-- where the store is shut, what no crash before could leave is found only after an answer of 503
answered_stop_row : (a : Arrival) (reply : Response) (old new : State) (found : Trees) → StopsAnswered settings a empty_queue empty_ledger reply old new
    → MayFind new found → ¬ MayFind old found → new.is_open ≡ false
    → ((v : Verdict) × IsVerdict settings a empty_queue empty_ledger v × AreMadeBy v found) × (reply ≡ refused Unavailable)
answered_stop_row a reply old new found stops may not shut = elim (stops found may) [
  | inl before ↦ absurd (not before)
  | inr (v, is, made, inl opened) ↦ absurd (true≢false (sym opened ∙ shut))
  | inr (v, is, made, inr failed) ↦ ((v, is, made), failed)
]

-- in an open store it is found whatever was answered
open_stop_row : (a : Arrival) (reply : Response) (old new : State) → new.is_open ≡ true → Stops settings a empty_queue empty_ledger old new
    → StopsAnswered settings a empty_queue empty_ledger reply old new
open_stop_row a reply old new opened stops found may = elim (stops found may) [
  | inl before ↦ inl before
  | inr (v, is, made) ↦ inr (v, is, made, inl opened)
]

-- and in one that is shut after an answer of 503
failed_stop_row : (a : Arrival) (old new : State) → Stops settings a empty_queue empty_ledger old new
    → StopsAnswered settings a empty_queue empty_ledger (refused Unavailable) old new
failed_stop_row a old new stops found may = elim (stops found may) [
  | inl before ↦ inl before
  | inr (v, is, made) ↦ inr (v, is, made, inr refl)
]

-- ---- a crash behind a run

-- behind one arrival the rows besides are those that it makes where the run began
first_made_row : (s : Settings) (a : Arrival) (replies : List Response) (heard : List Reading) (found : Trees) (made : IsMadeIn s start (a ∷ []) replies heard found)
    → made.batch ≡ a ∷ [] → (r : Reading) × IsReading a r × RowsFound found (end_of s start (r ∷ [])).queue (end_of s start (r ∷ [])).kept
first_made_row s a replies heard found made is =
    let it = made.failed in
    let taken = subst (λ batch. AreHeard batch it.earlier made.all) is made.taken in
    let first = begun it.before (subst (λ batch. a ∷ [] ≡ it.before ++ (batch ++ it.after)) is it.one) it.replied it.answered in (
      taken.0,
      taken.1,
      subst (λ rs. RowsFound found (end_of s start rs).queue (end_of s start rs).kept) (taken.2 ∙ ap (λ past. taken.0 ∷ past) first) made.made,
    )
  where
    none : (before behind : List Arrival) (arrival : Arrival) → [] ≡ before ++ arrival ∷ behind → ⊥
    none [] behind arrival is = cc
    none (x ∷ before) behind arrival is = cc

    begun : (before : List Arrival) → a ∷ [] ≡ before ++ a ∷ made.failed.after → (replied : List Response) → IsRun s start [] before replied made.failed.earlier
        → made.failed.earlier ≡ []
    begun [] one [] answered = answered
    begun [] one (reply ∷ replied) answered = absurd answered
    begun (x ∷ before) one replied answered = absurd (none before made.failed.after a cc)

-- a worker's arrival behind a fax makes its rows behind it, also where a view was heard since
made_in_row : (a b c : Arrival) (found : Trees) → IsReading a submitted → IsReading b worker
    → RowsFound found (end_of settings start (worker ∷ submitted ∷ [])).queue (end_of settings start (worker ∷ submitted ∷ [])).kept
    → IsMadeIn settings start (a ∷ b ∷ c ∷ []) (accepted (Submitted 1) ∷ refused Unavailable ∷ refused NoModem ∷ []) (looks 0 ∷ submitted ∷ []) found
made_in_row a b c found says_fax says_next made = record {
  batch = b ∷ [];
  failed = record {
    before = a ∷ [];
    after = c ∷ [];
    one = refl;
    replied = accepted (Submitted 1) ∷ [];
    failed = refused Unavailable ∷ [];
    more = refused NoModem ∷ [];
    answers = refl;
    each = (refl, tt);
    later = looks 0 ∷ [];
    earlier = submitted ∷ [];
    parts = refl;
    answered = inr (submitted, says_fax, refl, refl);
    still = refl;
  };
  all = worker ∷ submitted ∷ [];
  taken = (worker, says_next, refl);
  made = made;
}

-- a crash behind a run leaves what one before it could leave only where it leads nowhere else
left_behind_row : (s : Settings) (from : Start) (arrivals : List Arrival) (replies : List Response) (heard : List Reading) (old : State) (found : Trees)
    → IsLeftBehind s from arrivals replies heard old found
    → (MayFind old found × (end_of s from heard ≡ from)) ⊎ (RowsFound found (end_of s from heard).queue (end_of s from heard).kept ⊎ IsMadeIn s from arrivals replies heard found)
left_behind_row s from arrivals replies heard old found (Before may nothing) = inl (may, nothing)
left_behind_row s from arrivals replies heard old found (AtEnd rows) = inr (inl rows)
left_behind_row s from arrivals replies heard old found (Besides made) = inr (inr made)

-- a crash behind a run of nothing leaves what one before it could leave, or the rows of where it began
stops_in_row : (s : Settings) (from : Start) (old new : State) (found : Trees) → StopsIn s from [] [] old new → MayFind new found
    → IsLeftBehind s from [] [] [] old found
stops_in_row s from old new found (ran, left) may = subst (λ heard. IsLeftBehind s from [] [] heard old found) ran.answered (left found may)

-- ---- a run of nothing

module _ (s : Settings) (from : Start) where
  -- a session in which nothing came left where it began
  same : (left : Start) → IsSession from (session_of s [] [] Nothing) left → left ≡ from
  same left x = x.leaves ∙ ap (end_of s from) x.answered

  -- and so do the rows
  left_row : (found : Trees) → LeftBySession s from [] [] found → RowsFound found from.queue from.kept
  left_row found (Nothing, all, (left, session, rows)) = subst (λ (e : Start). RowsFound found e.queue e.kept) (same left session) rows
  left_row found (Unanswered batch, none, gone) = absurd none
  left_row found (Failed batch, all, (left, session, rows)) =
      let none = empty session.leaves.0.before batch session.leaves.0.after session.leaves.0.one in
      let leads : left ≡ from = elim (subst (λ few. MayTake s from session.heard few left) none session.leaves.1) [
        | inl lost ↦ lost ∙ ap (end_of s from) session.answered
        | inr (others, is, taken) ↦ taken ∙ ap (end_of s from) (is ∙ session.answered)
      ] in
      subst (λ (e : Start). RowsFound found e.queue e.kept) leads rows
    where
      empty : (before batch after : List Arrival) → [] ≡ before ++ (batch ++ after) → batch ≡ []
      empty [] [] after is = refl
      empty [] (b ∷ batch) after is = absurd cc
      empty (b ∷ before) batch after is = absurd cc

  means_row : (old new : State) → RunsAsSession s from [] [] old new → Means new from.queue from.kept
  means_row old new run = subst (λ (e : Start). Means new e.queue e.kept) (same run.left run.session) run.means

  stopped_row : (old new : State) → RunsAsSession s from [] [] old new → ((found : Trees) → MayFind old found → RowsFound found from.queue from.kept)
      → (found : Trees) → MayFind new found → RowsFound found from.queue from.kept
  stopped_row old new run before found may = left_row found (run.stopped before found may)
