-- Answers are the replies of verdicts, and sessions are traces.
use Rattle.std.proofs.Common.{◌≡◌, ◌⊎◌, inl, inr, ℕ, Bool, true, false, cond, not, ◌&&◌, eqb, nat_lt, List, [], ◌∷◌, Option, Some, None, refl, sym, ap, subst, ◌∙◌}
use Rattle.std.specs.Prelude.{⊤, is_none}
use Rattle.std.specs.List.{list_any}
use Rattle.std.specs.Str.{bytes_eq}
use Rattle.std.specs.Cmp.Lexicographic.{bytes_decides}
use Rattle.std.proofs.lemmas.Bool.{and_from, and_parts, cases_Bool, eqb-true, not-true}
use Rattle.fax_ask.specs.Response.{Response, kept_response}
use Rattle.fax_job.specs.declared.refusal.Refusal.TheVariants.{FloorHigh, GivenUp, NumberReused}
use Rattle.fax_core.specs.Clock.{decided_at}
use Rattle.fax_core.specs.Ledger.{Ledger, entry, kept_for}
use Rattle.fax_core.specs.Queue.{Entry, Queue}
use Rattle.fax_core.specs.Reply.{NoKeys, Step, Taken, Refused}
use Rattle.fax_core.specs.Run.{Answer, Denied, answer_of, decided}
use Rattle.fax_core.specs.Settings.{Settings}
use Rattle.fax_core.proofs.PlaceLemmas.{comes, stays}
use Rattle.fax_run.specs.Laws.{AreAccepted, left_of}
use Rattle.fax_run.specs.Reading.{Faulty, IsReading, Post, Posts, Reading, Sees}
use Rattle.fax_run.specs.Run.{Fed, IsRun, Start, end_after, end_of, floors_after, is_new, is_of, is_taken, kept_after, queue_after, reply_to, step_of, taken, takes, under}
use Rattle.fax_run.specs.Sessions.{AreHeard, Failed, IsSession, LeavesOff, MayTake, Nothing, Session, Unanswered, UnderWay, WasUnderWay}
use Rattle.fax_run.specs.Verdict.{Repeated, asked_above, decided_new, denied, is_too_high, new_asked, raised, repeated as repeated_entry, reply_of, step_reply, stepped, taken_once, verdict, without_given}
use Rattle.fax_run.specs.declared.arrival.Arrival.{Arrival}
use Rattle.fax_run.proofs.LedgerLemmas.{floors_rise, given_finds, given_none}
use Rattle.fax_run.proofs.RunLemmas.{behind, kept_floors, new_is_free, raised_step}
use Rattle.fax_worker.proofs.StandLemmas.{any_off, repeats_none}
use Rattle.fax_worker.specs.Join.{AnswersAreReplies, AreOf, CameIn, SessionsAreTraces, response_of}
use Rattle.fax_worker.specs.Trace.{Event, Handles, Has, fed, new_answer, repeated}

-- ---- replies

none_is : {A : Type 0} (o : Option A) → is_none o ≡ true → o ≡ None
none_is None e = refl
none_is (Some x) e = cc

-- the reply to a step is its answer, as it is sent
step_sent : (x : Step) → step_reply x ≡ response_of (answer_of x)
step_sent (Taken n r) = refl
step_sent (Refused e k) = refl

-- the reply of a step's verdict is its answer, as it is sent
stepped_reply : (p : Post) (k : Ledger) (x : Step) → reply_of (stepped p k x) ≡ response_of (answer_of x)
stepped_reply p k (Taken n r) = refl
stepped_reply p k (Refused e q) = refl

module _ (start : Start) (fs : List Fed) where
  abbrev m : Queue
  m = queue_after start.queue fs

  abbrev k : Ledger
  k = kept_after start fs

  -- with its floor as it is kept
  abbrev its_step : Fed → Step
  its_step f = decided f.settings m (raised (k.floor f.post.client) f.post).request

  -- a new request is answered as its verdict
  new_reply : (s : Settings) (p : Post) → reply_of (new_asked s m k (k.floor p.client) p) ≡ response_of (new_answer start fs (under s p))
  new_reply s p =
      by (is_too_high p.number p.request.ask)
      ∙ ap (λ (floor : ℕ). response_of (cond (is_too_high p.number p.request.ask) (Denied FloorHigh NoKeys) (answer_of (decided s m (raised floor p).request)))) floor
    where
      floor : k.floor p.client ≡ floors_after start fs p.client
      floor = ap (λ (floors : List ℕ → ℕ). floors p.client) (kept_floors start fs)

      by : (b : Bool) → reply_of (cond b (denied FloorHigh) (decided_new s m k (raised (k.floor p.client) p)))
          ≡ response_of (cond b (Denied FloorHigh NoKeys) (answer_of (decided s m (raised (k.floor p.client) p).request)))
      by true = refl
      by false = stepped_reply (raised (k.floor p.client) p) k (decided s m (raised (k.floor p.client) p).request)

-- an accepted request's reply comes back whole from its status and its body
whole : (x : Step) → takes x ≡ true → kept_response (step_reply x).status (step_reply x).body ≡ step_reply x
whole (Taken n r) on = refl
whole (Refused e k) on = cc

-- what is kept for an accepted request, and that it is answered so when it comes again
Kept : Start → List Fed → Post → Type 0
Kept start fs p = (e : Entry) × (kept_for p.client p.number (kept_after start fs).replies ≡ Some e) × ((new : Answer) → reply_of (repeated_entry p.said e) ≡ response_of (repeated start fs p new))

-- the newest of them is kept as its entry
kept_newest : (start : Start) (earlier : List Fed) (f : Fed) (p : Post) → is_taken start earlier f ≡ true → is_of p.client p.number f ≡ true → Kept start (f ∷ earlier) p
unfolding Kept
kept_newest start earlier f p on its =
    let q = f.post in
    let k = kept_after start earlier in
    let r = raised (k.floor q.client) q in
    let x = its_step start earlier f in
    let reply = step_reply x in
    let parts = and_parts (is_new start earlier q) (not (is_too_high q.number q.request.ask) && takes (step_of (queue_after start.queue earlier) f)) on in
    let rest = and_parts (not (is_too_high q.number q.request.ask)) (takes (step_of (queue_after start.queue earlier) f)) parts.1 in
    let low : is_too_high q.number q.request.ask ≡ false = not-true _ rest.0 in
    let takes_it : takes x ≡ true = (raised_step f.settings (queue_after start.queue earlier) (decided_at (queue_after start.queue earlier).clock q.request.moment) (k.floor q.client) q.request.ask).1 ∙ rest.1 in
    let free = and_parts (nat_lt (k.floor q.client) q.number) (is_none (kept_for q.client q.number k.replies)) (new_is_free start earlier q ∙ parts.0) in
    let same = and_parts (bytes_eq q.client p.client) (eqb q.number p.number) its in
    let client = (bytes_decides q.client p.client).0 same.0 in
    let number = eqb-true q.number p.number same.1 in
    let none : kept_for p.client p.number k.replies ≡ None =
    subst (λ (n : ℕ). kept_for p.client n k.replies ≡ None) number (subst (λ (c : List ℕ). kept_for c q.number k.replies ≡ None) client (none_is _ free.1)) in
    let new : Entry = entry q.client q.number q.said reply.status reply.body in (
      new,
      comes (λ (e : Entry). bytes_eq e.client p.client && eqb e.number p.number) (without_given q.client r.request.ask k).replies new (given_none q.client r.request.ask k p.client p.number none) its,
      λ other. by (bytes_eq q.said p.said) takes_it low ∙ ap response_of (sym (ap (λ b. cond b (cond (bytes_eq q.said p.said) (new_answer start earlier f) (Denied NumberReused NoKeys)) (repeated start earlier p other)) its)),
    )
  where
    by : (b : Bool) → takes (its_step start earlier f) ≡ true → is_too_high f.post.number f.post.request.ask ≡ false
        → reply_of (cond b (Repeated (kept_response (step_reply (its_step start earlier f)).status (step_reply (its_step start earlier f)).body)) (denied NumberReused))
        ≡ response_of (cond b (new_answer start earlier f) (Denied NumberReused NoKeys))
    by true takes_it low =
        whole (its_step start earlier f) takes_it ∙ step_sent (its_step start earlier f)
        ∙ ap (λ (floor : ℕ). response_of (answer_of (decided f.settings (queue_after start.queue earlier) (raised floor f.post).request))) (ap (λ (floors : List ℕ → ℕ). floors f.post.client) (kept_floors start earlier))
        ∙ sym (ap (λ b. response_of (cond b (Denied FloorHigh NoKeys) (answer_of (decided f.settings (queue_after start.queue earlier) (raised (floors_after start earlier f.post.client) f.post).request)))) low)
    by false takes_it low = refl

-- so is each that is above its client's floor
kept_entry : (start : Start) (fs : List Fed) (p : Post) → AreAccepted start fs → list_any (is_of p.client p.number) fs ≡ true → nat_lt ((kept_after start fs).floor p.client) p.number ≡ true → Kept start fs p
unfolding Kept
kept_entry start [] p are any high = absurd cc
kept_entry start (f ∷ earlier) p (valid, on, are) any high = elim (cases_Bool (is_of p.client p.number f)) [
  | inl its ↦ kept_newest start earlier f p on its
  | inr off ↦
      let q = f.post in
      let k = kept_after start earlier in
      let r = raised (k.floor q.client) q in
      let reply = reply_to (end_after start earlier) f in
      let old = kept_entry start earlier p are (sym (any_off (is_of p.client p.number) f earlier off) ∙ any) (floors_rise q.client r.request.ask k p.client p.number high) in (
        old.0,
        stays (λ (e : Entry). bytes_eq e.client p.client && eqb e.number p.number) (without_given q.client r.request.ask k).replies (entry q.client q.number q.said reply.status reply.body) old.0
            (given_finds q.client r.request.ask k p.client p.number high ∙ old.1),
        λ new. old.2 new ∙ ap response_of (sym (ap (λ b. cond b (cond (bytes_eq q.said p.said) (new_answer start earlier f) (Denied NumberReused NoKeys)) (repeated start earlier p new)) off)),
      )
]

module _ (start : Start) (fs : List Fed) (s : Settings) (p : Post) (are : AreAccepted start fs) (none : kept_for p.client p.number start.kept.replies ≡ None) where
  abbrev now : Queue
  now = queue_after start.queue fs

  abbrev kept : Ledger
  kept = kept_after start fs

  -- above the floor it is repeated or new
  above_reply : nat_lt (kept.floor p.client) p.number ≡ true → (b : Bool) → list_any (is_of p.client p.number) fs ≡ b
      → reply_of (asked_above s now kept (kept.floor p.client) p) ≡ response_of (repeated start fs p (new_answer start fs (under s p)))
  unfolding Kept
  above_reply high true any =
      let e = kept_entry start fs p are any high in
      ap (λ (o : Option Entry). reply_of (taken_once o p.said (new_asked s now kept (kept.floor p.client) p))) e.1 ∙ e.2 (new_answer start fs (under s p))
  above_reply high false unused =
      let low : nat_lt (floors_after start fs p.client) p.number ≡ true = sym (ap (λ (floors : List ℕ → ℕ). nat_lt (floors p.client) p.number) (kept_floors start fs)) ∙ high in
      let new : is_new start fs p ≡ true =
      and_from (nat_lt (floors_after start fs p.client) p.number) _ low (and_from (is_none (kept_for p.client p.number start.kept.replies)) _ (ap is_none none) (ap not unused)) in
      let free = and_parts (nat_lt (kept.floor p.client) p.number) (is_none (kept_for p.client p.number kept.replies)) (new_is_free start fs p ∙ new) in
      ap (λ (o : Option Entry). reply_of (taken_once o p.said (new_asked s now kept (kept.floor p.client) p))) (none_is _ free.1)
      ∙ new_reply start fs s p
      ∙ ap response_of (sym (repeats_none start fs p (new_answer start fs (under s p)) unused))

  floor_reply : (b : Bool) → nat_lt (kept.floor p.client) p.number ≡ b
      → reply_of (cond b (asked_above s now kept (kept.floor p.client) p) (denied GivenUp)) ≡ response_of (cond b (repeated start fs p (new_answer start fs (under s p))) (Denied GivenUp NoKeys))
  floor_reply true high = above_reply high (list_any (is_of p.client p.number) fs) refl
  floor_reply false low = refl

pub answers_are_replies : AnswersAreReplies
answers_are_replies start fs s p are none =
    floor_reply start fs s p are none (nat_lt ((kept_after start fs).floor p.client) p.number) refl
    ∙ ap (λ (floor : ℕ). response_of (cond (nat_lt floor p.number) (repeated start fs p (new_answer start fs (under s p))) (Denied GivenUp NoKeys))) (ap (λ (floors : List ℕ → ℕ). floors p.client) (kept_floors start fs))

-- ---- sessions

-- the requests that a session processed, as events
abbrev heard_events : Settings → List Reading → List Event → List Event
heard_events s [] earlier = earlier
heard_events s (Posts p ∷ past) earlier = Handles s p ∷ heard_events s past earlier
heard_events s (other ∷ past) earlier = heard_events s past earlier

-- they lead where the run leads
events_lead : (s : Settings) (first : Start) (earlier : List Event) (past : List Reading) → end_after first (fed first (heard_events s past earlier)) ≡ end_of s (end_after first (fed first earlier)) past
events_lead s first earlier [] = refl
events_lead s first earlier (Faulty refusal ∷ past) = events_lead s first earlier past
events_lead s first earlier (Sees moment what ∷ past) = events_lead s first earlier past
events_lead s first earlier (Posts p ∷ past) =
    let next = end_after first (fed first earlier) in
    behind s first (fed first (heard_events s past earlier)) (Posts p)
    ∙ ap (λ (here : Start). left_of here (verdict s here.queue here.kept (Posts p))) (events_lead s first earlier past)
    ∙ sym (behind s next (taken s next past) (Posts p))

module _ (x : Session) where
  -- all that was processed came in the session
  abbrev AllCame : List Reading → Type 0
  AllCame [] = ⊤
  AllCame (Posts p ∷ past) = CameIn x x.settings p × AllCame past
  AllCame (other ∷ past) = AllCame past

  -- one more that came
  one_came : (r : Reading) (past : List Reading) (a : Arrival) → IsReading a r → Has a x.arrivals ⊎ WasUnderWay a x.under_way → AllCame past → AllCame (r ∷ past)
  one_came (Faulty refusal) past a reads came all = all
  one_came (Sees moment what) past a reads came all = all
  one_came (Posts p) past a reads came all = (record { settings = refl; arrival = a; posts = reads; came = came }, all)

  run_came : (from : Start) (past : List Reading) (arrivals : List Arrival) (replies : List Response) (heard : List Reading) → IsRun x.settings from past arrivals replies heard
      → ((a : Arrival) → Has a arrivals → Has a x.arrivals) → AllCame past → AllCame heard
  run_came from past [] [] heard run own all = subst AllCame (sym run) all
  run_came from past (a ∷ arrivals) (reply ∷ replies) heard (inl (lost, run)) own all = run_came from past arrivals replies heard run (λ b has. own b (inr has)) all
  run_came from past (a ∷ arrivals) (reply ∷ replies) heard (inr (r, reads, told, run)) own all =
      run_came from (r ∷ past) arrivals replies heard run (λ b has. own b (inr has)) (one_came r past a reads (inl (own a (inl refl))) all)
  run_came from past arrivals replies heard run own all = absurd run

  batch_came : (batch : List Arrival) (past all : List Reading) → AreHeard batch past all → ((a : Arrival) → WasUnderWay a (Failed batch) → WasUnderWay a x.under_way)
      → AllCame past → AllCame all
  batch_came [] past all is were came = subst AllCame (sym is) came
  batch_came (a ∷ batch) past all (r, reads, more) were came =
      batch_came batch (r ∷ past) all more (λ b has. were b (inr has)) (one_came r past a reads (inr (were a (inl refl))) came)

  -- events of sessions are of these and one more
  of_more : (sessions : List Session) (trace : List Event) → AreOf sessions trace → AreOf (x ∷ sessions) trace
  of_more sessions [] of = tt
  of_more sessions (Handles s p ∷ earlier) ((y, has), of) = ((y, (inr has.0, has.1)), of_more sessions earlier of)
  of_more sessions (other ∷ earlier) of = absurd of

  events_of : (sessions : List Session) (past : List Reading) (earlier : List Event) → AllCame past → AreOf (x ∷ sessions) earlier → AreOf (x ∷ sessions) (heard_events x.settings past earlier)
  events_of sessions [] earlier all of = of
  events_of sessions (Faulty refusal ∷ past) earlier all of = events_of sessions past earlier all of
  events_of sessions (Sees moment what ∷ past) earlier all of = events_of sessions past earlier all of
  events_of sessions (Posts p ∷ past) earlier (came, all) of = ((x, (inl refl, came)), events_of sessions past earlier all of)

  -- one session more, after a trace that leads where it begins
  module _ (first from last : Start) (sessions : List Session) (trace : List Event) (of : AreOf sessions trace) (leads : from ≡ end_after first (fed first trace)) (session : IsSession from x last) where
    abbrev Joined : Type 0
    Joined = (t : List Event) × (AreOf (x ∷ sessions) t × (last ≡ end_after first (fed first t)))

    joined : (past : List Reading) → AllCame past → last ≡ end_of x.settings from past → Joined
    joined past all is = (
      heard_events x.settings past trace,
      (
        events_of sessions past trace all (of_more sessions trace of),
        is ∙ ap (λ (e : Start). end_of x.settings e past) leads ∙ sym (events_lead x.settings first trace past),
      ),
    )

    heard_came : AllCame session.heard
    heard_came = run_came from [] x.arrivals x.replies session.heard session.answered (λ a has. has) tt

    may_take : (batch : List Arrival) → ((a : Arrival) → WasUnderWay a (Failed batch) → WasUnderWay a x.under_way) → MayTake x.settings from session.heard batch last → Joined
    may_take batch were (inl is) = joined session.heard heard_came is
    may_take batch were (inr (all, heard, is)) = joined all (batch_came batch session.heard all heard were heard_came) is

    by_end : (o : UnderWay) → x.under_way ≡ o → LeavesOff from x session.heard o last → Joined
    by_end Nothing was is = joined session.heard heard_came is
    by_end (Unanswered batch) was is = may_take batch (λ a has. subst (WasUnderWay a) (sym was) has) is
    by_end (Failed batch) was is = may_take batch (λ a has. subst (WasUnderWay a) (sym was) has) is.1

pub sessions_are_traces : SessionsAreTraces
sessions_are_traces first last [] follow = ([], (tt, follow))
sessions_are_traces first last (x ∷ earlier) (from, follow, session) =
    let old = sessions_are_traces first from earlier follow in
    by_end x first from last earlier old.0 old.1.0 old.1.1 session x.under_way refl session.leaves
