-- An arrival comes to something, and at a sound queue never to 27.
use Rattle.std.proofs.Common.{All, ◌≡◌, ◌≢◌, ◌⊎◌, inl, inr, ℕ, Bool, true, false, List, Option, Some, None, Ok, Err, refl, sym, ap, subst, ◌∙◌, eqb, nat_lt, true≢false, if◌then◌else◌}
use Rattle.std.specs.Prelude.{Result, MatchOption, MatchResult}
use Rattle.std.proofs.lemmas.List.Elements.{recursion_from_All}
use Rattle.fax_job.specs.declared.refusal.Refusal.{Refusal}
use Rattle.fax_job.specs.declared.refusal.Refusal.TheVariants.{BadBody, BadClient, FloorHigh, GivenUp, NoRoute, NumberReused, NoJob, Unavailable}
use Rattle.fax_value.specs.Name.{is_name}
use Rattle.fax_value.specs.Number.{request_number_of}
use Rattle.fax_ask.specs.declared.request.Request.{Request}
use Rattle.fax_ask.specs.declared.request.Request.TheVariants.{Show, Submit, Import, OnJob, Mark, Next, OnGrant, Floor, Purge}
use Rattle.fax_ask.specs.declared.view.View.{View}
use Rattle.fax_ask.specs.declared.view.View.TheVariants as sight
use Rattle.fax_ask.specs.Ask.{Asks}
use Rattle.fax_ask.specs.Answer.{Replied}
use Rattle.fax_ask.specs.declared.ask.Ask.{Ask as Asked}
use Rattle.fax_ask.specs.declared.ask.Ask.TheVariants.{Step}
use Rattle.fax_ask.specs.Laws.{AcceptedAre200Or201, AsksOrHasFault, OnlyUnavailableIs503}
use Rattle.fax_ask.specs.Request.{request_of}
use Rattle.fax_core.specs.Clock.{decided_at}
use Rattle.fax_core.specs.declared.ask.Ask.{Ask}
use Rattle.fax_core.specs.declared.ask.Ask.TheVariants as machine
use Rattle.fax_core.specs.declared.ask.JobAsk.TheVariants as ask
use Rattle.fax_core.specs.declared.report.Report.TheVariants as report
use Rattle.fax_core.specs.Job.{Job}
use Rattle.fax_core.specs.Laws.{RefusalsAreMet}
use Rattle.fax_core.specs.Ageing.{aged}
use Rattle.fax_core.specs.Ledger.{Ledger, kept_for, IsKeptStatus, IsLawfulEntry}
use Rattle.fax_core.specs.Queue.{Queue, Entry, job_numbered, times_numbered}
use Rattle.fax_core.specs.Refusals.{may_meet}
use Rattle.fax_core.specs.Reply.{NoKeys, Step as Stepped, Taken, Refused}
use Rattle.fax_core.specs.Run.{decided}
use Rattle.fax_core.specs.Settings.{Settings}
use Rattle.fax_core.specs.Sound.{Sound}
use Rattle.fax_core.specs.declared.times.Times.{Times}
use Rattle.fax_run.specs.View.{seen, times_viewed, viewed}
use Rattle.fax_run.proofs.ReadingLemmas.{Cause, Of_body, Of_route, Of_sender, Says, Says_fault, Says_post, Says_view, says}
use Rattle.fax_run.specs.Arrival.{digits_of, number_of}
use Rattle.fax_run.specs.Laws.{HasVerdict, NoVerdictIsUnavailable}
use Rattle.fax_run.specs.Reading.{Post, Reading, Faulty, Sees, Posts, post_of, seen_by, IsForBody, IsForRoute}
use Rattle.fax_run.specs.Verdict.{Verdict, Told, Repeated, asked_above, decided_new, denied, is_too_high, new_asked, raised, stepped, taken_once, reply_of, verdict}
use Rattle.sqlite_rules.proofs.ListLemmas.{all_has, has_found}
use Rattle.fax_ask.specs.Response.{kept_response}
use Rattle.std.specs.Str.{bytes_eq}
use Rattle.fax_run.specs.declared.arrival.Arrival.{Arrival}

-- ---- an arrival comes to something

-- what isn't seen is a step
step_of : (request : Request) (body : List ℕ) (asked : Asked) → seen_by request ≡ None → Asks request body asked → (ask : Ask) × (asked ≡ Step ask)
step_of (Show job) body asked is h = absurd cc
step_of Submit body asked is h = (machine.Submission h.0, h.2)
step_of Import body asked is h = (machine.Bring h.0, h.2)
step_of (OnJob job action) body asked is h = (machine.OnJob job h.0, h.2)
step_of (Mark modem down) body asked is h = (machine.Mark modem down, h)
step_of (Next modem) body asked is h = (machine.Next modem, h)
step_of (OnGrant grant kind) body asked is h = (machine.OnGrant grant h.0, h.2)
step_of Floor body asked is h = (machine.GiveUp h.0, h.2)
step_of Purge body asked is h = (machine.Purge h.0, h.2)

module _ (a : Arrival) (each : AsksOrHasFault a.body.now) where
  -- a body under a number is read as something, where no view is asked for
  for_body : (number : ℕ) (request : Request) → seen_by request ≡ None → (r : Reading) × IsForBody a number request r
  for_body number request unseen = elim (each request) [
    | inl x ↦
        let one = step_of request a.body.now x.0 unseen x.1 in
        (Posts (post_of a number one.0), inl (one.0, subst (Asks request a.body.now) one.1 x.1, refl))
    | inr f ↦ (Faulty (BadBody f.0), inr (f.0, f.1, refl))
  ]

  -- the same whether the sender is at fault or not
  for_sender : (request : Request) (n : Result ℕ Refusal) → seen_by request ≡ None
      → (r : Reading) × MatchResult n (λ number. IsForBody a number request r) (λ refusal. r ≡ Faulty refusal)
  for_sender request (Ok number) unseen = for_body number request unseen
  for_sender request (Err refusal) unseen = (Faulty refusal, refl)

  -- the same whether a view is asked for or not
  for_seen : (request : Request) (o : Option View) → seen_by request ≡ o
      → (r : Reading) × MatchOption o (MatchResult (number_of a) (λ number. IsForBody a number request r) (λ refusal. r ≡ Faulty refusal)) (λ what. r ≡ Sees a.moment what)
  for_seen request None unseen = for_sender request (number_of a) unseen
  for_seen request (Some what) asked = (Sees a.moment what, refl)

  -- the same whether there is a route or not
  for_route : (o : Option Request) → (r : Reading) × MatchOption o (r ≡ Faulty NoRoute) (IsForRoute a r)
  for_route None = (Faulty NoRoute, refl)
  for_route (Some request) = for_seen request (seen_by request) refl

-- an arrival whose body asks or has a fault comes to something
pub each_verdict : (a : Arrival) → AsksOrHasFault a.body.now → HasVerdict a
each_verdict a each s m k = let one = for_route a each (request_of a.method a.path.now) in (verdict s m k one.0, (one.0, one.1, refl))

-- ---- and at a sound queue never to 27

-- no request may be refused for want of the store
never_met : (ask : Ask) → may_meet ask Unavailable ≡ true → ⊥
never_met (machine.Submission order) met = absurd cc
never_met (machine.OnJob job ask.Suspend) met = absurd cc
never_met (machine.OnGrant grant (report.Call c)) met = absurd cc
never_met other met = absurd cc

-- the reply's status isn't 503
IsOther : Verdict → Type 0
IsOther v = (reply_of v).status ≢ 503

-- 200 and 201 aren't 503
other_number : (n : ℕ) → (n ≡ 200) ⊎ (n ≡ 201) → n ≢ 503
other_number n (inl is) e = true≢false (ap (λ x. eqb x 200) (sym is ∙ e))
other_number n (inr is) e = true≢false (ap (λ x. eqb x 201) (sym is ∙ e))

module _ (accepted : AcceptedAre200Or201) (alone : OnlyUnavailableIs503) (met : RefusalsAreMet) (s : Settings) (a : Arrival) (m : Queue) (k : Ledger) (sound : Sound m) (lawful : All IsLawfulEntry k.replies) where
  -- a refusal for anything else isn't 503
  of_denied : (refusal : Refusal) → refusal ≢ Unavailable → IsOther (denied refusal)
  unfolding IsOther
  of_denied refusal other e = other (alone refusal NoKeys e)

  -- nor is what a step comes to
  of_step : (p : Post) (r : Stepped) → decided s m p.request ≡ r → IsOther (stepped p k r)
  unfolding IsOther
  of_step p (Taken after reply) is = other_number _ (accepted (Replied reply))
  of_step p (Refused refusal keys) is = λ e.
      never_met p.request.ask (subst (λ refusal. may_meet p.request.ask refusal ≡ true) (alone refusal keys e) (met s m (decided_at m.clock p.request.moment) p.request.ask refusal keys sound is))

  -- nor what a kept reply comes to
  of_entry : (e : Entry) (said : List ℕ) (b : Bool) → IsKeptStatus e.status → IsOther (if b then Repeated (kept_response e.status e.body) else denied NumberReused)
  unfolding IsOther
  of_entry e said true status = other_number e.status status
  of_entry e said false status = of_denied NumberReused (λ is. absurd cc)

  -- nor what a new number comes to, whatever floor it asks for
  of_low : (p : Post) (floor : ℕ) (b : Bool) → IsOther (if b then denied FloorHigh else decided_new s m k (raised floor p))
  of_low p floor true = of_denied FloorHigh (λ is. absurd cc)
  of_low p floor false = of_step (raised floor p) (decided s m (raised floor p).request) refl

  -- the entry of a number is lawful
  found_lawful : (p : Post) (e : Entry) → kept_for p.client p.number k.replies ≡ Some e → IsLawfulEntry e
  found_lawful p e is = all_has IsLawfulEntry k.replies e (recursion_from_All IsLawfulEntry k.replies lawful) (has_found _ k.replies e is).0

  -- the same whether a reply is kept for it or not
  of_kept : (p : Post) (floor : ℕ) (o : Option Entry) → kept_for p.client p.number k.replies ≡ o → IsOther (taken_once o p.said (new_asked s m k floor p))
  of_kept p floor None is = of_low p floor (is_too_high p.number p.request.ask)
  of_kept p floor (Some e) is = of_entry e p.said (bytes_eq e.said p.said) (found_lawful p e is).status

  -- the same whether the number is above the floor or not
  of_floor : (p : Post) (b : Bool) → IsOther (if b then asked_above s m k (k.floor p.client) p else denied GivenUp)
  of_floor p true = of_kept p (k.floor p.client) (kept_for p.client p.number k.replies) refl
  of_floor p false = of_denied GivenUp (λ is. absurd cc)

  -- digits at fault aren't refused for want of the store
  bad_digits : (o : Option ℕ) (refusal : Refusal) → digits_of o ≡ Err refusal → refusal ≢ Unavailable
  bad_digits None refusal is e = absurd cc
  bad_digits (Some number) refusal is e = absurd cc

  -- nor is a client's name
  bad_sender : (b : Bool) (o : Option ℕ) (refusal : Refusal) → (if b then digits_of o else Err BadClient) ≡ Err refusal → refusal ≢ Unavailable
  bad_sender true o refusal is e = bad_digits o refusal is e
  bad_sender false o refusal is e = absurd cc

  -- a view of a job that is there or not isn't 503
  of_view : (q : Queue) (t : ℕ) (o : Option Job) → IsOther (Told (viewed s q t o))
  unfolding IsOther
  of_view q t None = λ e. absurd (let other = alone NoJob NoKeys e in cc)
  of_view q t (Some j) = other_number 200 (inl refl)

  -- nor is one of its times
  of_times : (o : Option Times) → IsOther (Told (times_viewed o))
  unfolding IsOther
  of_times None = λ e. absurd (let other = alone NoJob NoKeys e in cc)
  of_times (Some x) = other_number 200 (inl refl)

  -- nor is any view
  of_sight : (q : Queue) (t : ℕ) (what : View) → IsOther (Told (seen s q t what))
  unfolding IsOther
  of_sight q t (sight.Job n) = of_view q t (job_numbered n q)
  of_sight q t (sight.Times n) = of_times (times_numbered n q)
  of_sight q t sight.Jobs = other_number 200 (inl refl)
  of_sight q t sight.Newest = other_number 200 (inl refl)
  of_sight q t sight.Modems = other_number 200 (inl refl)

  -- no fault of an arrival is want of the store
  of_cause : (refusal : Refusal) → Cause a refusal → refusal ≢ Unavailable
  of_cause refusal (Of_route is) e = absurd cc
  of_cause refusal (Of_sender is) e = bad_sender (is_name a.client.now) (request_number_of a.number.now) refusal is e
  of_cause refusal (Of_body fault is) e = absurd cc

  -- what an arrival says comes to something else than 503
  of_said : (r : Reading) → Says a r → IsOther (verdict s m k r)
  of_said r (Says_fault refusal cause is) = subst (λ q. IsOther (verdict s m k q)) (sym is) (of_denied refusal (of_cause refusal cause))
  of_said r (Says_view what is) =
      let t = decided_at m.clock a.moment in
      subst (λ q. IsOther (verdict s m k q)) (sym is) (of_sight (aged t m) t what)
  of_said r (Says_post number route ask its asks is) =
      subst (λ q. IsOther (verdict s m k q)) (sym is) (let p = post_of a number ask in of_floor p (nat_lt (k.floor p.client) p.number))

pub never_unavailable : AcceptedAre200Or201 → OnlyUnavailableIs503 → RefusalsAreMet → NoVerdictIsUnavailable
unfolding IsOther
never_unavailable accepted alone met s a m k v sound lawful (r, is, v_is) = subst IsOther (sym v_is) (of_said accepted alone met s a m k sound lawful r (says a r is))
