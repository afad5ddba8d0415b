-- What is taken is lawful, and goes well; and a run goes on by one arrival.
use Rattle.std.proofs.Common.{◌≡◌, inl, inr, ℕ, ◌+◌, ◌<◌, ◌≤◌, arith, Bool, true, false, not, List, [], ◌∷◌, ◌++◌, refl, sym, ap, subst, ◌∙◌, if◌then◌else◌}
use Rattle.std.specs.Prelude.{⊤}
use Rattle.std.proofs.lemmas.Bool.{and_parts, lt-ltb, ltb-true}
use Rattle.fax_job.specs.declared.refusal.Refusal.TheVariants.{Unavailable}
use Rattle.fax_ask.specs.Ask.{Asks}
use Rattle.fax_ask.specs.declared.ask.Ask.TheVariants.{Step}
use Rattle.fax_ask.specs.declared.request.Request.{Request as Route}
use Rattle.fax_ask.specs.declared.request.Request.TheVariants.{Show, Submit, Import, OnJob, Mark, Next, OnGrant, Floor, Purge}
use Rattle.fax_ask.specs.Response.{Response, refused_response}
use Rattle.fax_ask.proofs.LimitLemmas.{order_limits}
use Rattle.fax_core.specs.Ask.{IsLawfulAsk}
use Rattle.fax_core.specs.declared.ask.Ask.{Ask}
use Rattle.fax_core.specs.Reply.{NoKeys}
use Rattle.fax_core.specs.Settings.{Settings}
use Rattle.fax_core.proofs.ReadImportLemmas.{read_counts}
use Rattle.fax_core.specs.Queue.{Queue}
use Rattle.fax_core.specs.Sound.{IsJob, Sound}
use Rattle.fax_run.proofs.GrantLemmas.{runs_keep_grants}
use Rattle.fax_run.proofs.LedgerLemmas.{floors_rise}
use Rattle.fax_run.proofs.OnceLemmas.{clock_rises, runs_are_sound, runs_send_no_imported_page, runs_send_once}
use Rattle.fax_run.proofs.ReadingLemmas.{Says, Says_fault, Says_post, Says_view, same_ask, says}
use Rattle.fax_run.proofs.SumLemmas.{counters_are_counts}
use Rattle.fax_run.specs.Laws.{AreAccepted, AreTaken, GoesWell, KeepsGrants}
use Rattle.fax_run.specs.Reading.{Reading, Faulty, Sees, Posts, IsReading}
use Rattle.fax_run.specs.Run.{Fed, Start, IsRun, is_new, is_taken, kept_after, queue_after, reply_at, step_of, takes, under, with_taken}
use Rattle.fax_run.specs.Verdict.{is_too_high, raised}
use Rattle.fax_run.specs.declared.arrival.Arrival.{Arrival}

-- ---- what is posted is lawful

-- what a body asks for of the queue is lawful
lawful_ask : (route : Route) (body : List ℕ) (ask : Ask) → Asks route body (Step ask) → IsLawfulAsk ask
lawful_ask (Show job) body ask h = absurd cc
lawful_ask Submit body ask h = subst IsLawfulAsk (sym (same_ask h.2)) (order_limits h.1.lines h.0 h.1.stated)
lawful_ask Import body ask h = subst IsLawfulAsk (sym (same_ask h.2)) (read_counts h.1.lines h.0 h.1.stated)
lawful_ask (OnJob job action) body ask h = subst IsLawfulAsk (sym (same_ask h.2)) tt
lawful_ask (Mark modem down) body ask h = subst IsLawfulAsk (sym (same_ask h)) tt
lawful_ask (Next modem) body ask h = subst IsLawfulAsk (sym (same_ask h)) tt
lawful_ask (OnGrant grant kind) body ask h = subst IsLawfulAsk (sym (same_ask h.2)) tt
lawful_ask Floor body ask h = subst IsLawfulAsk (sym (same_ask h.2)) tt
lawful_ask Purge body ask h = subst IsLawfulAsk (sym (same_ask h.2)) tt

-- what it asks for is
abbrev pub IsLawful : Reading → Type 0
IsLawful (Faulty refusal) = ⊤
IsLawful (Sees moment what) = ⊤
IsLawful (Posts p) = IsLawfulAsk p.request.ask

-- what an arrival says is lawful
lawful_by : (a : Arrival) (r : Reading) → Says a r → IsLawful r
lawful_by a r (Says_fault refusal cause is) = subst IsLawful (sym is) tt
lawful_by a r (Says_view what is) = subst IsLawful (sym is) tt
lawful_by a r (Says_post number route ask its asks is) = subst IsLawful (sym is) (lawful_ask route a.body.now ask asks)

-- and so is what it reads as
pub lawful_reading : (a : Arrival) (r : Reading) → IsReading a r → IsLawful r
lawful_reading a r reads = lawful_by a r (says a r reads)

-- so what is taken is lawful, and was new
pub accepted_more : (s : Settings) (start : Start) (earlier : List Fed) (r : Reading) → IsLawful r
    → AreAccepted start earlier → AreAccepted start (with_taken s start earlier r)
accepted_more s start earlier (Faulty refusal) is are = are
accepted_more s start earlier (Sees moment what) is are = are
accepted_more s start earlier (Posts p) is are = by (is_taken start earlier (under s p)) refl
  where
    by : (b : Bool) → is_taken start earlier (under s p) ≡ b → AreAccepted start (if b then under s p ∷ earlier else earlier)
    by true on = (is, on, are)
    by false off = are

-- what is accepted is taken
pub are_taken : (start : Start) (fed : List Fed) → AreAccepted start fed → AreTaken start.queue fed
are_taken start [] are = tt
are_taken start (f ∷ earlier) (lawful, on, are) = (
  lawful,
  (and_parts (not (is_too_high f.post.number f.post.request.ask)) (takes (step_of (queue_after start.queue earlier) f))
      (and_parts (is_new start earlier f.post) _ on).1).1,
  are_taken start earlier are,
)

-- ---- one more arrival

-- a run goes on by an arrival that is answered 27, which isn't heard
pub unheard_more : (s : Settings) (start : Start) (past : List Reading) (arrivals : List Arrival) (replies : List Response) (heard : List Reading) (a : Arrival) (reply : Response)
    → IsRun s start past arrivals replies heard → reply ≡ refused_response Unavailable NoKeys → IsRun s start past (arrivals ++ a ∷ []) (replies ++ reply ∷ []) heard
unheard_more s start past [] [] heard a reply is gone = inl (gone, is)
unheard_more s start past (b ∷ arrivals) (q ∷ replies) heard a reply (inl (lost, is)) gone = inl (lost, unheard_more s start past arrivals replies heard a reply is gone)
unheard_more s start past (b ∷ arrivals) (q ∷ replies) heard a reply (inr (r, reads, told, is)) gone = inr (r, reads, told, unheard_more s start (r ∷ past) arrivals replies heard a reply is gone)
unheard_more s start past arrivals replies heard a reply is gone = absurd is

-- a run goes on by one that is answered as what it reads as, which is heard
pub heard_more : (s : Settings) (start : Start) (past : List Reading) (arrivals : List Arrival) (replies : List Response) (heard : List Reading) (a : Arrival) (reply : Response) (r : Reading)
    → IsRun s start past arrivals replies heard → IsReading a r → reply ≡ reply_at s start heard r → IsRun s start past (arrivals ++ a ∷ []) (replies ++ reply ∷ []) (r ∷ heard)
heard_more s start past [] [] heard a reply r is reads told = inr (r, reads, told ∙ ap (λ (before : List Reading). reply_at s start before r) is, ap (λ (before : List Reading). r ∷ before) is)
heard_more s start past (b ∷ arrivals) (q ∷ replies) heard a reply r (inl (lost, is)) reads told = inl (lost, heard_more s start past arrivals replies heard a reply r is reads told)
heard_more s start past (b ∷ arrivals) (q ∷ replies) heard a reply r (inr (x, others, said, is)) reads told = inr (x, others, said, heard_more s start (x ∷ past) arrivals replies heard a reply r is reads told)
heard_more s start past arrivals replies heard a reply r is reads told = absurd is

-- ---- what holds of it

-- no floor of a client falls by one more request
floor_left : (start : Start) (earlier : List Fed) (f : Fed) (client : List ℕ) → (kept_after start earlier).floor client ≤ (kept_after start (f ∷ earlier)).floor client
floor_left start earlier f client =
    let k = kept_after start earlier in
    let q = f.post in
    let floor = (kept_after start (f ∷ earlier)).floor client in
    let above = floors_rise q.client (raised (k.floor q.client) q).request.ask k client (floor + 1) (lt-ltb floor (floor + 1) (omega arith)) in
    let least : k.floor client < floor + 1 = ltb-true (k.floor client) (floor + 1) above in
    omega (arith, least)

floors_on : (start : Start) (later earlier : List Fed) (client : List ℕ) → (kept_after start earlier).floor client ≤ (kept_after start (later ++ earlier)).floor client
floors_on start [] earlier client = omega arith
floors_on start (f ∷ later) earlier client =
    let before = floors_on start later earlier client in
    let here = floor_left start (later ++ earlier) f client in
    omega (arith, before, here)

-- what holds after requests that were taken
pub goes_well : (start : Start) (fed : List Fed) → Sound start.queue → AreTaken start.queue fed → GoesWell start fed
goes_well start fed sound are =
    let m = start.queue in
    let after = runs_are_sound m fed sound are in
    record {
      sound = after.0;
      held_once = after.1;
      sent_once = runs_send_once m fed sound are;
      imported = runs_send_no_imported_page m fed sound are;
      grants_stay = λ later earlier split.
          subst (λ (fs : List Fed). KeepsGrants (queue_after m earlier) (queue_after m fs)) (sym split)
          (runs_keep_grants m later earlier sound (subst (AreTaken m) split are));
      clock = clock_rises m fed are;
      floors = λ client later earlier split.
          subst (λ (fs : List Fed). (kept_after start earlier).floor client ≤ (kept_after start fs).floor client) (sym split) (floors_on start later earlier client);
      counted = λ empty number j there.
          counters_are_counts fed (subst (λ (q : Queue). AreTaken q fed) empty are) number j
          (subst (λ (q : Queue). IsJob (queue_after q fed) number j) empty there);
    }
