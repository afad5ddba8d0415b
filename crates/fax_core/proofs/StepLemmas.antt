-- A step from a sound queue leaves a sound queue.
use Rattle.std.proofs.Common.{map, ◌≡◌, ◌≢◌, ℕ, Bool, true, false, cond, not, eqb, List, [], ◌∷◌, refl, sym, ap, subst, ◌∙◌, arith}
use Rattle.std.specs.Prelude.{Option, Some, None, Result, Ok, Err, length, max, nat_lt}
use Rattle.std.specs.Str.{bytes_eq}
use Rattle.std.specs.Cmp.Lexicographic.{bytes_decides}
use Rattle.fax_job.specs.declared.job.Phase.TheVariants.{Waiting, Granted}
use Rattle.fax_job.specs.declared.refusal.Refusal.{Refusal}
use Rattle.fax_job.specs.declared.refusal.Refusal.TheVariants.{NoModem, PurgeHigh}
use Rattle.fax_core.specs.declared.grants.Grant.{Grant}
use Rattle.fax_core.specs.Ageing.{aged, aged_job}
use Rattle.fax_core.specs.Ask.{IsLawfulAsk}
use Rattle.fax_core.specs.declared.ask.Ask.{Ask}
use Rattle.fax_core.specs.declared.ask.Ask.TheVariants.{Submission, Bring, OnJob, Mark, Next, OnGrant, GiveUp, Purge}
use Rattle.fax_core.specs.declared.ask.JobAsk.{JobAsk}
use Rattle.fax_core.specs.declared.report.Report.{Report}
use Rattle.fax_core.specs.Best.{best, MayGo, IsBest}
use Rattle.fax_core.specs.Decisions.{JobAndGrant, submit, job_asked, grant, granted, grant_reported}
use Rattle.fax_core.specs.Import.{bring}
use Rattle.fax_core.specs.Job.{Job}
use Rattle.fax_core.specs.Machine.{with_job, with_both, with_new_job, with_new_grant, with_mark, is_down, held_by, handed, submitted, brought_in, changed, on_job, reported, on_both, on_grant, given, given_best, given_free, given_to, report_reply, act, step}
use Rattle.fax_core.specs.Purge.{leaving, without_jobs}
use Rattle.fax_core.specs.Queue.{Queue, open_grants, job_numbered, grant_numbered}
use Rattle.fax_core.specs.Reply.{Reply, Handed, Marked, NoneToSend, Given, Purged, Keys, NoKeys, Step, Taken, Refused}
use Rattle.fax_core.specs.Run.{Request, left_by, decided, queue_after, AreLawful}
use Rattle.fax_core.specs.Settings.{Rule, Settings, has_modem}
use Rattle.fax_core.specs.Sound.{FitsFree, FitsGrant, IsJob, IsOpen, Sound}
use Rattle.fax_core.proofs.BestLemmas.{best_is, none_goes, ready_waits}
use Rattle.fax_core.proofs.DecisionLemmas as decision
use Rattle.fax_core.proofs.DecisionLemmas.{Keeps, IsReport, aged_number, aged_over, aged_free, aged_held, asked_in, reported_in, granted_fits, not_refused, ok_same}
use Rattle.fax_core.proofs.ImportLemmas.{bring_counts, bring_fits}
use Rattle.fax_core.proofs.KeepLemmas.{same_job, numbered_job, keeps_mapped, keeps_job, keeps_both, keeps_new_job, Grants, keeps_new_grant, Kept, kept_of, stamp_sound}
use Rattle.fax_core.proofs.LeaveLemmas.{keeps_without}
use Rattle.fax_core.proofs.TimesLemmas.{follows_same, stamped_taken, stays_timed}
use Rattle.fax_core.specs.Times.{has_ended}
use Rattle.fax_core.proofs.PlaceLemmas.{In, found_in, none_passes, in_filter}

-- ---- what is taken

-- steps that are taken alike leave the same queue and reply
pub taken_same : (a b : Queue) (r q : Reply) → Taken a r ≡ Taken b q → (a ≡ b) × (r ≡ q)
taken_same a b r q e = (cc, cc)

-- a step that is taken wasn't refused by the test before it
pub not_refused_step : (b : Bool) (e : Refusal) (k : Keys) (x : Step) (n : Queue) (r : Reply) → cond b (Refused e k) x ≡ Taken n r → (b ≡ false) × (x ≡ Taken n r)
not_refused_step true e k x n r h = cc
not_refused_step false e k x n r h = (refl, h)

-- ageing leaves a sound queue sound
pub aged_sound : (t : ℕ) (m : Queue) → Sound m → Sound (aged t m)
aged_sound t m h = stamp_sound t m (record m { jobs = map (aged_job t) m.jobs; clock = t }) h (keeps_mapped m (aged_job t) t (aged_number t) (λ n j is. aged_free t j) (λ n j g is. aged_held t j g) (λ n j is. aged_over t j) h)

-- ---- submission

-- a submission of a job with the next number that fits leaves the queue sound
submission_sound : (m : Queue) (rule : Rule) (d : Result Job Refusal) (n : Queue) (r : Reply) → ((j : Job) → d ≡ Ok j → (j.number ≡ m.next_job) × FitsFree j) → Sound m → submitted m rule d ≡ Taken n r → Kept m n
submission_sound m rule (Ok j) n r of h e = let f = of j refl in subst (Kept m) (taken_same (with_new_job j m) n _ r e).0 (keeps_new_job m j f.0 f.1 h)
submission_sound m rule (Err x) n r of h e = cc

-- so does an import
import_sound : (s : Settings) (m : Queue) (t : ℕ) (rule : Rule) (d : Result Job Refusal) (n : Queue) (r : Reply) → ((j : Job) → d ≡ Ok j → (j.number ≡ m.next_job) × FitsFree j) → Sound m → brought_in s m t rule d ≡ Taken n r → Kept m n
import_sound s m t rule (Ok j) n r of h e = let f = of j refl in subst (Kept m) (taken_same (with_new_job j m) n _ r e).0 (keeps_new_job m j f.0 f.1 h)
import_sound s m t rule (Err x) n r of h e = cc

-- ---- requests on a job

-- a change that keeps what fits leaves the queue sound
changed_sound : (s : Settings) (m : Queue) (t : ℕ) (a : ℕ) (j : Job) (d : Result Job Refusal) (n : Queue) (r : Reply) → IsJob m a j → ((k : Job) → d ≡ Ok k → Keeps j k) → Sound m → changed s m t d ≡ Taken n r → Kept m n
changed_sound s m t a j (Ok k) n r is keeps h e =
    let f = keeps k refl in
    subst (Kept m) (taken_same (with_job k m) n _ r e).0 (keeps_job m a j k is (f.number ∙ numbered_job m a j is) f.free f.held f.over h)
changed_sound s m t a j (Err x) n r is keeps h e = cc

-- so does a request on a job
on_job_sound : (s : Settings) (m : Queue) (t : ℕ) (a : ℕ) (ask : JobAsk) (o : Option Job) (n : Queue) (r : Reply) → job_numbered a m ≡ o → Sound m → on_job s m t ask o ≡ Taken n r → Kept m n
on_job_sound s m t a ask None n r is h e = cc
on_job_sound s m t a ask (Some j) n r is h e = changed_sound s m t a j (job_asked ask t j) n r is (asked_in ask t j) h e

-- ---- reports

-- a report leaves the queue sound
reported_sound : (m : Queue) (reply : Queue → JobAndGrant → Reply) (a : ℕ) (g : Grant) (j : Job) (d : Result JobAndGrant Refusal) (n : Queue) (r : Reply) → grant_numbered a m ≡ Some g → IsJob m g.job j → ((b : JobAndGrant) → d ≡ Ok b → IsReport j g b) → Sound m → reported m reply j d ≡ Taken n r → Kept m n
reported_sound m reply a g j (Ok b) n r is of report h e =
    let f = report b refl in
    let open' : IsOpen m a g = (is, f.was_open) in
    let old = h.held a g open' in
    let fits : FitsGrant j g = subst (λ (k : Job). FitsGrant k g) (same_job m g.job old.0 j old.1 of) old.2 in
    subst (Kept m) (taken_same (with_both b m) n _ r e).0 (keeps_both m a j g b open' of (f.reports fits) h)
reported_sound m reply a g j (Err x) n r is of report h e = cc

-- the same of a grant whose job is there or not
on_both_sound : (s : Settings) (m : Queue) (t : ℕ) (a : ℕ) (x : Report) (g : Grant) (o : Option Job) (n : Queue) (r : Reply)
    → grant_numbered a m ≡ Some g → job_numbered g.job m ≡ o → Sound m → on_both s m t x g o ≡ Taken n r → Kept m n
on_both_sound s m t a x g None n r is of h e = cc
on_both_sound s m t a x g (Some j) n r is of h e = reported_sound m (report_reply s t x) a g j (grant_reported x s.delay t j g) n r is of (reported_in x s.delay t j g) h e

-- the same of a grant that is there or not
on_grant_sound : (s : Settings) (m : Queue) (t : ℕ) (a : ℕ) (x : Report) (o : Option Grant) (n : Queue) (r : Reply) → grant_numbered a m ≡ o → Sound m → on_grant s m t x o ≡ Taken n r → Kept m n
on_grant_sound s m t a x None n r is h e = cc
on_grant_sound s m t a x (Some g) n r is h e = on_both_sound s m t a x g (job_numbered g.job m) n r is refl h e

-- ---- modems

-- a mark leaves the queue sound
mark_sound : (m : Queue) (modem : List ℕ) (down : Bool) → Sound m → Kept m (with_mark modem down m)
mark_sound m modem true h = record { timed = stays_timed m (with_mark modem true m) h.jobs h.jobs (follows_same m.jobs) refl; jobs = h.jobs; grants = h.grants; one_to_a_modem = h.one_to_a_modem; one_of_a_job = h.one_of_a_job; held = h.held; free = h.free }
mark_sound m modem false h = record { timed = stays_timed m (with_mark modem false m) h.jobs h.jobs (follows_same m.jobs) refl; jobs = h.jobs; grants = h.grants; one_to_a_modem = h.one_to_a_modem; one_of_a_job = h.one_of_a_job; held = h.held; free = h.free }

-- so does a request that marks a modem
marked_by : (m : Queue) (modem : List ℕ) (down b : Bool) (n : Queue) (r : Reply) → Sound m → cond b (Taken (with_mark modem down m) (Marked down)) (Refused NoModem NoKeys) ≡ Taken n r → Kept m n
marked_by m modem down true n r h e = subst (Kept m) (taken_same (with_mark modem down m) n _ r e).0 (mark_sound m modem down h)
marked_by m modem down false n r h e = cc

-- ---- grants

-- no open grant has a modem that holds none
modem_free : (m : Queue) (modem : List ℕ) → held_by modem m ≡ None → (a : ℕ) (g : Grant) → IsOpen m a g → g.modem ≢ modem
modem_free m modem none a g is e =
    let there : In g (open_grants m) = in_filter (λ (g : Grant). g.is_open) m.grants g is.1 (found_in (λ (g : Grant). eqb g.number a) m.grants g is.0) in
    let not_it : bytes_eq g.modem modem ≡ false = none_passes (λ (g : Grant). bytes_eq g.modem modem) (open_grants m) g none there in
    let it : bytes_eq g.modem modem ≡ true = (bytes_decides g.modem modem).1 e in
    cc (not_it, it)

-- a job that may go waits, so no open grant has it
pub given_grants : (s : Settings) (m : Queue) (t : ℕ) (modem : List ℕ) (j : Job) → Sound m → held_by modem m ≡ None → IsBest s m t modem j → Grants m j.number j (granted j modem m.next_grant)
given_grants s m t modem j h none b =
    let waits : j.phase ≡ Waiting = ready_waits j.phase j _ _ _ t b.goes.ready in
    let alone : (a : ℕ) (g : Grant) → IsOpen m a g → g.job ≢ j.number = λ a g o e.
    let old = h.held a g o in
    let same : old.0 ≡ j = same_job m j.number old.0 j (subst (λ (i : ℕ). IsJob m i old.0) e old.1) b.goes.there in
    let held : j.phase ≡ Granted = subst (λ (k : Job). k.phase ≡ Granted) same old.2.phase in
    cc (waits, held) in
    record {
      of = b.goes.there;
      not_over = ap has_ended waits;
      number = refl;
      grant_number = refl;
      job = refl;
      is_open = refl;
      fits = granted_fits j modem m.next_grant waits (h.free j.number j b.goes.there alone);
      modem_free = modem_free m modem none;
      job_free = alone;
    }

-- what a taken request for a job gives: none, or the best one
pub data GivenTo (s : Settings) (m : Queue) (t : ℕ) (modem : List ℕ) (n : Queue) (r : Reply) : Type 0 where
  None_to : best s m t modem ≡ None → m ≡ n → NoneToSend ≡ r → GivenTo s m t modem n r
  Best_to : (j : Job) → IsBest s m t modem j → held_by modem m ≡ None → with_new_grant (granted j modem m.next_grant) m ≡ n
      → Given (handed (granted j modem m.next_grant).grant (with_new_grant (granted j modem m.next_grant) m)) ≡ r → GivenTo s m t modem n r

-- a grant that is given comes at the end, and is told
given_one : (m : Queue) (d : Result JobAndGrant Refusal) (b : JobAndGrant) (n : Queue) (r : Reply) → ((x : JobAndGrant) → d ≡ Ok x → b ≡ x) → given m d ≡ Taken n r → (with_new_grant b m ≡ n) × (Given (handed b.grant (with_new_grant b m)) ≡ r)
given_one m (Ok x) b n r same e =
    let is : b ≡ x = same x refl in
    subst (λ (y : JobAndGrant). (with_new_grant y m ≡ n) × (Given (handed y.grant (with_new_grant y m)) ≡ r)) (sym is) (taken_same (with_new_grant x m) n _ r e)
given_one m (Err x) b n r same e = cc

-- what is given of the best job, if any, is none or that job
best_given : (s : Settings) (m : Queue) (t : ℕ) (modem : List ℕ) (o : Option Job) (n : Queue) (r : Reply) → Sound m → held_by modem m ≡ None → best s m t modem ≡ o → given_best s m modem o ≡ Taken n r → GivenTo s m t modem n r
best_given s m t modem None n r h none is e = let p = taken_same m n _ r e in None_to is p.0 p.1
best_given s m t modem (Some j) n r h none is e =
    let p = given_one m (grant j modem m.next_grant s.max_grants) (granted j modem m.next_grant) n r (λ x q. ok_same (granted j modem m.next_grant) x (not_refused _ _ _ x q).1) e in
    Best_to j (best_is s m t modem j h is) none p.0 p.1

-- the same where the modem holds no grant
free_given : (s : Settings) (m : Queue) (t : ℕ) (modem : List ℕ) (o : Option Grant) (n : Queue) (r : Reply) → Sound m → held_by modem m ≡ o → given_free s m t modem o ≡ Taken n r → GivenTo s m t modem n r
free_given s m t modem (Some g) n r h is e = cc
free_given s m t modem None n r h is e = best_given s m t modem (best s m t modem) n r h is refl e

-- the same of a request for work
pub given_is : (s : Settings) (m : Queue) (t : ℕ) (modem : List ℕ) (n : Queue) (r : Reply) → Sound m → given_to s m t modem ≡ Taken n r → GivenTo s m t modem n r
given_is s m t modem n r h e =
    let a = not_refused_step (not (has_modem s modem)) _ _ _ n r e in
    let b = not_refused_step (is_down modem m) _ _ (given_free s m t modem (held_by modem m)) n r a.1 in
    free_given s m t modem (held_by modem m) n r h refl b.1

-- what is given leaves the queue sound
given_sound : (s : Settings) (m : Queue) (t : ℕ) (modem : List ℕ) (n : Queue) (r : Reply) → Sound m → GivenTo s m t modem n r → Kept m n
given_sound s m t modem n r h (None_to none same told) = subst (Kept m) same (kept_of m h)
given_sound s m t modem n r h (Best_to j b none same told) = subst (Kept m) same (keeps_new_grant m j.number j (granted j modem m.next_grant) (given_grants s m t modem j h none b) h)

-- ---- each request

-- a purge leaves the queue sound
purged_by : (m : Queue) (before : ℕ) (b : Bool) (n : Queue) (r : Reply) → Sound m → cond b (Refused PurgeHigh NoKeys) (Taken (without_jobs (leaving before m) m) (Purged (length (leaving before m)))) ≡ Taken n r → Kept m n
purged_by m before true n r h e = cc
purged_by m before false n r h e = subst (Kept m) (taken_same (without_jobs (leaving before m) m) n _ r e).0 (keeps_without m (leaving before m) h)

-- each request leaves the queue sound
act_sound : (s : Settings) (m n : Queue) (t : ℕ) (ask : Ask) (r : Reply) → Sound m → IsLawfulAsk ask → act s m t ask ≡ Taken n r → Kept m n
act_sound s m n t (Submission o) r h lawful e = submission_sound m (s.rule o.dial) (submit o (s.rule o.dial) m.next_job s.max_jobs t) n r (λ j. decision.submitted o (s.rule o.dial) m.next_job s.max_jobs t j lawful) h e
act_sound s m n t (Bring i) r h lawful e = import_sound s m t (s.rule i.order.dial) (bring i (s.rule i.order.dial) m.next_job s.max_jobs t) n r (λ j is. ((bring_counts i (s.rule i.order.dial) m.next_job s.max_jobs t j is).number, bring_fits i (s.rule i.order.dial) m.next_job s.max_jobs t j lawful is)) h e
act_sound s m n t (OnJob a ask) r h lawful e = on_job_sound s m t a ask (job_numbered a m) n r refl h e
act_sound s m n t (Mark modem down) r h lawful e = marked_by m modem down (has_modem s modem) n r h e
act_sound s m n t (Next modem) r h lawful e = given_sound s m t modem n r h (given_is s m t modem n r h e)
act_sound s m n t (OnGrant a report) r h lawful e = on_grant_sound s m t a report (grant_numbered a m) n r refl h e
act_sound s m n t (GiveUp floor) r h lawful e = subst (Kept m) (taken_same m n _ r e).0 (kept_of m h)
act_sound s m n t (Purge before) r h lawful e = purged_by m before (nat_lt t before) n r h e

-- so does a step
pub step_sound : (s : Settings) (m n : Queue) (t : ℕ) (ask : Ask) (r : Reply) → Sound m → IsLawfulAsk ask → step s m t ask ≡ Taken n r → Sound n
step_sound s m n t ask r h lawful e =
    let act' = stamped_taken t (aged t m) (act s (aged t m) t ask) n r e in
    subst Sound (sym act'.2) (stamp_sound t (aged t m) act'.0 (aged_sound t m h) (act_sound s (aged t m) act'.0 t ask r (aged_sound t m h) lawful act'.1))

-- what a step leaves sound where it is taken, it leaves sound in any case
left_sound : (m : Queue) (x : Step) → Sound m → ((n : Queue) (r : Reply) → x ≡ Taken n r → Sound n) → Sound (left_by m x)
left_sound m (Taken n r) h f = f n r refl
left_sound m (Refused e k) h f = h

-- so does a request at its moment
pub decided_sound : (s : Settings) (m : Queue) (r : Request) → Sound m → IsLawfulAsk r.ask → Sound (left_by m (decided s m r))
decided_sound s m r h lawful = left_sound m (decided s m r) h (λ n q e. step_sound s m n (max m.clock r.moment) r.ask q h lawful e)

-- and a run
pub run_sound : (s : Settings) (m : Queue) (rs : List Request) → Sound m → AreLawful rs → Sound (queue_after s m rs)
run_sound s m [] h lawful = h
run_sound s m (r ∷ rs) h lawful = run_sound s (left_by m (decided s m r)) rs (decided_sound s m r h lawful.0) lawful.1

-- the empty queue is sound
pub empty_sound : Sound Rattle.fax_core.specs.Queue.empty_queue
empty_sound = record {
  timed = tt;
  jobs = omega arith;
  grants = omega arith;
  one_to_a_modem = λ a b g h o p e. cc (o.0);
  one_of_a_job = λ a b g h o p e. cc (o.0);
  held = λ a g o. cc (o.0);
  free = λ n j e f. cc e;
}

-- ---- the choice

-- the job that is given is the best
best_of : (s : Settings) (m n : Queue) (t : ℕ) (modem : List ℕ) (h : Handed) → GivenTo s m t modem n (Given h) → (j : Job) × (IsBest s m t modem j × (j.number ≡ h.job))
best_of s m n t modem h (None_to none same told) = cc
best_of s m n t modem h (Best_to j b none same told) =
    let made = granted j modem m.next_grant in
    let is : handed made.grant (with_new_grant made m) ≡ h = cc in
    (j, (b, ap (λ (x : Handed). x.job) is))

-- the same of a step, which ages the jobs first
pub step_best : (s : Settings) (m n : Queue) (t : ℕ) (modem : List ℕ) (h : Handed) → Sound m → step s m t (Next modem) ≡ Taken n (Given h) → (j : Job) × (IsBest s (aged t m) t modem j × (j.number ≡ h.job))
step_best s m n t modem h sound e =
    let d = stamped_taken t (aged t m) (given_to s (aged t m) t modem) n (Given h) e in
    best_of s (aged t m) d.0 t modem h (given_is s (aged t m) t modem d.0 (Given h) (aged_sound t m sound) d.1)

-- where none is given, no job may go
none_of : (s : Settings) (m n : Queue) (t : ℕ) (modem : List ℕ) (j : Job) → GivenTo s m t modem n NoneToSend → MayGo s m t modem j → ⊥
none_of s m n t modem j (None_to none same told) g = none_goes s m t modem none j g
none_of s m n t modem j (Best_to k b none same told) g = cc

-- the same of a step, which ages the jobs first
pub step_none : (s : Settings) (m n : Queue) (t : ℕ) (modem : List ℕ) (j : Job) → Sound m → step s m t (Next modem) ≡ Taken n NoneToSend → MayGo s (aged t m) t modem j → ⊥
step_none s m n t modem j sound e g =
    let d = stamped_taken t (aged t m) (given_to s (aged t m) t modem) n NoneToSend e in
    none_of s (aged t m) d.0 t modem j (given_is s (aged t m) t modem d.0 NoneToSend (aged_sound t m sound) d.1) g
