-- What a step of the queue does to the pages of a job: a report of a page adds one, and a job that comes in has those that came in as sent.
use Rattle.std.proofs.Common.{◌≡◌, ◌≢◌, inl, inr, ℕ, ◌+◌, ◌-◌, ◌<◌, Bool, true, false, cond, not, ◌&&◌, ◌||◌, eqb, leb, List, [], ◌∷◌, ◌++◌, length, Option, Some, None, refl, sym, ap, subst, ◌∙◌, arith}
use Rattle.std.specs.Prelude.{Result, Ok, Err, find, is_none, is_some, nat_lt}
use Rattle.std.specs.List.{range_with_len}
use Rattle.std.specs.Option.{option_map}
use Rattle.std.proofs.lemmas.Bool.{cond_both, eq-eqb, eqb-true, leb-false, leb-true, ne_eqb}
use Rattle.fax_job.specs.declared.alter.Alter.{Alter}
use Rattle.fax_job.specs.declared.import.Import.{Import}
use Rattle.fax_job.specs.declared.job.Call.{Call}
use Rattle.fax_job.specs.declared.job.Call.TheVariants.{Connected, Busy, NoAnswer, NoCarrier, Other}
use Rattle.fax_job.specs.declared.job.Phase.{Phase}
use Rattle.fax_job.specs.declared.job.Phase.TheVariants as phase
use Rattle.fax_job.specs.declared.job.Wish.{Wish}
use Rattle.fax_job.specs.declared.job.Wish.TheVariants as wish
use Rattle.fax_job.specs.declared.order.Order.{Order}
use Rattle.fax_job.specs.declared.refusal.Refusal.{Refusal}
use Rattle.fax_job.specs.declared.refusal.Refusal.TheVariants as refusal
use Rattle.fax_core.specs.declared.grants.Grant.{Grant}
use Rattle.fax_core.specs.declared.report.Ending.{Ending}
use Rattle.fax_core.specs.declared.report.Ending.TheVariants as ending
use Rattle.fax_core.specs.declared.report.Outcome.{Outcome}
use Rattle.fax_core.specs.declared.report.Report.{Report}
use Rattle.fax_core.specs.declared.report.Report.TheVariants as report
use Rattle.fax_core.specs.declared.state.State.TheVariants as sendq
use Rattle.fax_core.specs.Ageing.{aged, aged_job, expires, is_past}
use Rattle.fax_core.specs.declared.ask.Ask.{Ask}
use Rattle.fax_core.specs.declared.ask.Ask.TheVariants.{Submission, Bring, OnJob, Mark, Next, OnGrant, GiveUp, Purge}
use Rattle.fax_core.specs.declared.ask.JobAsk.{JobAsk}
use Rattle.fax_core.specs.declared.ask.JobAsk.TheVariants as ask
use Rattle.fax_core.specs.Decisions.{JobAndGrant, after_call, alter_in, altered, call, ended, ended_by, grant_reported, granted, is_empty, is_kill, is_over, is_done, job_asked, kill_in, new_job, outcome, phase_after, resume_in, retried, submit, suspend_in}
use Rattle.fax_core.specs.Import.{bring, brought, old_job}
use Rattle.fax_core.specs.Job.{Job}
use Rattle.fax_core.specs.Laws.{NumbersAfter}
use Rattle.fax_core.specs.Machine as machine
use Rattle.fax_core.specs.Machine.{act, brought_in, changed, on_grant, on_job, report_reply, step, submitted, with_both, with_job, with_mark, with_new_job}
use Rattle.fax_core.specs.Purge.{leaving, without_jobs}
use Rattle.fax_core.specs.Queue.{Queue, grant_numbered, job_numbered}
use Rattle.fax_core.specs.Reply.{Brought, Marked, NoKeys, Purged, Reply, Taken, Refused}
use Rattle.fax_core.specs.Settings.{Rule, Settings, has_modem}
use Rattle.fax_core.specs.Sound.{IsJob, IsOpen, Sound}
use Rattle.fax_core.specs.State.{state, state_number}
use Rattle.fax_core.proofs.DecisionLemmas.{aged_number, aged_sent, asked_in, not_refused, ok_same, paged, reported_in}
use Rattle.fax_core.proofs.ImportLemmas.{bring_counts, bring_is}
use Rattle.fax_core.proofs.KeepLemmas.{looked_up, numbered_job, same_job}
use Rattle.fax_core.proofs.BroughtLemmas.{came}
use Rattle.fax_core.proofs.LeaveLemmas.{job_before}
use Rattle.fax_core.proofs.NumberLemmas.{step_numbers}
use Rattle.fax_core.proofs.PageLemmas.{Reported, on_grant_is}
use Rattle.fax_core.proofs.PlaceLemmas.{absent, either, mapped, placed}
use Rattle.fax_core.proofs.StepLemmas.{Best_to, GivenTo, None_to, aged_sound, given_is, taken_same}
use Rattle.fax_core.proofs.TimesLemmas.{by_stamp, stamped_taken}
use Rattle.fax_run.specs.Counts.{came_in, brings, no_counters}

-- ---- a job that is done has no page left

abbrev pub IsWhole : Job → Type 0
IsWhole j = j.phase ≡ phase.Done → j.left ≡ []

suspend_whole : (p : Phase) (w : Wish) (j k : Job) → suspend_in p w j ≡ Ok k → IsWhole j → IsWhole k
suspend_whole phase.Held w j k e h = subst IsWhole (ok_same j k e) h
suspend_whole phase.Waiting w j k e h = subst IsWhole (ok_same _ k e) (λ d. absurd (cc d))
suspend_whole phase.Granted wish.Go j k e h = subst IsWhole (ok_same (record j { wish = wish.Hold }) k e) h
suspend_whole phase.Granted wish.Hold j k e h = subst IsWhole (ok_same j k e) h
suspend_whole phase.Granted wish.Kill j k e h = cc
suspend_whole phase.Done w j k e h = cc
suspend_whole phase.Failed w j k e h = cc

resume_whole : (p : Phase) (w : Wish) (j k : Job) → resume_in p w j ≡ Ok k → IsWhole j → IsWhole k
resume_whole phase.Held w j k e h = subst IsWhole (ok_same (record j { phase = phase.Waiting }) k e) (λ d. absurd (cc d))
resume_whole phase.Waiting w j k e h = cc
resume_whole phase.Granted wish.Go j k e h = cc
resume_whole phase.Granted wish.Hold j k e h = subst IsWhole (ok_same (record j { wish = wish.Go }) k e) h
resume_whole phase.Granted wish.Kill j k e h = cc
resume_whole phase.Done w j k e h = cc
resume_whole phase.Failed w j k e h = cc

kill_whole : (p : Phase) (j k : Job) → kill_in p j ≡ Ok k → IsWhole j → IsWhole k
kill_whole phase.Held j k e h = subst IsWhole (ok_same _ k e) (λ d. absurd (cc d))
kill_whole phase.Waiting j k e h = subst IsWhole (ok_same _ k e) (λ d. absurd (cc d))
kill_whole phase.Granted j k e h = subst IsWhole (ok_same (record j { wish = wish.Kill }) k e) h
kill_whole phase.Done j k e h = cc
kill_whole phase.Failed j k e h = cc

alter_whole : (p : Phase) (a : Alter) (j k : Job) (t : ℕ) → alter_in p a j t ≡ Ok k → IsWhole j → IsWhole k
alter_whole phase.Held a j k t e h =
    let new = altered a j t in
    let ok = not_refused (leb new.maxdials new.totdials || leb new.maxtries new.tottries) _ (Ok new) k e in
    subst IsWhole (ok_same new k ok.1) h
alter_whole phase.Waiting a j k t e h = cc
alter_whole phase.Granted a j k t e h = cc
alter_whole phase.Done a j k t e h = cc
alter_whole phase.Failed a j k t e h = cc

-- what a client asks for leaves it so
asked_whole : (a : JobAsk) (t : ℕ) (j k : Job) → job_asked a t j ≡ Ok k → IsWhole j → IsWhole k
asked_whole ask.Suspend t j k e h = suspend_whole j.phase j.wish j k e h
asked_whole ask.Resume t j k e h = resume_whole j.phase j.wish j k e h
asked_whole ask.Kill t j k e h = kill_whole j.phase j k e h
asked_whole (ask.Alter changes) t j k e h = alter_whole j.phase changes j k t e h

-- so does ageing
aged_whole : (t : ℕ) (j : Job) → IsWhole j → IsWhole (aged_job t j)
aged_whole t j h = cond_both (expires j.phase && is_past j.killtime t) _ j IsWhole (λ e d. absurd (cc d)) (λ e. h)

-- and a call
called_whole : (c : Call) (j : Job) → IsWhole j → IsWhole (after_call c j)
called_whole Connected j h = h
called_whole Busy j h = h
called_whole NoAnswer j h = h
called_whole NoCarrier j h = h
called_whole Other j h = h

-- a job that goes back isn't done
back_whole : (w : Wish) → phase_after w ≡ phase.Done → ⊥
back_whole wish.Go d = cc
back_whole wish.Hold d = cc
back_whole wish.Kill d = cc

retried_whole : (j : Job) (reason : List ℕ) (delay t : ℕ) → IsWhole (retried j reason delay t)
retried_whole j reason delay t =
    cond_both (is_kill j.wish) _ _ IsWhole (λ e d. absurd (cc d)) (λ e.
    cond_both (is_past j.killtime t) _ _ IsWhole (λ e d. absurd (cc d)) (λ e.
    cond_both (leb j.maxdials j.totdials) _ _ IsWhole (λ e d. absurd (cc d)) (λ e.
    cond_both (leb j.maxtries j.tottries) _ _ IsWhole (λ e d. absurd (cc d)) (λ e.
    cond_both (leb 3 j.ntries) _ _ IsWhole (λ e d. absurd (cc d)) (λ e d. absurd (back_whole j.wish d))))))

ended_whole : (ps : List ℕ) (o : Outcome) (j : Job) (delay t : ℕ) → j.left ≡ ps → IsWhole (ended ps o j delay t)
ended_whole [] o j delay t none = λ d. none
ended_whole (p ∷ rest) o j delay t some = by o.ending
  where
    by : (e : Ending) → IsWhole (ended_by e j o.reason delay t)
    by ending.Done d = absurd (cc d)
    by ending.Fail d = absurd (cc d)
    by ending.Retry d = retried_whole j o.reason delay t d

-- a job that comes in done has all its pages sent
abbrev pub ComesWhole : Ask → Type 0
ComesWhole request = (i : Import) → request ≡ Bring i → i.state ≡ state_number sendq.Done → i.npages ≡ i.order.totpages

empty_is : (ps : List ℕ) → is_empty ps ≡ true → ps ≡ []
empty_is [] e = refl
empty_is (p ∷ ps) e = cc

brought_whole : (i : Import) (n t : ℕ) → ComesWhole (Bring i) → IsWhole (brought i.state (old_job i n t))
brought_whole i n t whole =
    let j = old_job i n t in
    cond_both (eqb i.state (state_number sendq.Done)) _ _ IsWhole
    (λ e d.
    let all = whole i refl (eqb-true i.state (state_number sendq.Done) e) in
    let none : i.order.totpages - i.npages ≡ 0 = omega (arith, all) in
    ap (λ (k : ℕ). range_with_len (i.npages + 1) k) none) (λ e.
    cond_both (eqb i.state (state_number sendq.Failed)) _ _ IsWhole (λ e d. absurd (cc d)) (λ e.
    cond_both (is_empty j.left) _ _ IsWhole (λ none d. empty_is j.left none) (λ some.
    cond_both (leb j.maxdials j.totdials) _ _ IsWhole (λ e d. absurd (cc d)) (λ e.
    cond_both (leb j.maxtries j.tottries) _ _ IsWhole (λ e d. absurd (cc d)) (λ e.
    cond_both (eqb i.state (state_number sendq.Suspended)) _ _ IsWhole (λ e d. absurd (cc d)) (λ e d. absurd (cc d)))))))

-- ---- what a job in a queue was before the step

-- no page is reported
abbrev NoPage : Ask → Type 0
NoPage request = (a p : ℕ) → request ≡ OnGrant a (report.Page p) → ⊥

-- no page of this job is reported
abbrev pub NoPageOf : Queue → Ask → ℕ → Type 0
NoPageOf m request x = (a p : ℕ) (g : Grant) → request ≡ OnGrant a (report.Page p) → grant_numbered a m ≡ Some g → g.job ≢ x

no_page_of : (m : Queue) (request : Ask) (x : ℕ) → NoPage request → NoPageOf m request x
no_page_of m request x none a p g e is same = none a p e

pub data Made (m : Queue) (ask : Ask) (r : Reply) (x : ℕ) (y : Job) : Type 0 where
  -- it was there, and has sent the same pages
  Was : (j : Job) → IsJob m x j → y.sent ≡ j.sent → (IsWhole j → IsWhole y) → NoPageOf m ask x → Made m ask r x y
  -- a page on its grant was reported
  Paged : (a p : ℕ) (g : Grant) (j : Job) → ask ≡ OnGrant a (report.Page p) → IsOpen m a g → g.job ≡ x → IsJob m x j → y.sent ≡ j.sent ++ p ∷ [] → IsWhole y → Made m ask r x y
  -- it came in
  Is_new : job_numbered x m ≡ None → length y.sent ≡ (cond (brings r x) (came_in ask) no_counters).npages → (ComesWhole ask → IsWhole y) → Made m ask r x y

-- the same jobs
same_made : (m n : Queue) (ask : Ask) (r : Reply) → NoPage ask → n.jobs ≡ m.jobs → (x : ℕ) (y : Job) → IsJob n x y → Made m ask r x y
same_made m n ask r none same x y is = Was y (subst (λ (js : List Job). find (λ (z : Job). eqb z.number x) js ≡ Some y) same is) refl (λ h. h) (no_page_of m ask x none)

-- a job in its place, with the same pages
placed_made : (m : Queue) (ask : Ask) (r : Reply) → NoPage ask → (b : ℕ) (j k : Job) → IsJob m b j → k.number ≡ b → k.sent ≡ j.sent → (IsWhole j → IsWhole k) → (x : ℕ) (y : Job) → IsJob (with_job k m) x y → Made m ask r x y
placed_made m ask r none b j k is same sent whole x y there =
    let p = placed (λ (z : Job). z.number) x k y m.jobs there in
    elim p.now [
      | inl c ↦
          let here : b ≡ x = sym same ∙ c.0 in
          let old : IsJob m x j = subst (λ (i : ℕ). IsJob m i j) here is in
          Was j old (ap (λ (z : Job). z.sent) c.1 ∙ sent) (λ h. subst IsWhole (sym c.1) (whole h)) (no_page_of m ask x none)
      | inr c ↦ Was p.before p.was (ap (λ (z : Job). z.sent) c.1) (λ h. subst IsWhole (sym c.1) h) (no_page_of m ask x none)
    ]

changed_made : (s : Settings) (m n : Queue) (t : ℕ) (request : Ask) → NoPage request → (b : ℕ) (a : JobAsk) (j : Job) (d : Result Job Refusal) (r : Reply) → IsJob m b j → job_asked a t j ≡ d → changed s m t d ≡ Taken n r
    → (x : ℕ) (y : Job) → IsJob n x y → Made m request r x y
changed_made s m n t request none b a j (Ok k) r is e taken =
    let f = asked_in a t j k e in
    subst (λ (q : Queue). (x : ℕ) (y : Job) → IsJob q x y → Made m request r x y) (taken_same (with_job k m) n _ r taken).0
    (placed_made m request r none b j k is (f.number ∙ numbered_job m b j is) f.sent (asked_whole a t j k e))
changed_made s m n t request none b a j (Err x) r is e taken = cc

on_job_made : (s : Settings) (m n : Queue) (t : ℕ) (request : Ask) → NoPage request → (b : ℕ) (a : JobAsk) (o : Option Job) (r : Reply) → job_numbered b m ≡ o → on_job s m t a o ≡ Taken n r
    → (x : ℕ) (y : Job) → IsJob n x y → Made m request r x y
on_job_made s m n t request none b a None r is taken = cc
on_job_made s m n t request none b a (Some j) r is taken = changed_made s m n t request none b a j (job_asked a t j) r is refl taken

-- a new job
new_made : (m : Queue) (request : Ask) (r : Reply) → NoPage request → (k : Job) → Sound m → k.number ≡ m.next_job → length k.sent ≡ (cond (brings r k.number) (came_in request) no_counters).npages → (ComesWhole request → IsWhole k)
    → (x : ℕ) (y : Job) → IsJob (with_new_job k m) x y → Made m request r x y
new_made m request r none k sound number pages whole x y there = elim (either (λ (z : Job). eqb z.number x) m.jobs k y there) [
  | inl old ↦ Was y old refl (λ h. h) (no_page_of m request x none)
  | inr (here, same) ↦
      let at : k.number ≡ x = eqb-true k.number x here in
      Is_new (absent (λ (z : Job). z.number) 0 m.next_job x m.jobs sound.jobs (omega (arith, number, at)))
      (ap (λ (z : Job). length z.sent) (sym same) ∙ pages ∙ ap (λ (i : ℕ). (cond (brings r i) (came_in request) no_counters).npages) at)
      (λ h. subst IsWhole same (whole h))
]

submit_is : (o : Order) (rule : Rule) (n max t : ℕ) (j : Job) → submit o rule n max t ≡ Ok j → new_job o n t ≡ j
submit_is o rule n max t j e =
    let a = not_refused (is_some rule.notice) _ _ j e in
    let b = not_refused (is_over o.totpages rule.pages) _ _ j a.1 in
    let c = not_refused (nat_lt max n) _ (Ok (new_job o n t)) j b.1 in
    ok_same (new_job o n t) j c.1

submission_made : (m n : Queue) (o : Order) (rule : Rule) (max t : ℕ) (d : Result Job Refusal) (r : Reply) → Sound m → submit o rule m.next_job max t ≡ d → submitted m rule d ≡ Taken n r
    → (x : ℕ) (y : Job) → IsJob n x y → Made m (Submission o) r x y
submission_made m n o rule max t (Ok k) r sound e taken =
    let is = submit_is o rule m.next_job max t k e in
    let both = taken_same (with_new_job k m) n _ r taken in
    subst (λ (q : Queue). (x : ℕ) (y : Job) → IsJob q x y → Made m (Submission o) r x y) both.0
    (new_made m (Submission o) r (λ a p e. cc e) k sound (ap (λ (z : Job). z.number) (sym is))
    (ap (λ (z : Job). length z.sent) (sym is) ∙ ap (λ (q : Reply). (cond (brings q k.number) (came_in (Submission o)) no_counters).npages) both.1)
    (λ whole. subst IsWhole is (λ d. absurd (cc d))))
submission_made m n o rule max t (Err x) r sound e taken = cc

import_made : (s : Settings) (m n : Queue) (i : Import) (rule : Rule) (max t : ℕ) (d : Result Job Refusal) (r : Reply) → Sound m → bring i rule m.next_job max t ≡ d → brought_in s m t rule d ≡ Taken n r
    → (x : ℕ) (y : Job) → IsJob n x y → Made m (Bring i) r x y
import_made s m n i rule max t (Ok k) r sound e taken =
    let is = bring_counts i rule m.next_job max t k e in
    let both = taken_same (with_new_job k m) n _ r taken in
    subst (λ (q : Queue). (x : ℕ) (y : Job) → IsJob q x y → Made m (Bring i) r x y) both.0
    (new_made m (Bring i) r (λ a p e. cc e) k sound is.number
    (is.npages ∙ ap (λ b. (cond b (came_in (Bring i)) no_counters).npages) (sym (eq-eqb k.number k.number refl)) ∙ ap (λ (q : Reply). (cond (brings q k.number) (came_in (Bring i)) no_counters).npages) both.1)
    (λ whole. subst IsWhole (bring_is i rule m.next_job max t k e) (brought_whole i m.next_job t whole)))
import_made s m n i rule max t (Err x) r sound e taken = cc

-- a mark
mark_jobs : (m : Queue) (modem : List ℕ) (down : Bool) → (with_mark modem down m).jobs ≡ m.jobs
mark_jobs m modem true = refl
mark_jobs m modem false = refl

marked_jobs : (m n : Queue) (modem : List ℕ) (down b : Bool) (r : Reply) → cond b (Taken (with_mark modem down m) (Marked down)) (Refused refusal.NoModem NoKeys) ≡ Taken n r → n.jobs ≡ m.jobs
marked_jobs m n modem down true r e = ap (λ (q : Queue). q.jobs) (sym (taken_same (with_mark modem down m) n _ r e).0) ∙ mark_jobs m modem down
marked_jobs m n modem down false r e = cc

-- a request for work
given_made : (s : Settings) (m n : Queue) (t : ℕ) (modem : List ℕ) (request : Ask) (r : Reply) → NoPage request → GivenTo s m t modem n r → (x : ℕ) (y : Job) → IsJob n x y → Made m request r x y
given_made s m n t modem request r plain (None_to none same told) = same_made m n request r plain (ap (λ (q : Queue). q.jobs) (sym same))
given_made s m n t modem request r plain (Best_to j best none same told) =
    subst (λ (q : Queue). (x : ℕ) (y : Job) → IsJob q x y → Made m request r x y) same
    (placed_made m request r plain j.number j (granted j modem m.next_grant).job best.goes.there refl refl (λ h d. absurd (cc d)))

-- ---- reports

-- a report of a page
page_made : (s : Settings) (m n : Queue) (t a p : ℕ) (r : Reply) → Sound m → Reported s m n t a (report.Page p) → (x : ℕ) (y : Job) → IsJob n x y → Made m (OnGrant a (report.Page p)) r x y
page_made s m n t a p r sound it = subst (λ (q : Queue). (x : ℕ) (y : Job) → IsJob q x y → Made m (OnGrant a (report.Page p)) r x y) it.left by
  where
    by : (x : ℕ) (y : Job) → IsJob (with_both it.both m) x y → Made m (OnGrant a (report.Page p)) r x y
    by x y there =
        let f = paged p it.job it.grant it.both it.made in
        let place = placed (λ (z : Job). z.number) x it.both.job y m.jobs there in
        let number : it.both.job.number ≡ it.grant.job = f.0.number ∙ numbered_job m it.grant.job it.job it.of in
        elim place.now [
          | inl c ↦
              let here : it.grant.job ≡ x = sym number ∙ c.0 in
              let held = sound.held a it.grant (it.is, f.0.was_open) in
              let same : held.0 ≡ it.job = same_job m it.grant.job held.0 it.job held.1 it.of in
              let busy : it.job.phase ≡ phase.Granted = subst (λ (z : Job). z.phase ≡ phase.Granted) same held.2.phase in
              Paged a p it.grant it.job refl (it.is, f.0.was_open) here (subst (λ (i : ℕ). IsJob m i it.job) here it.of)
              (ap (λ (z : Job). z.sent) c.1 ∙ ap (λ (z : Job). z.sent) f.1.job)
              (λ d.
              let was : it.job.phase ≡ phase.Done = sym (ap (λ (z : Job). z.phase) f.1.job) ∙ sym (ap (λ (z : Job). z.phase) c.1) ∙ d in
              absurd (cc (busy, was)))
          | inr c ↦ Was place.before place.was (ap (λ (z : Job). z.sent) c.1) (λ h. subst IsWhole (sym c.1) h)
              (λ b q g e is same.
              let at : b ≡ a = cc e in
              let its : g ≡ it.grant = (let both = subst (λ (i : ℕ). grant_numbered i m ≡ Some g) at is in cc (both, it.is)) in
              c.0 (number ∙ ap (λ (z : Grant). z.job) (sym its) ∙ same))
        ]

-- what a call or an outcome makes of the job
call_after : (c : Call) (j : Job) (g : Grant) (b : JobAndGrant) → call c j g ≡ Ok b → b.job ≡ after_call c j
call_after c j g b e =
    let new : JobAndGrant = record { job = after_call c j; grant = record g { call = Some c } } in
    let p = not_refused (not g.is_open) _ _ b e in
    let q = not_refused (is_some g.call) _ (Ok new) b p.1 in
    ap (λ (x : JobAndGrant). x.job) (sym (ok_same new b q.1))

outcome_after : (o : Outcome) (j : Job) (g : Grant) (delay t : ℕ) (b : JobAndGrant) → outcome o j g delay t ≡ Ok b → b.job ≡ ended j.left o j delay t
outcome_after o j g delay t b e =
    let new : JobAndGrant = record { job = ended j.left o j delay t; grant = record g { is_open = false } } in
    let p = not_refused (not g.is_open) _ _ b e in
    let q = not_refused (not o.dialed && is_some g.call) _ _ b p.1 in
    let r = not_refused (o.dialed && is_none g.call) _ _ b q.1 in
    let s = not_refused (not (eqb o.pages g.confirmed)) _ _ b r.1 in
    let u = not_refused (is_done o.ending && not (is_empty j.left)) _ (Ok new) b s.1 in
    ap (λ (x : JobAndGrant). x.job) (sym (ok_same new b u.1))

call_sent : (c : Call) (j : Job) → (after_call c j).sent ≡ j.sent
call_sent Connected j = refl
call_sent Busy j = refl
call_sent NoAnswer j = refl
call_sent NoCarrier j = refl
call_sent Other j = refl

abbrev Sends : Job → Job → Type 0
Sends j k = k.sent ≡ j.sent

retried_sent : (j : Job) (reason : List ℕ) (delay t : ℕ) → Sends j (retried j reason delay t)
retried_sent j reason delay t =
    cond_both (is_kill j.wish) _ _ (Sends j) (λ e. refl) (λ e.
    cond_both (is_past j.killtime t) _ _ (Sends j) (λ e. refl) (λ e.
    cond_both (leb j.maxdials j.totdials) _ _ (Sends j) (λ e. refl) (λ e.
    cond_both (leb j.maxtries j.tottries) _ _ (Sends j) (λ e. refl) (λ e.
    cond_both (leb 3 j.ntries) _ _ (Sends j) (λ e. refl) (λ e. refl)))))

ended_sent : (ps : List ℕ) (o : Outcome) (j : Job) (delay t : ℕ) → Sends j (ended ps o j delay t)
ended_sent [] o j delay t = refl
ended_sent (p ∷ rest) o j delay t = by o.ending
  where
    by : (e : Ending) → Sends j (ended_by e j o.reason delay t)
    by ending.Done = refl
    by ending.Fail = refl
    by ending.Retry = retried_sent j o.reason delay t

-- a report of a call or an outcome leaves the pages
other_made : (s : Settings) (m n : Queue) (t a : ℕ) (z : Report) (r : Reply) (it : Reported s m n t a z) → NoPage (OnGrant a z) → Sends it.job it.both.job → (IsWhole it.job → IsWhole it.both.job)
    → (x : ℕ) (y : Job) → IsJob n x y → Made m (OnGrant a z) r x y
other_made s m n t a z r it none sent whole =
    let f = reported_in z s.delay t it.job it.grant it.both it.made in
    subst (λ (q : Queue). (x : ℕ) (y : Job) → IsJob q x y → Made m (OnGrant a z) r x y) it.left
    (placed_made m (OnGrant a z) r none it.grant.job it.job it.both.job it.of (f.number ∙ numbered_job m it.grant.job it.job it.of) sent whole)

report_made : (s : Settings) (m n : Queue) (t a : ℕ) (z : Report) (r : Reply) → Sound m → Reported s m n t a z → (x : ℕ) (y : Job) → IsJob n x y → Made m (OnGrant a z) r x y
report_made s m n t a (report.Page p) r sound it = page_made s m n t a p r sound it
report_made s m n t a (report.Call c) r sound it =
    let is = call_after c it.job it.grant it.both it.made in
    other_made s m n t a (report.Call c) r it (λ b p e. cc e) (ap (λ (z : Job). z.sent) is ∙ call_sent c it.job) (λ h. subst IsWhole (sym is) (called_whole c it.job h))
report_made s m n t a (report.Outcome o) r sound it =
    let is = outcome_after o it.job it.grant (s.delay it.grant.call) t it.both it.made in
    other_made s m n t a (report.Outcome o) r it (λ b p e. cc e) (ap (λ (z : Job). z.sent) is ∙ ended_sent it.job.left o it.job (s.delay it.grant.call) t)
    (λ h. subst IsWhole (sym is) (ended_whole it.job.left o it.job (s.delay it.grant.call) t refl))

-- a purge leaves the jobs that stay as they are
purged_made : (m n : Queue) (before : ℕ) (b : Bool) (r : Reply) → Sound m → cond b (Refused refusal.PurgeHigh NoKeys) (Taken (without_jobs (leaving before m) m) (Purged (length (leaving before m)))) ≡ Taken n r → (x : ℕ) (y : Job) → IsJob n x y → Made m (Purge before) r x y
purged_made m n before true r h e x y is = cc
purged_made m n before false r h e x y is =
    let there = subst (λ (q : Queue). IsJob q x y) (sym (taken_same (without_jobs (leaving before m) m) n _ r e).0) is in
    Was y (job_before m (leaving before m) h x y there).0 refl (λ w. w) (no_page_of m (Purge before) x (λ a p e. cc e))

-- ---- each request

-- each job in the queue that a request leaves was there before, or is new
act_made : (s : Settings) (m n : Queue) (t : ℕ) (request : Ask) (r : Reply) → Sound m → act s m t request ≡ Taken n r → (x : ℕ) (y : Job) → IsJob n x y → Made m request r x y
act_made s m n t (Submission o) r h e = submission_made m n o (s.rule o.dial) s.max_jobs t (submit o (s.rule o.dial) m.next_job s.max_jobs t) r h refl e
act_made s m n t (Bring i) r h e = import_made s m n i (s.rule i.order.dial) s.max_jobs t (bring i (s.rule i.order.dial) m.next_job s.max_jobs t) r h refl e
act_made s m n t (OnJob b a) r h e = on_job_made s m n t (OnJob b a) (λ c p e. cc e) b a (job_numbered b m) r refl e
act_made s m n t (Mark modem down) r h e = same_made m n (Mark modem down) r (λ a p e. cc e) (marked_jobs m n modem down (has_modem s modem) r e)
act_made s m n t (Next modem) r h e = given_made s m n t modem (Next modem) r (λ a p e. cc e) (given_is s m t modem n r h e)
act_made s m n t (OnGrant a z) r h e = report_made s m n t a z r h (on_grant_is s m t a z (grant_numbered a m) n r refl e)
act_made s m n t (GiveUp u) r h e = same_made m n (GiveUp u) r (λ a p e. cc e) (ap (λ (q : Queue). q.jobs) (sym (taken_same m n _ r e).0))
act_made s m n t (Purge before) r h e = purged_made m n before (nat_lt t before) r h e

-- the same of a step, which ages the jobs first
pub step_made : (s : Settings) (m n : Queue) (t : ℕ) (request : Ask) (r : Reply) → Sound m → step s m t request ≡ Taken n r → (x : ℕ) (y : Job) → IsJob n x y → Made m request r x y
step_made s m n t request r h e = by_stamp (λ q. (x : ℕ) (y : Job) → IsJob q x y → Made m request r x y) t (aged t m) (act s (aged t m) t request) n r e (λ k taken x y there.
    by x y (act_made s (aged t m) k t request r (aged_sound t m h) taken x y there))
  where
    -- a job of the aged queue was there before
    unaged : (x : ℕ) (j : Job) → IsJob (aged t m) x j → (i : Job) × IsJob m x i × (aged_job t i ≡ j)
    unaged x j is = mapped (aged_job t) (job_numbered x m) j (sym (looked_up m (aged_job t) (aged_number t) x) ∙ is)

    none_before : (x : ℕ) (o : Option Job) → job_numbered x m ≡ o → job_numbered x (aged t m) ≡ None → job_numbered x m ≡ None
    none_before x None e none = e
    none_before x (Some j) e none = absurd (let there = looked_up m (aged_job t) (aged_number t) x ∙ ap (option_map (aged_job t)) e in cc (there, none))

    by : (x : ℕ) (y : Job) → Made (aged t m) request r x y → Made m request r x y
    by x y (Was j is sent whole none) =
        let old = unaged x j is in
        Was old.0 old.1 (sent ∙ ap (λ (z : Job). z.sent) (sym old.2) ∙ aged_sent t old.0) (λ h. whole (subst IsWhole old.2 (aged_whole t old.0 h))) none
    by x y (Paged a p g j asked open' of is sent whole) =
        let old = unaged x j is in
        Paged a p g old.0 asked open' of old.1 (sent ∙ ap (λ (ps : List ℕ). ps ++ p ∷ []) (ap (λ (z : Job). z.sent) (sym old.2) ∙ aged_sent t old.0)) whole
    by x y (Is_new none pages whole) = Is_new (none_before x (job_numbered x m) refl none) pages whole

-- ---- jobs that come in

-- the reply brings no job in
abbrev BringsNone : Reply → Type 0
BringsNone r = (x : ℕ) → brings r x ≡ false

changed_brings : (s : Settings) (m n : Queue) (t : ℕ) (d : Result Job Refusal) (r : Reply) → changed s m t d ≡ Taken n r → BringsNone r
changed_brings s m n t (Ok k) r e x = ap (λ (q : Reply). brings q x) (sym (taken_same (with_job k m) n _ r e).1)
changed_brings s m n t (Err y) r e x = cc

on_job_brings : (s : Settings) (m n : Queue) (t : ℕ) (a : JobAsk) (o : Option Job) (r : Reply) → on_job s m t a o ≡ Taken n r → BringsNone r
on_job_brings s m n t a None r e x = cc
on_job_brings s m n t a (Some j) r e x = changed_brings s m n t (job_asked a t j) r e x

submitted_brings : (m n : Queue) (rule : Rule) (d : Result Job Refusal) (r : Reply) → submitted m rule d ≡ Taken n r → BringsNone r
submitted_brings m n rule (Ok k) r e x = ap (λ (q : Reply). brings q x) (sym (taken_same (with_new_job k m) n _ r e).1)
submitted_brings m n rule (Err y) r e x = cc

marked_brings : (m n : Queue) (modem : List ℕ) (down b : Bool) (r : Reply) → cond b (Taken (with_mark modem down m) (Marked down)) (Refused refusal.NoModem NoKeys) ≡ Taken n r → BringsNone r
marked_brings m n modem down true r e x = ap (λ (q : Reply). brings q x) (sym (taken_same (with_mark modem down m) n _ r e).1)
marked_brings m n modem down false r e x = cc

given_brings : (s : Settings) (m n : Queue) (t : ℕ) (modem : List ℕ) (r : Reply) → GivenTo s m t modem n r → BringsNone r
given_brings s m n t modem r (None_to none same told) x = ap (λ (q : Reply). brings q x) (sym told)
given_brings s m n t modem r (Best_to j best none same told) x = ap (λ (q : Reply). brings q x) (sym told)

purged_brings : (m n : Queue) (before : ℕ) (b : Bool) (r : Reply) → cond b (Refused refusal.PurgeHigh NoKeys) (Taken (without_jobs (leaving before m) m) (Purged (length (leaving before m)))) ≡ Taken n r → BringsNone r
purged_brings m n before true r e x = cc
purged_brings m n before false r e x = ap (λ (q : Reply). brings q x) (sym (taken_same (without_jobs (leaving before m) m) n _ r e).1)

report_brings : (s : Settings) (t : ℕ) (z : Report) (q : Queue) (b : JobAndGrant) → BringsNone (report_reply s t z q b)
report_brings s t (report.Call c) q b x = refl
report_brings s t (report.Page p) q b x = refl
report_brings s t (report.Outcome o) q b x = refl

reported_brings : (s : Settings) (m n : Queue) (t : ℕ) (z : Report) (j : Job) (d : Result JobAndGrant Refusal) (r : Reply) → machine.reported m (report_reply s t z) j d ≡ Taken n r → BringsNone r
reported_brings s m n t z j (Ok b) r e x = ap (λ (q : Reply). brings q x) (sym (taken_same (with_both b m) n _ r e).1) ∙ report_brings s t z (with_both b m) b x
reported_brings s m n t z j (Err y) r e x = cc

on_both_brings : (s : Settings) (m n : Queue) (t : ℕ) (z : Report) (g : Grant) (o : Option Job) (r : Reply) → machine.on_both s m t z g o ≡ Taken n r → BringsNone r
on_both_brings s m n t z g None r e x = cc
on_both_brings s m n t z g (Some j) r e x = reported_brings s m n t z j (grant_reported z s.delay t j g) r e x

on_grant_brings : (s : Settings) (m n : Queue) (t : ℕ) (z : Report) (o : Option Grant) (r : Reply) → on_grant s m t z o ≡ Taken n r → BringsNone r
on_grant_brings s m n t z None r e x = cc
on_grant_brings s m n t z (Some g) r e x = on_both_brings s m n t z g (job_numbered g.job m) r e x

-- what is and isn't
pub not_both : (b : Bool) → b ≡ false → b ≡ true → ⊥
not_both true off on = cc
not_both false off on = cc

-- a job that was brought in is there
came_there : (s : Settings) (m n : Queue) (t : ℕ) (i : Import) (r : Reply) (x : ℕ) → Sound m → step s m t (Bring i) ≡ Taken n r → brings r x ≡ true → (j : Job) × IsJob n x j
came_there s m n t i (Brought number state) x sound e on =
    let it = came s m n t i number state sound e in
    (it.job, subst (λ (k : ℕ). IsJob n k it.job) (eqb-true number x on) it.there)
came_there s m n t i other x sound e on = absurd cc

-- what a step takes, the aged queue takes
taken_act : (s : Settings) (m n : Queue) (t : ℕ) (request : Ask) (r : Reply) → step s m t request ≡ Taken n r → (k : Queue) × (act s (aged t m) t request ≡ Taken k r)
taken_act s m n t request r e = let taken = stamped_taken t (aged t m) (act s (aged t m) t request) n r e in (taken.0, taken.1)

pub step_brings : (s : Settings) (m n : Queue) (t : ℕ) (request : Ask) (r : Reply) (x : ℕ) → Sound m → step s m t request ≡ Taken n r → brings r x ≡ true → (j : Job) × IsJob n x j
step_brings s m n t (Submission o) r x h e on =
    let taken = taken_act s m n t (Submission o) r e in
    absurd (not_both (brings r x) (submitted_brings (aged t m) taken.0 (s.rule o.dial) (submit o (s.rule o.dial) m.next_job s.max_jobs t) r taken.1 x) on)
step_brings s m n t (Bring i) r x h e on = came_there s m n t i r x h e on
step_brings s m n t (OnJob b a) r x h e on =
    let taken = taken_act s m n t (OnJob b a) r e in
    absurd (not_both (brings r x) (on_job_brings s (aged t m) taken.0 t a (job_numbered b (aged t m)) r taken.1 x) on)
step_brings s m n t (Mark modem down) r x h e on =
    let taken = taken_act s m n t (Mark modem down) r e in
    absurd (not_both (brings r x) (marked_brings (aged t m) taken.0 modem down (has_modem s modem) r taken.1 x) on)
step_brings s m n t (Next modem) r x h e on =
    let taken = taken_act s m n t (Next modem) r e in
    absurd (not_both (brings r x) (given_brings s (aged t m) taken.0 t modem r (given_is s (aged t m) t modem taken.0 r (aged_sound t m h) taken.1) x) on)
step_brings s m n t (OnGrant a z) r x h e on =
    let taken = taken_act s m n t (OnGrant a z) r e in
    absurd (not_both (brings r x) (on_grant_brings s (aged t m) taken.0 t z (grant_numbered a (aged t m)) r taken.1 x) on)
step_brings s m n t (GiveUp u) r x h e on =
    let taken = taken_act s m n t (GiveUp u) r e in
    absurd (not_both (brings r x) (ap (λ (q : Reply). brings q x) (sym (taken_same (aged t m) taken.0 _ r taken.1).1)) on)
step_brings s m n t (Purge before) r x h e on =
    let taken = taken_act s m n t (Purge before) r e in
    absurd (not_both (brings r x) (purged_brings (aged t m) taken.0 before (nat_lt t before) r taken.1 x) on)

-- a job has a number below the next
pub below_next : (m : Queue) (x : ℕ) (j : Job) → Sound m → IsJob m x j → x < m.next_job
below_next m x j sound is = by (leb m.next_job x) refl
  where
    by : (b : Bool) → leb m.next_job x ≡ b → x < m.next_job
    by true past = absurd (let none = absent (λ (z : Job). z.number) 0 m.next_job x m.jobs sound.jobs (leb-true m.next_job x past) in cc (none, is))
    by false low = leb-false m.next_job x low

-- so a job that is there isn't brought in
pub there_brings : (s : Settings) (m n : Queue) (t : ℕ) (request : Ask) (r : Reply) (x : ℕ) (j : Job) → Sound m → step s m t request ≡ Taken n r → IsJob m x j → brings r x ≡ false
there_brings s m n t request r x j sound e is = by r (step_numbers s m n t request r e)
  where
    by : (r : Reply) → NumbersAfter m n r → brings r x ≡ false
    by (Brought number state) (new, more, same) = let low = below_next m x j sound is in ne_eqb number x (λ q. omega (arith, low, q, new))
    by other numbers = refl
