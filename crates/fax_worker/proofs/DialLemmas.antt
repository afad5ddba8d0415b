-- No step of the queue changes the number that a job dials.
use Rattle.std.proofs.Common.{◌≡◌, ◌≢◌, inl, inr, ℕ, ◌+◌, Bool, true, false, cond, not, ◌&&◌, ◌||◌, eqb, leb, List, [], ◌∷◌, ◌++◌, length, Option, Some, None, refl, sym, ap, subst, ◌∙◌}
use Rattle.std.specs.Prelude.{Result, Ok, Err, find, is_none, is_some, nat_lt}
use Rattle.std.specs.Option.{option_map}
use Rattle.std.proofs.lemmas.Bool.{cases_eq, cond_both}
use Rattle.fax_job.specs.declared.alter.Alter.{Alter}
use Rattle.fax_job.specs.declared.job.Call.{Call}
use Rattle.fax_job.specs.declared.job.Call.TheVariants.{Connected, Busy, NoAnswer, NoCarrier, Other}
use Rattle.fax_job.specs.declared.job.Phase.{Phase}
use Rattle.fax_job.specs.declared.job.Phase.TheVariants as phase
use Rattle.fax_job.specs.declared.job.Wish.{Wish}
use Rattle.fax_job.specs.declared.job.Wish.TheVariants as wish
use Rattle.fax_job.specs.declared.refusal.Refusal.{Refusal}
use Rattle.fax_job.specs.declared.refusal.Refusal.TheVariants as refusal
use Rattle.fax_core.specs.declared.grants.Grant.{Grant}
use Rattle.fax_core.specs.declared.report.Ending.{Ending}
use Rattle.fax_core.specs.declared.report.Ending.TheVariants as ending
use Rattle.fax_core.specs.declared.report.Outcome.{Outcome}
use Rattle.fax_core.specs.declared.report.Report.{Report}
use Rattle.fax_core.specs.declared.report.Report.TheVariants as report
use Rattle.fax_core.specs.Ageing.{aged, aged_job, expires, is_past}
use Rattle.fax_core.specs.declared.ask.Ask.{Ask}
use Rattle.fax_core.specs.declared.ask.Ask.TheVariants.{Submission, Bring, OnJob, Mark, Next, OnGrant, GiveUp, Purge}
use Rattle.fax_core.specs.declared.ask.JobAsk.{JobAsk}
use Rattle.fax_core.specs.declared.ask.JobAsk.TheVariants as ask
use Rattle.fax_core.specs.Decisions.{JobAndGrant, after_call, alter_in, altered, ended, ended_by, grant_reported, granted, is_connected, is_done, is_empty, is_kill, job_asked, kill_in, page_of, resume_in, retried, submit, suspend_in}
use Rattle.fax_core.specs.Import.{bring}
use Rattle.fax_core.specs.Job.{Job}
use Rattle.fax_core.specs.Machine.{act, brought_in, changed, on_job, step, submitted, with_job, with_mark, with_new_job}
use Rattle.fax_core.specs.Purge.{is_none_of, leaving, without_jobs}
use Rattle.fax_core.specs.Queue.{Queue, grant_numbered, job_numbered}
use Rattle.fax_core.specs.Reply.{Marked, NoKeys, Purged, Reply, Taken, Refused}
use Rattle.fax_core.specs.Settings.{Rule, Settings, has_modem}
use Rattle.fax_core.specs.Sound.{IsJob, IsOpen, Sound}
use Rattle.fax_core.proofs.DecisionLemmas.{aged_number, asked_in, not_refused, ok_same, reported_in}
use Rattle.fax_core.proofs.GrantLemmas.{open_stays}
use Rattle.fax_core.proofs.LeaveLemmas.{job_after}
use Rattle.fax_core.proofs.KeepLemmas.{looked_up, numbered_job, same_job}
use Rattle.fax_core.proofs.PageLemmas.{Reported, on_grant_is}
use Rattle.fax_core.proofs.PlaceLemmas.{mapped, placed_here, placed_other, stays}
use Rattle.fax_core.proofs.StepLemmas.{Best_to, GivenTo, None_to, aged_sound, given_is, taken_same}
use Rattle.fax_core.proofs.TimesLemmas.{by_stamp}

-- ---- a job

abbrev Dials : Job → Job → Type 0
Dials j k = k.dial ≡ j.dial

pub aged_dial : (t : ℕ) (j : Job) → Dials j (aged_job t j)
aged_dial t j = cond_both (expires j.phase && is_past j.killtime t) _ j (Dials j) (λ e. refl) (λ e. refl)

suspend_dial : (p : Phase) (w : Wish) (j k : Job) → suspend_in p w j ≡ Ok k → Dials j k
suspend_dial phase.Held w j k e = subst (Dials j) (ok_same j k e) refl
suspend_dial phase.Waiting w j k e = subst (Dials j) (ok_same (record j { phase = phase.Held }) k e) refl
suspend_dial phase.Granted wish.Go j k e = subst (Dials j) (ok_same (record j { wish = wish.Hold }) k e) refl
suspend_dial phase.Granted wish.Hold j k e = subst (Dials j) (ok_same j k e) refl
suspend_dial phase.Granted wish.Kill j k e = cc
suspend_dial phase.Done w j k e = cc
suspend_dial phase.Failed w j k e = cc

resume_dial : (p : Phase) (w : Wish) (j k : Job) → resume_in p w j ≡ Ok k → Dials j k
resume_dial phase.Held w j k e = subst (Dials j) (ok_same (record j { phase = phase.Waiting }) k e) refl
resume_dial phase.Waiting w j k e = cc
resume_dial phase.Granted wish.Go j k e = cc
resume_dial phase.Granted wish.Hold j k e = subst (Dials j) (ok_same (record j { wish = wish.Go }) k e) refl
resume_dial phase.Granted wish.Kill j k e = cc
resume_dial phase.Done w j k e = cc
resume_dial phase.Failed w j k e = cc

kill_dial : (p : Phase) (j k : Job) → kill_in p j ≡ Ok k → Dials j k
kill_dial phase.Held j k e = subst (Dials j) (ok_same _ k e) refl
kill_dial phase.Waiting j k e = subst (Dials j) (ok_same _ k e) refl
kill_dial phase.Granted j k e = subst (Dials j) (ok_same (record j { wish = wish.Kill }) k e) refl
kill_dial phase.Done j k e = cc
kill_dial phase.Failed j k e = cc

alter_dial : (p : Phase) (a : Alter) (j k : Job) (t : ℕ) → alter_in p a j t ≡ Ok k → Dials j k
alter_dial phase.Held a j k t e =
    let new = altered a j t in
    let ok = not_refused (leb new.maxdials new.totdials || leb new.maxtries new.tottries) _ (Ok new) k e in
    subst (Dials j) (ok_same new k ok.1) refl
alter_dial phase.Waiting a j k t e = cc
alter_dial phase.Granted a j k t e = cc
alter_dial phase.Done a j k t e = cc
alter_dial phase.Failed a j k t e = cc

asked_dial : (a : JobAsk) (t : ℕ) (j k : Job) → job_asked a t j ≡ Ok k → Dials j k
asked_dial ask.Suspend t j k e = suspend_dial j.phase j.wish j k e
asked_dial ask.Resume t j k e = resume_dial j.phase j.wish j k e
asked_dial ask.Kill t j k e = kill_dial j.phase j k e
asked_dial (ask.Alter changes) t j k e = alter_dial j.phase changes j k t e

call_dial : (c : Call) (j : Job) → Dials j (after_call c j)
call_dial Connected j = refl
call_dial Busy j = refl
call_dial NoAnswer j = refl
call_dial NoCarrier j = refl
call_dial Other j = refl

retried_dial : (j : Job) (reason : List ℕ) (delay t : ℕ) → Dials j (retried j reason delay t)
retried_dial j reason delay t =
    cond_both (is_kill j.wish) _ _ (Dials j) (λ e. refl) (λ e.
    cond_both (is_past j.killtime t) _ _ (Dials j) (λ e. refl) (λ e.
    cond_both (leb j.maxdials j.totdials) _ _ (Dials j) (λ e. refl) (λ e.
    cond_both (leb j.maxtries j.tottries) _ _ (Dials j) (λ e. refl) (λ e.
    cond_both (leb 3 j.ntries) _ _ (Dials j) (λ e. refl) (λ e. refl)))))

ended_dial : (ps : List ℕ) (o : Outcome) (j : Job) (delay t : ℕ) → Dials j (ended ps o j delay t)
ended_dial [] o j delay t = refl
ended_dial (p ∷ rest) o j delay t = by o.ending
  where
    by : (e : Ending) → Dials j (ended_by e j o.reason delay t)
    by ending.Done = refl
    by ending.Fail = refl
    by ending.Retry = retried_dial j o.reason delay t

page_dial : (ps : List ℕ) (n : ℕ) (j : Job) (g : Grant) (b : JobAndGrant) → page_of ps n j g ≡ Ok b → Dials j b.job
page_dial [] n j g b e = cc
page_dial (p ∷ rest) n j g b e =
    let new : JobAndGrant = record { job = record j { sent = j.sent ++ p ∷ []; left = rest; ntries = 0 }; grant = record g { confirmed = g.confirmed + 1 } } in
    let q = not_refused (not (eqb p n)) _ (Ok new) b e in
    subst (λ (x : JobAndGrant). Dials j x.job) (ok_same new b q.1) refl

-- a report leaves it
pub report_dial : (x : Report) (delay : Option Call → ℕ) (t : ℕ) (j : Job) (g : Grant) (b : JobAndGrant) → grant_reported x delay t j g ≡ Ok b → Dials j b.job
report_dial (report.Call c) delay t j g b e =
    let new : JobAndGrant = record { job = after_call c j; grant = record g { call = Some c } } in
    let p = not_refused (not g.is_open) _ _ b e in
    let q = not_refused (is_some g.call) _ (Ok new) b p.1 in
    subst (λ (x : JobAndGrant). Dials j x.job) (ok_same new b q.1) (call_dial c j)
report_dial (report.Page n) delay t j g b e =
    let p = not_refused (not g.is_open) _ _ b e in
    let q = not_refused (not (is_connected g.call)) _ (page_of j.left n j g) b p.1 in
    page_dial j.left n j g b q.1
report_dial (report.Outcome o) delay t j g b e =
    let new : JobAndGrant = record { job = ended j.left o j (delay g.call) t; grant = record g { is_open = false } } in
    let p = not_refused (not g.is_open) _ _ b e in
    let q = not_refused (not o.dialed && is_some g.call) _ _ b p.1 in
    let r = not_refused (o.dialed && is_none g.call) _ _ b q.1 in
    let s = not_refused (not (eqb o.pages g.confirmed)) _ _ b r.1 in
    let u = not_refused (is_done o.ending && not (is_empty j.left)) _ (Ok new) b s.1 in
    subst (λ (x : JobAndGrant). Dials j x.job) (ok_same new b u.1) (ended_dial j.left o j (delay g.call) t)

-- ---- a queue

-- each job is there still, and dials the same number
abbrev AllDials : Queue → Queue → Type 0
AllDials m n = (x : ℕ) (j : Job) → IsJob m x j → (k : Job) × IsJob n x k × (k.dial ≡ j.dial)

same_dials : (m n : Queue) → n.jobs ≡ m.jobs → AllDials m n
same_dials m n same x j is = (j, subst (λ (js : List Job). find (λ (z : Job). eqb z.number x) js ≡ Some j) (sym same) is, refl)

-- a job in its place
placed_dials : (m : Queue) (b : ℕ) (j k : Job) → IsJob m b j → k.number ≡ b → k.dial ≡ j.dial → AllDials m (with_job k m)
placed_dials m b j k is same dial x y there = elim (cases_eq k.number x) [
  | inl here ↦
      let at : b ≡ x = sym same ∙ here in
      let it : y ≡ j = same_job m b y j (subst (λ (i : ℕ). IsJob m i y) (sym at) there) is in
      (k, placed_here (λ (z : Job). z.number) x k y m.jobs there here, dial ∙ ap (λ (z : Job). z.dial) (sym it))
  | inr other ↦ (y, placed_other (λ (z : Job). z.number) x k y m.jobs there other, refl)
]

changed_dials : (s : Settings) (m n : Queue) (t b : ℕ) (a : JobAsk) (j : Job) (d : Result Job Refusal) (r : Reply) → IsJob m b j → job_asked a t j ≡ d → changed s m t d ≡ Taken n r → AllDials m n
changed_dials s m n t b a j (Ok k) r is e taken =
    subst (AllDials m) (taken_same (with_job k m) n _ r taken).0 (placed_dials m b j k is ((asked_in a t j k e).number ∙ numbered_job m b j is) (asked_dial a t j k e))
changed_dials s m n t b a j (Err x) r is e taken = cc

on_job_dials : (s : Settings) (m n : Queue) (t b : ℕ) (a : JobAsk) (o : Option Job) (r : Reply) → job_numbered b m ≡ o → on_job s m t a o ≡ Taken n r → AllDials m n
on_job_dials s m n t b a None r is taken = cc
on_job_dials s m n t b a (Some j) r is taken = changed_dials s m n t b a j (job_asked a t j) r is refl taken

new_dials : (m : Queue) (k : Job) → AllDials m (with_new_job k m)
new_dials m k x j is = (j, stays (λ (z : Job). eqb z.number x) m.jobs k j is, refl)

submission_dials : (m n : Queue) (rule : Rule) (d : Result Job Refusal) (r : Reply) → submitted m rule d ≡ Taken n r → AllDials m n
submission_dials m n rule (Ok k) r e = subst (AllDials m) (taken_same (with_new_job k m) n _ r e).0 (new_dials m k)
submission_dials m n rule (Err x) r e = cc

import_dials : (s : Settings) (m n : Queue) (t : ℕ) (rule : Rule) (d : Result Job Refusal) (r : Reply) → brought_in s m t rule d ≡ Taken n r → AllDials m n
import_dials s m n t rule (Ok k) r e = subst (AllDials m) (taken_same (with_new_job k m) n _ r e).0 (new_dials m k)
import_dials s m n t rule (Err x) r e = cc

mark_jobs : (m : Queue) (modem : List ℕ) (down : Bool) → (with_mark modem down m).jobs ≡ m.jobs
mark_jobs m modem true = refl
mark_jobs m modem false = refl

marked_dials : (m n : Queue) (modem : List ℕ) (down b : Bool) (r : Reply) → cond b (Taken (with_mark modem down m) (Marked down)) (Refused refusal.NoModem NoKeys) ≡ Taken n r → AllDials m n
marked_dials m n modem down true r e = same_dials m n (ap (λ (q : Queue). q.jobs) (sym (taken_same (with_mark modem down m) n _ r e).0) ∙ mark_jobs m modem down)
marked_dials m n modem down false r e = cc

given_dials : (s : Settings) (m n : Queue) (t : ℕ) (modem : List ℕ) (r : Reply) → GivenTo s m t modem n r → AllDials m n
given_dials s m n t modem r (None_to none same sent) = same_dials m n (ap (λ (q : Queue). q.jobs) (sym same))
given_dials s m n t modem r (Best_to j best none same sent) = subst (AllDials m) same (placed_dials m j.number j (granted j modem m.next_grant).job best.goes.there refl refl)

report_dials : (s : Settings) (m n : Queue) (t a : ℕ) (z : Report) → Reported s m n t a z → AllDials m n
report_dials s m n t a z it =
    let f = reported_in z s.delay t it.job it.grant it.both it.made in
    subst (AllDials m) it.left
    (placed_dials m it.grant.job it.job it.both.job it.of (f.number ∙ numbered_job m it.grant.job it.job it.of) (report_dial z s.delay t it.job it.grant it.both it.made))

all_dials : (s : Settings) (m n : Queue) (t : ℕ) (request : Ask) (r : Reply) → Sound m → ((before : ℕ) → request ≢ Purge before) → act s m t request ≡ Taken n r → AllDials m n
all_dials s m n t (Submission o) r h other e = submission_dials m n (s.rule o.dial) (submit o (s.rule o.dial) m.next_job s.max_jobs t) r e
all_dials s m n t (Bring i) r h other e = import_dials s m n t (s.rule i.order.dial) (bring i (s.rule i.order.dial) m.next_job s.max_jobs t) r e
all_dials s m n t (OnJob b a) r h other e = on_job_dials s m n t b a (job_numbered b m) r refl e
all_dials s m n t (Mark modem down) r h other e = marked_dials m n modem down (has_modem s modem) r e
all_dials s m n t (Next modem) r h other e = given_dials s m n t modem r (given_is s m t modem n r h e)
all_dials s m n t (OnGrant a z) r h other e = report_dials s m n t a z (on_grant_is s m t a z (grant_numbered a m) n r refl e)
all_dials s m n t (GiveUp u) r h other e = same_dials m n (ap (λ (q : Queue). q.jobs) (sym (taken_same m n _ r e).0))
all_dials s m n t (Purge before) r h other e = absurd (other before refl)

-- each job that has an open grant is there still, and dials the same number
abbrev pub KeepsDials : Queue → Queue → Type 0
KeepsDials m n = (x : ℕ) (j : Job) → IsJob m x j → (a : ℕ) (g : Grant) → IsOpen m a g → g.job ≡ x → (k : Job) × IsJob n x k × (k.dial ≡ j.dial)

-- a purge leaves the jobs with open grants
purged_dials : (m n : Queue) (before : ℕ) (b : Bool) (r : Reply) → Sound m → cond b (Refused refusal.PurgeHigh NoKeys) (Taken (without_jobs (leaving before m) m) (Purged (length (leaving before m)))) ≡ Taken n r → KeepsDials m n
purged_dials m n before true r h e = cc
purged_dials m n before false r h e =
    subst (KeepsDials m) (taken_same (without_jobs (leaving before m) m) n _ r e).0 (λ x j is a g o its.
    let there = ap (is_none_of (leaving before m)) (numbered_job m x j is ∙ sym its) ∙ open_stays m before a g h o in
    (j, job_after m (leaving before m) h x j is there, refl))

none_leave : (m n : Queue) → AllDials m n → KeepsDials m n
none_leave m n h x j is a g o its = h x j is

act_dials : (s : Settings) (m n : Queue) (t : ℕ) (request : Ask) (r : Reply) → Sound m → act s m t request ≡ Taken n r → KeepsDials m n
act_dials s m n t (Submission o) r h e = none_leave m n (all_dials s m n t (Submission o) r h (λ before is. cc) e)
act_dials s m n t (Bring i) r h e = none_leave m n (all_dials s m n t (Bring i) r h (λ before is. cc) e)
act_dials s m n t (OnJob b a) r h e = none_leave m n (all_dials s m n t (OnJob b a) r h (λ before is. cc) e)
act_dials s m n t (Mark modem down) r h e = none_leave m n (all_dials s m n t (Mark modem down) r h (λ before is. cc) e)
act_dials s m n t (Next modem) r h e = none_leave m n (all_dials s m n t (Next modem) r h (λ before is. cc) e)
act_dials s m n t (OnGrant a z) r h e = none_leave m n (all_dials s m n t (OnGrant a z) r h (λ before is. cc) e)
act_dials s m n t (GiveUp u) r h e = none_leave m n (all_dials s m n t (GiveUp u) r h (λ before is. cc) e)
act_dials s m n t (Purge before) r h e = purged_dials m n before (nat_lt t before) r h e

-- a job of the aged queue
pub aged_there : (t : ℕ) (m : Queue) (x : ℕ) (j : Job) → IsJob m x j → IsJob (aged t m) x (aged_job t j)
aged_there t m x j is = looked_up m (aged_job t) (aged_number t) x ∙ ap (option_map (aged_job t)) is

-- a job of the aged queue was there before
pub unaged_there : (t : ℕ) (m : Queue) (x : ℕ) (j : Job) → IsJob (aged t m) x j → (i : Job) × IsJob m x i × (i.dial ≡ j.dial)
unaged_there t m x j is =
    let old = mapped (aged_job t) (job_numbered x m) j (sym (looked_up m (aged_job t) (aged_number t) x) ∙ is) in
    (old.0, old.1, sym (aged_dial t old.0) ∙ ap (λ (z : Job). z.dial) old.2)

-- so it is with each step
pub step_dials : (s : Settings) (m n : Queue) (t : ℕ) (request : Ask) (r : Reply) → Sound m → step s m t request ≡ Taken n r → KeepsDials m n
step_dials s m n t request r h e = by_stamp (KeepsDials m) t (aged t m) (act s (aged t m) t request) n r e (λ k taken x j is a g o its.
    let on = act_dials s (aged t m) k t request r (aged_sound t m h) taken x (aged_job t j) (aged_there t m x j is) a g o its in
    (on.0, on.1, on.2 ∙ aged_dial t j))
