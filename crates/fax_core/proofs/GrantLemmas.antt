-- A job that isn't over loses no grant.
use Rattle.std.proofs.Common.{◌≡◌, ℕ, Bool, true, false, cond, eqb, not, List, length, refl, sym, ap, subst, ◌∙◌, nat_lt}
use Rattle.std.specs.Prelude.{Option, Some, None, Result, Ok, Err}
use Rattle.std.specs.Option.{option_map}
use Rattle.std.proofs.lemmas.Bool.{and_parts, eqb-true, true≢false}
use Rattle.fax_job.specs.declared.refusal.Refusal.{Refusal}
use Rattle.fax_job.specs.declared.refusal.Refusal.TheVariants as refusal
use Rattle.fax_core.specs.declared.grants.Grant.{Grant}
use Rattle.fax_core.specs.Ageing.{aged}
use Rattle.fax_core.specs.declared.ask.Ask.{Ask}
use Rattle.fax_core.specs.declared.ask.Ask.TheVariants.{Submission, Bring, OnJob, Mark, Next, OnGrant, GiveUp, Purge}
use Rattle.fax_core.specs.declared.ask.JobAsk.{JobAsk}
use Rattle.fax_core.specs.declared.report.Report.{Report}
use Rattle.fax_core.specs.Best.{best}
use Rattle.fax_core.specs.Decisions.{JobAndGrant, submit, job_asked, grant, grant_reported}
use Rattle.fax_core.specs.Import.{bring}
use Rattle.fax_core.specs.Job.{Job}
use Rattle.fax_core.specs.Laws.{GrantsStay}
use Rattle.fax_core.specs.Machine.{with_mark, is_down, held_by, submitted, brought_in, changed, on_job, reported, on_both, on_grant, given, given_best, given_free, report_reply, act, stamped}
use Rattle.fax_core.specs.Purge.{is_none_of, leaving, without_jobs}
use Rattle.fax_core.specs.Queue.{Queue, job_numbered, grant_numbered}
use Rattle.fax_core.specs.Reply.{Reply, Marked, NoKeys, Purged, Step, Taken, Refused}
use Rattle.fax_core.specs.Run.{left_by}
use Rattle.fax_core.specs.Settings.{Rule, Settings, has_modem}
use Rattle.fax_core.specs.Sound.{FitsGrant, IsJob, IsOpen, Sound}
use Rattle.fax_core.specs.Times.{has_ended}
use Rattle.fax_core.proofs.DecisionLemmas.{IsReport, reported_in}
use Rattle.fax_core.proofs.KeepLemmas.{grant_number, numbered_job, numbered_grant, same_job}
use Rattle.fax_core.proofs.LeaveLemmas.{found_after}
use Rattle.fax_core.proofs.PlaceLemmas.{find_placed, in_place, stays}
use Rattle.fax_core.proofs.PurgeLemmas.{leaver}
use Rattle.fax_core.proofs.StepLemmas.{aged_sound}

-- the grant of a number is there, and of the same job
abbrev HasGrant : Queue → ℕ → ℕ → Type 0
HasGrant n a job = (x : Grant) × (grant_numbered a n ≡ Some x) × (x.job ≡ job)

-- the grants of jobs that aren't over stay
abbrev GrantsLeft : Queue → Step → Type 0
GrantsLeft m x = (a : ℕ) (g : Grant) (j : Job) → grant_numbered a m ≡ Some g → IsJob m g.job j → has_ended j.phase ≡ false → HasGrant (left_by m x) a g.job

-- where the grants stay as they are
same_grants : (m : Queue) (a : ℕ) (g : Grant) (j : Job) → grant_numbered a m ≡ Some g → IsJob m g.job j → has_ended j.phase ≡ false → HasGrant m a g.job
same_grants m a g j is of alive = (g, is, refl)

submitted_grants : (m : Queue) (rule : Rule) (d : Result Job Refusal) → GrantsLeft m (submitted m rule d)
submitted_grants m rule (Ok j) a g k is of alive = (g, is, refl)
submitted_grants m rule (Err x) a g k is of alive = (g, is, refl)

import_grants : (s : Settings) (m : Queue) (t : ℕ) (rule : Rule) (d : Result Job Refusal) → GrantsLeft m (brought_in s m t rule d)
import_grants s m t rule (Ok j) a g k is of alive = (g, is, refl)
import_grants s m t rule (Err x) a g k is of alive = (g, is, refl)

changed_grants : (s : Settings) (m : Queue) (t : ℕ) (d : Result Job Refusal) → GrantsLeft m (changed s m t d)
changed_grants s m t (Ok j) a g k is of alive = (g, is, refl)
changed_grants s m t (Err x) a g k is of alive = (g, is, refl)

on_job_grants : (s : Settings) (m : Queue) (t : ℕ) (ask : JobAsk) (o : Option Job) → GrantsLeft m (on_job s m t ask o)
on_job_grants s m t ask None = same_grants m
on_job_grants s m t ask (Some j) = changed_grants s m t (job_asked ask t j)

-- where a grant is put in its own place, one of another number or itself stands there
placed_grant : (a b : ℕ) (x g : Grant) (same : Bool) → eqb g.number x.number ≡ same → g.number ≡ a → x.number ≡ b → (a ≡ b → x.job ≡ g.job) → (cond same x g).job ≡ g.job
placed_grant a b x g true e here there job = job (sym here ∙ eqb-true g.number x.number e ∙ there)
placed_grant a b x g false e here there job = refl

reported_grants : (m : Queue) (reply : Queue → JobAndGrant → Reply) (b : ℕ) (old : Grant) (j : Job) (d : Result JobAndGrant Refusal) → grant_numbered b m ≡ Some old → IsJob m old.job j
    → ((x : JobAndGrant) → d ≡ Ok x → IsReport j old x) → Sound m → GrantsLeft m (reported m reply j d)
reported_grants m reply b old j (Ok x) was of report h a g k is its alive =
    let f = report x refl in
    let held = h.held b old (was, f.was_open) in
    let fits : FitsGrant j old = subst (λ (y : Job). FitsGrant y old) (same_job m old.job held.0 j held.1 of) held.2 in
    let r = f.reports fits in
    let number : x.grant.number ≡ b = r.grant_number ∙ numbered_grant m b old was in
    let job : a ≡ b → x.grant.job ≡ g.job = λ q. r.job ∙ ap (λ (y : Grant). y.job) (one_grant old g (sym was ∙ ap (λ (i : ℕ). grant_numbered i m) (sym q) ∙ is)) in (
      in_place grant_number x.grant g,
      find_placed grant_number a x.grant m.grants ∙ ap (option_map (in_place grant_number x.grant)) is,
      placed_grant a b x.grant g (eqb g.number x.grant.number) refl (numbered_grant m a g is) number job,
    )
  where
    one_grant : (y z : Grant) → Some y ≡ Some z → y ≡ z
    one_grant y z e = cc
reported_grants m reply b old j (Err x) was of report h a g k is its alive = (g, is, refl)

on_both_grants : (s : Settings) (m : Queue) (t b : ℕ) (report : Report) (old : Grant) (o : Option Job) → grant_numbered b m ≡ Some old → job_numbered old.job m ≡ o → Sound m → GrantsLeft m (on_both s m t report old o)
on_both_grants s m t b report old None was of h = same_grants m
on_both_grants s m t b report old (Some j) was of h = reported_grants m (report_reply s t report) b old j (grant_reported report s.delay t j old) was of (reported_in report s.delay t j old) h

on_grant_grants : (s : Settings) (m : Queue) (t b : ℕ) (report : Report) (o : Option Grant) → grant_numbered b m ≡ o → Sound m → GrantsLeft m (on_grant s m t report o)
on_grant_grants s m t b report None was h = same_grants m
on_grant_grants s m t b report (Some old) was h = on_both_grants s m t b report old (job_numbered old.job m) was refl h

mark_grants : (m : Queue) (modem : List ℕ) (down b : Bool) → GrantsLeft m (cond b (Taken (with_mark modem down m) (Marked down)) (Refused refusal.NoModem NoKeys))
mark_grants m modem true true = same_grants m
mark_grants m modem true false = same_grants m
mark_grants m modem false true = same_grants m
mark_grants m modem false false = same_grants m

given_grants : (m : Queue) (d : Result JobAndGrant Refusal) → GrantsLeft m (given m d)
given_grants m (Ok b) a g k is of alive = (g, stays (λ (x : Grant). eqb x.number a) m.grants b.grant g is, refl)
given_grants m (Err x) a g k is of alive = (g, is, refl)

best_grants : (s : Settings) (m : Queue) (modem : List ℕ) (o : Option Job) → GrantsLeft m (given_best s m modem o)
best_grants s m modem None = same_grants m
best_grants s m modem (Some j) = given_grants m (grant j modem m.next_grant s.max_grants)

free_grants : (s : Settings) (m : Queue) (t : ℕ) (modem : List ℕ) (o : Option Grant) → GrantsLeft m (given_free s m t modem o)
free_grants s m t modem (Some g) = same_grants m
free_grants s m t modem None = best_grants s m modem (best s m t modem)

next_grants : (s : Settings) (m : Queue) (t : ℕ) (modem : List ℕ) (b c : Bool)
    → GrantsLeft m (cond b (Refused refusal.NoModem NoKeys) (cond c (Refused refusal.ModemDown NoKeys) (given_free s m t modem (held_by modem m))))
next_grants s m t modem true c = same_grants m
next_grants s m t modem false true = same_grants m
next_grants s m t modem false false = free_grants s m t modem (held_by modem m)

-- a job that isn't over isn't among those that leave
alive_stays : (m : Queue) (before n : ℕ) (j : Job) → Sound m → IsJob m n j → has_ended j.phase ≡ false → (stays : Bool) → is_none_of (leaving before m) j.number ≡ stays → is_none_of (leaving before m) j.number ≡ true
alive_stays m before n j h is alive true e = e
alive_stays m before n j h is alive false e = absurd (true≢false (sym (and_parts (has_ended j.phase) _ (leaver m before n j h is e)).0 ∙ alive))

-- nor is the job of an open grant
pub open_stays : (m : Queue) (before a : ℕ) (g : Grant) → Sound m → IsOpen m a g → is_none_of (leaving before m) g.job ≡ true
open_stays m before a g h o =
    let held = h.held a g o in
    let alive : has_ended held.0.phase ≡ false = ap has_ended held.2.phase in
    let number = numbered_job m g.job held.0 held.1 in
    ap (is_none_of (leaving before m)) (sym number) ∙ alive_stays m before g.job held.0 h held.1 alive (is_none_of (leaving before m) held.0.number) refl

purge_grants : (m : Queue) (before : ℕ) (b : Bool) → Sound m → GrantsLeft m (cond b (Refused refusal.PurgeHigh NoKeys) (Taken (without_jobs (leaving before m) m) (Purged (length (leaving before m)))))
purge_grants m before true h a g k is of alive = (g, is, refl)
purge_grants m before false h a g k is of alive =
    let there = alive_stays m before g.job k h of alive (is_none_of (leaving before m) k.number) refl in
    let its : is_none_of (leaving before m) g.job ≡ true = ap (is_none_of (leaving before m)) (sym (numbered_job m g.job k of)) ∙ there in
    (g, found_after grant_number (λ (x : Grant). is_none_of (leaving before m) x.job) m.next_grant a m.grants g h.grants is its, refl)

act_grants : (s : Settings) (m : Queue) (t : ℕ) (ask : Ask) → Sound m → GrantsLeft m (act s m t ask)
act_grants s m t (Submission o) h = submitted_grants m (s.rule o.dial) (submit o (s.rule o.dial) m.next_job s.max_jobs t)
act_grants s m t (Bring i) h = import_grants s m t (s.rule i.order.dial) (bring i (s.rule i.order.dial) m.next_job s.max_jobs t)
act_grants s m t (OnJob n ask) h = on_job_grants s m t ask (job_numbered n m)
act_grants s m t (Mark modem down) h = mark_grants m modem down (has_modem s modem)
act_grants s m t (Next modem) h = next_grants s m t modem (not (has_modem s modem)) (is_down modem m)
act_grants s m t (OnGrant n report) h = on_grant_grants s m t n report (grant_numbered n m) refl h
act_grants s m t (GiveUp floor) h = same_grants m
act_grants s m t (Purge before) h = purge_grants m before (nat_lt t before) h

-- the times of jobs are no grants
stamped_grants : (t : ℕ) (m : Queue) (d : Step) → GrantsLeft m d → GrantsLeft m (stamped t m d)
stamped_grants t m (Taken n r) left a g j is of alive = left a g j is of alive
stamped_grants t m (Refused e k) left a g j is of alive = (g, is, refl)

pub grants_stay : GrantsStay
grants_stay s m n t ask reply a g j h e is of alive =
    let left = stamped_grants t (aged t m) (act s (aged t m) t ask) (act_grants s (aged t m) t ask (aged_sound t m h)) a g j is of alive in
    subst (λ (x : Step). HasGrant (left_by (aged t m) x) a g.job) e left
