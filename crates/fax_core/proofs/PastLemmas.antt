-- No times of a job are yet to come.
use Rattle.std.proofs.Common.{◌≡◌, ℕ, ◌≤◌, Bool, true, false, cond, not, List, [], ◌∷◌, ◌++◌, length, map, refl, sym, subst, arith, nat_lt}
use Rattle.std.specs.Prelude.{Option, Some, None, Result, Ok, Err, filter, max}
use Rattle.fax_job.specs.declared.refusal.Refusal.{Refusal}
use Rattle.fax_job.specs.declared.refusal.Refusal.TheVariants as refusal
use Rattle.fax_core.specs.declared.grants.Grant.{Grant}
use Rattle.fax_core.specs.Ageing.{aged, aged_job}
use Rattle.fax_core.specs.declared.ask.Ask.{Ask}
use Rattle.fax_core.specs.declared.ask.Ask.TheVariants.{Submission, Bring, OnJob, Mark, Next, OnGrant, GiveUp, Purge}
use Rattle.fax_core.specs.declared.ask.JobAsk.{JobAsk}
use Rattle.fax_core.specs.declared.report.Report.{Report}
use Rattle.fax_core.specs.Best.{best}
use Rattle.fax_core.specs.Decisions.{JobAndGrant, submit, job_asked, grant, grant_reported}
use Rattle.fax_core.specs.Import.{bring}
use Rattle.fax_core.specs.Job.{Job}
use Rattle.fax_core.specs.Laws.{ArePast, RunsKeepTimesPast, StepsKeepTimesPast}
use Rattle.fax_core.specs.Machine.{with_mark, is_down, held_by, submitted, brought_in, changed, on_job, reported, on_both, on_grant, given, given_best, given_free, report_reply, act, step}
use Rattle.fax_core.specs.Purge.{is_none_of, leaving, without_jobs}
use Rattle.fax_core.specs.Queue.{Queue, job_numbered, grant_numbered}
use Rattle.fax_core.specs.Reply.{Reply, Marked, NoKeys, Purged, Step, Taken, Refused}
use Rattle.fax_core.specs.Run.{left_by, decided}
use Rattle.fax_core.specs.Settings.{Rule, Settings, has_modem}
use Rattle.fax_core.specs.Stamp.{came, end_of, ends, new_jobs, stamp}
use Rattle.fax_core.specs.Times.{has_ended}
use Rattle.fax_core.specs.declared.times.Times.{Times}
use Rattle.fax_core.proofs.ClockLemmas.{step_clock}
use Rattle.fax_core.proofs.TimesLemmas.{by_stamp}

-- ---- lists of times

-- what was past is past later
past_later : (u t : ℕ) (xs : List Times) → u ≤ t → ArePast u xs → ArePast t xs
past_later u t [] h past = tt
past_later u t (x ∷ xs) h past = ((omega (arith, h, past.0.0), omega (arith, h, past.0.1)), past_later u t xs h past.1)

-- so it is of some of them
past_left : (t : ℕ) (p : Times → Bool) (xs : List Times) → ArePast t xs → ArePast t (filter p xs)
past_left t p [] past = tt
past_left t p (x ∷ xs) past = one_left (p x) (past_left t p xs past.1)
  where
    one_left : (b : Bool) → ArePast t (filter p xs) → ArePast t (cond b (x ∷ filter p xs) (filter p xs))
    one_left true rest = (past.0, rest)
    one_left false rest = rest

-- of both
past_both : (t : ℕ) (xs ys : List Times) → ArePast t xs → ArePast t ys → ArePast t (xs ++ ys)
past_both t [] ys past also = also
past_both t (x ∷ xs) ys past also = (past.0, past_both t xs ys past.1 also)

-- of those that end at t
past_ends : (t : ℕ) (m n : Queue) (xs : List Times) → ArePast t xs → ArePast t (map (end_of t m n) xs)
past_ends t m n [] past = tt
past_ends t m n (x ∷ xs) past = (one (ends (job_numbered x.job m) (job_numbered x.job n)) past.0, past_ends t m n xs past.1)
  where
    one : (b : Bool) → (x.submitted ≤ t) × (x.ended ≤ t) → ((cond b (record x { ended = t }) x).submitted ≤ t) × ((cond b (record x { ended = t }) x).ended ≤ t)
    one true h = (h.0, omega arith)
    one false h = h

-- and of those that come in
past_came : (t : ℕ) (js : List Job) → ArePast t (map (came t) js)
past_came t [] = tt
past_came t (j ∷ js) = ((omega arith, end_by (has_ended j.phase)), past_came t js)
  where
    end_by : (b : Bool) → cond b t 0 ≤ t
    end_by true = omega arith
    end_by false = omega arith

-- so it is of the times of a change at t
past_stamp : (t : ℕ) (m n : Queue) → ArePast t n.times → ArePast t (stamp t m n).times
past_stamp t m n past = past_both t (map (end_of t m n) n.times) (map (came t) (new_jobs m n)) (past_ends t m n n.times past) (past_came t (new_jobs m n))

-- ---- each request

-- what a step leaves is past, where what it found was
abbrev PastLeft : Queue → Step → Type 0
PastLeft m x = (t : ℕ) → ArePast t m.times → ArePast t (left_by m x).times

same_past : (m : Queue) (t : ℕ) → ArePast t m.times → ArePast t m.times
same_past m t past = past

submitted_past : (m : Queue) (rule : Rule) (d : Result Job Refusal) → PastLeft m (submitted m rule d)
submitted_past m rule (Ok j) = same_past m
submitted_past m rule (Err e) = same_past m

import_past : (s : Settings) (m : Queue) (t : ℕ) (rule : Rule) (d : Result Job Refusal) → PastLeft m (brought_in s m t rule d)
import_past s m t rule (Ok j) = same_past m
import_past s m t rule (Err e) = same_past m

changed_past : (s : Settings) (m : Queue) (t : ℕ) (d : Result Job Refusal) → PastLeft m (changed s m t d)
changed_past s m t (Ok j) = same_past m
changed_past s m t (Err e) = same_past m

on_job_past : (s : Settings) (m : Queue) (t : ℕ) (ask : JobAsk) (o : Option Job) → PastLeft m (on_job s m t ask o)
on_job_past s m t ask None = same_past m
on_job_past s m t ask (Some j) = changed_past s m t (job_asked ask t j)

reported_past : (m : Queue) (reply : Queue → JobAndGrant → Reply) (j : Job) (d : Result JobAndGrant Refusal) → PastLeft m (reported m reply j d)
reported_past m reply j (Ok b) = same_past m
reported_past m reply j (Err e) = same_past m

on_both_past : (s : Settings) (m : Queue) (t : ℕ) (report : Report) (g : Grant) (o : Option Job) → PastLeft m (on_both s m t report g o)
on_both_past s m t report g None = same_past m
on_both_past s m t report g (Some j) = reported_past m (report_reply s t report) j (grant_reported report s.delay t j g)

on_grant_past : (s : Settings) (m : Queue) (t : ℕ) (report : Report) (o : Option Grant) → PastLeft m (on_grant s m t report o)
on_grant_past s m t report None = same_past m
on_grant_past s m t report (Some g) = on_both_past s m t report g (job_numbered g.job m)

mark_past : (m : Queue) (modem : List ℕ) (down b : Bool) → PastLeft m (cond b (Taken (with_mark modem down m) (Marked down)) (Refused refusal.NoModem NoKeys))
mark_past m modem true true = same_past m
mark_past m modem true false = same_past m
mark_past m modem false true = same_past m
mark_past m modem false false = same_past m

given_past : (m : Queue) (d : Result JobAndGrant Refusal) → PastLeft m (given m d)
given_past m (Ok b) = same_past m
given_past m (Err e) = same_past m

best_past : (s : Settings) (m : Queue) (modem : List ℕ) (o : Option Job) → PastLeft m (given_best s m modem o)
best_past s m modem None = same_past m
best_past s m modem (Some j) = given_past m (grant j modem m.next_grant s.max_grants)

free_past : (s : Settings) (m : Queue) (t : ℕ) (modem : List ℕ) (o : Option Grant) → PastLeft m (given_free s m t modem o)
free_past s m t modem (Some g) = same_past m
free_past s m t modem None = best_past s m modem (best s m t modem)

next_past : (s : Settings) (m : Queue) (t : ℕ) (modem : List ℕ) (b c : Bool)
    → PastLeft m (cond b (Refused refusal.NoModem NoKeys) (cond c (Refused refusal.ModemDown NoKeys) (given_free s m t modem (held_by modem m))))
next_past s m t modem true c = same_past m
next_past s m t modem false true = same_past m
next_past s m t modem false false = free_past s m t modem (held_by modem m)

purge_past : (m : Queue) (before : ℕ) (b : Bool) → PastLeft m (cond b (Refused refusal.PurgeHigh NoKeys) (Taken (without_jobs (leaving before m) m) (Purged (length (leaving before m)))))
purge_past m before true = same_past m
purge_past m before false = λ t past. past_left t (λ (x : Times). is_none_of (leaving before m) x.job) m.times past

act_past : (s : Settings) (m : Queue) (t : ℕ) (ask : Ask) → PastLeft m (act s m t ask)
act_past s m t (Submission o) = submitted_past m (s.rule o.dial) (submit o (s.rule o.dial) m.next_job s.max_jobs t)
act_past s m t (Bring i) = import_past s m t (s.rule i.order.dial) (bring i (s.rule i.order.dial) m.next_job s.max_jobs t)
act_past s m t (OnJob n ask) = on_job_past s m t ask (job_numbered n m)
act_past s m t (Mark modem down) = mark_past m modem down (has_modem s modem)
act_past s m t (Next modem) = next_past s m t modem (not (has_modem s modem)) (is_down modem m)
act_past s m t (OnGrant n report) = on_grant_past s m t report (grant_numbered n m)
act_past s m t (GiveUp floor) = same_past m
act_past s m t (Purge before) = purge_past m before (nat_lt t before)

-- ---- steps and runs

-- so a step at t leaves no times after t
step_past : (s : Settings) (m n : Queue) (t : ℕ) (ask : Ask) (r : Reply) → ArePast t m.times → step s m t ask ≡ Taken n r → ArePast t n.times
step_past s m n t ask r past e =
    by_stamp (λ n. ArePast t n.times) t (aged t m) (act s (aged t m) t ask) n r e (λ k is.
    let before = past_stamp t m (record m { jobs = map (aged_job t) m.jobs; clock = t }) past in
    let after = subst (λ (x : Step). ArePast t (left_by (aged t m) x).times) is (act_past s (aged t m) t ask t before) in
    past_stamp t (aged t m) k after)

pub steps_keep_times_past : StepsKeepTimesPast
steps_keep_times_past s m n t ask reply later past e =
    subst (λ (u : ℕ). ArePast u n.times) (sym (step_clock s m n t ask reply e)) (step_past s m n t ask reply (past_later m.clock t m.times later past) e)

-- whether a step is taken or refused
left_past : (m : Queue) (x : Step) → ArePast m.clock m.times → ((n : Queue) (r : Reply) → x ≡ Taken n r → ArePast n.clock n.times) → ArePast (left_by m x).clock (left_by m x).times
left_past m (Taken n r) past taken = taken n r refl
left_past m (Refused e k) past taken = past

pub runs_keep_times_past : RunsKeepTimesPast
runs_keep_times_past s m [] past = past
runs_keep_times_past s m (r ∷ rs) past =
    let t = max m.clock r.moment in
    runs_keep_times_past s (left_by m (decided s m r)) rs
    (left_past m (decided s m r) past (λ n q e. steps_keep_times_past s m n t r.ask q (omega arith) past e))
