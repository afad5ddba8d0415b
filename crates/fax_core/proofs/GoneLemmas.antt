-- A number whose job has left gets no job again.
use Rattle.std.proofs.Common.{◌≡◌, ℕ, ◌<◌, Bool, true, false, cond, eqb, not, List, [], ◌∷◌, length, refl, ap, subst, ◌∙◌, arith, nat_lt}
use Rattle.std.specs.Prelude.{Option, Some, None, Result, Ok, Err, find}
use Rattle.std.specs.Option.{option_map, option_or}
use Rattle.std.proofs.lemmas.Bool.{ne_eqb}
use Rattle.std.proofs.lemmas.List.Folds.{find-append}
use Rattle.fax_job.specs.declared.refusal.Refusal.{Refusal}
use Rattle.fax_job.specs.declared.refusal.Refusal.TheVariants as refusal
use Rattle.fax_core.specs.declared.grants.Grant.{Grant}
use Rattle.fax_core.specs.Ageing.{aged, aged_job}
use Rattle.fax_core.specs.declared.ask.Ask.{Ask}
use Rattle.fax_core.specs.declared.ask.Ask.TheVariants.{Submission, Bring, OnJob, Mark, Next, OnGrant, GiveUp, Purge}
use Rattle.fax_core.specs.declared.ask.JobAsk.{JobAsk}
use Rattle.fax_core.specs.declared.report.Report.{Report}
use Rattle.fax_core.specs.Best.{best}
use Rattle.fax_core.specs.Clock.{decided_at}
use Rattle.fax_core.specs.Decisions.{JobAndGrant, submit, job_asked, grant, grant_reported}
use Rattle.fax_core.specs.Import.{bring}
use Rattle.fax_core.specs.Job.{Job}
use Rattle.fax_core.specs.Laws.{IsGone}
use Rattle.fax_core.specs.Machine.{with_job, with_new_job, with_mark, is_down, held_by, submitted, brought_in, changed, on_job, reported, on_both, on_grant, given, given_best, given_free, report_reply, act, stamped, step}
use Rattle.fax_core.specs.Purge.{is_none_of, leaving, without_jobs}
use Rattle.fax_core.specs.Queue.{Queue, job_numbered, grant_numbered}
use Rattle.fax_core.specs.Reply.{Reply, Marked, NoKeys, Purged, Step, Taken, Refused}
use Rattle.fax_core.specs.Run.{Request, left_by, decided, queue_after}
use Rattle.fax_core.specs.Settings.{Rule, Settings, has_modem}
use Rattle.fax_core.proofs.DecisionLemmas.{aged_number}
use Rattle.fax_core.proofs.ImportLemmas.{bring_counts}
use Rattle.fax_core.proofs.KeepLemmas.{job_number, looked_up}
use Rattle.fax_core.proofs.LeaveLemmas.{left_nothing}
use Rattle.fax_core.proofs.NumberLemmas.{left_numbers, submit_numbers}
use Rattle.fax_core.proofs.PlaceLemmas.{find_placed, in_place}

-- a number below the next one that no job has, no job gets
abbrev NoneComes : Queue → Queue → Type 0
NoneComes m n = (a : ℕ) → a < m.next_job → job_numbered a m ≡ None → job_numbered a n ≡ None

-- the same of what a step leaves
abbrev NoneLeft : Queue → Step → Type 0
NoneLeft m x = NoneComes m (left_by m x)

-- where a job is put in another's place
placed_none : (m : Queue) (k : Job) → NoneComes m (with_job k m)
placed_none m k a low none = find_placed job_number a k m.jobs ∙ ap (option_map (in_place job_number k)) none

-- where one comes with the next number
new_none : (m : Queue) (j : Job) → j.number ≡ m.next_job → NoneComes m (with_new_job j m)
new_none m j is a low none =
    let other : eqb j.number a ≡ false = ne_eqb j.number a (λ (e : j.number ≡ a). omega (arith, is, e, low)) in
    find-append (λ k. eqb k.number a) m.jobs (j ∷ []) ∙ ap (λ o. option_or o (find (λ k. eqb k.number a) (j ∷ []))) none ∙ ap (λ b. cond b (Some j) None) other

-- where jobs leave
left_none : (m : Queue) (numbers : List ℕ) → NoneComes m (without_jobs numbers m)
left_none m numbers a low none = left_nothing (λ (k : Job). eqb k.number a) (λ (k : Job). is_none_of numbers k.number) m.jobs none

-- ---- each request

submitted_none : (m : Queue) (rule : Rule) (d : Result Job Refusal) → ((j : Job) → d ≡ Ok j → j.number ≡ m.next_job) → NoneLeft m (submitted m rule d)
submitted_none m rule (Ok j) is = new_none m j (is j refl)
submitted_none m rule (Err e) is = λ a low none. none

import_none : (s : Settings) (m : Queue) (t : ℕ) (rule : Rule) (d : Result Job Refusal) → ((j : Job) → d ≡ Ok j → j.number ≡ m.next_job) → NoneLeft m (brought_in s m t rule d)
import_none s m t rule (Ok j) is = new_none m j (is j refl)
import_none s m t rule (Err e) is = λ a low none. none

changed_none : (s : Settings) (m : Queue) (t : ℕ) (d : Result Job Refusal) → NoneLeft m (changed s m t d)
changed_none s m t (Ok j) = placed_none m j
changed_none s m t (Err e) = λ a low none. none

on_job_none : (s : Settings) (m : Queue) (t : ℕ) (ask : JobAsk) (o : Option Job) → NoneLeft m (on_job s m t ask o)
on_job_none s m t ask None = λ a low none. none
on_job_none s m t ask (Some j) = changed_none s m t (job_asked ask t j)

reported_none : (m : Queue) (reply : Queue → JobAndGrant → Reply) (j : Job) (d : Result JobAndGrant Refusal) → NoneLeft m (reported m reply j d)
reported_none m reply j (Ok b) = placed_none m b.job
reported_none m reply j (Err e) = λ a low none. none

on_both_none : (s : Settings) (m : Queue) (t : ℕ) (report : Report) (g : Grant) (o : Option Job) → NoneLeft m (on_both s m t report g o)
on_both_none s m t report g None = λ a low none. none
on_both_none s m t report g (Some j) = reported_none m (report_reply s t report) j (grant_reported report s.delay t j g)

on_grant_none : (s : Settings) (m : Queue) (t : ℕ) (report : Report) (o : Option Grant) → NoneLeft m (on_grant s m t report o)
on_grant_none s m t report None = λ a low none. none
on_grant_none s m t report (Some g) = on_both_none s m t report g (job_numbered g.job m)

mark_none : (m : Queue) (modem : List ℕ) (down b : Bool) → NoneLeft m (cond b (Taken (with_mark modem down m) (Marked down)) (Refused refusal.NoModem NoKeys))
mark_none m modem true true = λ a low none. none
mark_none m modem true false = λ a low none. none
mark_none m modem false true = λ a low none. none
mark_none m modem false false = λ a low none. none

given_none : (m : Queue) (d : Result JobAndGrant Refusal) → NoneLeft m (given m d)
given_none m (Ok b) = placed_none m b.job
given_none m (Err e) = λ a low none. none

best_none : (s : Settings) (m : Queue) (modem : List ℕ) (o : Option Job) → NoneLeft m (given_best s m modem o)
best_none s m modem None = λ a low none. none
best_none s m modem (Some j) = given_none m (grant j modem m.next_grant s.max_grants)

free_none : (s : Settings) (m : Queue) (t : ℕ) (modem : List ℕ) (o : Option Grant) → NoneLeft m (given_free s m t modem o)
free_none s m t modem (Some g) = λ a low none. none
free_none s m t modem None = best_none s m modem (best s m t modem)

next_none : (s : Settings) (m : Queue) (t : ℕ) (modem : List ℕ) (b c : Bool)
    → NoneLeft m (cond b (Refused refusal.NoModem NoKeys) (cond c (Refused refusal.ModemDown NoKeys) (given_free s m t modem (held_by modem m))))
next_none s m t modem true c = λ a low none. none
next_none s m t modem false true = λ a low none. none
next_none s m t modem false false = free_none s m t modem (held_by modem m)

purge_none : (m : Queue) (before : ℕ) (b : Bool) → NoneLeft m (cond b (Refused refusal.PurgeHigh NoKeys) (Taken (without_jobs (leaving before m) m) (Purged (length (leaving before m)))))
purge_none m before true = λ a low none. none
purge_none m before false = left_none m (leaving before m)

act_none : (s : Settings) (m : Queue) (t : ℕ) (ask : Ask) → NoneLeft m (act s m t ask)
act_none s m t (Submission o) =
    submitted_none m (s.rule o.dial) (submit o (s.rule o.dial) m.next_job s.max_jobs t) (λ j. submit_numbers o (s.rule o.dial) m.next_job s.max_jobs t j)
act_none s m t (Bring i) =
    import_none s m t (s.rule i.order.dial) (bring i (s.rule i.order.dial) m.next_job s.max_jobs t) (λ j e. (bring_counts i (s.rule i.order.dial) m.next_job s.max_jobs t j e).number)
act_none s m t (OnJob n ask) = on_job_none s m t ask (job_numbered n m)
act_none s m t (Mark modem down) = mark_none m modem down (has_modem s modem)
act_none s m t (Next modem) = next_none s m t modem (not (has_modem s modem)) (is_down modem m)
act_none s m t (OnGrant n report) = on_grant_none s m t report (grant_numbered n m)
act_none s m t (GiveUp floor) = λ a low none. none
act_none s m t (Purge before) = purge_none m before (nat_lt t before)

-- ---- steps

-- the times of the jobs are no jobs, and a refused step leaves the queue
stamped_none : (t : ℕ) (m q : Queue) (d : Step) → ((a : ℕ) → a < m.next_job → job_numbered a m ≡ None → job_numbered a (left_by q d) ≡ None) → NoneLeft m (stamped t q d)
stamped_none t m q (Taken n r) h a low none = h a low none
stamped_none t m q (Refused e k) h a low none = none

-- ageing leaves the numbers
pub aged_gone : (t : ℕ) (m : Queue) (a : ℕ) → IsGone m a → IsGone (aged t m) a
aged_gone t m a gone = record { absent = looked_up m (aged_job t) (aged_number t) a ∙ ap (option_map (aged_job t)) gone.absent; given = gone.given }

-- what has left stays away, whether a step is taken or refused
pub left_gone : (s : Settings) (m : Queue) (t : ℕ) (ask : Ask) (a : ℕ) → IsGone m a → IsGone (left_by m (step s m t ask)) a
left_gone s m t ask a gone =
    let rise = left_numbers s m t ask in
    record {
      absent = stamped_none t m (aged t m) (act s (aged t m) t ask) (λ b low none. act_none s (aged t m) t ask b low (aged_gone t m b (record { absent = none; given = low })).absent) a gone.given gone.absent;
      given = omega (arith, gone.given, rise.0);
    }

-- so it does after a step that is taken
pub step_gone : (s : Settings) (m n : Queue) (t : ℕ) (ask : Ask) (r : Reply) (a : ℕ) → step s m t ask ≡ Taken n r → IsGone m a → IsGone n a
step_gone s m n t ask r a e gone = subst (λ (x : Step). IsGone (left_by m x) a) e (left_gone s m t ask a gone)

-- and after every run
pub run_gone : (s : Settings) (m : Queue) (rs : List Request) (a : ℕ) → IsGone m a → IsGone (queue_after s m rs) a
run_gone s m [] a gone = gone
run_gone s m (r ∷ rs) a gone = run_gone s (left_by m (decided s m r)) rs a (left_gone s m (decided_at m.clock r.moment) r.ask a gone)
