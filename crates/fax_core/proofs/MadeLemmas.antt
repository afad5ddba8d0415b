-- A job that came in is there.
use Rattle.std.proofs.Common.{◌≡◌, ℕ, Bool, true, false, cond, not, List, length, refl, subst, nat_lt}
use Rattle.std.specs.Prelude.{Option, Some, None, Result, Ok, Err}
use Rattle.fax_job.specs.declared.refusal.Refusal.{Refusal}
use Rattle.fax_job.specs.declared.refusal.Refusal.TheVariants as refusal
use Rattle.fax_core.specs.declared.grants.Grant.{Grant}
use Rattle.fax_core.specs.Ageing.{aged}
use Rattle.fax_core.specs.declared.ask.Ask.{Ask}
use Rattle.fax_core.specs.declared.ask.Ask.TheVariants.{Submission, Bring, OnJob, Mark, Next, OnGrant, GiveUp, Purge}
use Rattle.fax_core.specs.declared.ask.JobAsk.{JobAsk}
use Rattle.fax_core.specs.declared.report.Report.{Report}
use Rattle.fax_core.specs.declared.report.Report.TheVariants.{Call, Page, Outcome}
use Rattle.fax_core.specs.Best.{best}
use Rattle.fax_core.specs.Decisions.{JobAndGrant, submit, job_asked, grant, grant_reported}
use Rattle.fax_core.specs.Import.{bring}
use Rattle.fax_core.specs.Job.{Job}
use Rattle.fax_core.specs.Laws.{IsThere, NewJobsAreThere, new_job_in}
use Rattle.fax_core.specs.Machine.{with_new_job, with_mark, is_down, held_by, submitted, brought_in, changed, on_job, reported, on_both, on_grant, given, given_best, given_free, report_reply, act, stamped}
use Rattle.fax_core.specs.Purge.{leaving, without_jobs}
use Rattle.fax_core.specs.Queue.{Queue, job_numbered, grant_numbered}
use Rattle.fax_core.specs.Reply.{Marked, NoKeys, Purged, Step, Taken, Refused}
use Rattle.fax_core.specs.Run.{left_by}
use Rattle.fax_core.specs.Settings.{Rule, Settings, has_modem}
use Rattle.fax_core.specs.Sound.{IsJob, Sound}
use Rattle.fax_core.proofs.BroughtLemmas.{new_there}
use Rattle.fax_core.proofs.ImportLemmas.{bring_counts}
use Rattle.fax_core.proofs.NumberLemmas.{submit_numbers}
use Rattle.fax_core.proofs.StepLemmas.{aged_sound}

-- the number of a job that came in, where a step is taken
abbrev new_job_of : Step → Option ℕ
new_job_of (Taken n r) = new_job_in r
new_job_of (Refused e k) = None

-- such a job is there
abbrev MakesIt : Queue → Step → Type 0
MakesIt m x = (number : ℕ) → new_job_of x ≡ Some number → IsThere (left_by m x) number

submitted_makes : (m : Queue) (rule : Rule) (d : Result Job Refusal) → Sound m → ((j : Job) → d ≡ Ok j → j.number ≡ m.next_job) → MakesIt m (submitted m rule d)
submitted_makes m rule (Ok j) h is number e = let same : j.number ≡ number = cc in (j, subst (λ (i : ℕ). IsJob (with_new_job j m) i j) same (new_there m j h (is j refl)))
submitted_makes m rule (Err x) h is number e = absurd cc

import_makes : (s : Settings) (m : Queue) (t : ℕ) (rule : Rule) (d : Result Job Refusal) → Sound m → ((j : Job) → d ≡ Ok j → j.number ≡ m.next_job) → MakesIt m (brought_in s m t rule d)
import_makes s m t rule (Ok j) h is number e = let same : j.number ≡ number = cc in (j, subst (λ (i : ℕ). IsJob (with_new_job j m) i j) same (new_there m j h (is j refl)))
import_makes s m t rule (Err x) h is number e = absurd cc

changed_makes : (s : Settings) (m : Queue) (t : ℕ) (d : Result Job Refusal) → MakesIt m (changed s m t d)
changed_makes s m t (Ok j) number e = absurd cc
changed_makes s m t (Err x) number e = absurd cc

on_job_makes : (s : Settings) (m : Queue) (t : ℕ) (ask : JobAsk) (o : Option Job) → MakesIt m (on_job s m t ask o)
on_job_makes s m t ask None = λ number e. absurd cc
on_job_makes s m t ask (Some j) = changed_makes s m t (job_asked ask t j)

reported_makes : (s : Settings) (m : Queue) (t : ℕ) (report : Report) (j : Job) (d : Result JobAndGrant Refusal) → MakesIt m (reported m (report_reply s t report) j d)
reported_makes s m t (Call c) j (Ok b) number e = absurd cc
reported_makes s m t (Page p) j (Ok b) number e = absurd cc
reported_makes s m t (Outcome o) j (Ok b) number e = absurd cc
reported_makes s m t report j (Err x) number e = absurd cc

on_both_makes : (s : Settings) (m : Queue) (t : ℕ) (report : Report) (g : Grant) (o : Option Job) → MakesIt m (on_both s m t report g o)
on_both_makes s m t report g None = λ number e. absurd cc
on_both_makes s m t report g (Some j) = reported_makes s m t report j (grant_reported report s.delay t j g)

on_grant_makes : (s : Settings) (m : Queue) (t : ℕ) (report : Report) (o : Option Grant) → MakesIt m (on_grant s m t report o)
on_grant_makes s m t report None = λ number e. absurd cc
on_grant_makes s m t report (Some g) = on_both_makes s m t report g (job_numbered g.job m)

mark_makes : (m : Queue) (modem : List ℕ) (down b : Bool) → MakesIt m (cond b (Taken (with_mark modem down m) (Marked down)) (Refused refusal.NoModem NoKeys))
mark_makes m modem down true number e = absurd cc
mark_makes m modem down false number e = absurd cc

given_makes : (m : Queue) (d : Result JobAndGrant Refusal) → MakesIt m (given m d)
given_makes m (Ok b) number e = absurd cc
given_makes m (Err x) number e = absurd cc

best_makes : (s : Settings) (m : Queue) (modem : List ℕ) (o : Option Job) → MakesIt m (given_best s m modem o)
best_makes s m modem None = λ number e. absurd cc
best_makes s m modem (Some j) = given_makes m (grant j modem m.next_grant s.max_grants)

free_makes : (s : Settings) (m : Queue) (t : ℕ) (modem : List ℕ) (o : Option Grant) → MakesIt m (given_free s m t modem o)
free_makes s m t modem (Some g) = λ number e. absurd cc
free_makes s m t modem None = best_makes s m modem (best s m t modem)

next_makes : (s : Settings) (m : Queue) (t : ℕ) (modem : List ℕ) (b c : Bool)
    → MakesIt m (cond b (Refused refusal.NoModem NoKeys) (cond c (Refused refusal.ModemDown NoKeys) (given_free s m t modem (held_by modem m))))
next_makes s m t modem true c = λ number e. absurd cc
next_makes s m t modem false true = λ number e. absurd cc
next_makes s m t modem false false = free_makes s m t modem (held_by modem m)

purge_makes : (m : Queue) (before : ℕ) (b : Bool) → MakesIt m (cond b (Refused refusal.PurgeHigh NoKeys) (Taken (without_jobs (leaving before m) m) (Purged (length (leaving before m)))))
purge_makes m before true number e = absurd cc
purge_makes m before false number e = absurd cc

act_makes : (s : Settings) (m : Queue) (t : ℕ) (ask : Ask) → Sound m → MakesIt m (act s m t ask)
act_makes s m t (Submission o) h =
    submitted_makes m (s.rule o.dial) (submit o (s.rule o.dial) m.next_job s.max_jobs t) h (λ j. submit_numbers o (s.rule o.dial) m.next_job s.max_jobs t j)
act_makes s m t (Bring i) h =
    import_makes s m t (s.rule i.order.dial) (bring i (s.rule i.order.dial) m.next_job s.max_jobs t) h (λ j e. (bring_counts i (s.rule i.order.dial) m.next_job s.max_jobs t j e).number)
act_makes s m t (OnJob n ask) h = on_job_makes s m t ask (job_numbered n m)
act_makes s m t (Mark modem down) h = mark_makes m modem down (has_modem s modem)
act_makes s m t (Next modem) h = next_makes s m t modem (not (has_modem s modem)) (is_down modem m)
act_makes s m t (OnGrant n report) h = on_grant_makes s m t report (grant_numbered n m)
act_makes s m t (GiveUp floor) h = λ number e. absurd cc
act_makes s m t (Purge before) h = purge_makes m before (nat_lt t before)

-- the times of jobs are no jobs
stamped_makes : (t : ℕ) (m : Queue) (d : Step) → MakesIt m d → MakesIt m (stamped t m d)
stamped_makes t m (Taken n r) makes number e = makes number e
stamped_makes t m (Refused e k) makes number is = absurd cc

pub new_jobs_are_there : NewJobsAreThere
new_jobs_are_there s m n t ask reply number h e is =
    let made = stamped_makes t (aged t m) (act s (aged t m) t ask) (act_makes s (aged t m) t ask (aged_sound t m h)) number in
    let there = subst (λ (x : Step). new_job_of x ≡ Some number → IsThere (left_by (aged t m) x) number) e made in
    there is
