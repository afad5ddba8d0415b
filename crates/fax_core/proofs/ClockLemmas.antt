-- A taken step sets the clock to its moment, and the clock never goes back.
use Rattle.std.proofs.Common.{◌≡◌, ℕ, ◌≤◌, Bool, true, false, cond, not, List, [], ◌∷◌, refl, sym, ap, ◌∙◌, arith}
use Rattle.std.specs.Prelude.{Option, Some, None, Result, Ok, Err, length, max, nat_lt}
use Rattle.fax_job.specs.declared.refusal.Refusal.{Refusal}
use Rattle.fax_job.specs.declared.refusal.Refusal.TheVariants as refusal
use Rattle.fax_core.specs.declared.grants.Grant.{Grant}
use Rattle.fax_core.specs.Ageing.{aged}
use Rattle.fax_core.specs.declared.ask.Ask.{Ask}
use Rattle.fax_core.specs.declared.ask.Ask.TheVariants.{Submission, Bring, OnJob, Mark, Next, OnGrant, GiveUp, Purge}
use Rattle.fax_core.specs.declared.ask.JobAsk.{JobAsk}
use Rattle.fax_core.specs.declared.report.Report.{Report}
use Rattle.fax_core.specs.Best.{best}
use Rattle.fax_core.specs.Decisions.{JobAndGrant, submit, job_asked, grant, grant_reported}
use Rattle.fax_core.specs.Import.{bring}
use Rattle.fax_core.specs.Job.{Job}
use Rattle.fax_core.specs.Machine.{with_mark, is_down, held_by, submitted, brought_in, changed, on_job, reported, on_both, on_grant, given, given_best, given_free, report_reply, act, step}
use Rattle.fax_core.specs.Purge.{leaving, without_jobs}
use Rattle.fax_core.specs.Queue.{Queue, job_numbered, grant_numbered}
use Rattle.fax_core.specs.Reply.{Reply, Marked, NoKeys, Purged, Step, Taken, Refused}
use Rattle.fax_core.specs.Run.{Request, left_by, decided, queue_after}
use Rattle.fax_core.specs.Settings.{Rule, Settings, has_modem}
use Rattle.fax_core.proofs.TimesLemmas.{by_stamp}

-- the clock that a step leaves
abbrev clock_left : Queue → Step → ℕ
clock_left m x = (left_by m x).clock

-- a submission leaves the clock
submitted_clock : (m : Queue) (rule : Rule) (d : Result Job Refusal) → clock_left m (submitted m rule d) ≡ m.clock
submitted_clock m rule (Ok j) = refl
submitted_clock m rule (Err e) = refl

-- so does an import
import_clock : (s : Settings) (m : Queue) (t : ℕ) (rule : Rule) (d : Result Job Refusal) → clock_left m (brought_in s m t rule d) ≡ m.clock
import_clock s m t rule (Ok j) = refl
import_clock s m t rule (Err e) = refl

-- and a change of a job
changed_clock : (s : Settings) (m : Queue) (t : ℕ) (d : Result Job Refusal) → clock_left m (changed s m t d) ≡ m.clock
changed_clock s m t (Ok j) = refl
changed_clock s m t (Err e) = refl

-- and a request on a job
on_job_clock : (s : Settings) (m : Queue) (t : ℕ) (ask : JobAsk) (o : Option Job) → clock_left m (on_job s m t ask o) ≡ m.clock
on_job_clock s m t ask None = refl
on_job_clock s m t ask (Some j) = changed_clock s m t (job_asked ask t j)

-- and a report of a job that is there
reported_clock : (m : Queue) (reply : Queue → JobAndGrant → Reply) (j : Job) (d : Result JobAndGrant Refusal) → clock_left m (reported m reply j d) ≡ m.clock
reported_clock m reply j (Ok b) = refl
reported_clock m reply j (Err e) = refl

-- and of a grant whose job is there or not
on_both_clock : (s : Settings) (m : Queue) (t : ℕ) (report : Report) (g : Grant) (o : Option Job) → clock_left m (on_both s m t report g o) ≡ m.clock
on_both_clock s m t report g None = refl
on_both_clock s m t report g (Some j) = reported_clock m (report_reply s t report) j (grant_reported report s.delay t j g)

-- and of a grant that is there or not
on_grant_clock : (s : Settings) (m : Queue) (t : ℕ) (report : Report) (o : Option Grant) → clock_left m (on_grant s m t report o) ≡ m.clock
on_grant_clock s m t report None = refl
on_grant_clock s m t report (Some g) = on_both_clock s m t report g (job_numbered g.job m)

-- and a mark
mark_clock : (m : Queue) (modem : List ℕ) (down b : Bool) → clock_left m (cond b (Taken (with_mark modem down m) (Marked down)) (Refused refusal.NoModem NoKeys)) ≡ m.clock
mark_clock m modem true true = refl
mark_clock m modem true false = refl
mark_clock m modem false true = refl
mark_clock m modem false false = refl

-- and a grant that is given or refused
given_clock : (m : Queue) (d : Result JobAndGrant Refusal) → clock_left m (given m d) ≡ m.clock
given_clock m (Ok b) = refl
given_clock m (Err e) = refl

-- and the best job's, if any
best_clock : (s : Settings) (m : Queue) (modem : List ℕ) (o : Option Job) → clock_left m (given_best s m modem o) ≡ m.clock
best_clock s m modem None = refl
best_clock s m modem (Some j) = given_clock m (grant j modem m.next_grant s.max_grants)

-- and a request of a modem that holds a grant or none
free_clock : (s : Settings) (m : Queue) (t : ℕ) (modem : List ℕ) (o : Option Grant) → clock_left m (given_free s m t modem o) ≡ m.clock
free_clock s m t modem (Some g) = refl
free_clock s m t modem None = best_clock s m modem (best s m t modem)

-- and of one that is in the setup or down, or neither
next_clock : (s : Settings) (m : Queue) (t : ℕ) (modem : List ℕ) (b c : Bool) → clock_left m (cond b (Refused refusal.NoModem NoKeys) (cond c (Refused refusal.ModemDown NoKeys) (given_free s m t modem (held_by modem m)))) ≡ m.clock
next_clock s m t modem true c = refl
next_clock s m t modem false true = refl
next_clock s m t modem false false = free_clock s m t modem (held_by modem m)

-- and a purge
purge_clock : (m : Queue) (before : ℕ) (b : Bool) → clock_left m (cond b (Refused refusal.PurgeHigh NoKeys) (Taken (without_jobs (leaving before m) m) (Purged (length (leaving before m))))) ≡ m.clock
purge_clock m before true = refl
purge_clock m before false = refl

-- so each request leaves it
act_clock : (s : Settings) (m : Queue) (t : ℕ) (ask : Ask) → clock_left m (act s m t ask) ≡ m.clock
act_clock s m t (Submission o) = submitted_clock m (s.rule o.dial) (submit o (s.rule o.dial) m.next_job s.max_jobs t)
act_clock s m t (Bring i) = import_clock s m t (s.rule i.order.dial) (bring i (s.rule i.order.dial) m.next_job s.max_jobs t)
act_clock s m t (OnJob n ask) = on_job_clock s m t ask (job_numbered n m)
act_clock s m t (Mark modem down) = mark_clock m modem down (has_modem s modem)
act_clock s m t (Next modem) = next_clock s m t modem (not (has_modem s modem)) (is_down modem m)
act_clock s m t (OnGrant n report) = on_grant_clock s m t report (grant_numbered n m)
act_clock s m t (GiveUp floor) = refl
act_clock s m t (Purge before) = purge_clock m before (nat_lt t before)

-- a step that is taken sets the clock to its moment
pub step_clock : (s : Settings) (m n : Queue) (t : ℕ) (ask : Ask) (r : Reply) → step s m t ask ≡ Taken n r → n.clock ≡ t
step_clock s m n t ask r e =
    by_stamp (λ n. n.clock ≡ t) t (aged t m) (act s (aged t m) t ask) n r e (λ k is. sym (ap (clock_left (aged t m)) is) ∙ act_clock s (aged t m) t ask)

-- a step leaves the clock no earlier
left_clock : (m : Queue) (t : ℕ) (x : Step) → m.clock ≤ t → ((n : Queue) (r : Reply) → x ≡ Taken n r → n.clock ≡ t) → m.clock ≤ clock_left m x
left_clock m t (Taken n r) h f = omega (arith, f n r refl)
left_clock m t (Refused e k) h f = omega arith

-- a run leaves the clock no earlier
pub run_clock : (s : Settings) (m : Queue) (rs : List Request) → m.clock ≤ (queue_after s m rs).clock
run_clock s m [] = omega arith
run_clock s m (r ∷ rs) =
    let t = max m.clock r.moment in
    let here : m.clock ≤ (left_by m (decided s m r)).clock = left_clock m t (decided s m r) (omega arith) (λ n q e. step_clock s m n t r.ask q e) in
    let rest = run_clock s (left_by m (decided s m r)) rs in
    omega arith
