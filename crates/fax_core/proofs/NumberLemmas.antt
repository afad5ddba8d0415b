-- A step gives a job or a grant the next number, and no step lowers a next number.
use Rattle.std.proofs.Common.{◌≡◌, ℕ, ◌≤◌, Bool, true, false, cond, not, List, [], ◌∷◌, length, refl, sym, ap, subst, arith, nat_lt, is_some}
use Rattle.std.specs.Prelude.{⊤, Option, Some, None, Result, Ok, Err}
use Rattle.fax_job.specs.declared.order.Order.{Order}
use Rattle.fax_job.specs.declared.refusal.Refusal.{Refusal}
use Rattle.fax_job.specs.declared.refusal.Refusal.TheVariants as refusal
use Rattle.fax_core.specs.declared.grants.Grant.{Grant}
use Rattle.fax_core.specs.Ageing.{aged}
use Rattle.fax_core.specs.declared.ask.Ask.{Ask}
use Rattle.fax_core.specs.declared.ask.Ask.TheVariants.{Submission, Bring, OnJob, Mark, Next, OnGrant, GiveUp, Purge}
use Rattle.fax_core.specs.declared.ask.JobAsk.{JobAsk}
use Rattle.fax_core.specs.declared.report.Report.{Report}
use Rattle.fax_core.specs.declared.report.Report.TheVariants.{Call, Page, Outcome}
use Rattle.fax_core.specs.Best.{best}
use Rattle.fax_core.specs.Decisions.{JobAndGrant, is_over, job_asked, new_job, submit, grant, granted, grant_reported}
use Rattle.fax_core.specs.Import.{bring}
use Rattle.fax_core.specs.Job.{Job}
use Rattle.fax_core.specs.Laws.{NumbersAfter}
use Rattle.fax_core.specs.Machine.{with_mark, is_down, held_by, submitted, brought_in, changed, on_job, reported, on_both, on_grant, given, given_best, given_free, report_reply, act, stamped, step}
use Rattle.fax_core.specs.Purge.{leaving, without_jobs}
use Rattle.fax_core.specs.Queue.{Queue, job_numbered, grant_numbered}
use Rattle.fax_core.specs.Reply.{Reply, Submitted, Brought, Given, Stands, Marked, NoneToSend, Called, Confirmed, Floored, Purged, NoKeys, Step, Taken, Refused}
use Rattle.fax_core.specs.Run.{Request, left_by, decided, queue_after}
use Rattle.fax_core.specs.Settings.{Rule, Settings, has_modem}
use Rattle.fax_core.specs.Clock.{decided_at}
use Rattle.fax_core.specs.Stamp.{stamp}
use Rattle.fax_core.proofs.DecisionLemmas.{not_refused, ok_same}
use Rattle.fax_core.proofs.ImportLemmas.{bring_counts}

-- what a step gives is numbered next, where it is taken
abbrev Numbers : Queue → Step → Type 0
Numbers m (Taken n r) = NumbersAfter m n r
Numbers m (Refused e k) = ⊤

-- a submitted job has the next number
pub submit_numbers : (o : Order) (rule : Rule) (n max t : ℕ) (j : Job) → submit o rule n max t ≡ Ok j → j.number ≡ n
submit_numbers o rule n max t j e =
    let a = not_refused (is_some rule.notice) refusal.Rejected _ j e in
    let b = not_refused (is_over o.totpages rule.pages) refusal.TooManyPages _ j a.1 in
    let c = not_refused (nat_lt max n) refusal.Full (Ok (new_job o n t)) j b.1 in
    sym (ap (λ (k : Job). k.number) (ok_same (new_job o n t) j c.1))

-- so a submission numbers it
submitted_numbers : (m : Queue) (rule : Rule) (d : Result Job Refusal) → ((j : Job) → d ≡ Ok j → j.number ≡ m.next_job) → Numbers m (submitted m rule d)
submitted_numbers m rule (Ok j) is = (is j refl, refl, refl)
submitted_numbers m rule (Err e) is = tt

-- and an import
import_numbers : (s : Settings) (m : Queue) (t : ℕ) (rule : Rule) (d : Result Job Refusal) → ((j : Job) → d ≡ Ok j → j.number ≡ m.next_job) → Numbers m (brought_in s m t rule d)
import_numbers s m t rule (Ok j) is = (is j refl, refl, refl)
import_numbers s m t rule (Err e) is = tt

-- a change of a job leaves the next numbers
changed_numbers : (s : Settings) (m : Queue) (t : ℕ) (d : Result Job Refusal) → Numbers m (changed s m t d)
changed_numbers s m t (Ok j) = (refl, refl)
changed_numbers s m t (Err e) = tt

-- so does a request on a job
on_job_numbers : (s : Settings) (m : Queue) (t : ℕ) (ask : JobAsk) (o : Option Job) → Numbers m (on_job s m t ask o)
on_job_numbers s m t ask None = tt
on_job_numbers s m t ask (Some j) = changed_numbers s m t (job_asked ask t j)

-- and a report of a job that is there
reported_numbers : (s : Settings) (m : Queue) (t : ℕ) (report : Report) (j : Job) (d : Result JobAndGrant Refusal) → Numbers m (reported m (report_reply s t report) j d)
reported_numbers s m t (Call c) j (Ok b) = (refl, refl)
reported_numbers s m t (Page p) j (Ok b) = (refl, refl)
reported_numbers s m t (Outcome o) j (Ok b) = (refl, refl)
reported_numbers s m t report j (Err e) = tt

-- and of a grant whose job is there or not
on_both_numbers : (s : Settings) (m : Queue) (t : ℕ) (report : Report) (g : Grant) (o : Option Job) → Numbers m (on_both s m t report g o)
on_both_numbers s m t report g None = tt
on_both_numbers s m t report g (Some j) = reported_numbers s m t report j (grant_reported report s.delay t j g)

-- and of a grant that is there or not
on_grant_numbers : (s : Settings) (m : Queue) (t : ℕ) (report : Report) (o : Option Grant) → Numbers m (on_grant s m t report o)
on_grant_numbers s m t report None = tt
on_grant_numbers s m t report (Some g) = on_both_numbers s m t report g (job_numbered g.job m)

-- and a mark
mark_numbers : (m : Queue) (modem : List ℕ) (down b : Bool) → Numbers m (cond b (Taken (with_mark modem down m) (Marked down)) (Refused refusal.NoModem NoKeys))
mark_numbers m modem true true = (refl, refl)
mark_numbers m modem true false = tt
mark_numbers m modem false true = (refl, refl)
mark_numbers m modem false false = tt

-- a grant that is given has the next number
given_numbers : (m : Queue) (d : Result JobAndGrant Refusal) → ((b : JobAndGrant) → d ≡ Ok b → b.grant.number ≡ m.next_grant) → Numbers m (given m d)
given_numbers m (Ok b) is = (is b refl, refl, refl)
given_numbers m (Err e) is = tt

-- so has the best job's, if any
best_numbers : (s : Settings) (m : Queue) (modem : List ℕ) (o : Option Job) → Numbers m (given_best s m modem o)
best_numbers s m modem None = (refl, refl)
best_numbers s m modem (Some j) =
    given_numbers m (grant j modem m.next_grant s.max_grants) (λ b e.
    let made = not_refused (nat_lt s.max_grants m.next_grant) refusal.Full (Ok (granted j modem m.next_grant)) b e in
    sym (ap (λ (x : JobAndGrant). x.grant.number) (ok_same (granted j modem m.next_grant) b made.1)))

-- and a request of a modem that holds a grant or none
free_numbers : (s : Settings) (m : Queue) (t : ℕ) (modem : List ℕ) (o : Option Grant) → Numbers m (given_free s m t modem o)
free_numbers s m t modem (Some g) = tt
free_numbers s m t modem None = best_numbers s m modem (best s m t modem)

-- and of one that is in the setup or down, or neither
next_numbers : (s : Settings) (m : Queue) (t : ℕ) (modem : List ℕ) (b c : Bool) → Numbers m (cond b (Refused refusal.NoModem NoKeys) (cond c (Refused refusal.ModemDown NoKeys) (given_free s m t modem (held_by modem m))))
next_numbers s m t modem true c = tt
next_numbers s m t modem false true = tt
next_numbers s m t modem false false = free_numbers s m t modem (held_by modem m)

-- and a purge
purge_numbers : (m : Queue) (before : ℕ) (b : Bool) → Numbers m (cond b (Refused refusal.PurgeHigh NoKeys) (Taken (without_jobs (leaving before m) m) (Purged (length (leaving before m)))))
purge_numbers m before true = tt
purge_numbers m before false = (refl, refl)

-- so does each request
act_numbers : (s : Settings) (m : Queue) (t : ℕ) (ask : Ask) → Numbers m (act s m t ask)
act_numbers s m t (Submission o) =
    submitted_numbers m (s.rule o.dial) (submit o (s.rule o.dial) m.next_job s.max_jobs t) (λ j. submit_numbers o (s.rule o.dial) m.next_job s.max_jobs t j)
act_numbers s m t (Bring i) =
    import_numbers s m t (s.rule i.order.dial) (bring i (s.rule i.order.dial) m.next_job s.max_jobs t) (λ j e. (bring_counts i (s.rule i.order.dial) m.next_job s.max_jobs t j e).number)
act_numbers s m t (OnJob n ask) = on_job_numbers s m t ask (job_numbered n m)
act_numbers s m t (Mark modem down) = mark_numbers m modem down (has_modem s modem)
act_numbers s m t (Next modem) = next_numbers s m t modem (not (has_modem s modem)) (is_down modem m)
act_numbers s m t (OnGrant n report) = on_grant_numbers s m t report (grant_numbered n m)
act_numbers s m t (GiveUp floor) = (refl, refl)
act_numbers s m t (Purge before) = purge_numbers m before (nat_lt t before)

-- the times of jobs are no numbers
stamp_numbers : (t : ℕ) (m q n : Queue) (r : Reply) → NumbersAfter m n r → NumbersAfter m (stamp t q n) r
stamp_numbers t m q n (Submitted job) h = h
stamp_numbers t m q n (Brought job state) h = h
stamp_numbers t m q n (Given handed) h = h
stamp_numbers t m q n (Stands job state) h = h
stamp_numbers t m q n (Marked down) h = h
stamp_numbers t m q n NoneToSend h = h
stamp_numbers t m q n (Called stop) h = h
stamp_numbers t m q n (Confirmed npages stop) h = h
stamp_numbers t m q n (Floored floor) h = h
stamp_numbers t m q n (Purged jobs) h = h

stamped_numbers : (t : ℕ) (m q : Queue) (d : Step) → Numbers m d → Numbers m (stamped t q d)
stamped_numbers t m q (Taken n r) h = stamp_numbers t m q n r h
stamped_numbers t m q (Refused e k) h = tt

-- and each step, since ageing leaves the next numbers
pub step_numbers : (s : Settings) (m n : Queue) (t : ℕ) (ask : Ask) (r : Reply) → step s m t ask ≡ Taken n r → NumbersAfter m n r
step_numbers s m n t ask r e = subst (Numbers m) e (stamped_numbers t m (aged t m) (act s (aged t m) t ask) (act_numbers s (aged t m) t ask))

-- a reply leaves the next numbers no lower
never_lower : (m n : Queue) (r : Reply) → NumbersAfter m n r → (m.next_job ≤ n.next_job) × (m.next_grant ≤ n.next_grant)
never_lower m n (Submitted job) h = (omega (arith, h.1), omega (arith, h.2))
never_lower m n (Brought job state) h = (omega (arith, h.1), omega (arith, h.2))
never_lower m n (Given handed) h = (omega (arith, h.2), omega (arith, h.1))
never_lower m n (Stands job state) h = (omega (arith, h.0), omega (arith, h.1))
never_lower m n (Marked down) h = (omega (arith, h.0), omega (arith, h.1))
never_lower m n NoneToSend h = (omega (arith, h.0), omega (arith, h.1))
never_lower m n (Called stop) h = (omega (arith, h.0), omega (arith, h.1))
never_lower m n (Confirmed npages stop) h = (omega (arith, h.0), omega (arith, h.1))
never_lower m n (Floored floor) h = (omega (arith, h.0), omega (arith, h.1))
never_lower m n (Purged jobs) h = (omega (arith, h.0), omega (arith, h.1))

-- nor does a step, whether it is taken or refused
left_no_lower : (m : Queue) (x : Step) → Numbers m x → (m.next_job ≤ (left_by m x).next_job) × (m.next_grant ≤ (left_by m x).next_grant)
left_no_lower m (Taken n r) h = never_lower m n r h
left_no_lower m (Refused e k) h = (omega arith, omega arith)

-- so a step lowers none
pub left_numbers : (s : Settings) (m : Queue) (t : ℕ) (ask : Ask) → (m.next_job ≤ (left_by m (step s m t ask)).next_job) × (m.next_grant ≤ (left_by m (step s m t ask)).next_grant)
left_numbers s m t ask = left_no_lower m (step s m t ask) (stamped_numbers t m (aged t m) (act s (aged t m) t ask) (act_numbers s (aged t m) t ask))

-- nor does a run
pub run_numbers : (s : Settings) (m : Queue) (rs : List Request) → (m.next_job ≤ (queue_after s m rs).next_job) × (m.next_grant ≤ (queue_after s m rs).next_grant)
run_numbers s m [] = (omega arith, omega arith)
run_numbers s m (r ∷ rs) =
    let here = left_numbers s m (decided_at m.clock r.moment) r.ask in
    let rest = run_numbers s (left_by m (decided s m r)) rs in
    (omega (arith, here.0, rest.0), omega (arith, here.1, rest.1))
