-- Which requests bring a job in: an import, and its job has the next number.
use Rattle.std.proofs.Common.{◌≡◌, ℕ, ◌<◌, Bool, true, false, cond, ◌&&◌, eqb, List, Option, Some, None, Ok, Err, refl, sym, ap, ◌∙◌, arith}
use Rattle.std.specs.Prelude.{Result, length, nat_lt}
use Rattle.fax_job.specs.declared.refusal.Refusal.{Refusal}
use Rattle.fax_job.specs.declared.refusal.Refusal.TheVariants as refusal
use Rattle.fax_core.specs.declared.grants.Grant.{Grant}
use Rattle.fax_core.specs.Ageing.{aged}
use Rattle.fax_core.specs.declared.ask.Ask.{Ask}
use Rattle.fax_core.specs.declared.ask.Ask.TheVariants.{Submission, Bring, OnJob, Mark, Next, OnGrant, GiveUp, Purge}
use Rattle.fax_core.specs.declared.ask.JobAsk.{JobAsk}
use Rattle.fax_core.specs.declared.report.Report.{Report}
use Rattle.fax_core.specs.declared.report.Report.TheVariants as report
use Rattle.fax_core.specs.Decisions.{JobAndGrant, job_asked, submit}
use Rattle.fax_core.specs.Import.{bring}
use Rattle.fax_core.specs.Job.{Job}
use Rattle.fax_core.specs.Machine.{act, brought_in, changed, on_grant, on_job, report_reply, step, submitted, with_both, with_job, with_mark, with_new_job}
use Rattle.fax_core.specs.Purge.{leaving, without_jobs}
use Rattle.fax_core.specs.Queue.{Queue, grant_numbered, job_numbered}
use Rattle.fax_core.specs.Reply.{Marked, NoKeys, Purged, Refused, Reply, Taken}
use Rattle.fax_core.specs.Settings.{Rule, Settings, has_modem}
use Rattle.fax_core.specs.Sound.{Sound}
use Rattle.fax_core.proofs.ImportLemmas.{bring_counts}
use Rattle.fax_core.proofs.StepLemmas.{Best_to, GivenTo, None_to, aged_sound, given_is, taken_same}
use Rattle.fax_run.proofs.MoveLemmas.{on_grant_told}
use Rattle.fax_run.specs.Counts.{brings, came_in, no_counters}
use Rattle.fax_core.proofs.TimesLemmas.{by_stamp, stamped_taken}

-- the request is an import
abbrev pub is_import : Ask → Bool
is_import (Bring i) = true
is_import other = false

-- what is none brings no counters
pub none_came : (ask : Ask) → is_import ask ≡ false → came_in ask ≡ no_counters
none_came (Bring i) e = absurd cc
none_came other e = refl

-- the reply brings no job in
abbrev BringsNone : Reply → Type 0
BringsNone r = (x : ℕ) → brings r x ≡ false

-- a change of a job brings none in
changed_brings : (s : Settings) (m n : Queue) (t : ℕ) (d : Result Job Refusal) (r : Reply) → changed s m t d ≡ Taken n r → BringsNone r
changed_brings s m n t (Ok k) r e x = ap (λ (q : Reply). brings q x) (sym (taken_same (with_job k m) n _ r e).1)
changed_brings s m n t (Err y) r e x = cc

-- nor does a request on a job
on_job_brings : (s : Settings) (m n : Queue) (t : ℕ) (ask : JobAsk) (o : Option Job) (r : Reply) → on_job s m t ask o ≡ Taken n r → BringsNone r
on_job_brings s m n t ask None r e x = cc
on_job_brings s m n t ask (Some j) r e x = changed_brings s m n t (job_asked ask t j) r e x

-- nor a submission
submission_brings : (m n : Queue) (rule : Rule) (d : Result Job Refusal) (r : Reply) → submitted m rule d ≡ Taken n r → BringsNone r
submission_brings m n rule (Ok k) r e x = ap (λ (q : Reply). brings q x) (sym (taken_same (with_new_job k m) n _ r e).1)
submission_brings m n rule (Err y) r e x = cc

-- nor a mark
mark_brings : (m n : Queue) (modem : List ℕ) (down b : Bool) (r : Reply) → cond b (Taken (with_mark modem down m) (Marked down)) (Refused refusal.NoModem NoKeys) ≡ Taken n r → BringsNone r
mark_brings m n modem down true r e x = ap (λ (q : Reply). brings q x) (sym (taken_same (with_mark modem down m) n _ r e).1)
mark_brings m n modem down false r e x = cc

-- nor a purge
purge_brings : (m n : Queue) (before : ℕ) (b : Bool) (r : Reply) → cond b (Refused refusal.PurgeHigh NoKeys) (Taken (without_jobs (leaving before m) m) (Purged (length (leaving before m)))) ≡ Taken n r → BringsNone r
purge_brings m n before true r e x = cc
purge_brings m n before false r e x = ap (λ (q : Reply). brings q x) (sym (taken_same (without_jobs (leaving before m) m) n _ r e).1)

-- nor a request for work
given_brings : (s : Settings) (m n : Queue) (t : ℕ) (modem : List ℕ) (r : Reply) → GivenTo s m t modem n r → BringsNone r
given_brings s m n t modem r (None_to none same told) x = ap (λ (q : Reply). brings q x) (sym told)
given_brings s m n t modem r (Best_to j best none same told) x = ap (λ (q : Reply). brings q x) (sym told)

-- nor the reply to a report
reply_brings : (s : Settings) (t : ℕ) (x : Report) (q : Queue) (b : JobAndGrant) → BringsNone (report_reply s t x q b)
reply_brings s t (report.Call c) q b i = refl
reply_brings s t other q b i = refl

-- so no report does
report_brings : (s : Settings) (m n : Queue) (t : ℕ) (x : Report) (o : Option Grant) (r : Reply) → on_grant s m t x o ≡ Taken n r → BringsNone r
report_brings s m n t x o r e i =
    let told = on_grant_told s m n t x o r e in
    ap (λ (q : Reply). brings q i) (sym told.1) ∙ reply_brings s t x (with_both told.0 m) told.0 i

-- an import brings in just the job with the next number
import_brings : (s : Settings) (m n : Queue) (t : ℕ) (rule : Rule) (d : Result Job Refusal) (r : Reply) → ((k : Job) → d ≡ Ok k → k.number ≡ m.next_job) → brought_in s m t rule d ≡ Taken n r → (x : ℕ) → brings r x ≡ eqb m.next_job x
import_brings s m n t rule (Ok k) r is e x = ap (λ (q : Reply). brings q x) (sym (taken_same (with_new_job k m) n _ r e).1) ∙ ap (λ (a : ℕ). eqb a x) (is k refl)
import_brings s m n t rule (Err y) r is e x = cc

-- a request brings in just the job with the next number, where it is an import, and none else
act_brings : (s : Settings) (m n : Queue) (t : ℕ) (ask : Ask) (r : Reply) → Sound m → act s m t ask ≡ Taken n r → (x : ℕ) → brings r x ≡ (is_import ask && eqb m.next_job x)
act_brings s m n t (Submission o) r h e x = submission_brings m n (s.rule o.dial) (submit o (s.rule o.dial) m.next_job s.max_jobs t) r e x
act_brings s m n t (Bring i) r h e x = import_brings s m n t (s.rule i.order.dial) (bring i (s.rule i.order.dial) m.next_job s.max_jobs t) r (λ k is. (bring_counts i (s.rule i.order.dial) m.next_job s.max_jobs t k is).number) e x
act_brings s m n t (OnJob a ask) r h e x = on_job_brings s m n t ask (job_numbered a m) r e x
act_brings s m n t (Mark modem down) r h e x = mark_brings m n modem down (has_modem s modem) r e x
act_brings s m n t (Next modem) r h e x = given_brings s m n t modem r (given_is s m t modem n r h e) x
act_brings s m n t (OnGrant a report) r h e x = report_brings s m n t report (grant_numbered a m) r e x
act_brings s m n t (GiveUp upto) r h e x = ap (λ (q : Reply). brings q x) (sym (taken_same m n _ r e).1)
act_brings s m n t (Purge before) r h e x = purge_brings m n before (nat_lt t before) r e x

-- the same of a step, which ages the jobs first
pub step_brings : (s : Settings) (m n : Queue) (t : ℕ) (ask : Ask) (r : Reply) → Sound m → step s m t ask ≡ Taken n r → (x : ℕ) → brings r x ≡ (is_import ask && eqb m.next_job x)
step_brings s m n t ask r h e x =
    let d = stamped_taken t (aged t m) (act s (aged t m) t ask) n r e in
    act_brings s (aged t m) d.0 t ask r (aged_sound t m h) d.1 x

-- ---- and its number is used up

-- an import that is taken uses up the next number
import_numbers : (s : Settings) (m n : Queue) (t : ℕ) (rule : Rule) (d : Result Job Refusal) (r : Reply) → brought_in s m t rule d ≡ Taken n r → m.next_job < n.next_job
import_numbers s m n t rule (Ok k) r e = let same = ap (λ (q : Queue). q.next_job) (taken_same (with_new_job k m) n _ r e).0 in omega (arith, same)
import_numbers s m n t rule (Err y) r e = cc

-- the same of a step, which ages the jobs first
pub step_numbers : (s : Settings) (m n : Queue) (t : ℕ) (ask : Ask) (r : Reply) → is_import ask ≡ true → step s m t ask ≡ Taken n r → m.next_job < n.next_job
step_numbers s m n t (Bring i) r on e =
    by_stamp (λ n. m.next_job < n.next_job) t (aged t m) (act s (aged t m) t (Bring i)) n r e (λ k is.
    import_numbers s (aged t m) k t (s.rule i.order.dial) (bring i (s.rule i.order.dial) m.next_job s.max_jobs t) r is)
step_numbers s m n t other r on e = absurd cc
