-- Each grant's job is there.
use Rattle.std.proofs.Common.{◌≡◌, ◌≢◌, inl, inr, ℕ, Bool, true, false, cond, eqb, length, List, [], ◌∷◌, ◌++◌, map, refl, sym, ap, subst, ◌∙◌, nat_lt}
use Rattle.std.specs.Prelude.{Option, Some, None, Result, Ok, Err, find}
use Rattle.fax_job.specs.declared.refusal.Refusal.{Refusal}
use Rattle.fax_job.specs.declared.refusal.Refusal.TheVariants as refusal
use Rattle.fax_core.specs.declared.grants.Grant.{Grant}
use Rattle.fax_core.specs.Ageing.{aged, aged_job}
use Rattle.fax_core.specs.declared.ask.Ask.{Ask}
use Rattle.fax_core.specs.declared.ask.Ask.TheVariants.{Submission, Bring, OnJob, Mark, Next, OnGrant, GiveUp, Purge}
use Rattle.fax_core.specs.declared.ask.JobAsk.{JobAsk}
use Rattle.fax_core.specs.declared.report.Report.{Report}
use Rattle.fax_core.specs.Clock.{decided_at}
use Rattle.fax_core.specs.Decisions.{JobAndGrant, granted, submit, job_asked}
use Rattle.fax_core.specs.Import.{bring}
use Rattle.fax_core.specs.Job.{Job}
use Rattle.fax_core.specs.Laws.{GrantsHaveJobs, IsThere, RunsKeepGrantsWithJobs, StepsKeepGrantsWithJobs}
use Rattle.fax_core.specs.Machine.{with_job, with_mark, with_new_job, submitted, brought_in, changed, on_job, act}
use Rattle.fax_core.specs.Purge.{is_none_of, leaving, without_jobs}
use Rattle.fax_core.specs.Queue.{Queue, job_numbered, grant_numbered}
use Rattle.fax_core.specs.Reply.{Reply, Marked, NoKeys, Purged, Step, Taken, Refused}
use Rattle.fax_core.specs.Run.{decided, left_by}
use Rattle.fax_core.specs.Settings.{Rule, Settings, has_modem}
use Rattle.fax_core.specs.Sound.{FitsGrant, Sound}
use Rattle.fax_core.proofs.DecisionLemmas.{reported_in}
use Rattle.fax_core.proofs.KeepLemmas.{grant_number, numbered_job, same_job}
use Rattle.fax_core.proofs.LeaveLemmas.{found_before, job_after}
use Rattle.fax_core.proofs.PageLemmas.{Reported, StaysSent, act_stays, on_grant_is}
use Rattle.fax_core.proofs.PlaceLemmas.{either, in_place, placed}
use Rattle.fax_core.proofs.PurgeLemmas.{aged_there}
use Rattle.fax_core.proofs.StepLemmas.{Best_to, GivenTo, None_to, aged_sound, decided_sound, given_is, taken_same}
use Rattle.fax_core.proofs.TimesLemmas.{by_stamp}

-- each grant after a change is of a job that was there before, if each was
abbrev Owns : Queue → Queue → Type 0
Owns m n = GrantsHaveJobs m → (a : ℕ) (g : Grant) → grant_numbered a n ≡ Some g → IsThere m g.job

-- where the grants stay as they are
same_owns : (m n : Queue) → n.grants ≡ m.grants → Owns m n
same_owns m n same own a g is = own a g (subst (λ (gs : List Grant). find (λ x. eqb x.number a) gs ≡ Some g) same is)

submission_owns : (m : Queue) (rule : Rule) (d : Result Job Refusal) (n : Queue) (r : Reply) → submitted m rule d ≡ Taken n r → Owns m n
submission_owns m rule (Ok k) n r e = same_owns m n (ap (λ (q : Queue). q.grants) (sym (taken_same (with_new_job k m) n _ r e).0))
submission_owns m rule (Err x) n r e = cc

import_owns : (s : Settings) (m : Queue) (t : ℕ) (rule : Rule) (d : Result Job Refusal) (n : Queue) (r : Reply) → brought_in s m t rule d ≡ Taken n r → Owns m n
import_owns s m t rule (Ok k) n r e = same_owns m n (ap (λ (q : Queue). q.grants) (sym (taken_same (with_new_job k m) n _ r e).0))
import_owns s m t rule (Err x) n r e = cc

changed_owns : (s : Settings) (m : Queue) (t : ℕ) (d : Result Job Refusal) (n : Queue) (r : Reply) → changed s m t d ≡ Taken n r → Owns m n
changed_owns s m t (Ok k) n r e = same_owns m n (ap (λ (q : Queue). q.grants) (sym (taken_same (with_job k m) n _ r e).0))
changed_owns s m t (Err x) n r e = cc

on_job_owns : (s : Settings) (m : Queue) (t : ℕ) (ask : JobAsk) (o : Option Job) (n : Queue) (r : Reply) → on_job s m t ask o ≡ Taken n r → Owns m n
on_job_owns s m t ask None n r e = cc
on_job_owns s m t ask (Some j) n r e = changed_owns s m t (job_asked ask t j) n r e

marked_grants : (m : Queue) (modem : List ℕ) (down : Bool) → (with_mark modem down m).grants ≡ m.grants
marked_grants m modem true = refl
marked_grants m modem false = refl

mark_owns : (m : Queue) (modem : List ℕ) (down b : Bool) (n : Queue) (r : Reply) → cond b (Taken (with_mark modem down m) (Marked down)) (Refused refusal.NoModem NoKeys) ≡ Taken n r → Owns m n
mark_owns m modem down true n r e = same_owns m n (ap (λ (q : Queue). q.grants) (sym (taken_same (with_mark modem down m) n _ r e).0) ∙ marked_grants m modem down)
mark_owns m modem down false n r e = cc

-- a new grant is of the best job, which is there
given_owns : (s : Settings) (m : Queue) (t : ℕ) (modem : List ℕ) (n : Queue) (r : Reply) → GivenTo s m t modem n r → Owns m n
given_owns s m t modem n r (None_to none same told) own a g is = same_owns m n (ap (λ (q : Queue). q.grants) (sym same)) own a g is
given_owns s m t modem n r (Best_to j b none same told) own a g is =
    let made : JobAndGrant = granted j modem m.next_grant in
    let there : find (λ (x : Grant). eqb x.number a) (m.grants ++ made.grant ∷ []) ≡ Some g = subst (λ (q : Queue). grant_numbered a q ≡ Some g) (sym same) is in
    elim (either (λ (x : Grant). eqb x.number a) m.grants made.grant g there) [
      | inl was ↦ own a g was
      | inr new ↦ subst (λ (x : Grant). IsThere m x.job) new.1 (j, b.goes.there)
    ]

-- a report changes a grant, and no grant's job
report_owns : (s : Settings) (m n : Queue) (t a : ℕ) (report : Report) → Sound m → Reported s m n t a report → Owns m n
report_owns s m n t a report h x own b g is =
    let f = reported_in report s.delay t x.job x.grant x.both x.made in
    let held = h.held a x.grant (x.is, f.was_open) in
    let fits : FitsGrant x.job x.grant = subst (λ (y : Job). FitsGrant y x.grant) (same_job m x.grant.job held.0 x.job held.1 x.of) held.2 in
    let there : find (λ (y : Grant). eqb y.number b) (map (in_place grant_number x.both.grant) m.grants) ≡ Some g = subst (λ (q : Queue). grant_numbered b q ≡ Some g) (sym x.left) is in
    let p = placed grant_number b x.both.grant g m.grants there in
    elim p.now [
      | inl new ↦ subst (IsThere m) (sym (ap (λ (y : Grant). y.job) new.1 ∙ (f.reports fits).job)) (x.job, x.of)
      | inr old ↦ subst (λ (y : Grant). IsThere m y.job) (sym old.1) (own b p.before p.was)
    ]

act_owns : (s : Settings) (m n : Queue) (t : ℕ) (ask : Ask) (r : Reply) → Sound m → ((before : ℕ) → ask ≢ Purge before) → act s m t ask ≡ Taken n r → Owns m n
act_owns s m n t (Submission o) r h other e = submission_owns m (s.rule o.dial) (submit o (s.rule o.dial) m.next_job s.max_jobs t) n r e
act_owns s m n t (Bring i) r h other e = import_owns s m t (s.rule i.order.dial) (bring i (s.rule i.order.dial) m.next_job s.max_jobs t) n r e
act_owns s m n t (OnJob a ask) r h other e = on_job_owns s m t ask (job_numbered a m) n r e
act_owns s m n t (Mark modem down) r h other e = mark_owns m modem down (has_modem s modem) n r e
act_owns s m n t (Next modem) r h other e = given_owns s m t modem n r (given_is s m t modem n r h e)
act_owns s m n t (OnGrant a report) r h other e = report_owns s m n t a report h (on_grant_is s m t a report (grant_numbered a m) n r refl e)
act_owns s m n t (GiveUp floor) r h other e = same_owns m n (ap (λ (q : Queue). q.grants) (sym (taken_same m n _ r e).0))
act_owns s m n t (Purge before) r h other e = absurd (other before refl)

-- where no job leaves, each stays for its grants
kept_owned : (s : Settings) (m n : Queue) (t : ℕ) (ask : Ask) (r : Reply) → Sound m → ((before : ℕ) → ask ≢ Purge before) → act s m t ask ≡ Taken n r → GrantsHaveJobs m → GrantsHaveJobs n
kept_owned s m n t ask r h other e own a g is =
    let was = act_owns s m n t ask r h other e own a g is in
    let stays : StaysSent m n = act_stays s m n t ask r h other e in
    let there = stays g.job was.0 was.1 in
    (there.job, there.there)

-- where jobs leave, the grants that stay are of others
left_owned : (m : Queue) (numbers : List ℕ) → Sound m → GrantsHaveJobs m → GrantsHaveJobs (without_jobs numbers m)
left_owned m numbers h own a g is =
    let was = found_before grant_number (λ (x : Grant). is_none_of numbers x.job) m.next_grant a m.grants g h.grants is in
    let its = own a g was.0 in
    (its.0, job_after m numbers h g.job its.0 its.1 (ap (is_none_of numbers) (numbered_job m g.job its.0 its.1) ∙ was.1))

purge_owned : (m : Queue) (before : ℕ) (b : Bool) (n : Queue) (r : Reply) → Sound m → cond b (Refused refusal.PurgeHigh NoKeys) (Taken (without_jobs (leaving before m) m) (Purged (length (leaving before m)))) ≡ Taken n r
    → GrantsHaveJobs m → GrantsHaveJobs n
purge_owned m before true n r h e own = cc
purge_owned m before false n r h e own = subst GrantsHaveJobs (taken_same (without_jobs (leaving before m) m) n _ r e).0 (left_owned m (leaving before m) h own)

act_owned : (s : Settings) (m n : Queue) (t : ℕ) (ask : Ask) (r : Reply) → Sound m → act s m t ask ≡ Taken n r → GrantsHaveJobs m → GrantsHaveJobs n
act_owned s m n t (Submission o) r h e = kept_owned s m n t (Submission o) r h (λ before q. cc) e
act_owned s m n t (Bring i) r h e = kept_owned s m n t (Bring i) r h (λ before q. cc) e
act_owned s m n t (OnJob a ask) r h e = kept_owned s m n t (OnJob a ask) r h (λ before q. cc) e
act_owned s m n t (Mark modem down) r h e = kept_owned s m n t (Mark modem down) r h (λ before q. cc) e
act_owned s m n t (Next modem) r h e = kept_owned s m n t (Next modem) r h (λ before q. cc) e
act_owned s m n t (OnGrant a report) r h e = kept_owned s m n t (OnGrant a report) r h (λ before q. cc) e
act_owned s m n t (GiveUp floor) r h e = kept_owned s m n t (GiveUp floor) r h (λ before q. cc) e
act_owned s m n t (Purge before) r h e = purge_owned m before (nat_lt t before) n r h e

-- ---- steps and runs

-- ageing leaves each job there
aged_owned : (t : ℕ) (m : Queue) → GrantsHaveJobs m → GrantsHaveJobs (aged t m)
aged_owned t m own a g is = let was = own a g is in (aged_job t was.0, aged_there t m g.job was.0 was.1)

pub steps_keep_jobs_of_grants : StepsKeepGrantsWithJobs
steps_keep_jobs_of_grants s m n t ask reply h own e =
    by_stamp GrantsHaveJobs t (aged t m) (act s (aged t m) t ask) n reply e (λ k is. act_owned s (aged t m) k t ask reply (aged_sound t m h) is (aged_owned t m own))

-- whether a step is taken or refused
decided_owned : (m : Queue) (x : Step) → GrantsHaveJobs m → ((n : Queue) (r : Reply) → x ≡ Taken n r → GrantsHaveJobs n) → GrantsHaveJobs (left_by m x)
decided_owned m (Taken n r) own taken = taken n r refl
decided_owned m (Refused e k) own taken = own

pub runs_keep_jobs_of_grants : RunsKeepGrantsWithJobs
runs_keep_jobs_of_grants s m [] h lawful own = own
runs_keep_jobs_of_grants s m (r ∷ rs) h lawful own =
    runs_keep_jobs_of_grants s (left_by m (decided s m r)) rs (decided_sound s m r h lawful.0) lawful.1
    (decided_owned m (decided s m r) own (λ n q e. steps_keep_jobs_of_grants s m n (decided_at m.clock r.moment) r.ask q h own e))
