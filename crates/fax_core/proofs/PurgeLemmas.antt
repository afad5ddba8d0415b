-- Jobs leave by purges alone, and only those that are over.
use Rattle.std.proofs.Common.{◌≡◌, ◌≢◌, ◌⊎◌, inl, inr, ℕ, zero, suc, ◌<◌, Bool, true, false, cond, eqb, ◌||◌, List, [], ◌∷◌, length, map, refl, sym, ap, subst, ◌∙◌, nat_lt}
use Rattle.std.specs.Prelude.{Option, Some, None, filter, not, take}
use Rattle.std.specs.List.{list_any}
use Rattle.std.specs.Option.{option_map}
use Rattle.std.proofs.lemmas.Bool.{and_parts, eqb-true, ltb-false, ltb-true}
use Rattle.fax_job.specs.declared.refusal.Refusal.TheVariants.{PurgeHigh}
use Rattle.fax_core.specs.Ageing.{aged, aged_job}
use Rattle.fax_core.specs.declared.ask.Ask.{Ask}
use Rattle.fax_core.specs.declared.ask.Ask.TheVariants.{Submission, Bring, OnJob, Mark, Next, OnGrant, GiveUp, Purge}
use Rattle.fax_core.specs.Clock.{decided_at}
use Rattle.fax_core.specs.Job.{Job}
use Rattle.fax_core.specs.Laws.{IsGone, IsThere, LeavesByPurge, OnlyTheOverLeave, RunsKeepJobs}
use Rattle.fax_core.specs.Machine.{act, step}
use Rattle.fax_core.specs.Purge.{ends_before, is_none_of, leaving, may_leave, most_purged, without_jobs}
use Rattle.fax_core.specs.Queue.{Queue, job_numbered, times_numbered}
use Rattle.fax_core.specs.Reply.{NoKeys, Purged, Refused, Reply, Step, Taken}
use Rattle.fax_core.specs.Run.{decided, left_by}
use Rattle.fax_core.specs.Settings.{Settings}
use Rattle.fax_core.specs.Sound.{IsJob, Sound}
use Rattle.fax_core.specs.Times.{has_ended}
use Rattle.fax_core.specs.declared.times.Times.{Times}
use Rattle.fax_core.proofs.DecisionLemmas.{aged_number}
use Rattle.fax_core.proofs.KeepLemmas.{job_number, looked_up, numbered_job, same_job}
use Rattle.fax_core.proofs.LeaveLemmas.{job_after, job_below, job_gone}
use Rattle.fax_core.proofs.PageLemmas.{act_stays}
use Rattle.fax_core.proofs.PlaceLemmas.{In, in_found, of_filter}
use Rattle.fax_core.proofs.StepLemmas.{aged_sound, decided_sound, taken_same}
use Rattle.fax_core.proofs.TimesLemmas.{by_stamp}

-- ---- who is among those that leave

-- a number that is one of these is in the list
in_numbers : (ns : List ℕ) (n : ℕ) → list_any (λ other. eqb other n) ns ≡ true → In n ns
in_numbers [] n h = absurd cc
in_numbers (k ∷ ns) n h = by (eqb k n) refl h (in_numbers ns n)
  where
    by : (b : Bool) → eqb k n ≡ b → (b || list_any (λ other. eqb other n) ns) ≡ true → (list_any (λ other. eqb other n) ns ≡ true → In n ns) → In n (k ∷ ns)
    by true e h more = inl (eqb-true k n e)
    by false e h more = inr (more h)

-- what is among the first is in the list
in_first : {X : Type 0} (k : ℕ) (xs : List X) (x : X) → In x (take k xs) → In x xs
in_first zero [] x i = absurd i
in_first (suc k) [] x i = absurd i
in_first zero (y ∷ ys) x i = absurd i
in_first (suc k) (y ∷ ys) x (inl same) = inl same
in_first (suc k) (y ∷ ys) x (inr i) = inr (in_first k ys x i)

-- a number of some jobs is one's
of_jobs : (js : List Job) (n : ℕ) → In n (map job_number js) → (j : Job) × In j js × (j.number ≡ n)
of_jobs [] n i = absurd i
of_jobs (j ∷ js) n (inl same) = (j, inl refl, same)
of_jobs (j ∷ js) n (inr i) = let more = of_jobs js n i in (more.0, inr more.1, more.2)

-- a number that is among those that leave is that of a job that may leave
pub named_job : (m : Queue) (before n : ℕ) → Sound m → is_none_of (leaving before m) n ≡ false → (k : Job) × IsJob m n k × (may_leave before m k ≡ true)
named_job m before n h e =
    let named = in_numbers (leaving before m) n (not_from (list_any (λ other. eqb other n) (leaving before m)) e) in
    let one = of_jobs (filter (may_leave before m) m.jobs) n (in_first most_purged (map job_number (filter (may_leave before m) m.jobs)) n named) in
    let there = of_filter (may_leave before m) m.jobs one.0 one.1 in
    let found : IsJob m one.0.number one.0 = in_found job_number 0 m.next_job m.jobs one.0 h.jobs there.0 in
    (one.0, subst (λ (i : ℕ). IsJob m i one.0) one.2 found, there.1)
  where
    not_from : (b : Bool) → not b ≡ false → b ≡ true
    not_from true e = refl
    not_from false e = absurd cc

-- a job whose number is among them may leave
pub leaver : (m : Queue) (before n : ℕ) (j : Job) → Sound m → IsJob m n j → is_none_of (leaving before m) j.number ≡ false → may_leave before m j ≡ true
leaver m before n j h is e =
    let one = named_job m before j.number h e in
    let same : one.0 ≡ j = same_job m n one.0 j (subst (λ (i : ℕ). IsJob m i one.0) (numbered_job m n j is) one.1) is in
    subst (λ (k : Job). may_leave before m k ≡ true) same one.2

-- and is gone then
pub leaver_gone : (m : Queue) (before n : ℕ) → Sound m → is_none_of (leaving before m) n ≡ false → IsGone (without_jobs (leaving before m) m) n
leaver_gone m before n h e =
    let one = named_job m before n h e in
    let number = numbered_job m n one.0 one.1 in
    record { absent = job_gone m (leaving before m) h n one.0 one.1 (ap (is_none_of (leaving before m)) number ∙ e); given = job_below m h n one.0 one.1 }

-- its times have an end before that moment
ends_so : (before : ℕ) (o : Option Times) → ends_before before o ≡ true → (x : Times) × (o ≡ Some x) × (x.ended < before)
ends_so before None e = absurd cc
ends_so before (Some x) e = (x, refl, ltb-true x.ended before e)

-- ---- a step

-- a purge takes out no other job
purge_takes : (m : Queue) (t before number : ℕ) (b : Bool) (n : Queue) (r : Reply) (j : Job) → Sound m → nat_lt t before ≡ b
    → cond b (Refused PurgeHigh NoKeys) (Taken (without_jobs (leaving before m) m) (Purged (length (leaving before m)))) ≡ Taken n r
    → IsJob m number j → job_numbered number n ≡ None → LeavesByPurge m t (Purge before) number j
purge_takes m t before number true n r j h late e is none = cc
purge_takes m t before number false n r j h late e is none =
    let gone : job_numbered number (without_jobs (leaving before m) m) ≡ None = subst (λ (q : Queue). job_numbered number q ≡ None) (sym (taken_same (without_jobs (leaving before m) m) n _ r e).0) none in
    let leaves = by (is_none_of (leaving before m) j.number) refl gone in
    let may = and_parts (has_ended j.phase) _ (leaver m before number j h is leaves) in
    let its = ends_so before (times_numbered j.number m) may.1 in
    record {
      before = before;
      purge = refl;
      past = ltb-false t before late;
      over = may.0;
      times = its.0;
      its = ap (λ (i : ℕ). times_numbered i m) (sym (numbered_job m number j is)) ∙ its.1;
      ended = its.2;
    }
  where
    by : (stays : Bool) → is_none_of (leaving before m) j.number ≡ stays → job_numbered number (without_jobs (leaving before m) m) ≡ None → is_none_of (leaving before m) j.number ≡ false
    by true e none = let there = job_after m (leaving before m) h number j is e in cc (none, there)
    by false e none = e

-- where no job leaves, the job is there
none_takes : (m n : Queue) (t number : ℕ) (s : Settings) (ask : Ask) (r : Reply) (j : Job) → Sound m → ((before : ℕ) → ask ≢ Purge before) → act s m t ask ≡ Taken n r
    → IsJob m number j → job_numbered number n ≡ None → LeavesByPurge m t ask number j
none_takes m n t number s ask r j h other e is none = let there = act_stays s m n t ask r h other e number j is in absurd (let out = there.there in cc (none, out))

act_takes : (s : Settings) (m n : Queue) (t : ℕ) (ask : Ask) (r : Reply) (number : ℕ) (j : Job) → Sound m → act s m t ask ≡ Taken n r
    → IsJob m number j → job_numbered number n ≡ None → LeavesByPurge m t ask number j
act_takes s m n t (Submission o) r number j h e is none = none_takes m n t number s (Submission o) r j h (λ before q. cc) e is none
act_takes s m n t (Bring i) r number j h e is none = none_takes m n t number s (Bring i) r j h (λ before q. cc) e is none
act_takes s m n t (OnJob a ask) r number j h e is none = none_takes m n t number s (OnJob a ask) r j h (λ before q. cc) e is none
act_takes s m n t (Mark modem down) r number j h e is none = none_takes m n t number s (Mark modem down) r j h (λ before q. cc) e is none
act_takes s m n t (Next modem) r number j h e is none = none_takes m n t number s (Next modem) r j h (λ before q. cc) e is none
act_takes s m n t (OnGrant a report) r number j h e is none = none_takes m n t number s (OnGrant a report) r j h (λ before q. cc) e is none
act_takes s m n t (GiveUp floor) r number j h e is none = none_takes m n t number s (GiveUp floor) r j h (λ before q. cc) e is none
act_takes s m n t (Purge before) r number j h e is none = purge_takes m t before number (nat_lt t before) n r j h refl e is none

pub only_the_over : OnlyTheOverLeave
only_the_over s m n t ask reply number j h e is =
    by_stamp (λ n. job_numbered number n ≡ None → LeavesByPurge (aged t m) t ask number j) t (aged t m) (act s (aged t m) t ask) n reply e
    (λ k it none. act_takes s (aged t m) k t ask reply number j (aged_sound t m h) it is none)

-- ---- a run

-- ageing leaves each job there
pub aged_there : (t : ℕ) (m : Queue) (number : ℕ) (j : Job) → IsJob m number j → IsJob (aged t m) number (aged_job t j)
aged_there t m number j is = looked_up m (aged_job t) (aged_number t) number ∙ ap (option_map (aged_job t)) is

-- after a step a job is there, or left
step_there : (s : Settings) (m : Queue) (t : ℕ) (ask : Ask) (x : Step) (number : ℕ) (o : Option Job) → Sound m → step s m t ask ≡ x → job_numbered number (left_by m x) ≡ o
    → IsThere m number → IsThere (left_by m x) number ⊎ ((j : Job) × LeavesByPurge (aged t m) t ask number j)
step_there s m t ask x number (Some k) h e is there = inl (k, is)
step_there s m t ask (Refused refusal keys) number None h e is there = inl there
step_there s m t ask (Taken n r) number None h e is (j, it) =
    let was = aged_there t m number j it in
    inr (aged_job t j, only_the_over s m n t ask r number (aged_job t j) h e was is)

pub run_there : RunsKeepJobs
run_there s m [] number h lawful there = inl there
run_there s m (r ∷ rs) number h lawful there =
    elim (step_there s m (decided_at m.clock r.moment) r.ask (decided s m r) number (job_numbered number (left_by m (decided s m r))) h refl refl there) [
      | inl still ↦ elim (run_there s (left_by m (decided s m r)) rs number (decided_sound s m r h lawful.0) lawful.1 still) [
        | inl end ↦ inl end
        | inr leaves ↦ inr (inr leaves)
      ]
      | inr leaves ↦ inr (inl leaves)
    ]
