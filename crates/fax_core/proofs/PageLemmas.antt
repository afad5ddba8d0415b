-- Pages go from the front of those left to the end of those sent, and stay there.
use Rattle.std.proofs.Common.{◌≡◌, ◌≢◌, ◌⊎◌, inl, inr, ℕ, zero, suc, ◌+◌, ◌-◌, ◌<◌, ◌≤◌, Bool, true, false, cond, eqb, List, [], ◌∷◌, ◌++◌, length, refl, sym, ap, subst, ◌∙◌, append_assoc, arith}
use Rattle.std.specs.Prelude.{Option, Some, None, Result, Ok, Err, find, max, nat_lt}
use Rattle.std.specs.List.{range_with_len}
use Rattle.std.specs.Option.{option_map}
use Rattle.std.proofs.lemmas.Bool.{cases_eq}
use Rattle.std.proofs.lemmas.List.{append-nil, length-append}
use Rattle.fax_job.specs.declared.refusal.Refusal.{Refusal}
use Rattle.fax_job.specs.declared.refusal.Refusal.TheVariants as refusal
use Rattle.fax_core.specs.declared.grants.Grant.{Grant}
use Rattle.fax_core.specs.Ageing.{aged, aged_job}
use Rattle.fax_core.specs.declared.ask.Ask.{Ask}
use Rattle.fax_core.specs.declared.ask.Ask.TheVariants.{Submission, Bring, OnJob, Mark, Next, OnGrant, GiveUp, Purge}
use Rattle.fax_core.specs.declared.ask.JobAsk.{JobAsk}
use Rattle.fax_core.specs.declared.report.Report.{Report}
use Rattle.fax_core.specs.declared.report.Report.TheVariants.{Page}
use Rattle.fax_core.specs.Decisions.{JobAndGrant, submit, job_asked, granted, grant_reported}
use Rattle.fax_core.specs.Import.{bring}
use Rattle.fax_core.specs.Job.{Job, HasPages, pages_to}
use Rattle.fax_core.specs.Laws.{HasSent, IsGone, ConfirmsPage, GivesJob}
use Rattle.fax_core.specs.Machine.{with_job, with_both, with_new_job, with_new_grant, with_mark, dial_of, handed, submitted, brought_in, changed, on_job, reported, on_both, on_grant, report_reply, act, step, given_to}
use Rattle.fax_core.specs.Purge.{is_none_of, leaving, without_jobs}
use Rattle.fax_core.specs.Queue.{Queue, job_numbered, grant_numbered}
use Rattle.fax_core.specs.Reply.{Reply, Marked, Handed, Given, Purged, NoKeys, Step, Taken, Refused}
use Rattle.fax_core.specs.Run.{Request, left_by, decided, queue_after, AreLawful}
use Rattle.fax_core.specs.Settings.{Rule, Settings, has_modem}
use Rattle.fax_core.specs.Sound.{IsJob, IsOpen, Sound}
use Rattle.fax_core.proofs.DecisionLemmas.{Keeps, aged_number, aged_sent, asked_in, paged, reported_in}
use Rattle.fax_core.proofs.GoneLemmas.{aged_gone, step_gone}
use Rattle.fax_core.proofs.LeaveLemmas.{job_after, job_below, job_gone}
use Rattle.fax_core.proofs.KeepLemmas.{same_job, numbered_job, looked_up, Grants, found_new}
use Rattle.fax_core.proofs.PlaceLemmas.{stays, placed_here, placed_other}
use Rattle.fax_core.proofs.StepLemmas.{taken_same, aged_sound, GivenTo, None_to, Best_to, given_is, given_grants, run_sound, step_sound, decided_sound}
use Rattle.fax_core.proofs.TimesLemmas.{by_stamp}

-- ---- the pages that are sent stay sent

abbrev pub StaysSent : Queue → Queue → Type 0
StaysSent m n = (a : ℕ) (j : Job) → IsJob m a j → HasSent n a j.sent

-- the same of the jobs that don't leave
abbrev SentOrGone : Queue → Queue → Type 0
SentOrGone m n = (a : ℕ) (j : Job) → IsJob m a j → HasSent n a j.sent ⊎ IsGone n a

-- and what has left stays away
pub record KeepsSent (m n : Queue) : Type 0 where
  pub sent : SentOrGone m n
  pub gone : (a : ℕ) → IsGone m a → IsGone n a

-- the same jobs have sent the same pages
same_sent : (m n : Queue) → n.jobs ≡ m.jobs → StaysSent m n
same_sent m n e a j is = record { job = j; there = subst (λ (js : List Job). find (λ k. eqb k.number a) js ≡ Some j) (sym e) is; more = []; begins = sym (append-nil j.sent) }

-- what stays sent twice stays sent
through_stays : (l m n : Queue) → StaysSent l m → StaysSent m n → StaysSent l n
through_stays l m n f g a j is =
    let x = f a j is in
    let y = g a x.job x.there in
    record { job = y.job; there = y.there; more = x.more ++ y.more; begins = y.begins ∙ ap (λ (ps : List ℕ). ps ++ y.more) x.begins ∙ append_assoc j.sent x.more y.more }

-- ageing leaves what is sent
aged_stays : (t : ℕ) (m : Queue) → StaysSent m (aged t m)
aged_stays t m a j is = record { job = aged_job t j; there = looked_up m (aged_job t) (aged_number t) a ∙ ap (option_map (aged_job t)) is; more = []; begins = aged_sent t j ∙ sym (append-nil j.sent) }

-- a job in its place
placed_keeps_by : (m : Queue) (b : ℕ) (j k : Job) (more : List ℕ) → IsJob m b j → k.number ≡ b → k.sent ≡ j.sent ++ more → (a : ℕ) (x : Job) → IsJob m a x → (k.number ≡ a) ⊎ (k.number ≢ a) → HasSent (with_job k m) a x.sent
placed_keeps_by m b j k more is same e a x at (inl q) =
    let here : b ≡ a = sym same ∙ q in
    let it : x ≡ j = same_job m b x j (subst (λ (i : ℕ). IsJob m i x) (sym here) at) is in
    record { job = k; there = placed_here (λ (y : Job). y.number) a k x m.jobs at q; more = more; begins = e ∙ ap (λ (y : Job). y.sent ++ more) (sym it) }
placed_keeps_by m b j k more is same e a x at (inr q) =
    record { job = x; there = placed_other (λ (y : Job). y.number) a k x m.jobs at q; more = []; begins = sym (append-nil x.sent) }

-- a job in its place, with more pages sent, leaves what is sent
placed_keeps : (m : Queue) (b : ℕ) (j k : Job) (more : List ℕ) → IsJob m b j → k.number ≡ b → k.sent ≡ j.sent ++ more → StaysSent m (with_job k m)
placed_keeps m b j k more is same e a x at = placed_keeps_by m b j k more is same e a x at (cases_eq k.number a)

-- a change of a job leaves what is sent
changed_keeps : (s : Settings) (m : Queue) (t : ℕ) (a : ℕ) (j : Job) (d : Result Job Refusal) (n : Queue) (r : Reply) → IsJob m a j → ((k : Job) → d ≡ Ok k → Keeps j k) → changed s m t d ≡ Taken n r → StaysSent m n
changed_keeps s m t a j (Ok k) n r is keeps e =
    let f = keeps k refl in
    subst (StaysSent m) (taken_same (with_job k m) n _ r e).0 (placed_keeps m a j k [] is (f.number ∙ numbered_job m a j is) (f.sent ∙ sym (append-nil j.sent)))
changed_keeps s m t a j (Err x) n r is keeps e = cc

-- so does a request on a job
on_job_keeps : (s : Settings) (m : Queue) (t : ℕ) (a : ℕ) (ask : JobAsk) (o : Option Job) (n : Queue) (r : Reply) → job_numbered a m ≡ o → on_job s m t ask o ≡ Taken n r → StaysSent m n
on_job_keeps s m t a ask None n r is e = cc
on_job_keeps s m t a ask (Some j) n r is e = changed_keeps s m t a j (job_asked ask t j) n r is (asked_in ask t j) e

-- what a taken report is
pub record Reported (s : Settings) (m n : Queue) (t a : ℕ) (report : Report) : Type 0 where
  pub grant : Grant
  pub is : grant_numbered a m ≡ Some grant
  pub job : Job
  pub of : IsJob m grant.job job
  pub both : JobAndGrant
  pub made : grant_reported report s.delay t job grant ≡ Ok both
  pub left : with_both both m ≡ n

-- a report that is taken is one of a job that is there
reported_is : (s : Settings) (m : Queue) (t a : ℕ) (x : Report) (g : Grant) (j : Job) (d : Result JobAndGrant Refusal) (n : Queue) (r : Reply)
    → grant_numbered a m ≡ Some g → IsJob m g.job j → grant_reported x s.delay t j g ≡ d → reported m (report_reply s t x) j d ≡ Taken n r → Reported s m n t a x
reported_is s m t a x g j (Ok b) n r is of made e = record { grant = g; is = is; job = j; of = of; both = b; made = made; left = (taken_same (with_both b m) n _ r e).0 }
reported_is s m t a x g j (Err f) n r is of made e = cc

-- the same of a grant whose job is there or not
on_both_is : (s : Settings) (m : Queue) (t a : ℕ) (x : Report) (g : Grant) (o : Option Job) (n : Queue) (r : Reply)
    → grant_numbered a m ≡ Some g → job_numbered g.job m ≡ o → on_both s m t x g o ≡ Taken n r → Reported s m n t a x
on_both_is s m t a x g None n r is of e = cc
on_both_is s m t a x g (Some j) n r is of e = reported_is s m t a x g j (grant_reported x s.delay t j g) n r is of refl e

-- the same of a grant that is there or not
pub on_grant_is : (s : Settings) (m : Queue) (t a : ℕ) (x : Report) (o : Option Grant) (n : Queue) (r : Reply) → grant_numbered a m ≡ o → on_grant s m t x o ≡ Taken n r → Reported s m n t a x
on_grant_is s m t a x None n r is e = cc
on_grant_is s m t a x (Some g) n r is e = on_both_is s m t a x g (job_numbered g.job m) n r is refl e

-- a report leaves what is sent
report_keeps : (s : Settings) (m n : Queue) (t a : ℕ) (report : Report) → Reported s m n t a report → StaysSent m n
report_keeps s m n t a report x =
    let f = reported_in report s.delay t x.job x.grant x.both x.made in
    let k = placed_keeps m x.grant.job x.job x.both.job f.more x.of (f.number ∙ numbered_job m x.grant.job x.job x.of) f.sent in
    through_stays m (with_job x.both.job m) n k (same_sent (with_job x.both.job m) n (ap (λ (q : Queue). q.jobs) (sym x.left)))

-- so does a request for work
given_keeps : (s : Settings) (m : Queue) (t : ℕ) (modem : List ℕ) (n : Queue) (r : Reply) → GivenTo s m t modem n r → StaysSent m n
given_keeps s m t modem n r (None_to none same told) = same_sent m n (ap (λ (q : Queue). q.jobs) (sym same))
given_keeps s m t modem n r (Best_to j b none same told) =
    let k = (granted j modem m.next_grant).job in
    through_stays m (with_job k m) n (placed_keeps m j.number j k [] b.goes.there refl (sym (append-nil j.sent))) (same_sent (with_job k m) n (ap (λ (q : Queue). q.jobs) (sym same)))

-- and a submission
submission_keeps : (m : Queue) (rule : Rule) (d : Result Job Refusal) (n : Queue) (r : Reply) → submitted m rule d ≡ Taken n r → StaysSent m n
submission_keeps m rule (Ok k) n r e = subst (StaysSent m) (taken_same (with_new_job k m) n _ r e).0 (λ a j is. record { job = j; there = stays (λ (x : Job). eqb x.number a) m.jobs k j is; more = []; begins = sym (append-nil j.sent) })
submission_keeps m rule (Err x) n r e = cc

-- and an import
import_keeps : (s : Settings) (m : Queue) (t : ℕ) (rule : Rule) (d : Result Job Refusal) (n : Queue) (r : Reply) → brought_in s m t rule d ≡ Taken n r → StaysSent m n
import_keeps s m t rule (Ok k) n r e = subst (StaysSent m) (taken_same (with_new_job k m) n _ r e).0 (λ a j is. record { job = j; there = stays (λ (x : Job). eqb x.number a) m.jobs k j is; more = []; begins = sym (append-nil j.sent) })
import_keeps s m t rule (Err x) n r e = cc

-- a mark leaves the jobs
mark_jobs : (m : Queue) (modem : List ℕ) (down : Bool) → (with_mark modem down m).jobs ≡ m.jobs
mark_jobs m modem true = refl
mark_jobs m modem false = refl

-- so it leaves what is sent
mark_keeps : (m : Queue) (modem : List ℕ) (down b : Bool) (n : Queue) (r : Reply) → cond b (Taken (with_mark modem down m) (Marked down)) (Refused refusal.NoModem NoKeys) ≡ Taken n r → StaysSent m n
mark_keeps m modem down true n r e = same_sent m n (ap (λ (q : Queue). q.jobs) (sym (taken_same (with_mark modem down m) n _ r e).0) ∙ mark_jobs m modem down)
mark_keeps m modem down false n r e = cc

-- the same where no job leaves
none_leave : (m n : Queue) → StaysSent m n → SentOrGone m n
none_leave m n h a j is = inl (h a j is)

-- where jobs leave, the others stay as they are
leave_keeps : (m : Queue) (numbers : List ℕ) → Sound m → SentOrGone m (without_jobs numbers m)
leave_keeps m numbers h a j is = by (is_none_of numbers j.number) refl
  where
    by : (stays : Bool) → is_none_of numbers j.number ≡ stays → HasSent (without_jobs numbers m) a j.sent ⊎ IsGone (without_jobs numbers m) a
    by true e = inl (record { job = j; there = job_after m numbers h a j is e; more = []; begins = sym (append-nil j.sent) })
    by false e = inr (record { absent = job_gone m numbers h a j is e; given = job_below m h a j is })

-- a purge does so
purged_keeps : (m : Queue) (before : ℕ) (b : Bool) (n : Queue) (r : Reply) → Sound m → cond b (Refused refusal.PurgeHigh NoKeys) (Taken (without_jobs (leaving before m) m) (Purged (length (leaving before m)))) ≡ Taken n r → SentOrGone m n
purged_keeps m before true n r h e = cc
purged_keeps m before false n r h e = subst (SentOrGone m) (taken_same (without_jobs (leaving before m) m) n _ r e).0 (leave_keeps m (leaving before m) h)

-- each request but a purge leaves what is sent
pub act_stays : (s : Settings) (m n : Queue) (t : ℕ) (ask : Ask) (r : Reply) → Sound m → ((before : ℕ) → ask ≢ Purge before) → act s m t ask ≡ Taken n r → StaysSent m n
act_stays s m n t (Submission o) r h other e = submission_keeps m (s.rule o.dial) (submit o (s.rule o.dial) m.next_job s.max_jobs t) n r e
act_stays s m n t (Bring i) r h other e = import_keeps s m t (s.rule i.order.dial) (bring i (s.rule i.order.dial) m.next_job s.max_jobs t) n r e
act_stays s m n t (OnJob a ask) r h other e = on_job_keeps s m t a ask (job_numbered a m) n r refl e
act_stays s m n t (Mark modem down) r h other e = mark_keeps m modem down (has_modem s modem) n r e
act_stays s m n t (Next modem) r h other e = given_keeps s m t modem n r (given_is s m t modem n r h e)
act_stays s m n t (OnGrant a report) r h other e = report_keeps s m n t a report (on_grant_is s m t a report (grant_numbered a m) n r refl e)
act_stays s m n t (GiveUp floor) r h other e = same_sent m n (ap (λ (q : Queue). q.jobs) (sym (taken_same m n _ r e).0))
act_stays s m n t (Purge before) r h other e = absurd (other before refl)

-- a purge leaves what is sent, or the job leaves
act_keeps : (s : Settings) (m n : Queue) (t : ℕ) (ask : Ask) (r : Reply) → Sound m → act s m t ask ≡ Taken n r → SentOrGone m n
act_keeps s m n t (Submission o) r h e = none_leave m n (act_stays s m n t (Submission o) r h (λ before is. cc) e)
act_keeps s m n t (Bring i) r h e = none_leave m n (act_stays s m n t (Bring i) r h (λ before is. cc) e)
act_keeps s m n t (OnJob a ask) r h e = none_leave m n (act_stays s m n t (OnJob a ask) r h (λ before is. cc) e)
act_keeps s m n t (Mark modem down) r h e = none_leave m n (act_stays s m n t (Mark modem down) r h (λ before is. cc) e)
act_keeps s m n t (Next modem) r h e = none_leave m n (act_stays s m n t (Next modem) r h (λ before is. cc) e)
act_keeps s m n t (OnGrant a report) r h e = none_leave m n (act_stays s m n t (OnGrant a report) r h (λ before is. cc) e)
act_keeps s m n t (GiveUp floor) r h e = none_leave m n (act_stays s m n t (GiveUp floor) r h (λ before is. cc) e)
act_keeps s m n t (Purge before) r h e = purged_keeps m before (nat_lt t before) n r h e

-- so does a step
step_sent : (s : Settings) (m n : Queue) (t : ℕ) (ask : Ask) (r : Reply) → Sound m → step s m t ask ≡ Taken n r → SentOrGone m n
step_sent s m n t ask r h e =
    by_stamp (SentOrGone m) t (aged t m) (act s (aged t m) t ask) n r e (λ k is a j there.
    let x = aged_stays t m a j there in
    elim (act_keeps s (aged t m) k t ask r (aged_sound t m h) is a x.job x.there) [
      | inl y ↦ inl (record { job = y.job; there = y.there; more = x.more ++ y.more; begins = y.begins ∙ ap (λ (ps : List ℕ). ps ++ y.more) x.begins ∙ append_assoc j.sent x.more y.more })
      | inr gone ↦ inr (record { absent = gone.absent; given = gone.given })
    ])

pub step_keeps : (s : Settings) (m n : Queue) (t : ℕ) (ask : Ask) (r : Reply) → Sound m → step s m t ask ≡ Taken n r → KeepsSent m n
step_keeps s m n t ask r h e = record { sent = step_sent s m n t ask r h e; gone = λ a gone. step_gone s m n t ask r a e gone }

-- what is left alone keeps what is sent
pub same_keeps : (m : Queue) → KeepsSent m m
same_keeps m = record { sent = none_leave m m (same_sent m m refl); gone = λ a gone. gone }

-- so does ageing
pub aged_keeps : (t : ℕ) (m : Queue) → KeepsSent m (aged t m)
aged_keeps t m = record { sent = none_leave m (aged t m) (aged_stays t m); gone = aged_gone t m }

-- what is kept twice is kept
pub through : (l m n : Queue) → KeepsSent l m → KeepsSent m n → KeepsSent l n
through l m n f g = record {
  sent = λ a j is. elim (f.sent a j is) [
    | inl x ↦ elim (g.sent a x.job x.there) [
      | inl y ↦ inl (record { job = y.job; there = y.there; more = x.more ++ y.more; begins = y.begins ∙ ap (λ (ps : List ℕ). ps ++ y.more) x.begins ∙ append_assoc j.sent x.more y.more })
      | inr gone ↦ inr gone
    ]
    | inr gone ↦ inr (g.gone a gone)
  ];
  gone = λ a gone. g.gone a (f.gone a gone);
}

-- what a step leaves where it is taken, it leaves in any case
left_keeps : (m : Queue) (x : Step) → ((n : Queue) (r : Reply) → x ≡ Taken n r → KeepsSent m n) → KeepsSent m (left_by m x)
left_keeps m (Taken n r) f = f n r refl
left_keeps m (Refused e k) f = same_keeps m

-- a run leaves what is sent
pub run_keeps : (s : Settings) (m : Queue) (rs : List Request) → Sound m → AreLawful rs → KeepsSent m (queue_after s m rs)
run_keeps s m [] h lawful = same_keeps m
run_keeps s m (r ∷ rs) h lawful =
    let next = left_by m (decided s m r) in
    through m next (queue_after s m (r ∷ rs))
    (left_keeps m (decided s m r) (λ n q e. step_keeps s m n (max m.clock r.moment) r.ask q h e))
    (run_keeps s next rs (decided_sound s m r h lawful.0) lawful.1)

-- ---- numbers of pages

-- in a range, what stands behind some is as many above the first
head_is : (xs : List ℕ) (p : ℕ) (rest : List ℕ) (a n : ℕ) → xs ++ p ∷ rest ≡ range_with_len a n → p ≡ a + length xs
head_is [] p rest a zero e = cc
head_is [] p rest a (suc n) e = let same : p ≡ a = cc in omega arith
head_is (x ∷ xs) p rest a zero e = cc
head_is (x ∷ xs) p rest a (suc n) e =
    let rest' : xs ++ p ∷ rest ≡ range_with_len (a + 1) n = cc in
    let more = head_is xs p rest (a + 1) n rest' in
    omega arith

-- the front of a range is one
pub front_is : (xs ys : List ℕ) (a n : ℕ) → xs ++ ys ≡ range_with_len a n → xs ≡ range_with_len a (length xs)
front_is [] ys a n e = refl
front_is (x ∷ xs) ys a zero e = cc
front_is (x ∷ xs) ys a (suc n) e =
    let head : x ≡ a = cc in
    let rest : xs ++ ys ≡ range_with_len (a + 1) n = cc in
    let more = front_is xs ys (a + 1) n rest in
    cc

-- the end of a range is one, from behind its front
pub tail_is : (xs ys : List ℕ) (a n : ℕ) → xs ++ ys ≡ range_with_len a n → ys ≡ range_with_len (a + length xs) (n - length xs)
tail_is [] ys a n e =
    let here : a + 0 ≡ a = omega arith in
    let all : n - 0 ≡ n = omega arith in
    rw (here, all) e
tail_is (x ∷ xs) ys a zero e = cc
tail_is (x ∷ xs) ys a (suc n) e =
    let rest : xs ++ ys ≡ range_with_len (a + 1) n = cc in
    let more = tail_is xs ys (a + 1) n rest in
    let start : (a + 1) + length xs ≡ a + length (x ∷ xs) = omega arith in
    let len : n - length xs ≡ suc n - length (x ∷ xs) = omega arith in
    more ∙ ap (λ (i : ℕ). range_with_len i (n - length xs)) start ∙ ap (λ (i : ℕ). range_with_len (a + length (x ∷ xs)) i) len

-- ---- a taken page report

-- a page report that is taken confirms the first page left
pub confirmed : (s : Settings) (m n : Queue) (t a p : ℕ) (r : Reply) → step s m t (OnGrant a (Page p)) ≡ Taken n r → ConfirmsPage (aged t m) n a p
confirmed s m n t a p r e =
    by_stamp (λ n. ConfirmsPage (aged t m) n a p) t (aged t m) (on_grant s (aged t m) t (Page p) (grant_numbered a (aged t m))) n r e (λ k is.
    let x = on_grant_is s (aged t m) t a (Page p) (grant_numbered a (aged t m)) k r refl is in
    let f = paged p x.job x.grant x.both x.made in
    let here : x.both.job.number ≡ x.grant.job = f.0.number ∙ numbered_job (aged t m) x.grant.job x.job x.of in
    let there : IsJob (with_job x.both.job (aged t m)) x.grant.job x.both.job = placed_here (λ (y : Job). y.number) x.grant.job x.both.job x.job (aged t m).jobs x.of here in
    record {
      grant = x.grant;
      open_grant = (x.is, f.0.was_open);
      old = x.job;
      was_there = x.of;
      new = x.both.job;
      there = subst (λ (q : Queue). IsJob q x.grant.job x.both.job) x.left there;
      rest = f.1.rest;
      left = f.1.left;
      left_now = ap (λ (j : Job). j.left) f.1.job;
      sent_now = ap (λ (j : Job). j.sent) f.1.job;
    })

-- ---- a taken request for a job

-- the pages from behind those sent through the last are those left
left_of : (j : Job) → HasPages j → range_with_len (length j.sent + 1) (j.totpages + 1 - (length j.sent + 1)) ≡ j.left
left_of j h =
    let here : 1 + length j.sent ≡ length j.sent + 1 = omega arith in
    let many : j.totpages - length j.sent ≡ j.totpages + 1 - (length j.sent + 1) = omega arith in
    sym (tail_is j.sent j.left 1 j.totpages h ∙ ap (λ (i : ℕ). range_with_len i (j.totpages - length j.sent)) here ∙ ap (λ (i : ℕ). range_with_len (length j.sent + 1) i) many)

-- a request for work that is given a job gives it to a free modem
gives : (s : Settings) (m n : Queue) (t : ℕ) (modem : List ℕ) (h : Handed) → Sound m → GivenTo s m t modem n (Given h) → GivesJob m n modem h
gives s m n t modem h sound (None_to none same told) = cc
gives s m n t modem h sound (Best_to j b none same told) =
    let made : JobAndGrant = granted j modem m.next_grant in
    let r : Grants m j.number j made = given_grants s m t modem j sound none b in
    let is : handed made.grant (with_new_grant made m) ≡ h = cc in
    let all : GivesJob m n modem (handed made.grant (with_new_grant made m)) = record {
      job = j;
      was_there = b.goes.there;
      first = refl;
      pages = left_of j r.fits.counted.pages;
      modem_free = r.modem_free;
      job_free = r.job_free;
      grant = made.grant;
      open_grant = subst (λ (q : Queue). IsOpen q m.next_grant made.grant) same (found_new m j.number j made r sound);
      of_modem = refl;
      of_job = refl;
      first_page = refl;
      last_page = refl;
      dial = ap dial_of (placed_here (λ (x : Job). x.number) j.number made.job j m.jobs b.goes.there refl);
    } in
    subst (GivesJob m n modem) is all

-- the same of a step, which ages the jobs first
pub step_gives : (s : Settings) (m n : Queue) (t : ℕ) (modem : List ℕ) (h : Handed) → Sound m → step s m t (Next modem) ≡ Taken n (Given h) → GivesJob (aged t m) n modem h
step_gives s m n t modem h sound e =
    let aged_one : Sound (aged t m) = aged_sound t m sound in
    by_stamp (λ n. GivesJob (aged t m) n modem h) t (aged t m) (given_to s (aged t m) t modem) n (Given h) e (λ k is.
    let given = gives s (aged t m) k t modem h aged_one (given_is s (aged t m) t modem k (Given h) aged_one is) in
    record {
      modem_free = given.modem_free;
      job_free = given.job_free;
      grant = given.grant;
      open_grant = given.open_grant;
      of_modem = given.of_modem;
      of_job = given.of_job;
      first_page = given.first_page;
      last_page = given.last_page;
      job = given.job;
      was_there = given.was_there;
      dial = given.dial;
      first = given.first;
      pages = given.pages;
    })

-- ---- no page is granted again

-- the first page that is left is the one after those that are sent
first_left : (m n : Queue) (a p : ℕ) (c : ConfirmsPage m n a p) → Sound m → p ≡ length c.old.sent + 1
first_left m n a p c h =
    let old = h.held a c.grant c.open_grant in
    let pages : HasPages c.old = subst HasPages (same_job m c.grant.job old.0 c.old old.1 c.was_there) old.2.counted.pages in
    let split : c.old.sent ++ p ∷ c.rest ≡ pages_to c.old.totpages = ap (λ (ps : List ℕ). c.old.sent ++ ps) (sym c.left) ∙ pages in
    let place = head_is c.old.sent p c.rest 1 c.old.totpages split in
    omega arith

-- the page that is confirmed is among those counted
page_counted : (m n : Queue) (a p : ℕ) (c : ConfirmsPage m n a p) → Sound m → p ≤ length c.new.sent
page_counted m n a p c h =
    let place = first_left m n a p c h in
    let long : length c.new.sent ≡ length c.old.sent + 1 = ap length c.sent_now ∙ length-append c.old.sent (p ∷ []) in
    omega arith

-- of a job that is there no fewer pages are sent than were at first
pub sent_before : (m : Queue) (a : ℕ) (pages : List ℕ) (j : Job) → HasSent m a pages ⊎ IsGone m a → IsJob m a j → length pages ≤ length j.sent
sent_before m a pages j (inr gone) is = cc (gone.absent, is)
sent_before m a pages j (inl x) is =
    let same : x.job.sent ≡ j.sent = ap (λ (k : Job). k.sent) (same_job m a x.job j x.there is) in
    let long : length x.job.sent ≡ length pages + length x.more = ap length x.begins ∙ length-append pages x.more in
    let all : length x.job.sent ≡ length j.sent = ap length same in
    omega arith

-- what the queue has after a confirmed page, and whatever requests, of the job of that grant
record Later (s : Settings) (n : Queue) (rs : List Request) (u a page : ℕ) : Type 0 where
  sound : Sound (queue_after s n rs)
  counted : (j : Job) → IsJob (aged u (queue_after s n rs)) a j → page ≤ length j.sent

-- whatever comes behind a confirmed page, as many pages of its job are sent
later_of : (s : Settings) (m n : Queue) (t grant page : ℕ) (reply : Reply) (g : Grant) (rs : List Request) (u : ℕ)
    → Sound m → AreLawful rs → step s m t (OnGrant grant (Page page)) ≡ Taken n reply → grant_numbered grant m ≡ Some g → Later s n rs u g.job page
later_of s m n t grant page reply g rs u sound lawful taken is =
    let c = confirmed s m n t grant page reply taken in
    let it : c.grant ≡ g = cc (c.open_grant.0, is) in
    let after : Sound n = step_sound s m n t (OnGrant grant (Page page)) reply sound tt taken in
    let end : Sound (queue_after s n rs) = run_sound s n rs after lawful in
    let kept : KeepsSent n (aged u (queue_after s n rs)) = through n (queue_after s n rs) (aged u (queue_after s n rs)) (run_keeps s n rs after lawful) (aged_keeps u (queue_after s n rs)) in
    let place = page_counted (aged t m) n grant page c (aged_sound t m sound) in
    record {
      sound = end;
      counted = λ j there.
          let same : IsJob (aged u (queue_after s n rs)) c.grant.job j = subst (λ (x : Grant). IsJob (aged u (queue_after s n rs)) x.job j) (sym it) there in
          let more = sent_before (aged u (queue_after s n rs)) c.grant.job c.new.sent j (kept.sent c.grant.job c.new c.there) same in
          omega arith;
    }

-- a page that was confirmed lies before each grant that its job gets later
pub not_again : (s : Settings) (m n : Queue) (t grant page : ℕ) (reply : Reply) (g : Grant) (rs : List Request) (u : ℕ) (modem : List ℕ) (l : Queue) (h : Handed)
    → Sound m → AreLawful rs → step s m t (OnGrant grant (Page page)) ≡ Taken n reply → step s (queue_after s n rs) u (Next modem) ≡ Taken l (Given h)
    → grant_numbered grant m ≡ Some g → h.job ≡ g.job → page < h.from
not_again s m n t grant page reply g rs u modem l h sound lawful taken given is same =
    let later : Later s n rs u g.job page = later_of s m n t grant page reply g rs u sound lawful taken is in
    let next = step_gives s (queue_after s n rs) l u modem h later.sound given in
    let more = later.counted next.job (subst (λ (i : ℕ). IsJob (aged u (queue_after s n rs)) i next.job) same next.was_there) in
    omega (arith, next.first)

-- a page that is confirmed later, of the same job, lies behind it
pub rises : (s : Settings) (m n : Queue) (t grant page : ℕ) (reply : Reply) (g : Grant) (rs : List Request) (u other more : ℕ) (l : Queue) (answer : Reply) (h : Grant)
    → Sound m → AreLawful rs → step s m t (OnGrant grant (Page page)) ≡ Taken n reply → step s (queue_after s n rs) u (OnGrant other (Page more)) ≡ Taken l answer
    → grant_numbered grant m ≡ Some g → grant_numbered other (queue_after s n rs) ≡ Some h → h.job ≡ g.job → page < more
rises s m n t grant page reply g rs u other more l answer h sound lawful taken again is at same =
    let later : Later s n rs u g.job page = later_of s m n t grant page reply g rs u sound lawful taken is in
    let c = confirmed s (queue_after s n rs) l u other more answer again in
    let it : c.grant ≡ h = cc (c.open_grant.0, at) in
    let there : IsJob (aged u (queue_after s n rs)) g.job c.old = subst (λ (i : ℕ). IsJob (aged u (queue_after s n rs)) i c.old) (ap (λ (x : Grant). x.job) it ∙ same) c.was_there in
    let counted = later.counted c.old there in
    let first = first_left (aged u (queue_after s n rs)) l other more c (aged_sound u (queue_after s n rs) later.sound) in
    omega arith

-- ---- no modem gets a second job, and no job a second modem

-- two open grants of one modem or one job are one
pub one_each : (m : Queue) (a b : ℕ) (g h : Grant) → Sound m → IsOpen m a g → IsOpen m b h → (g.modem ≡ h.modem) ⊎ (g.job ≡ h.job) → a ≡ b
one_each m a b g h sound o p (inl e) = sound.one_to_a_modem a b g h o p e
one_each m a b g h sound o p (inr e) = sound.one_of_a_job a b g h o p e
