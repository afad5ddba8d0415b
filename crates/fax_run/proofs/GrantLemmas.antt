-- A step, and so a run, leaves each grant as it was given.
use Rattle.std.proofs.Common.{◌≡◌, ◌≢◌, ◌⊎◌, inl, inr, ℕ, ◌+◌, eqb, Bool, true, false, cond, not, ◌&&◌, List, [], ◌∷◌, ◌++◌, length, Option, Some, None, Ok, Err, refl, sym, ap, subst, ◌∙◌, arith}
use Rattle.std.specs.Prelude.{Result, find, is_some, is_none, nat_lt}
use Rattle.std.proofs.lemmas.Bool.{cases_eq, not-false, true≢false}
use Rattle.fax_job.specs.declared.job.Call.{Call}
use Rattle.fax_job.specs.declared.refusal.Refusal.{Refusal}
use Rattle.fax_job.specs.declared.refusal.Refusal.TheVariants as refusal
use Rattle.fax_core.specs.declared.grants.Grant.{Grant}
use Rattle.fax_core.specs.declared.report.Outcome.{Outcome}
use Rattle.fax_core.specs.declared.report.Report.{Report}
use Rattle.fax_core.specs.declared.report.Report.TheVariants as report
use Rattle.fax_core.specs.Ageing.{aged}
use Rattle.fax_core.specs.Clock.{decided_at}
use Rattle.fax_core.specs.declared.ask.Ask.{Ask}
use Rattle.fax_core.specs.declared.ask.Ask.TheVariants.{Submission, Bring, OnJob, Mark, Next, OnGrant, GiveUp, Purge}
use Rattle.fax_core.specs.declared.ask.JobAsk.{JobAsk}
use Rattle.fax_core.specs.Decisions.{JobAndGrant, after_call, call, ended, grant_reported, granted, is_connected, job_asked, outcome, page, page_of, submit}
use Rattle.fax_core.specs.Import.{bring}
use Rattle.fax_core.specs.Job.{Job}
use Rattle.fax_core.specs.Machine.{act, brought_in, changed, on_job, step, submitted, with_both, with_job, with_mark, with_new_job}
use Rattle.fax_core.specs.Laws.{IsGone}
use Rattle.fax_core.specs.Purge.{is_none_of, leaving, without_jobs}
use Rattle.fax_core.specs.Queue.{Queue, grant_numbered, job_numbered}
use Rattle.fax_core.specs.Reply.{Marked, NoKeys, Purged, Refused, Reply, Step, Taken}
use Rattle.fax_core.specs.Run.{left_by}
use Rattle.fax_core.specs.Settings.{Rule, Settings, has_modem}
use Rattle.fax_core.specs.Sound.{Sound}
use Rattle.fax_core.proofs.DecisionLemmas.{not_refused, ok_same}
use Rattle.fax_core.proofs.KeepLemmas.{numbered_grant}
use Rattle.fax_core.proofs.GoneLemmas.{left_gone}
use Rattle.fax_core.proofs.LeaveLemmas.{found_after}
use Rattle.fax_core.proofs.PageLemmas.{Reported, on_grant_is}
use Rattle.fax_core.proofs.PurgeLemmas.{leaver_gone}
use Rattle.fax_core.proofs.PlaceLemmas.{placed_here, placed_other, stays}
use Rattle.fax_core.proofs.StepLemmas.{Best_to, GivenTo, None_to, aged_sound, given_is, taken_same}
use Rattle.fax_run.proofs.OnceLemmas.{sound_after}
use Rattle.fax_run.specs.Laws.{IsSameGrant, KeepsGrants, RunsKeepGrants}
use Rattle.fax_run.specs.Run.{queue_after, step_of}
use Rattle.fax_core.proofs.TimesLemmas.{by_stamp}

-- ---- the same grant

-- a grant is as itself
same_itself : (g : Grant) → IsSameGrant g g
same_itself g = record { number = refl; job = refl; modem = refl; first_page = refl; last_page = refl; confirmed = omega arith; closed = λ off. refl }

-- where a grant is as a second, and that as a third, it is as the third
same_through : (f g h : Grant) → IsSameGrant f g → IsSameGrant g h → IsSameGrant f h
same_through f g h a b = record {
  number = b.number ∙ a.number;
  job = b.job ∙ a.job;
  modem = b.modem ∙ a.modem;
  first_page = b.first_page ∙ a.first_page;
  last_page = b.last_page ∙ a.last_page;
  confirmed = omega (arith, a.confirmed, b.confirmed);
  closed = λ off. let same = a.closed off in b.closed (ap (λ (z : Grant). z.is_open) same ∙ off) ∙ same;
}

-- each grant is kept
abbrev KeepsAll : Queue → Queue → Type 0
KeepsAll m n = (number : ℕ) (g : Grant) → grant_numbered number m ≡ Some g → (h : Grant) × (grant_numbered number n ≡ Some h) × IsSameGrant g h

-- the same grants are all kept
kept_all : (m n : Queue) → n.grants ≡ m.grants → KeepsAll m n
kept_all m n same a g is = (g, subst (λ (gs : List Grant). find (λ (z : Grant). eqb z.number a) gs ≡ Some g) (sym same) is, same_itself g)

-- ---- requests on a job, submissions and marks

-- a change of a job leaves the grants
changed_grants : (s : Settings) (m n : Queue) (t : ℕ) (d : Result Job Refusal) (r : Reply) → changed s m t d ≡ Taken n r → n.grants ≡ m.grants
changed_grants s m n t (Ok k) r e = ap (λ (q : Queue). q.grants) (sym (taken_same (with_job k m) n _ r e).0)
changed_grants s m n t (Err x) r e = cc

-- a request on a job keeps them
on_job_grants : (s : Settings) (m n : Queue) (t : ℕ) (ask : JobAsk) (o : Option Job) (r : Reply) → on_job s m t ask o ≡ Taken n r → KeepsAll m n
on_job_grants s m n t ask None r e = cc
on_job_grants s m n t ask (Some j) r e = kept_all m n (changed_grants s m n t (job_asked ask t j) r e)

-- so does a submission
submission_grants : (m n : Queue) (rule : Rule) (d : Result Job Refusal) (r : Reply) → submitted m rule d ≡ Taken n r → KeepsAll m n
submission_grants m n rule (Ok k) r e = kept_all m n (ap (λ (q : Queue). q.grants) (sym (taken_same (with_new_job k m) n _ r e).0))
submission_grants m n rule (Err x) r e = cc

-- and an import
import_grants : (s : Settings) (m n : Queue) (t : ℕ) (rule : Rule) (d : Result Job Refusal) (r : Reply) → brought_in s m t rule d ≡ Taken n r → KeepsAll m n
import_grants s m n t rule (Ok k) r e = kept_all m n (ap (λ (q : Queue). q.grants) (sym (taken_same (with_new_job k m) n _ r e).0))
import_grants s m n t rule (Err x) r e = cc

-- a mark set or taken off leaves the grants
mark_same : (m : Queue) (modem : List ℕ) (down : Bool) → (with_mark modem down m).grants ≡ m.grants
mark_same m modem true = refl
mark_same m modem false = refl

-- so a request that marks a modem keeps them
mark_grants : (m n : Queue) (modem : List ℕ) (down b : Bool) (r : Reply) → cond b (Taken (with_mark modem down m) (Marked down)) (Refused refusal.NoModem NoKeys) ≡ Taken n r → KeepsAll m n
mark_grants m n modem down true r e = kept_all m n (ap (λ (q : Queue). q.grants) (sym (taken_same (with_mark modem down m) n _ r e).0) ∙ mark_same m modem down)
mark_grants m n modem down false r e = cc

-- ---- reports

-- a call leaves the grant as it was given
called_same : (c : Call) (j : Job) (g : Grant) (b : JobAndGrant) → call c j g ≡ Ok b → IsSameGrant g b.grant
called_same c j g b e =
    let new : JobAndGrant = record { job = after_call c j; grant = record g { call = Some c } } in
    let p = not_refused (not g.is_open) _ _ b e in
    let q = not_refused (is_some g.call) _ (Ok new) b p.1 in
    let on : g.is_open ≡ true = not-false g.is_open p.0 in
    subst (λ (x : JobAndGrant). IsSameGrant g x.grant) (ok_same new b q.1)
    (record { number = refl; job = refl; modem = refl; first_page = refl; last_page = refl; confirmed = omega arith; closed = λ off. absurd (true≢false (sym on ∙ off)) })

-- a page leaves an open grant as it was given, with one more confirmed
page_same : (ps : List ℕ) (n : ℕ) (j : Job) (g : Grant) (b : JobAndGrant) → g.is_open ≡ true → page_of ps n j g ≡ Ok b → IsSameGrant g b.grant
page_same [] n j g b on e = cc
page_same (p ∷ rest) n j g b on e =
    let new : JobAndGrant = record { job = record j { sent = j.sent ++ p ∷ []; left = rest; ntries = 0 }; grant = record g { confirmed = g.confirmed + 1 } } in
    let q = not_refused (not (eqb p n)) _ (Ok new) b e in
    subst (λ (x : JobAndGrant). IsSameGrant g x.grant) (ok_same new b q.1)
    (record { number = refl; job = refl; modem = refl; first_page = refl; last_page = refl; confirmed = omega arith; closed = λ off. absurd (true≢false (sym on ∙ off)) })

-- so does a report of a page
paged_same : (n : ℕ) (j : Job) (g : Grant) (b : JobAndGrant) → page n j g ≡ Ok b → IsSameGrant g b.grant
paged_same n j g b e =
    let p = not_refused (not g.is_open) _ _ b e in
    let q = not_refused (not (is_connected g.call)) _ (page_of j.left n j g) b p.1 in
    page_same j.left n j g b (not-false g.is_open p.0) q.1

-- an outcome leaves the grant as it was given
outcome_same : (o : Outcome) (j : Job) (g : Grant) (delay t : ℕ) (b : JobAndGrant) → outcome o j g delay t ≡ Ok b → IsSameGrant g b.grant
outcome_same o j g delay t b e =
    let new : JobAndGrant = record { job = ended j.left o j delay t; grant = record g { is_open = false } } in
    let p = not_refused (not g.is_open) _ _ b e in
    let q = not_refused (not o.dialed && is_some g.call) _ _ b p.1 in
    let r = not_refused (o.dialed && is_none g.call) _ _ b q.1 in
    let s = not_refused (not (eqb o.pages g.confirmed)) _ _ b r.1 in
    let u = not_refused _ _ (Ok new) b s.1 in
    let on : g.is_open ≡ true = not-false g.is_open p.0 in
    subst (λ (x : JobAndGrant). IsSameGrant g x.grant) (ok_same new b u.1)
    (record { number = refl; job = refl; modem = refl; first_page = refl; last_page = refl; confirmed = omega arith; closed = λ off. absurd (true≢false (sym on ∙ off)) })

-- so does whatever a worker reports
report_same : (x : Report) (delay : Option Call → ℕ) (t : ℕ) (j : Job) (g : Grant) (b : JobAndGrant) → grant_reported x delay t j g ≡ Ok b → IsSameGrant g b.grant
report_same (report.Call c) delay t j g b e = called_same c j g b e
report_same (report.Page n) delay t j g b e = paged_same n j g b e
report_same (report.Outcome o) delay t j g b e = outcome_same o j g (delay g.call) t b e

module _ (m : Queue) (b : ℕ) (g : Grant) (both : JobAndGrant) (is : grant_numbered b m ≡ Some g) (same : IsSameGrant g both.grant) where
  -- the number finds this grant alone
  it_is : (x : Grant) → grant_numbered b m ≡ Some x → g ≡ x
  it_is x there = let found = sym is ∙ there in cc

  -- with job and grant as they are after a report, each grant is as it was given
  placed_grants : KeepsAll m (with_both both m)
  placed_grants a x there = by (cases_eq both.grant.number a)
    where
      by : (both.grant.number ≡ a) ⊎ (both.grant.number ≢ a) → (h : Grant) × (grant_numbered a (with_both both m) ≡ Some h) × IsSameGrant x h
      by (inl here) =
          let place : a ≡ b = sym here ∙ same.number ∙ numbered_grant m b g is in (
            both.grant,
            placed_here (λ (z : Grant). z.number) a both.grant x m.grants there here,
            subst (λ (z : Grant). IsSameGrant z both.grant) (it_is x (subst (λ (i : ℕ). grant_numbered i m ≡ Some x) place there)) same,
          )
      by (inr other) = (x, placed_other (λ (z : Grant). z.number) a both.grant x m.grants there other, same_itself x)

-- a report keeps the grants
report_grants : (s : Settings) (m n : Queue) (t b : ℕ) (x : Report) → Reported s m n t b x → KeepsAll m n
report_grants s m n t b x it = subst (KeepsAll m) it.left (placed_grants m b it.grant it.both it.is (report_same x s.delay t it.job it.grant it.both it.made))

-- ---- a request for work

-- a request for work keeps them
given_grants : (s : Settings) (m n : Queue) (t : ℕ) (modem : List ℕ) (r : Reply) → GivenTo s m t modem n r → KeepsAll m n
given_grants s m n t modem r (None_to none same told) = kept_all m n (ap (λ (q : Queue). q.grants) (sym same))
given_grants s m n t modem r (Best_to j best none same told) =
    subst (KeepsAll m) same (λ a g is. (g, stays (λ (z : Grant). eqb z.number a) m.grants (granted j modem m.next_grant).grant g is, same_itself g))

-- ---- each request

-- each request but a purge keeps them
act_all : (s : Settings) (m n : Queue) (t : ℕ) (ask : Ask) (r : Reply) → Sound m → ((before : ℕ) → ask ≢ Purge before) → act s m t ask ≡ Taken n r → KeepsAll m n
act_all s m n t (Submission o) r h other e = submission_grants m n (s.rule o.dial) (submit o (s.rule o.dial) m.next_job s.max_jobs t) r e
act_all s m n t (Bring i) r h other e = import_grants s m n t (s.rule i.order.dial) (bring i (s.rule i.order.dial) m.next_job s.max_jobs t) r e
act_all s m n t (OnJob a ask) r h other e = on_job_grants s m n t ask (job_numbered a m) r e
act_all s m n t (Mark modem down) r h other e = mark_grants m n modem down (has_modem s modem) r e
act_all s m n t (Next modem) r h other e = given_grants s m n t modem r (given_is s m t modem n r h e)
act_all s m n t (OnGrant a report) r h other e = report_grants s m n t a report (on_grant_is s m t a report (grant_numbered a m) n r refl e)
act_all s m n t (GiveUp upto) r h other e = kept_all m n (ap (λ (q : Queue). q.grants) (sym (taken_same m n _ r e).0))
act_all s m n t (Purge before) r h other e = absurd (other before refl)

-- where no job leaves
none_leave : (m n : Queue) → KeepsAll m n → KeepsGrants m n
none_leave m n h a g is = inl (h a g is)

-- a purge takes out grants with their jobs
leave_grants : (m : Queue) (before : ℕ) → Sound m → KeepsGrants m (without_jobs (leaving before m) m)
leave_grants m before h a g is = by (is_none_of (leaving before m) g.job) refl
  where
    by : (stays : Bool) → is_none_of (leaving before m) g.job ≡ stays
        → ((x : Grant) × (grant_numbered a (without_jobs (leaving before m) m) ≡ Some x) × IsSameGrant g x) ⊎ IsGone (without_jobs (leaving before m) m) g.job
    by true e = inl (g, found_after (λ (z : Grant). z.number) (λ (z : Grant). is_none_of (leaving before m) z.job) m.next_grant a m.grants g h.grants is e, same_itself g)
    by false e = inr (leaver_gone m before g.job h e)

purged_grants : (m : Queue) (before : ℕ) (b : Bool) (n : Queue) (r : Reply) → Sound m → cond b (Refused refusal.PurgeHigh NoKeys) (Taken (without_jobs (leaving before m) m) (Purged (length (leaving before m)))) ≡ Taken n r → KeepsGrants m n
purged_grants m before true n r h e = cc
purged_grants m before false n r h e = subst (KeepsGrants m) (taken_same (without_jobs (leaving before m) m) n _ r e).0 (leave_grants m before h)

-- each request keeps the grants of jobs that stay
act_grants : (s : Settings) (m n : Queue) (t : ℕ) (ask : Ask) (r : Reply) → Sound m → act s m t ask ≡ Taken n r → KeepsGrants m n
act_grants s m n t (Submission o) r h e = none_leave m n (act_all s m n t (Submission o) r h (λ before is. cc) e)
act_grants s m n t (Bring i) r h e = none_leave m n (act_all s m n t (Bring i) r h (λ before is. cc) e)
act_grants s m n t (OnJob a ask) r h e = none_leave m n (act_all s m n t (OnJob a ask) r h (λ before is. cc) e)
act_grants s m n t (Mark modem down) r h e = none_leave m n (act_all s m n t (Mark modem down) r h (λ before is. cc) e)
act_grants s m n t (Next modem) r h e = none_leave m n (act_all s m n t (Next modem) r h (λ before is. cc) e)
act_grants s m n t (OnGrant a report) r h e = none_leave m n (act_all s m n t (OnGrant a report) r h (λ before is. cc) e)
act_grants s m n t (GiveUp upto) r h e = none_leave m n (act_all s m n t (GiveUp upto) r h (λ before is. cc) e)
act_grants s m n t (Purge before) r h e = purged_grants m before (nat_lt t before) n r h e

-- ageing leaves the grants, and so do the times of the jobs
step_keeps_grants : (s : Settings) (m n : Queue) (t : ℕ) (ask : Ask) (r : Reply) → Sound m → step s m t ask ≡ Taken n r → KeepsGrants m n
step_keeps_grants s m n t ask r h e =
    by_stamp (KeepsGrants m) t (aged t m) (act s (aged t m) t ask) n r e (λ k is a g there.
    elim (act_grants s (aged t m) k t ask r (aged_sound t m h) is a g there) [
      | inl x ↦ inl x
      | inr gone ↦ inr (record { absent = gone.absent; given = gone.given })
    ])

-- where a step keeps the grants where it is taken, it does in any case
left_grants : (m : Queue) (x : Step) → ((n : Queue) (r : Reply) → x ≡ Taken n r → KeepsGrants m n) → KeepsGrants m (left_by m x)
left_grants m (Taken n r) keeps = keeps n r refl
left_grants m (Refused e k) keeps = none_leave m m (kept_all m m refl)

-- ---- a run

pub runs_keep_grants : RunsKeepGrants
runs_keep_grants m [] earlier h are a g is = inl (g, is, same_itself g)
runs_keep_grants m (f ∷ later) earlier h are a g is =
    let here = queue_after m (later ++ earlier) in
    let next = left_by here (step_of here f) in
    let t = decided_at here.clock f.post.request.moment in
    let step_keeps = left_grants here (step_of here f) (λ n r e. step_keeps_grants f.settings here n t f.post.request.ask r (sound_after m (later ++ earlier) h are.2) e) in
    elim (runs_keep_grants m later earlier h are.2 a g is) [
      | inl x ↦ elim (step_keeps a x.0 x.1) [
        | inl y ↦ inl (y.0, y.1, same_through g x.0 y.0 x.2 y.2)
        | inr gone ↦ inr (subst (λ (i : ℕ). IsGone next i) x.2.job gone)
      ]
      | inr gone ↦ inr (left_gone f.settings here t f.post.request.ask g.job gone)
    ]
