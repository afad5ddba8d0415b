-- The counters of a job are sums over its reports.
use Rattle.std.proofs.Common.{◌≡◌, ℕ, suc, ◌+◌, eqb, false, not, ◌&&◌, List, [], ◌∷◌, ◌++◌, Some, Ok, refl, sym, ap, subst, ◌∙◌, arith}
use Rattle.std.specs.Prelude.{Option, Result, is_some, is_none, nat_lt}
use Rattle.std.proofs.lemmas.Bool.{cond_both}
use Rattle.std.proofs.lemmas.List.{length-append}
use Rattle.fax_job.specs.declared.alter.Alter.{Alter}
use Rattle.fax_job.specs.declared.import.Import.{Import}
use Rattle.fax_job.specs.declared.job.Call.{Call}
use Rattle.fax_job.specs.declared.job.Call.TheVariants.{Connected}
use Rattle.fax_job.specs.declared.job.Phase.{Phase}
use Rattle.fax_job.specs.declared.job.Phase.TheVariants as phase
use Rattle.fax_job.specs.declared.job.Wish.{Wish}
use Rattle.fax_job.specs.declared.job.Wish.TheVariants as wish
use Rattle.fax_job.specs.declared.order.Order.{Order}
use Rattle.fax_job.specs.declared.refusal.Refusal.{Refusal}
use Rattle.fax_core.specs.declared.grants.Grant.{Grant}
use Rattle.fax_core.specs.declared.report.Ending.{Ending}
use Rattle.fax_core.specs.declared.report.Ending.TheVariants as ending
use Rattle.fax_core.specs.declared.report.Outcome.{Outcome}
use Rattle.fax_core.specs.declared.report.Report.{Report}
use Rattle.fax_core.specs.declared.report.Report.TheVariants as report
use Rattle.fax_core.specs.Ageing.{aged_job, expires, is_past}
use Rattle.fax_core.specs.Decisions.{JobAndGrant, after_call, alter_in, altered, call, ended, ended_by, grant_reported, is_kill, is_over, job_asked, kill_in, new_job, outcome, page, page_of, resume_in, retried, submit, suspend_in}
use Rattle.fax_core.specs.declared.ask.Ask.TheVariants.{Bring}
use Rattle.fax_core.specs.declared.ask.JobAsk.{JobAsk}
use Rattle.fax_core.specs.declared.ask.JobAsk.TheVariants as ask
use Rattle.fax_core.specs.Import.{bring}
use Rattle.fax_core.specs.Job.{Job}
use Rattle.fax_core.specs.Settings.{Rule}
use Rattle.fax_core.proofs.DecisionLemmas.{IsPage, not_refused, ok_same, paged}
use Rattle.fax_core.proofs.ImportLemmas.{bring_counts}
use Rattle.fax_run.specs.Counts.{Counters, came_in, counters_of, counts, no_counters}

-- ---- one more report

-- what a report makes of the counters
abbrev pub counted : Report → Counters → Counters
counted (report.Call Connected) c = record c { totdials = c.totdials + 1; tottries = c.tottries + 1; ndials = 0; ntries = c.ntries + 1 }
counted (report.Call _) c = record c { totdials = c.totdials + 1; ndials = c.ndials + 1 }
counted (report.Page _) c = record c { npages = c.npages + 1; ntries = 0 }
counted (report.Outcome _) c = c

abbrev pub counted_all : List Report → Counters → Counters
counted_all [] c = c
counted_all (r ∷ rs) c = counted r (counted_all rs c)

-- one more on top of what came in is one more in all
more : (n brought : ℕ) → suc n + brought ≡ n + brought + 1
more n brought = omega arith

-- none on top of a number is the number
nothing : (n : ℕ) → 0 + n ≡ n
nothing n = omega arith

module _ (b : Counters) where
  -- one more report counts on
  pub counts_more : (r : Report) (rs : List Report) → counts b (r ∷ rs) ≡ counted r (counts b rs)
  counts_more (report.Call Connected) rs = simp more
  counts_more (report.Call _) rs = simp more
  counts_more (report.Outcome o) rs = refl
  counts_more (report.Page p) rs = simp more

  -- where nothing is reported there is what came in
  pub counts_none : counts b [] ≡ b
  counts_none = simp nothing

  -- more reports count on in turn
  pub counts_all : (front rs : List Report) → counts b (front ++ rs) ≡ counted_all front (counts b rs)
  counts_all [] rs = refl
  counts_all (r ∷ front) rs = counts_more r (front ++ rs) ∙ ap (counted r) (counts_all front rs)

-- ---- what each decision makes of them

abbrev pub Same : Job → Job → Type 0
Same j k = counters_of k ≡ counters_of j

-- a job's counters stay as it ages
pub aged_same : (t : ℕ) (j : Job) → Same j (aged_job t j)
aged_same t j = cond_both (expires j.phase && is_past j.killtime t) _ j (Same j) (λ e. refl) (λ e. refl)

-- they stay where a decision makes a job with the same
by_ok : (j x k : Job) → Same j x → ◌≡◌ {A = Result Job Refusal} (Ok x) (Ok k) → Same j k
by_ok j x k same e = ap counters_of (sym (ok_same x k e)) ∙ same

-- and where a job is suspended
suspended_same : (p : Phase) (w : Wish) (j k : Job) → suspend_in p w j ≡ Ok k → Same j k
suspended_same phase.Held w j k e = by_ok j j k refl e
suspended_same phase.Waiting w j k e = by_ok j _ k refl e
suspended_same phase.Granted wish.Go j k e = by_ok j _ k refl e
suspended_same phase.Granted wish.Hold j k e = by_ok j j k refl e
suspended_same phase.Granted wish.Kill j k e = cc
suspended_same phase.Done w j k e = cc
suspended_same phase.Failed w j k e = cc

-- or resumed
resumed_same : (p : Phase) (w : Wish) (j k : Job) → resume_in p w j ≡ Ok k → Same j k
resumed_same phase.Held w j k e = by_ok j _ k refl e
resumed_same phase.Waiting w j k e = cc
resumed_same phase.Granted wish.Go j k e = cc
resumed_same phase.Granted wish.Hold j k e = by_ok j _ k refl e
resumed_same phase.Granted wish.Kill j k e = cc
resumed_same phase.Done w j k e = cc
resumed_same phase.Failed w j k e = cc

-- or killed
killed_same : (p : Phase) (j k : Job) → kill_in p j ≡ Ok k → Same j k
killed_same phase.Held j k e = by_ok j _ k refl e
killed_same phase.Waiting j k e = by_ok j _ k refl e
killed_same phase.Granted j k e = by_ok j _ k refl e
killed_same phase.Done j k e = cc
killed_same phase.Failed j k e = cc

-- or altered
altered_same : (p : Phase) (a : Alter) (j k : Job) (t : ℕ) → alter_in p a j t ≡ Ok k → Same j k
altered_same phase.Held a j k t e = by_ok j (altered a j t) k refl (not_refused _ _ (Ok (altered a j t)) k e).1
altered_same phase.Waiting a j k t e = cc
altered_same phase.Granted a j k t e = cc
altered_same phase.Done a j k t e = cc
altered_same phase.Failed a j k t e = cc

-- so they stay whatever a client asks of a job
pub asked_same : (a : JobAsk) (t : ℕ) (j k : Job) → job_asked a t j ≡ Ok k → Same j k
asked_same ask.Suspend t j k e = suspended_same j.phase j.wish j k e
asked_same ask.Resume t j k e = resumed_same j.phase j.wish j k e
asked_same ask.Kill t j k e = killed_same j.phase j k e
asked_same (ask.Alter c) t j k e = altered_same j.phase c j k t e

-- a job that is submitted has no counters, and the number it was given
pub submitted_none : (o : Order) (rule : Rule) (n most t : ℕ) (j : Job) → submit o rule n most t ≡ Ok j → (j.number ≡ n) × (counters_of j ≡ no_counters)
submitted_none o rule n most t j e =
    let a = not_refused (is_some rule.notice) _ _ j e in
    let b = not_refused (is_over o.totpages rule.pages) _ _ j a.1 in
    let c = not_refused (nat_lt most n) _ (Ok (new_job o n t)) j b.1 in
    subst (λ (k : Job). (k.number ≡ n) × (counters_of k ≡ no_counters)) (ok_same (new_job o n t) j c.1) (refl, refl)

-- a job that is brought in has the counters that came with it
pub brought_counters : (i : Import) (rule : Rule) (n most t : ℕ) (j : Job) → bring i rule n most t ≡ Ok j → (j.number ≡ n) × (counters_of j ≡ came_in (Bring i))
brought_counters i rule n most t j e =
    let f = bring_counts i rule n most t j e in
    (f.number, rw (f.totdials, f.tottries, f.ndials, f.npages, f.ntries) refl)

-- a report leaves the grant's number and job
pub record Reported (j : Job) (g : Grant) (b : JobAndGrant) (r : Report) : Type 0 where
  pub counted_now : counters_of b.job ≡ counted r (counters_of j)
  pub number : b.job.number ≡ j.number
  pub grant_number : b.grant.number ≡ g.number
  pub grant_job : b.grant.job ≡ g.job

-- a call counts once in the job's counters
after_call_counted : (c : Call) (j : Job) → counters_of (after_call c j) ≡ counted (report.Call c) (counters_of j)
after_call_counted Connected j = refl
after_call_counted _ j = refl

-- a call leaves the job's number
after_call_number : (c : Call) (j : Job) → (after_call c j).number ≡ j.number
after_call_number Connected j = refl
after_call_number _ j = refl

-- a call that is reported counts once, and leaves number, grant and job
called_counted : (c : Call) (j : Job) (g : Grant) (b : JobAndGrant) → call c j g ≡ Ok b → Reported j g b (report.Call c)
called_counted c j g b e =
    let new : JobAndGrant = record { job = after_call c j; grant = record g { call = Some c } } in
    let p = not_refused (not g.is_open) _ _ b e in
    let q = not_refused (is_some g.call) _ (Ok new) b p.1 in
    subst (λ x. Reported j g x (report.Call c)) (ok_same new b q.1) (record { counted_now = after_call_counted c j; number = after_call_number c j; grant_number = refl; grant_job = refl })

-- a page that is confirmed leaves the grant's number and job
page_grant : (ps : List ℕ) (n : ℕ) (j : Job) (g : Grant) (b : JobAndGrant) → page_of ps n j g ≡ Ok b → (b.grant.number ≡ g.number) × (b.grant.job ≡ g.job)
page_grant [] n j g b e = cc
page_grant (p ∷ rest) n j g b e =
    let new : JobAndGrant = record { job = record j { sent = j.sent ++ p ∷ []; left = rest; ntries = 0 }; grant = record g { confirmed = g.confirmed + 1 } } in
    let q = not_refused (not (eqb p n)) _ (Ok new) b e in
    subst (λ (x : JobAndGrant). (x.grant.number ≡ g.number) × (x.grant.job ≡ g.job)) (ok_same new b q.1) (refl, refl)

-- a page that is confirmed counts once, and leaves number, grant and job
paged_counted : (n : ℕ) (j : Job) (g : Grant) (b : JobAndGrant) → page n j g ≡ Ok b → Reported j g b (report.Page n)
paged_counted n j g b e =
    let p = not_refused (not g.is_open) _ _ b e in
    let q = not_refused (not (Rattle.fax_core.specs.Decisions.is_connected g.call)) _ (page_of j.left n j g) b p.1 in
    let grant = page_grant j.left n j g b q.1 in
    let is : IsPage n j b = (paged n j g b e).1 in
    record {
      counted_now = ap counters_of is.job ∙ ap (λ k. record (counters_of j) { npages = k; ntries = 0 }) (length-append j.sent (n ∷ []));
      number = ap (λ (k : Job). k.number) is.job;
      grant_number = grant.0;
      grant_job = grant.1;
    }

record Ends (j k : Job) : Type 0 where
  same : Same j k
  number : k.number ≡ j.number

-- a job that is to be tried again keeps its number and counters
retried_ends : (j : Job) (reason : List ℕ) (delay t : ℕ) → Ends j (retried j reason delay t)
retried_ends j reason delay t =
    cond_both (is_kill j.wish) _ _ (Ends j) (λ e. record { same = refl; number = refl }) (λ e.
    cond_both (is_past j.killtime t) _ _ (Ends j) (λ e. record { same = refl; number = refl }) (λ e.
    cond_both (Rattle.std.specs.Prelude.nat_le j.maxdials j.totdials) _ _ (Ends j) (λ e. record { same = refl; number = refl }) (λ e.
    cond_both (Rattle.std.specs.Prelude.nat_le j.maxtries j.tottries) _ _ (Ends j) (λ e. record { same = refl; number = refl }) (λ e.
    cond_both (Rattle.std.specs.Prelude.nat_le 3 j.ntries) _ _ (Ends j) (λ e. record { same = refl; number = refl }) (λ e.
    record { same = refl; number = refl })))))

-- so does one that ended in any way
ended_by_ends : (e : Ending) (j : Job) (reason : List ℕ) (delay t : ℕ) → Ends j (ended_by e j reason delay t)
ended_by_ends ending.Done j reason delay t = record { same = refl; number = refl }
ended_by_ends ending.Fail j reason delay t = record { same = refl; number = refl }
ended_by_ends ending.Retry j reason delay t = retried_ends j reason delay t

-- and one whose grant ended in any way
ended_ends : (ps : List ℕ) (o : Outcome) (j : Job) (delay t : ℕ) → Ends j (ended ps o j delay t)
ended_ends [] o j delay t = record { same = refl; number = refl }
ended_ends (p ∷ rest) o j delay t = ended_by_ends o.ending j o.reason delay t

-- an outcome counts nothing, and leaves number, grant and job
outcome_counted : (o : Outcome) (j : Job) (g : Grant) (delay t : ℕ) (b : JobAndGrant) → outcome o j g delay t ≡ Ok b → Reported j g b (report.Outcome o)
outcome_counted o j g delay t b e =
    let new : JobAndGrant = record { job = ended j.left o j delay t; grant = record g { is_open = false } } in
    let p = not_refused (not g.is_open) _ _ b e in
    let q = not_refused (not o.dialed && is_some g.call) _ _ b p.1 in
    let r = not_refused (o.dialed && is_none g.call) _ _ b q.1 in
    let s = not_refused (not (eqb o.pages g.confirmed)) _ _ b r.1 in
    let u = not_refused _ _ (Ok new) b s.1 in
    let k = ended_ends j.left o j delay t in
    subst (λ x. Reported j g x (report.Outcome o)) (ok_same new b u.1) (record { counted_now = k.same; number = k.number; grant_number = refl; grant_job = refl })

-- what a worker reports is counted so
pub report_counted : (r : Report) (delay : Option Call → ℕ) (t : ℕ) (j : Job) (g : Grant) (b : JobAndGrant) → grant_reported r delay t j g ≡ Ok b → Reported j g b r
report_counted (report.Call c) delay t j g b e = called_counted c j g b e
report_counted (report.Page n) delay t j g b e = paged_counted n j g b e
report_counted (report.Outcome o) delay t j g b e = outcome_counted o j g (delay g.call) t b e
