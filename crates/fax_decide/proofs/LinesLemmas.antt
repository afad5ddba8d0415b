-- What is decided of a job doesn't depend on its extra lines, which stay as they are.
use Rattle.std.proofs.Common.{◌≡◌, ℕ, Bool, true, false, cond, not, ◌&&◌, ◌||◌, ◌==◌, List, [], ◌∷◌, Some, Result, Ok, Err, refl, ap, is_none, is_some, nat_le}
use Rattle.fax_job.specs.Pair.{Pair}
use Rattle.fax_value.specs.Status.{kill_time_expired, killed, too_many_dials, too_many_tries, unable_to_transmit}
use Rattle.fax_job.specs.declared.job.Call.{Call}
use Rattle.fax_job.specs.declared.job.Call.TheVariants as calls
use Rattle.fax_job.specs.declared.job.Phase.{Phase}
use Rattle.fax_job.specs.declared.job.Phase.TheVariants.{Held, Granted, Failed}
use Rattle.fax_job.specs.declared.job.Wish.{Wish}
use Rattle.fax_job.specs.declared.job.Wish.TheVariants as wish
use Rattle.fax_job.specs.declared.refusal.Refusal.{Refusal}
use Rattle.fax_job.specs.declared.refusal.Refusal.TheVariants.{CallKnown, CallMissing, GrantClosed, LimitReached, NotConnected, PageOrder, PagesLeft, PagesMismatch}
use Rattle.fax_core.specs.declared.grants.Grant.{Grant}
use Rattle.fax_core.specs.declared.report.Ending.{Ending}
use Rattle.fax_core.specs.declared.report.Ending.TheVariants as ending
use Rattle.fax_core.specs.declared.report.Outcome.{Outcome}
use Rattle.fax_core.specs.Ageing.{aged_job, expires, is_past}
use Rattle.fax_core.specs.Decisions.{JobAndGrant, after_call, alter_in, altered, call, ended, failed, is_connected, is_done, is_empty, is_kill, job_asked, kill_in, outcome, page, page_of, resume_in, retried, suspend_in}
use Rattle.fax_core.specs.Job.{Job}
use Rattle.fax_core.specs.Machine.{keys_of_job}
use Rattle.fax_core.specs.State.{state_in}
use Rattle.fax_core.specs.declared.ask.JobAsk.{JobAsk}
use Rattle.fax_core.specs.declared.ask.JobAsk.TheVariants.{Suspend, Resume, Kill, Alter as Alteration}

-- what is made of either of two alike
either : {A B : Type 0} (f : A → B) (b : Bool) (x y : A) (i j : B) → f x ≡ i → f y ≡ j → f (cond b x y) ≡ cond b i j
either f true x y i j first second = first
either f false x y i j first second = second

module _ (lines : List Pair) where
  -- the job with these lines
  abbrev pub lined : Job → Job
  lined j = record j { extra = lines }

  -- ---- its state, and what time does to it

  -- the state is the same with these lines
  pub state_lined : (phase : Phase) (j : Job) (hours : Bool) (calls limit t : ℕ) → state_in phase (lined j) hours calls limit t ≡ state_in phase j hours calls limit t
  state_lined Held j hours calls limit t = refl
  state_lined phase j hours calls limit t = refl

  -- ageing leaves them
  pub aged_lined : (t : ℕ) (j : Job) → lined (aged_job t j) ≡ aged_job t (lined j)
  aged_lined t j = either lined (expires j.phase && is_past j.killtime t) (record j { phase = Failed; status = kill_time_expired }) j _ _ refl refl

  -- ---- what is decided

  abbrev pub job_lined : Result Job Refusal → Result Job Refusal
  job_lined (Ok j) = Ok (lined j)
  job_lined (Err e) = Err e

  abbrev pub both_lined : Result JobAndGrant Refusal → Result JobAndGrant Refusal
  both_lined (Ok b) = Ok (record b { job = lined b.job })
  both_lined (Err e) = Err e

  -- ---- a client's requests

  -- each request on a job decides the same with them
  pub decision_lined : (ask : JobAsk) (t : ℕ) (j : Job) → job_lined (job_asked ask t j) ≡ job_asked ask t (lined j)
  decision_lined Suspend t j = by j.phase j.wish
    where
      by : (p : Phase) (w : Wish) → job_lined (suspend_in p w j) ≡ suspend_in p w (lined j)
      by Granted wish.Go = refl
      by p w = refl
  decision_lined Resume t j = by j.phase j.wish
    where
      by : (p : Phase) (w : Wish) → job_lined (resume_in p w j) ≡ resume_in p w (lined j)
      by Granted wish.Go = refl
      by p w = refl
  decision_lined Kill t j = elim j.phase as (λ p. job_lined (kill_in p j) ≡ kill_in p (lined j)) [ Held ↦ refl | _ ↦ refl ]
  decision_lined (Alteration changes) t j =
      let k = altered changes j t in
      let reached = nat_le k.maxdials k.totdials || nat_le k.maxtries k.tottries in
      elim j.phase as (λ p. job_lined (alter_in p changes j t) ≡ alter_in p changes (lined j) t) [
        | Held ↦ either job_lined reached (Err LimitReached) (Ok k) _ _ refl refl
        | _ ↦ refl
      ]

  -- ---- a worker's reports

  -- a call leaves them
  called : (c : Call) (j : Job) → lined (after_call c j) ≡ after_call c (lined j)
  called calls.Connected j = refl
  called c j = refl

  -- a report of a call decides the same with them
  pub call_lined : (c : Call) (j : Job) (g : Grant) → both_lined (call c j g) ≡ call c (lined j) g
  call_lined c j g =
      either both_lined (not g.is_open) (Err GrantClosed) _ _ _ refl
      (either both_lined (is_some g.call) (Err CallKnown) _ _ _ refl (ap (λ (k : Job). Ok (record { job = k; grant = record g { call = Some c } })) (called c j)))

  -- a page leaves them
  paged : (left : List ℕ) (n : ℕ) (j : Job) (g : Grant) → both_lined (page_of left n j g) ≡ page_of left n (lined j) g
  paged [] n j g = refl
  paged (p ∷ rest) n j g = either both_lined (not (p == n)) (Err PageOrder) _ _ _ refl refl

  -- a report of a page decides the same with them
  pub page_lined : (n : ℕ) (j : Job) (g : Grant) → both_lined (page n j g) ≡ page n (lined j) g
  page_lined n j g = either both_lined (not g.is_open) (Err GrantClosed) _ _ _ refl
      (either both_lined (not (is_connected g.call)) (Err NotConnected) _ _ _ refl (paged j.left n j g))

  -- a job to be tried again keeps them
  retry_lined : (j : Job) (reason : List ℕ) (delay t : ℕ) → lined (retried j reason delay t) ≡ retried (lined j) reason delay t
  retry_lined j reason delay t =
      either lined (is_kill j.wish) (failed j killed) _ _ _ refl
      (either lined (is_past j.killtime t) (failed j kill_time_expired) _ _ _ refl
      (either lined (nat_le j.maxdials j.totdials) (failed j too_many_dials) _ _ _ refl
      (either lined (nat_le j.maxtries j.tottries) (failed j too_many_tries) _ _ _ refl
      (either lined (nat_le 3 j.ntries) (failed j unable_to_transmit) _ _ _ refl refl))))

  -- a job whose grant ended keeps them
  ended_lined : (left : List ℕ) (e : Ending) (o : Outcome) (j : Job) (delay t : ℕ) → o.ending ≡ e → lined (ended left o j delay t) ≡ ended left o (lined j) delay t
  ended_lined [] e o j delay t is = refl
  ended_lined (p ∷ rest) ending.Retry o j delay t is = rw is (retry_lined j o.reason delay t)
  ended_lined (p ∷ rest) _ o j delay t is = rw is refl

  -- a report of an outcome decides the same with them
  pub outcome_lined : (o : Outcome) (j : Job) (g : Grant) (delay t : ℕ) → both_lined (outcome o j g delay t) ≡ outcome o (lined j) g delay t
  outcome_lined o j g delay t =
      either both_lined (not g.is_open) (Err GrantClosed) _ _ _ refl
      (either both_lined (not o.dialed && is_some g.call) (Err CallKnown) _ _ _ refl
      (either both_lined (o.dialed && is_none g.call) (Err CallMissing) _ _ _ refl
      (either both_lined (not (o.pages == g.confirmed)) (Err PagesMismatch) _ _ _ refl
      (either both_lined (is_done o.ending && not (is_empty j.left)) (Err PagesLeft) _ _ _ refl
      (ap (λ (k : Job). Ok (record { job = k; grant = record g { is_open = false } })) (ended_lined j.left o.ending o j delay t refl))))))

  -- the keys of a refusal don't tell them
  pub keys_lined : (e : Refusal) (j : Job) → keys_of_job e (lined j) ≡ keys_of_job e j
  keys_lined PageOrder j = refl
  keys_lined e j = refl
