-- A change that is decided of a job leaves a lawful record, and what is written is within its limits.
use Rattle.std.proofs.Common.{◌≡◌, ℕ, ◌+◌, ◌≤◌, Bool, true, cond, List, Ok, Err, IfOk, Result, refl, sym, ap, subst, ◌∙◌, arith, ◌<◌, ◌-◌, ◌&&◌, leb, length, Some, None, nat_lt, ltb-false, leb-true}
use Rattle.std.proofs.lemmas.Bool.{and_parts}
use Rattle.std.proofs.lemmas.Option.{none-some}
use Rattle.fax_job.specs.Job.{is_lawful, IsLawful}
use Rattle.fax_value.specs.Limits.{last_job, last_next, most_pages}
use Rattle.fax_job.specs.declared.job.Call.{Call}
use Rattle.fax_job.specs.declared.job.JobFields.{JobFields}
use Rattle.fax_job.specs.declared.job.Phase.TheVariants.{Granted, Waiting}
use Rattle.fax_job.specs.declared.refusal.Refusal.{Refusal}
use Rattle.fax_job.specs.declared.refusal.Refusal.TheVariants.{Full, Unavailable}
use Rattle.fax_core.specs.declared.change.Change.{Change}
use Rattle.fax_core.specs.declared.grants.Grant.{Grant}
use Rattle.fax_core.specs.declared.report.Outcome.{Outcome}
use Rattle.fax_core.specs.Ageing.{aged}
use Rattle.fax_core.specs.Best.{best}
use Rattle.fax_core.specs.Change.{changed, decided, decided_with}
use Rattle.fax_core.specs.Decisions.{JobAndGrant, call, grant, job_asked, outcome, page, granted}
use Rattle.fax_core.specs.Fits.{fits}
use Rattle.fax_core.specs.Job.{Job, job_of}
use Rattle.fax_core.specs.Laws.{HasJobRecord, HasRecord}
use Rattle.fax_core.specs.Queue.{Queue, grant_numbered, job_numbered}
use Rattle.fax_core.specs.Settings.{Settings}
use Rattle.fax_core.specs.Sound.{FitsGrant, Sound, CanGoOn, FitsFree, FitsPhase}
use Rattle.fax_core.specs.State.{calls_to}
use Rattle.fax_core.specs.Submission.{recorded}
use Rattle.fax_core.proofs.BestLemmas.{best_is, ready_waits}
use Rattle.fax_core.proofs.FitsLemmas.{fits_decides, record_again}
use Rattle.fax_core.proofs.LawfulLemmas.{alterations_keep, grants_keep, reports_keep, requests_keep}
use Rattle.fax_core.proofs.KeepLemmas.{same_job}
use Rattle.fax_core.proofs.StepLemmas.{aged_sound}
use Rattle.fax_decide.specs.Read.{IsReadOn}
use Rattle.fax_decide.specs.Records.{KeepsRecord, job_in}
use Rattle.fax_decide.specs.Report.{AreThere}
use Rattle.fax_core.specs.declared.ask.JobAsk.{JobAsk}
use Rattle.fax_core.specs.declared.ask.JobAsk.TheVariants.{Suspend, Resume, Kill, Alter}
use Rattle.std.specs.List.{range_with_len}
use Rattle.std.proofs.lemmas.List.FromFn.{length-range_with_len}
use Rattle.fax_job.specs.declared.job.Phase.{Phase}
use Rattle.fax_core.proofs.DecisionLemmas.{not_refused, paged}
use Rattle.fax_core.proofs.RecordLemmas.{within_limits_of}
use Rattle.fax_store.specs.Grant.{IsSameGrant}
use Rattle.fax_tables.specs.Grant.{IsOpenGrant}
use Rattle.fax_decide.specs.Choice.{IsGrantOf}
use Rattle.fax_decide.proofs.JobLemmas.{recorded_is}

-- ---- a client's requests

-- what is decided of a job with a lawful record has one
decision_keeps : (ask : JobAsk) (t : ℕ) (j : Job) → IsReadOn ask → HasRecord j → IfOk (job_asked ask t j) HasRecord
decision_keeps Suspend t j read h = (requests_keep j h).0
decision_keeps Resume t j read h = (requests_keep j h).1
decision_keeps Kill t j read h = (requests_keep j h).2
decision_keeps (Alter changes) t j read h = alterations_keep read.0 changes j t read.1 h

pub job_keeps : (ask : JobAsk) (t : ℕ) (f : JobFields) (c : Change) → IsReadOn ask → decided (job_of f) (Ok c) ≡ job_asked ask t (job_of f) → KeepsRecord c f
job_keeps ask t f c read is h = subst (λ (r : Result Job Refusal). IfOk r HasRecord) (sym is) (decision_keeps ask t (job_of f) read h)

-- ---- a grant and its reports

-- so has a job that is granted
pub grant_keeps : (f : JobFields) (modem : List ℕ) (n max : ℕ) (g : Grant) (c : Change) → decided_with g (job_of f) (Ok c) ≡ grant (job_of f) modem n max → KeepsRecord c f
grant_keeps f modem n max g c is h = subst (λ (r : Result JobAndGrant Refusal). IfOk r HasJobRecord) (sym is) (grants_keep (job_of f) modem n max h)

module _ (f : JobFields) (g h : Grant) (c : Change) (fit : fits f (Some g) ≡ true) where
  -- one whose call is reported
  pub call_keeps : (said : Call) → decided_with h (job_of f) (Ok c) ≡ call said (job_of f) g → KeepsRecord c f
  call_keeps said is record' =
      subst (λ (r : Result JobAndGrant Refusal). IfOk r HasJobRecord) (sym is) ((reports_keep (job_of f) g ((fits_decides f (Some g)).0 fit) record').0 said)

  -- one of which a page is confirmed
  pub page_keeps : (said : ℕ) → decided_with h (job_of f) (Ok c) ≡ page said (job_of f) g → KeepsRecord c f
  page_keeps said is record' =
      subst (λ (r : Result JobAndGrant Refusal). IfOk r HasJobRecord) (sym is) ((reports_keep (job_of f) g ((fits_decides f (Some g)).0 fit) record').1 said)

  -- and one whose grant has an outcome
  pub outcome_keeps : (said : Outcome) (delay t : ℕ) → t + delay ≤ last_next → decided_with h (job_of f) (Ok c) ≡ outcome said (job_of f) g delay t → KeepsRecord c f
  outcome_keeps said delay t late is record' =
      subst (λ (r : Result JobAndGrant Refusal). IfOk r HasJobRecord) (sym is) ((reports_keep (job_of f) g ((fits_decides f (Some g)).0 fit) record').2 said delay t late)

-- a change that keeps the record isn't refused
pub never_refused : (c : Change) (f : JobFields) (e : Refusal) → KeepsRecord c f → is_lawful f ≡ true → Err e ≡ recorded (Ok (changed c (job_of f))) → ⊥
never_refused c f e keeps lawful is =
    let had : HasRecord (job_of f) = ap is_lawful (record_again f) ∙ lawful in
    let no = is ∙ ap (λ (b : Bool). cond b (Ok (changed c (job_of f))) (Err Unavailable)) (keeps had) in
    cc

-- ---- what fits in a sound queue

-- extra lines don't matter
fits_bare : (m : Queue) (f : JobFields) (g : Grant) → FitsGrant (job_in m f) g → FitsGrant (job_of f) g
fits_bare m f g h = record {
  counted = record { pages = h.counted.pages; ndials = h.counted.ndials; totdials = h.counted.totdials; ntries = h.counted.ntries; tottries = h.counted.tottries };
  phase = h.phase;
  confirmed = h.confirmed;
  last_page = h.last_page;
  first_page = h.first_page;
  call = λ none. record { dials = (h.call none).dials; tries = (h.call none).tries };
}

-- an open grant and its job fit
pub fits_there : (m : Queue) (t : ℕ) (f : JobFields) (g : Grant) → Sound m → AreThere m t f g → g.is_open ≡ true → fits f (Some g) ≡ true
fits_there m t f g sound there is_open =
    let held = (aged_sound t m sound).held g.number g (there.grant_there, is_open) in
    let job : job_numbered g.job (aged t m) ≡ Some (job_in (aged t m) f) = subst (λ (n : ℕ). job_numbered n (aged t m) ≡ Some (job_in (aged t m) f)) (sym there.of_job) there.job_there in
    let same : held.0 ≡ job_in (aged t m) f = same_job (aged t m) g.job held.0 (job_in (aged t m) f) held.1 job in
    let fit : FitsGrant held.0 g = held.2 in
    (fits_decides f (Some g)).1 (fits_bare (aged t m) f g (subst (λ (j : Job). FitsGrant j g) same fit))

-- an open grant has its job
pub job_there : (m : Queue) (t : ℕ) (n : ℕ) (g : Grant) → Sound m → grant_numbered n m ≡ Some g → g.is_open ≡ true → job_numbered g.job (aged t m) ≡ None → ⊥
job_there m t n g sound there is_open none =
    let held = (aged_sound t m sound).held n g (there, is_open) in
    none-some held.0 (sym none ∙ held.1)

-- a waiting job fits alone, since an open grant has none that waits
pub fits_alone : (m : Queue) (t : ℕ) (f : JobFields) → Sound m → job_numbered f.job (aged t m) ≡ Some (job_of f) → f.phase ≡ Waiting → fits f None ≡ true
fits_alone m t f sound there waits =
    let now = aged_sound t m sound in
    (fits_decides f None).1 (now.free f.job (job_of f) there (λ a g is_open of.
    let held = now.held a g is_open in
    let job : job_numbered g.job (aged t m) ≡ Some (job_of f) = subst (λ (n : ℕ). job_numbered n (aged t m) ≡ Some (job_of f)) (sym of) there in
    let same : held.0 ≡ job_of f = same_job (aged t m) g.job held.0 (job_of f) held.1 job in
    let fit : FitsGrant held.0 g = held.2 in
    let both : Granted ≡ Waiting = sym fit.phase ∙ ap (λ (j : Job). j.phase) same ∙ waits in
    absurd cc))

-- the best job waits
pub best_waits : (s : Settings) (m : Queue) (t : ℕ) (modem : List ℕ) (f : JobFields) → Sound m → Some (job_of f) ≡ best s (aged t m) t modem → f.phase ≡ Waiting
best_waits s m t modem f sound is =
    ready_waits f.phase (job_of f) ((s.rule f.dial).hours t) (calls_to f.dial (aged t m)) (s.rule f.dial).calls t
    (best_is s (aged t m) t modem (job_of f) (aged_sound t m sound) (sym is)).goes.ready

-- ---- a lawful job

-- its number is within the limits
pub job_within : (f : JobFields) → IsLawful f → (1 ≤ f.job) × (f.job ≤ last_job)
job_within f lawful =
    let both = and_parts (leb 1 f.job) (leb f.job last_job) (within_limits_of f lawful).number in
    (leb-true 1 f.job both.0, leb-true f.job last_job both.1)

-- and so are its pages
pub pages_within : (f : JobFields) → IsLawful f → (f.npages ≤ f.totpages) × (f.totpages ≤ most_pages)
pages_within f lawful =
    let all = and_parts (leb f.npages f.totpages && leb 1 f.totpages) (leb f.totpages most_pages) (within_limits_of f lawful).pages in
    let some = and_parts (leb f.npages f.totpages) (leb 1 f.totpages) all.0 in
    (leb-true f.npages f.totpages some.0, leb-true f.totpages most_pages all.1)

-- ---- a new grant

-- one of the pages that a lawful job has left is open, within the limits
pub grant_within : (f : JobFields) (g : Grant) → IsLawful f → IsGrantOf f g → 1 ≤ g.number → IsOpenGrant g
grant_within f g lawful of first =
    let pages = pages_within f lawful in
    let sent = length-range_with_len 1 f.npages in
    let left = of.page in
    let front : length (range_with_len 1 f.npages) + 1 ≤ most_pages = omega (arith, pages.1, sent, left) in
    let begins : 1 ≤ length (range_with_len 1 f.npages) + 1 = omega arith in
    let none : 0 ≤ most_pages = omega arith in
    subst IsOpenGrant (sym of.is) (record {
      is_open = refl;
      limits = record { number = (first, of.last); job = job_within f lawful; pages = (begins, front, pages.1, none) };
    })

-- a waiting job that fits alone has a page left
pub page_left : (f : JobFields) → fits f None ≡ true → f.phase ≡ Waiting → f.npages < f.totpages
page_left f fit waits =
    let free : FitsFree (job_of f) = (fits_decides f None).0 fit in
    let on : CanGoOn (job_of f) = subst (λ (p : Phase). FitsPhase p (job_of f)) waits free.phase in
    let page : 1 ≤ length (range_with_len (f.npages + 1) (f.totpages - f.npages)) = on.page in
    omega (arith, page, length-range_with_len (f.npages + 1) (f.totpages - f.npages))

-- a number under which a grant is decided is within its limit
pub number_within : (j : Job) (modem : List ℕ) (n max : ℕ) (b : JobAndGrant) → grant j modem n max ≡ Ok b → n ≤ max
number_within j modem n max b is = omega (arith, ltb-false max n (not_refused (nat_lt max n) Full (Ok (granted j modem n)) b is).0)

-- ---- a page that is confirmed

-- the pages that are confirmed under a grant go as far as its job has sent
pub page_goes : (said : ℕ) (f : JobFields) (g : Grant) (c : Change) → (g.is_open ≡ true → fits f (Some g) ≡ true)
    → Ok (record { job = changed c (job_of f); grant = record g { confirmed = g.confirmed + 1 } }) ≡ page said (job_of f) g
    → g.first_page + (g.confirmed + 1) ≡ length (changed c (job_of f)).sent + 1
page_goes said f g c fit is =
    let b : JobAndGrant = record { job = changed c (job_of f); grant = record g { confirmed = g.confirmed + 1 } } in
    let report = (paged said (job_of f) g b (sym is)).0 in
    ((report.reports ((fits_decides f (Some g)).0 (fit report.was_open))).held report.was_open).confirmed

-- so they are within the limits, where the grant begins at a page
pub confirmed_within : (before g : Grant) (c : Change) (f after : JobFields) → IsLawful after → Ok (job_of after) ≡ recorded (Ok (changed c (job_of f)))
    → IsSameGrant before g → 1 ≤ before.first_page → g.first_page + g.confirmed ≡ length (changed c (job_of f)).sent + 1 → g.confirmed ≤ most_pages
confirmed_within before g c f after lawful is same begins far =
    let first : 1 ≤ g.first_page = subst (λ (n : ℕ). 1 ≤ n) same.first_page begins in
    let sent : length (changed c (job_of f)).sent ≡ after.npages = ap (λ (j : Job). length j.sent) (sym (recorded_is (job_of after) (changed c (job_of f)) is)) ∙ length-range_with_len 1 after.npages in
    let pages = pages_within after lawful in
    omega (arith, first, sent, far, pages.0, pages.1)
