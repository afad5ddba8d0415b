-- Why a request is refused: what is so in the queue, as it is at the request's moment, where the request meets a refusal.
use Rattle.std.specs.Prelude.{◌≡◌, ◌≢◌, ◌⊎◌, ℕ, ◌≤◌, ◌<◌, Bool, true, false, List, [], ◌∷◌, Some, None}
use Rattle.fax_job.specs.declared.job.Call.TheVariants.{Connected}
use Rattle.fax_job.specs.declared.job.Phase.TheVariants as phase
use Rattle.fax_job.specs.declared.job.Wish.TheVariants as wish
use Rattle.fax_job.specs.declared.order.Order.{Order}
use Rattle.fax_job.specs.declared.refusal.Refusal.{Refusal}
use Rattle.fax_job.specs.declared.refusal.Refusal.TheVariants.{NoJob, NoModem, NoGrant, Rejected, TooManyPages, JobOver, JobActive, NotSuspended, LimitReached, ModemDown, ModemBusy, GrantClosed, CallKnown, NotConnected, PageOrder, CallMissing, PagesMismatch, PagesLeft, Full, PurgeHigh}
use Rattle.fax_core.specs.Ageing.{aged}
use Rattle.fax_core.specs.Decisions.{altered}
use Rattle.fax_core.specs.Import.{is_ended}
use Rattle.fax_core.specs.Job.{Job}
use Rattle.fax_core.specs.Machine.{is_down, step}
use Rattle.fax_core.specs.Queue.{Queue, grant_numbered, job_numbered}
use Rattle.fax_core.specs.Reply.{Keys, Refused}
use Rattle.fax_core.specs.Settings.{Settings, has_modem}
use Rattle.fax_core.specs.Sound.{IsOpen, Sound}
use Rattle.fax_core.specs.declared.ask.Ask.{Ask}
use Rattle.fax_core.specs.declared.ask.Ask.TheVariants.{Submission, Bring, OnJob, Mark, Next, OnGrant, GiveUp, Purge}
use Rattle.fax_core.specs.declared.ask.JobAsk.{JobAsk}
use Rattle.fax_core.specs.declared.ask.JobAsk.TheVariants.{Suspend, Resume, Alter}
use Rattle.fax_core.specs.declared.grants.Grant.{Grant}
use Rattle.fax_core.specs.declared.report.Ending.TheVariants as ending
use Rattle.fax_core.specs.declared.report.Report.{Report}
use Rattle.fax_core.specs.declared.report.Report.TheVariants.{Call, Page, Outcome}

-- the job of that number is there, and this holds of it
abbrev pub OfJob : Queue → ℕ → (Job → Type 0) → Type 0
OfJob m number P = (j : Job) × (job_numbered number m ≡ Some j) × P j

-- so is the grant of that number
abbrev pub OfGrant : Queue → ℕ → (Grant → Type 0) → Type 0
OfGrant m number P = (g : Grant) × (grant_numbered number m ≡ Some g) × P g

-- so is the grant, and its job
abbrev pub OfBoth : Queue → ℕ → (Job → Grant → Type 0) → Type 0
OfBoth m number P = OfGrant m number (λ g. OfJob m g.job (λ j. P j g))

-- ---- new jobs

-- the rule of its number rejects the job, or has fewer pages, unless the job was over before; or there are as many jobs as there may be
abbrev pub WhenNew : Settings → Queue → Order → (was_over : Bool) → Refusal → Type 0
WhenNew s m o was_over Rejected = (was_over ≡ false) × ((notice : List ℕ) × ((s.rule o.dial).notice ≡ Some notice))
WhenNew s m o was_over TooManyPages = (was_over ≡ false) × ((limit : ℕ) × ((s.rule o.dial).pages ≡ Some limit) × (limit < o.totpages))
WhenNew s m o was_over Full = s.max_jobs < m.next_job
WhenNew s m o was_over other = ⊥

-- ---- a client's requests on a job

-- a job that is done or failed
abbrev pub IsOver : Job → Type 0
IsOver j = (j.phase ≡ phase.Done) ⊎ (j.phase ≡ phase.Failed)

-- no dial is left, or no try
abbrev pub IsAtLimit : Job → Type 0
IsAtLimit j = (j.maxdials ≤ j.totdials) ⊎ (j.maxtries ≤ j.tottries)

-- why a job that isn't over refuses it
abbrev pub Refuses : JobAsk → ℕ → Refusal → Job → Type 0
Refuses Suspend t JobActive j = (j.phase ≡ phase.Granted) × (j.wish ≡ wish.Kill)
Refuses Resume t JobActive j = (j.phase ≡ phase.Granted) × ((j.wish ≡ wish.Go) ⊎ (j.wish ≡ wish.Kill))
Refuses Resume t NotSuspended j = j.phase ≡ phase.Waiting
Refuses (Alter a) t JobActive j = j.phase ≡ phase.Granted
Refuses (Alter a) t NotSuspended j = j.phase ≡ phase.Waiting
Refuses (Alter a) t LimitReached j = (j.phase ≡ phase.Held) × IsAtLimit (altered a j t)
Refuses ask t other j = ⊥

abbrev pub WhenAsked : Queue → ℕ → ℕ → JobAsk → Refusal → Type 0
WhenAsked m t n ask NoJob = job_numbered n m ≡ None
WhenAsked m t n ask JobOver = OfJob m n IsOver
WhenAsked m t n ask other = OfJob m n (Refuses ask t other)

-- ---- modems

-- the setup doesn't have the modem
abbrev pub WhenMarked : Settings → List ℕ → Refusal → Type 0
WhenMarked s modem NoModem = has_modem s modem ≡ false
WhenMarked s modem other = ⊥

-- or it is down, or holds an open grant, or there are as many grants as there may be
abbrev pub WhenNext : Settings → Queue → List ℕ → Refusal → Type 0
WhenNext s m modem NoModem = has_modem s modem ≡ false
WhenNext s m modem ModemDown = is_down modem m ≡ true
WhenNext s m modem ModemBusy = (number : ℕ) × (g : Grant) × IsOpen m number g × (g.modem ≡ modem)
WhenNext s m modem Full = s.max_grants < m.next_grant
WhenNext s m modem other = ⊥

-- ---- reports

-- another page is next, or none
abbrev pub IsNotNext : ℕ → Job → Type 0
IsNotNext page j = (rest : List ℕ) → j.left ≢ page ∷ rest

-- the report contradicts the open grant, or its job
abbrev pub Contradicts : Report → Refusal → Job → Grant → Type 0
Contradicts (Call c) CallKnown j g = g.call ≢ None
Contradicts (Page n) NotConnected j g = g.call ≢ Some Connected
Contradicts (Page n) PageOrder j g = IsNotNext n j
Contradicts (Outcome o) CallKnown j g = (o.dialed ≡ false) × (g.call ≢ None)
Contradicts (Outcome o) CallMissing j g = (o.dialed ≡ true) × (g.call ≡ None)
Contradicts (Outcome o) PagesMismatch j g = o.pages ≢ g.confirmed
Contradicts (Outcome o) PagesLeft j g = (o.ending ≡ ending.Done) × (j.left ≢ [])
Contradicts report other j g = ⊥

abbrev pub WhenReported : Queue → ℕ → Report → Refusal → Type 0
WhenReported m n report NoGrant = grant_numbered n m ≡ None
WhenReported m n report GrantClosed = OfGrant m n (λ g. g.is_open ≡ false)
WhenReported m n report other = OfBoth m n (Contradicts report other)

-- ---- purges

-- the moment before which jobs are to have ended is yet to come
abbrev pub WhenPurged : ℕ → ℕ → Refusal → Type 0
WhenPurged t before PurgeHigh = t < before
WhenPurged t before other = ⊥

-- ---- each request

abbrev pub When : Settings → Queue → ℕ → Ask → Refusal → Type 0
When s m t (Submission order) refusal = WhenNew s m order false refusal
When s m t (Bring i) refusal = WhenNew s m i.order (is_ended i.state) refusal
When s m t (OnJob n ask) refusal = WhenAsked m t n ask refusal
When s m t (Mark modem down) refusal = WhenMarked s modem refusal
When s m t (Next modem) refusal = WhenNext s m modem refusal
When s m t (OnGrant n report) refusal = WhenReported m n report refusal
When s m t (GiveUp floor) refusal = ⊥
When s m t (Purge before) refusal = WhenPurged t before refusal

-- a refusal is met only for its reason
abbrev pub RefusalsHaveReasons : Type 0
RefusalsHaveReasons =
    (s : Settings) (m : Queue) (t : ℕ) (ask : Ask) (refusal : Refusal) (keys : Keys)
    → Sound m
    → step s m t ask ≡ Refused refusal keys
    → When s (aged t m) t ask refusal
