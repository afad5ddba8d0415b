-- What holds of every queue that the machine makes.
use Rattle.std.specs.Prelude.{◌≡◌, ◌≢◌, ℕ, ◌+◌, ◌<◌, ◌≤◌, true, List, [], ◌∷◌, map, length, ⊤, Option, Some, None}
use Rattle.fax_job.specs.declared.job.Phase.{Phase}
use Rattle.fax_job.specs.declared.job.Phase.TheVariants.{Held, Waiting, Granted, Done, Failed}
use Rattle.fax_job.specs.declared.job.Wish.TheVariants.{Go}
use Rattle.fax_core.specs.declared.grants.Grant.{Grant}
use Rattle.fax_core.specs.Job.{Job, HasPages}
use Rattle.fax_core.specs.Queue.{Queue, job_numbered, grant_numbered}
use Rattle.fax_core.specs.Times.{AreTimed}

-- the pages are in order, and the counters within their limits
pub record IsCounted (j : Job) : Type 0 where
  pub pages : HasPages j
  pub ndials : j.ndials ≤ j.totdials
  pub totdials : j.totdials ≤ j.maxdials
  pub ntries : j.ntries ≤ j.tottries
  pub tottries : j.tottries ≤ j.maxtries

-- a dial and a try are left
pub record HasCallLeft (j : Job) : Type 0 where
  pub dials : j.totdials < j.maxdials
  pub tries : j.tottries < j.maxtries

-- a page too
pub record CanGoOn (j : Job) : Type 0 where
  pub page : 1 ≤ length j.left
  pub call : HasCallLeft j

-- what a phase asks of a job that no open grant has: it isn't granted, and where it may go later it can go on
abbrev pub FitsPhase : Phase → Job → Type 0
FitsPhase Held j = CanGoOn j
FitsPhase Waiting j = CanGoOn j
FitsPhase Granted j = ⊥
FitsPhase Done j = ⊤
FitsPhase Failed j = ⊤

-- a job that no open grant has
pub record FitsFree (j : Job) : Type 0 where
  pub counted : IsCounted j
  pub wish : j.wish ≡ Go
  pub phase : FitsPhase j.phase j

-- a job and its open grant: granted, its pages are those not confirmed before, and a dial and a try are left until a call is known
pub record FitsGrant (j : Job) (g : Grant) : Type 0 where
  pub counted : IsCounted j
  pub phase : j.phase ≡ Granted
  pub confirmed : g.first_page + g.confirmed ≡ length j.sent + 1
  pub last_page : g.last_page ≡ j.totpages
  pub first_page : g.first_page ≤ g.last_page
  pub call : g.call ≡ None → HasCallLeft j

-- a job, and its open grant or none
abbrev pub Fits : Job → Option Grant → Type 0
Fits j None = FitsFree j
Fits j (Some g) = FitsGrant j g

-- the job of a number
abbrev pub IsJob : Queue → ℕ → Job → Type 0
IsJob m n j = job_numbered n m ≡ Some j

-- the grant of a number, while it is open: its modem and its job hold it
abbrev pub IsOpen : Queue → ℕ → Grant → Type 0
IsOpen m n g = (grant_numbered n m ≡ Some g) × (g.is_open ≡ true)

-- the numbers ascend, each above the first bound and below the second
abbrev pub AscendBetween : ℕ → List ℕ → ℕ → Type 0
AscendBetween low [] high = low < high
AscendBetween low (n ∷ ns) high = (low < n) × AscendBetween n ns high

-- a sound queue
pub record Sound (m : Queue) : Type 0 where
  -- jobs and grants are in ascending order of their numbers, each from 1 and below the next number; there may be gaps
  pub jobs : AscendBetween 0 (map (λ j. j.number) m.jobs) m.next_job
  pub grants : AscendBetween 0 (map (λ g. g.number) m.grants) m.next_grant
  -- a modem holds at most one open grant, and so does a job
  pub one_to_a_modem : (a b : ℕ) (g h : Grant) → IsOpen m a g → IsOpen m b h → g.modem ≡ h.modem → a ≡ b
  pub one_of_a_job : (a b : ℕ) (g h : Grant) → IsOpen m a g → IsOpen m b h → g.job ≡ h.job → a ≡ b
  -- an open grant has its job, and they fit
  pub held : (a : ℕ) (g : Grant) → IsOpen m a g → (j : Job) × IsJob m g.job j × Fits j (Some g)
  -- each job has its times
  pub timed : AreTimed m.jobs m.times
  -- a job that no open grant has fits alone
  pub free : (n : ℕ) (j : Job) → IsJob m n j → ((a : ℕ) (g : Grant) → IsOpen m a g → g.job ≢ n) → Fits j None
