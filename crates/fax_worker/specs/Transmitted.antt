-- What was transmitted in a trace.
use Rattle.std.specs.Prelude.{◌≡◌, ◌+◌, ◌-◌, ◌==◌, ◌&&◌, ⊤, ℕ, Bool, true, false, List, [], ◌∷◌, ◌++◌, length, Option, Some, None, if◌then◌else◌}
use Rattle.std.specs.List.{range_with_len}
use Rattle.fax_job.specs.declared.import.Import.{Import}
use Rattle.fax_core.specs.declared.ask.Ask.TheVariants.{Bring, OnGrant}
use Rattle.fax_core.specs.declared.grants.Grant.{Grant}
use Rattle.fax_core.specs.declared.report.Report.TheVariants as report
use Rattle.fax_core.specs.declared.state.State.TheVariants as sendq
use Rattle.fax_core.specs.Job.{Job}
use Rattle.fax_core.specs.Queue.{job_numbered}
use Rattle.fax_core.specs.Sound.{IsOpen}
use Rattle.fax_core.specs.State.{state_number}
use Rattle.fax_run.specs.Counts.{brought_with}
use Rattle.fax_run.specs.Run.{Fed}
use Rattle.fax_worker.specs.Trace.{Begins, Dies, Event, Handles, PageOf, Transmits, World, queue_at, window}

-- how often the page of the job was transmitted
abbrev pub transmitted : ℕ → ℕ → List Event → ℕ
transmitted job page [] = 0
transmitted job page (Transmits m j p ∷ earlier) = (if (j == job) && (p == page) then 1 else 0) + transmitted job page earlier
transmitted job page (other ∷ earlier) = transmitted job page earlier

-- it is this page
abbrev pub is_page : ℕ → ℕ → Option PageOf → Bool
is_page job page None = false
is_page job page (Some p) = (p.job == job) && (p.page == page)

-- how often a driver died between its transmission of the page and the begun report
abbrev pub deaths : ℕ → ℕ → List Event → ℕ
deaths job page [] = 0
deaths job page (Dies m ∷ earlier) = (if is_page job page (window earlier m) then 1 else 0) + deaths job page earlier
deaths job page (other ∷ earlier) = deaths job page earlier

-- ---- the order of pages

-- the pages of a job that were transmitted, in order
abbrev pub pages_of : ℕ → List Event → List ℕ
pages_of job [] = []
pages_of job (Transmits m j p ∷ earlier) = if j == job then pages_of job earlier ++ p ∷ [] else pages_of job earlier
pages_of job (other ∷ earlier) = pages_of job earlier

-- the pages after the first ones, through the last
abbrev pub pages_after : ℕ → ℕ → List ℕ
pages_after first last = range_with_len (first + 1) (last - first)

-- what a job had sent at the start, or what it came in with
abbrev pub sent_or : Option Job → ℕ → ℕ
sent_or None brought = brought
sent_or (Some j) brought = length j.sent

-- how many pages of a job were sent before the trace, or before it came in
abbrev pub sent_before : World → List Fed → ℕ → ℕ
sent_before first fs job = sent_or (job_numbered job first.start.queue) (brought_with first.start.queue job fs).npages

-- On open grants only workers report pages, each after its transmission. No driver dies between a transmission and its report. A job that comes in as done has all its pages sent.
abbrev pub IsUndisturbed : World → List Event → Event → Type 0
IsUndisturbed first earlier (Handles s p) =
    ((n page : ℕ) (g : Grant) → p.request.ask ≡ OnGrant n (report.Page page) → IsOpen (queue_at first earlier) n g → first.has g.modem ≡ true)
    × ((i : Import) → p.request.ask ≡ Bring i → i.state ≡ state_number sendq.Done → i.npages ≡ i.order.totpages)
IsUndisturbed first earlier (Begins m number ask) = (n page : ℕ) → ask ≡ OnGrant n (report.Page page) → (sent : PageOf) × (window earlier m ≡ Some sent)
IsUndisturbed first earlier (Dies m) = window earlier m ≡ None
IsUndisturbed first earlier other = ⊤

abbrev pub AreUndisturbed : World → List Event → Type 0
AreUndisturbed first [] = ⊤
AreUndisturbed first (e ∷ earlier) = IsUndisturbed first earlier e × AreUndisturbed first earlier
