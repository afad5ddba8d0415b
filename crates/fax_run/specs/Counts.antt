-- The counters of a job are what it came in with, and sums over the reports on its grants that were taken. Of requests and of reports the newest comes first.
use Rattle.std.specs.Prelude.{ℕ, ◌+◌, ◌==◌, Bool, true, false, ◌&&◌, ◌||◌, List, [], ◌∷◌, ◌++◌, length, filter, if◌then◌else◌}
use Rattle.std.specs.List.{list_any}
use Rattle.fax_job.specs.declared.job.Call.TheVariants.{Connected}
use Rattle.fax_core.specs.declared.ask.Ask.{Ask}
use Rattle.fax_core.specs.declared.ask.Ask.TheVariants.{Bring, OnGrant}
use Rattle.fax_core.specs.declared.report.Report.{Report}
use Rattle.fax_core.specs.declared.report.Report.TheVariants as report
use Rattle.fax_core.specs.Job.{Job}
use Rattle.fax_core.specs.Queue.{Queue}
use Rattle.fax_core.specs.Reply.{Reply, Brought, Given, Step, Taken, Refused}
use Rattle.fax_run.specs.Run.{Fed, queue_after, step_of}

-- the reply hands out this grant of this job
abbrev pub hands : Reply → ℕ → ℕ → Bool
hands (Given handed) grant job = (handed.grant == grant) && (handed.job == job)
hands other grant job = false

abbrev pub gives : Step → ℕ → ℕ → Bool
gives (Taken after reply) grant job = hands reply grant job
gives (Refused refusal keys) grant job = false

-- one of these requests was given this grant of this job
abbrev pub was_given : Queue → List Fed → ℕ → ℕ → Bool
was_given m [] grant job = false
was_given m (f ∷ earlier) grant job = gives (step_of (queue_after m earlier) f) grant job || was_given m earlier grant job

-- what is reported of these grants
abbrev pub reported : (ℕ → Bool) → Ask → List Report
reported is_its (OnGrant grant r) = if is_its grant then r ∷ [] else []
reported is_its other = []

-- the reports of a job: each is on a grant that was given with it before
abbrev pub reports_of : Queue → ℕ → List Fed → List Report
reports_of m job [] = []
reports_of m job (f ∷ earlier) = reported (λ grant. was_given m earlier grant job) f.post.request.ask ++ reports_of m job earlier

abbrev pub is_call : Report → Bool
is_call (report.Call call) = true
is_call other = false

abbrev pub is_connected : Report → Bool
is_connected (report.Call Connected) = true
is_connected other = false

abbrev pub is_page : Report → Bool
is_page (report.Page page) = true
is_page other = false

-- those since the last of a kind, or all
abbrev pub since : (Report → Bool) → List Report → List Report
since ends [] = []
since ends (r ∷ rs) = if ends r then [] else r ∷ since ends rs

-- how many of a kind
abbrev pub number_of : (Report → Bool) → List Report → ℕ
number_of is rs = length (filter is rs)

pub record Counters : Type 0 where
  pub totdials : ℕ
  pub tottries : ℕ
  pub ndials : ℕ
  pub npages : ℕ
  pub ntries : ℕ

-- ---- what came in with a job

abbrev pub no_counters : Counters
no_counters = record { totdials = 0; tottries = 0; ndials = 0; npages = 0; ntries = 0 }

-- an import brings its counters in, and a submission none
abbrev pub came_in : Ask → Counters
came_in (Bring i) = record { totdials = i.totdials; tottries = i.tottries; ndials = i.ndials; npages = i.npages; ntries = i.ntries }
came_in other = no_counters

-- the reply says that this job was brought in
abbrev pub brings : Reply → ℕ → Bool
brings (Brought number state) job = number == job
brings other job = false

abbrev pub takes_in : Step → ℕ → Bool
takes_in (Taken after reply) job = brings reply job
takes_in (Refused refusal keys) job = false

-- the counters with which a job came in, which are none where no import made it
abbrev pub brought_with : Queue → ℕ → List Fed → Counters
brought_with m job [] = no_counters
brought_with m job (f ∷ earlier) = if takes_in (step_of (queue_after m earlier) f) job then came_in f.post.request.ask else brought_with m job earlier

-- ---- what is counted

-- what came in counts as long as nothing of a kind was reported
abbrev pub unless_any : (Report → Bool) → List Report → ℕ → ℕ
unless_any ends rs brought = if list_any ends rs then 0 else brought

-- dials are calls, and tries are connected ones, each in all and since the last that came further, on top of what came in
abbrev pub counts : Counters → List Report → Counters
counts brought rs = record {
  totdials = number_of is_call rs + brought.totdials;
  tottries = number_of is_connected rs + brought.tottries;
  ndials = number_of is_call (since is_connected rs) + unless_any is_connected rs brought.ndials;
  npages = number_of is_page rs + brought.npages;
  ntries = number_of is_connected (since is_page rs) + unless_any is_page rs brought.ntries;
}

abbrev pub counters_of : Job → Counters
counters_of j = record { totdials = j.totdials; tottries = j.tottries; ndials = j.ndials; npages = length j.sent; ntries = j.ntries }
