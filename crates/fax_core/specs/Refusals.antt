-- Which refusals a request may meet, by their numbers, and what is told with them.
use Rattle.std.specs.Prelude.{ℕ, ◌==◌, Bool, not, ◌&&◌, List, [], ◌∷◌}
use Rattle.std.specs.List.{list_any}
use Rattle.fax_job.specs.declared.refusal.Refusal.{Refusal}
use Rattle.fax_job.specs.Refusal.{refusal_number}
use Rattle.fax_core.specs.declared.ask.Ask.{Ask}
use Rattle.fax_core.specs.declared.ask.Ask.TheVariants.{Submission, Bring, OnJob, Mark, Next, OnGrant, GiveUp, Purge}
use Rattle.fax_core.specs.declared.ask.JobAsk.{JobAsk}
use Rattle.fax_core.specs.declared.ask.JobAsk.TheVariants.{Suspend, Resume, Kill, Alter}
use Rattle.fax_core.specs.declared.report.Report.{Report}
use Rattle.fax_core.specs.declared.report.Report.TheVariants.{Call, Page, Outcome}
use Rattle.fax_core.specs.Reply.{Keys, NoKeys, Notice, HeldGrant, Pages}

-- of a job that isn't over
abbrev pub refusals_on_job : JobAsk → List ℕ
refusals_on_job Suspend = 14 ∷ []
refusals_on_job Resume = 14 ∷ 15 ∷ []
refusals_on_job Kill = []
refusals_on_job (Alter changes) = 14 ∷ 15 ∷ 16 ∷ []

-- of an open grant
abbrev pub refusals_on_grant : Report → List ℕ
refusals_on_grant (Call c) = 20 ∷ []
refusals_on_grant (Page n) = 21 ∷ 22 ∷ []
refusals_on_grant (Outcome o) = 20 ∷ 23 ∷ 24 ∷ 25 ∷ []

-- in the order in which they are looked for
abbrev pub refusals_of : Ask → List ℕ
refusals_of (Submission order) = 11 ∷ 12 ∷ 26 ∷ []
refusals_of (Bring i) = 11 ∷ 12 ∷ 26 ∷ []
refusals_of (OnJob job ask) = 8 ∷ 13 ∷ refusals_on_job ask
refusals_of (Mark modem down) = 9 ∷ []
refusals_of (Next modem) = 9 ∷ 17 ∷ 18 ∷ 26 ∷ []
refusals_of (OnGrant grant report) = 10 ∷ 19 ∷ refusals_on_grant report
refusals_of (GiveUp floor) = []
refusals_of (Purge before) = 30 ∷ []

-- the refusal is among them
abbrev pub may_meet : Ask → Refusal → Bool
may_meet ask refusal = list_any (λ number. number == refusal_number refusal) (refusals_of ask)

-- a notice is told with 11, a grant with 18, pages with 22, and nothing with any other
abbrev pub goes_with : Keys → ℕ → Bool
goes_with NoKeys number = not (number == 11) && not (number == 18) && not (number == 22)
goes_with (Notice text) number = number == 11
goes_with (HeldGrant called handed) number = number == 18
goes_with (Pages npages) number = number == 22
