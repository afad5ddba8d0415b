-- What a modem holds.
use Rattle.std.specs.Prelude.{◌≡◌, ℕ, List, [], Option, Some, None}
use Rattle.fax_core.specs.Ageing.{aged}
use Rattle.fax_core.specs.Machine.{dial_of}
use Rattle.fax_core.specs.Queue.{Queue, job_numbered}
use Rattle.fax_core.specs.declared.grants.Grant.{Grant}
use Rattle.fax_job.specs.declared.job.JobFields.{JobFields}
use Rattle.fax_text.specs.Modems.{grant_words}

-- the grant, with a job that has the number to dial of the grant's job in the queue as it is at t
abbrev pub IsHeldGrant : Queue → ℕ → Grant → Grant × JobFields → Type 0
IsHeldGrant m t g held = (held.0 ≡ g) × (dial_of (job_numbered g.job (aged t m)) ≡ held.1.dial)

-- what is shown of a grant with its job, or of none
abbrev pub held_text : Option (Grant × JobFields) → List ℕ
held_text None = []
held_text (Some held) = grant_words held.0.number held.0.job held.1.dial held.0.first_page held.0.last_page held.0.call held.0.confirmed
