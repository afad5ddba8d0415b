-- A job of an older queue, decided: what becomes of it here, or why it is refused.
use Rattle.std.specs.Prelude.{◌≡◌, ℕ, ◌+◌, ◌-◌, ◌≤◌, ◌==◌, Bool, not, ◌&&◌, ◌||◌, List, [], nat_le, nat_lt, is_some, Result, Ok, if◌then◌else◌}
use Rattle.std.specs.List.{range_with_len}
use Rattle.fax_job.specs.declared.import.Import.{Import}
use Rattle.fax_job.specs.declared.job.Phase.TheVariants as phase
use Rattle.fax_job.specs.declared.refusal.Refusal.{Refusal}
use Rattle.fax_job.specs.declared.refusal.Refusal.TheVariants.{Rejected, TooManyPages, Full}
use Rattle.fax_job.specs.Import.{import_of}
use Rattle.fax_value.specs.Limits.{last_job}
use Rattle.fax_job.specs.Pair.{Pair}
use Rattle.fax_value.specs.Status.{too_many_dials, too_many_tries}
use Rattle.fax_core.specs.declared.state.State.TheVariants as sendq
use Rattle.fax_core.specs.Decisions.{refuse_if◌because◌otherwise◌, is_over, is_empty, new_job}
use Rattle.fax_core.specs.Job.{Job, pages_to}
use Rattle.fax_core.specs.Settings.{Rule}
use Rattle.fax_core.specs.State.{state_number}
use Rattle.fax_core.specs.Submission.{recorded}

-- what the older queue had, under its new number: its first pages are sent, and its counters are what they were
abbrev pub old_job : Import → ℕ → ℕ → Job
old_job i number t = record (new_job i.order number t) {
  sent = pages_to i.npages;
  left = range_with_len (i.npages + 1) (i.order.totpages - i.npages);
  ntries = i.ntries;
  tottries = i.tottries;
  ndials = i.ndials;
  totdials = i.totdials;
  status = i.status;
}

-- done or failed: a state that no job leaves
abbrev pub is_ended : ℕ → Bool
is_ended state = (state == state_number sendq.Done) || (state == state_number sendq.Failed)

-- of a job that wasn't over, the first that holds: all pages sent, no dial left, no try left, suspended; else it waits. None is granted, since no modem has it
abbrev pub going_on : ℕ → Job → Job
going_on state j =
    if is_empty j.left then record j { phase = phase.Done; status = [] }
    else if nat_le j.maxdials j.totdials then record j { phase = phase.Failed; status = too_many_dials }
    else if nat_le j.maxtries j.tottries then record j { phase = phase.Failed; status = too_many_tries }
    else if state == state_number sendq.Suspended then record j { phase = phase.Held }
    else record j { phase = phase.Waiting }

-- what becomes of a job that stood in that state
abbrev pub brought : ℕ → Job → Job
brought state j =
    if state == state_number sendq.Done then record j { phase = phase.Done }
    else if state == state_number sendq.Failed then record j { phase = phase.Failed }
    else going_on state j

-- a job that is over needs no rule of its number
abbrev pub bring : Import → Rule → ℕ → ℕ → ℕ → Result Job Refusal
bring i rule next_job max_jobs t =
    refuse_if not (is_ended i.state) && is_some rule.notice because Rejected otherwise
    refuse_if not (is_ended i.state) && is_over i.order.totpages rule.pages because TooManyPages otherwise
    refuse_if nat_lt max_jobs next_job because Full otherwise
    Ok (brought i.state (old_job i next_job t))

-- an import that was read, with a number from 1 to 999999, makes a job that a lawful record holds
abbrev pub ReadImportsAreLawful : Type 0
ReadImportsAreLawful =
    (ps : List Pair) (i : Import) (number t : ℕ)
    → import_of ps ≡ Ok i → 1 ≤ number → number ≤ last_job
    → recorded (Ok (brought i.state (old_job i number t))) ≡ Ok (brought i.state (old_job i number t))
