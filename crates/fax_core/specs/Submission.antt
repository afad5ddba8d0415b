-- A submission, as the code has it: its rule comes from the controls, and its job is a record within its limits.
use Rattle.std.specs.Prelude.{◌≡◌, ℕ, ◌≤◌, Bool, List, Result, Ok, Err, if◌then◌else◌}
use Rattle.fax_rule.specs.declared.rule.Rule as dest
use Rattle.fax_job.specs.declared.job.JobFields.{JobFields}
use Rattle.fax_job.specs.declared.order.Order.{Order}
use Rattle.fax_job.specs.declared.refusal.Refusal.{Refusal}
use Rattle.fax_job.specs.declared.refusal.Refusal.TheVariants.{Unavailable}
use Rattle.fax_job.specs.Job.{is_lawful}
use Rattle.fax_value.specs.Limits.{last_job}
use Rattle.fax_job.specs.Order.{order_of}
use Rattle.fax_job.specs.Pair.{Pair}
use Rattle.fax_core.specs.Decisions.{new_job}
use Rattle.fax_core.specs.Job.{Job, job_of, fields_of}
use Rattle.fax_core.specs.Settings.{Rule}

-- a rule of the controls, with the moments that its hours are. A submission doesn't ask for these
abbrev pub rule_of : dest.Rule → (ℕ → Bool) → Rule
rule_of rule hours = record { calls = rule.calls; pages = rule.pages; notice = rule.notice; hours = hours }

-- the job that is given, or the refusal
abbrev pub submitted : Result JobFields Refusal → Result Job Refusal
submitted (Ok fields) = Ok (job_of fields)
submitted (Err refusal) = Err refusal

-- a new job that no lawful record holds is refused
abbrev pub recorded : Result Job Refusal → Result Job Refusal
recorded (Ok j) = if is_lawful (fields_of j) then Ok j else Err Unavailable
recorded (Err refusal) = Err refusal

-- an order that was read, with a number from 1 to 999999, makes a job that a lawful record holds
abbrev pub ReadOrdersAreLawful : Type 0
ReadOrdersAreLawful = (ps : List Pair) (order : Order) (number t : ℕ) → order_of ps ≡ Ok order → 1 ≤ number → number ≤ last_job → recorded (Ok (new_job order number t)) ≡ Ok (new_job order number t)
