-- What was read: a list of key lines states it.
use Rattle.std.specs.Prelude.{◌≡◌, ⊤, List, Ok}
use Rattle.fax_job.specs.Alter.{alter_of}
use Rattle.fax_job.specs.Import.{import_of}
use Rattle.fax_job.specs.Order.{order_of}
use Rattle.fax_job.specs.Pair.{Pair}
use Rattle.fax_job.specs.declared.alter.Alter as alter
use Rattle.fax_job.specs.declared.import.Import.{Import}
use Rattle.fax_job.specs.declared.order.Order.{Order}
use Rattle.fax_core.specs.declared.ask.Ask.{Ask}
use Rattle.fax_core.specs.declared.ask.Ask.TheVariants.{Submission, Bring, OnJob}
use Rattle.fax_core.specs.declared.ask.JobAsk.{JobAsk}
use Rattle.fax_core.specs.declared.ask.JobAsk.TheVariants.{Alter}

abbrev pub IsReadOrder : Order → Type 0
IsReadOrder order = (ps : List Pair) × (order_of ps ≡ Ok order)

abbrev pub IsReadImport : Import → Type 0
IsReadImport import = (ps : List Pair) × (import_of ps ≡ Ok import)

abbrev pub IsReadAlter : alter.Alter → Type 0
IsReadAlter changes = (ps : List Pair) × (alter_of ps ≡ Ok changes)

-- what a client asks of a job was read
abbrev pub IsReadOn : JobAsk → Type 0
IsReadOn (Alter changes) = IsReadAlter changes
IsReadOn other = ⊤

-- a job is submitted
abbrev pub IsSubmission : Ask → Type 0
IsSubmission (Submission order) = ⊤
IsSubmission other = ⊥

-- what a request has of key lines was read
abbrev pub IsRead : Ask → Type 0
IsRead (Submission order) = IsReadOrder order
IsRead (Bring import) = IsReadImport import
IsRead (OnJob job ask) = IsReadOn ask
IsRead other = ⊤
