-- Lawful jobs, and the rows of queries for a job.
use Rattle.std.specs.Prelude.{ℕ, List, [], ◌∷◌, ◌++◌, ◌≤◌, ◌<◌, unwrap_or}
use Rattle.std.specs.Str.{IsUtf8}
use Rattle.sqlite.specs.Order.{Row}
use Rattle.sqlite.specs.declared.types.Value.TheVariants.{Text}
use Rattle.fax_core.specs.Job.{Job, fields_of, HasPages}
use Rattle.fax_value.specs.Dial.{IsCanonical}
use Rattle.fax_job.specs.Job.{IsLawful}
use Rattle.fax_value.specs.JobTag.{IsJobTag}
use Rattle.fax_value.specs.Limits.{last_moment}
use Rattle.fax_value.specs.Name.{IsName}
use Rattle.fax_job.specs.Pair.{ArePairs}
use Rattle.fax_job.specs.Spelling.{printed}
use Rattle.fax_value.specs.Value.{IsStatus}
use Rattle.fax_job.specs.declared.job.JobFields.{JobFields}
use Rattle.fax_tables.specs.Row.{number, counter_columns, phase_number, wish_number}
use Rattle.fax_tables.specs.declared.prospect.Prospect.{Prospect}

-- a text of a form
pub record IsText (Form : List ℕ → Type 0) (text : List ℕ) : Type 0 where
  pub formed : Form text
  pub utf8 : IsUtf8 text

-- the texts are of their forms, and the times are moments
pub record IsFormed (job : JobFields) : Type 0 where
  pub dial : IsText IsCanonical job.dial
  pub modem : IsText IsName job.modem
  pub jobtag : IsText IsJobTag job.jobtag
  pub status : IsText IsStatus job.status
  pub extra : ArePairs job.extra
  pub tts : job.tts ≤ last_moment
  pub killtime : unwrap_or job.killtime 0 ≤ last_moment
  pub priority : job.priority < 256

-- also the numbers are within their limits, and the pages are those from the first to the last
pub record IsLawfulJob (j : Job) : Type 0 where
  pub formed : IsFormed (fields_of j)
  pub limits : IsLawful (fields_of j)
  pub pages : HasPages j

-- ---- what a query asks of a job, and its row

-- all but its extra lines, which may weigh more than all else
abbrev pub brief : JobFields → JobFields
brief job = record job { extra = [] }

abbrev pub brief_shown : JobFields → Row
brief_shown job =
    number job.job ∷ Text job.dial ∷ Text job.modem ∷ Text job.jobtag ∷ Text job.status ∷ number job.tts ∷ number (unwrap_or job.killtime 0) ∷ number job.priority
    ∷ (counter_columns job ++ number (phase_number job.phase) ∷ number (wish_number job.wish) ∷ number job.next ∷ [])

-- the whole job
abbrev pub job_shown : JobFields → Row
job_shown job = brief_shown job ++ Text (printed job.extra) ∷ []

-- which job waits, where it stands in the order of the choice, and where it may go
abbrev pub prospect : JobFields → Prospect
prospect job = record { job = job.job; dial = job.dial; modem = job.modem; priority = job.priority; tts = job.tts }

abbrev pub asked_shown : Prospect → Row
asked_shown p = number p.job ∷ Text p.dial ∷ Text p.modem ∷ number p.priority ∷ number p.tts ∷ []

abbrev pub prospect_shown : JobFields → Row
prospect_shown job = asked_shown (prospect job)
