-- Jobs within the limits of the queue.
use Rattle.std.specs.Prelude.{ℕ, Bool, true, IsTrue, ◌&&◌, nat_le, Option, Some, None}
use Rattle.fax_job.specs.declared.job.JobFields.{JobFields}
use Rattle.fax_value.specs.Limits.{last_job, last_next, most_attempts, most_pages}
use Rattle.fax_job.specs.Pair.{are_unknown}

abbrev pub are_lawful_pages : JobFields → Bool
are_lawful_pages job = nat_le job.npages job.totpages && nat_le 1 job.totpages && nat_le job.totpages most_pages

abbrev pub are_lawful_tries : JobFields → Bool
are_lawful_tries job = nat_le job.ntries job.tottries && nat_le job.tottries job.maxtries && nat_le 1 job.maxtries && nat_le job.maxtries most_attempts

abbrev pub are_lawful_dials : JobFields → Bool
are_lawful_dials job = nat_le job.ndials job.totdials && nat_le job.totdials job.maxdials && nat_le 1 job.maxdials && nat_le job.maxdials most_attempts

-- 0 is written for none, so no kill time is the moment 0
abbrev pub is_lawful_killtime : Option ℕ → Bool
is_lawful_killtime None = true
is_lawful_killtime (Some seconds) = nat_le 1 seconds

abbrev pub is_lawful : JobFields → Bool
is_lawful job = nat_le 1 job.job && nat_le job.job last_job && is_lawful_killtime job.killtime && are_lawful_pages job && are_lawful_tries job && are_lawful_dials job && nat_le job.next last_next && are_unknown job.extra

abbrev pub IsLawful : JobFields → Type 0
IsLawful job = IsTrue (is_lawful job)
