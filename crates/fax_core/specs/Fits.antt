-- Whether a record of code and its open grant, or none, fit together. The test is on numbers; that it decides what soundness says of lists of pages is a law.
use Rattle.std.specs.Prelude.{◌+◌, ◌==◌, Bool, true, false, ◌&&◌, ◌||◌, nat_le, nat_lt, is_some, Option, Some, None}
use Rattle.fax_job.specs.declared.job.JobFields.{JobFields}
use Rattle.fax_job.specs.declared.job.Phase.{Phase}
use Rattle.fax_job.specs.declared.job.Phase.TheVariants.{Held, Waiting, Granted, Done, Failed}
use Rattle.fax_core.specs.declared.grants.Grant.{Grant}
use Rattle.fax_core.specs.Decisions.{is_go}

-- no more pages are sent than there are, and no counter is over its limit
abbrev pub is_counted : JobFields → Bool
is_counted f = nat_le f.npages f.totpages && nat_le f.ndials f.totdials && nat_le f.totdials f.maxdials && nat_le f.ntries f.tottries && nat_le f.tottries f.maxtries

-- a dial and a try are left
abbrev pub has_call_left : JobFields → Bool
has_call_left f = nat_lt f.totdials f.maxdials && nat_lt f.tottries f.maxtries

-- a page too
abbrev pub can_go_on : JobFields → Bool
can_go_on f = nat_lt f.npages f.totpages && has_call_left f

-- the phase is one that a job with no open grant may have
abbrev pub fits_phase : Phase → JobFields → Bool
fits_phase Held f = can_go_on f
fits_phase Waiting f = can_go_on f
fits_phase Granted f = false
fits_phase Done f = true
fits_phase Failed f = true

-- the job is granted
abbrev pub is_granted : Phase → Bool
is_granted Granted = true
is_granted other = false

-- an open grant of the job goes on where the job stands
abbrev pub fits_grant : JobFields → Grant → Bool
fits_grant f g =
    is_counted f && is_granted f.phase
    && (g.first_page + g.confirmed == f.npages + 1) && (g.last_page == f.totpages) && nat_le g.first_page g.last_page
    && (is_some g.call || has_call_left f)

-- the job and its open grant, or none
abbrev pub fits : JobFields → Option Grant → Bool
fits f None = is_counted f && is_go f.wish && fits_phase f.phase f
fits f (Some g) = fits_grant f g
