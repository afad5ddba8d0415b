-- The key lines of a job.
use Rattle.std.specs.Prelude.{ℕ, List, [], ◌∷◌, ◌++◌, codes, unwrap_or}
use Rattle.std.specs.Fmt.{decimal}
use Rattle.fax_job.specs.declared.job.JobFields.{JobFields}
use Rattle.fax_job.specs.Pair.{Pair, pair}

-- sendq(5)'s tags, in their order; 0 is no kill time
abbrev pub order_lines : JobFields → List Pair
order_lines job =
    pair (codes "jobid") (decimal job.job)
    ∷ pair (codes "number") job.dial
    ∷ pair (codes "modem") job.modem
    ∷ pair (codes "jobtag") job.jobtag
    ∷ pair (codes "tts") (decimal job.tts)
    ∷ pair (codes "killtime") (decimal (unwrap_or job.killtime 0))
    ∷ pair (codes "priority") (decimal job.priority)
    ∷ []

abbrev pub counter_lines : JobFields → List Pair
counter_lines job =
    pair (codes "npages") (decimal job.npages)
    ∷ pair (codes "totpages") (decimal job.totpages)
    ∷ pair (codes "ntries") (decimal job.ntries)
    ∷ pair (codes "tottries") (decimal job.tottries)
    ∷ pair (codes "maxtries") (decimal job.maxtries)
    ∷ pair (codes "ndials") (decimal job.ndials)
    ∷ pair (codes "totdials") (decimal job.totdials)
    ∷ pair (codes "maxdials") (decimal job.maxdials)
    ∷ []

abbrev pub state_lines : ℕ → List ℕ → List Pair
state_lines state status = pair (codes "state") (decimal state) ∷ pair (codes "status") status ∷ []

-- the seventeen known tags, then the extra lines
abbrev pub job_lines : JobFields → ℕ → List Pair
job_lines job state = order_lines job ++ counter_lines job ++ state_lines state job.status ++ job.extra
