-- The key lines of a job's times.
use Rattle.std.specs.Prelude.{ℕ, List, [], ◌∷◌, codes}
use Rattle.std.specs.Fmt.{decimal}
use Rattle.fax_job.specs.Pair.{Pair, pair}

-- when the job came in, and when it ended: 0 until then
abbrev pub times_lines : ℕ → ℕ → List Pair
times_lines submitted ended = pair (codes "submitted") (decimal submitted) ∷ pair (codes "ended") (decimal ended) ∷ []
