-- What a changed job makes of the times.
use Rattle.std.proofs.Common.{◌≡◌, false, Some, ap}
use Rattle.std.specs.Prelude.{ℕ, List}
use Rattle.fax_core.specs.Job.{Job}
use Rattle.fax_core.specs.Machine.{with_job}
use Rattle.fax_core.specs.Queue.{Queue, job_numbered}
use Rattle.fax_core.specs.Stamp.{stamp}
use Rattle.fax_core.specs.Times.{has_ended}
use Rattle.fax_core.specs.declared.times.Times.{Times}
use Rattle.fax_core.proofs.StampLemmas.{times_placed}
use Rattle.fax_store.specs.Times.{is_over_as, with_ends}

-- where a job that wasn't over is put in its place, it ends by that if it is over then
pub stamp_put : (t : ℕ) (m n : Queue) (j k : Job) → n.jobs ≡ (with_job k m).jobs → job_numbered k.number m ≡ Some j → has_ended j.phase ≡ false → stamp t m n ≡ with_ends t (is_over_as k) n
stamp_put t m n j k same was goes = ap (λ (xs : List Times). record n { times = xs }) (times_placed t m n j k same was goes)
