-- When a job came in, and when it ended.
use Rattle.std.specs.Prelude.{◌≡◌, ℕ, Bool, true, false, List, [], ◌∷◌, ⊤}
use Rattle.fax_job.specs.declared.job.Phase.{Phase}
use Rattle.fax_job.specs.declared.job.Phase.TheVariants.{Done, Failed}
use Rattle.fax_core.specs.Job.{Job}
use Rattle.fax_core.specs.declared.times.Times.{Times}

-- a job is over
abbrev pub has_ended : Phase → Bool
has_ended Done = true
has_ended Failed = true
has_ended other = false

-- the times are the job's, and where it isn't over it has no end
pub record FitsTimes (j : Job) (x : Times) : Type 0 where
  pub job : x.job ≡ j.number
  pub not_over : has_ended j.phase ≡ false → x.ended ≡ 0

-- each job has its times, in the order of the jobs
abbrev pub AreTimed : List Job → List Times → Type 0
AreTimed [] [] = ⊤
AreTimed (j ∷ js) (x ∷ xs) = FitsTimes j x × AreTimed js xs
AreTimed [] (x ∷ xs) = ⊥
AreTimed (j ∷ js) [] = ⊥
