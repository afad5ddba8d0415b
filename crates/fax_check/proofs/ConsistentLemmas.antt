-- Runs leave a consistent queue consistent.
use Rattle.fax_check.specs.Consistent.{Consistent, RunsStayConsistent}
use Rattle.fax_core.proofs.StepLemmas.{empty_sound, run_sound}
use Rattle.fax_core.specs.Laws.{RunsKeepGrantsWithJobs, RunsKeepTimesPast}
use Rattle.fax_core.specs.Queue.{empty_queue}

-- the empty queue is consistent
pub empty_consistent : Consistent empty_queue
empty_consistent = record { sound = empty_sound; owned = λ a g is. absurd cc; past = tt }

-- and so is what a run from a consistent one leaves, as grants keep their jobs, and times are past
pub runs_stay_consistent : RunsKeepGrantsWithJobs → RunsKeepTimesPast → RunsStayConsistent
runs_stay_consistent owned past s m rs it lawful = record {
  sound = run_sound s m rs it.sound lawful;
  owned = owned s m rs it.sound lawful it.owned;
  past = past s m rs it.past;
}
