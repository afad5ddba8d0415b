use Rattle.fax_core.proofs.StepLemmas.{empty_sound, step_sound, run_sound}
use Rattle.fax_core.proofs.laws.soundness.Goals as goal

pub returns-clause-empty : goal.returns-clause-empty
returns-clause-empty c = empty_sound

pub returns-clause-step : goal.returns-clause-step
returns-clause-step c = step_sound

pub returns-clause-run : goal.returns-clause-run
returns-clause-run c = run_sound
