use Rattle.fax_core.specs.Clock.{decided_at}
use Rattle.fax_core.proofs.ClockLemmas.{step_clock, run_clock}
use Rattle.fax_core.proofs.PastLemmas.{runs_keep_times_past, steps_keep_times_past}
use Rattle.fax_core.proofs.laws.the_clock.Goals as goal

pub returns-clause-step : goal.returns-clause-step
returns-clause-step c = step_clock

pub returns-clause-request : goal.returns-clause-request
returns-clause-request c = λ s m n r reply e. step_clock s m n (decided_at m.clock r.moment) r.ask reply e

pub returns-clause-run : goal.returns-clause-run
returns-clause-run c = run_clock

pub returns-clause-times : goal.returns-clause-times
returns-clause-times c = steps_keep_times_past

pub returns-clause-runs : goal.returns-clause-runs
returns-clause-runs c = runs_keep_times_past
