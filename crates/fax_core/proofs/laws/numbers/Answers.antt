use Rattle.fax_core.proofs.NumberLemmas.{run_numbers, step_numbers}
use Rattle.fax_core.proofs.laws.numbers.Goals as goal

pub returns-clause-step : goal.returns-clause-step
returns-clause-step c = step_numbers

pub returns-clause-run : goal.returns-clause-run
returns-clause-run c = run_numbers
