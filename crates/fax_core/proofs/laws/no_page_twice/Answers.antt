use Rattle.fax_core.proofs.BroughtLemmas.{not_granted}
use Rattle.fax_core.proofs.PageLemmas.{confirmed, step_keeps, run_keeps, not_again, rises}
use Rattle.fax_core.proofs.laws.no_page_twice.Goals as goal

pub returns-clause-confirmed : goal.returns-clause-confirmed
returns-clause-confirmed c = confirmed

pub returns-clause-step : goal.returns-clause-step
returns-clause-step c = λ s m n t ask reply number j sound e. (step_keeps s m n t ask reply sound e).sent number j

pub returns-clause-run : goal.returns-clause-run
returns-clause-run c = λ s m rs number j sound lawful. (run_keeps s m rs sound lawful).sent number j

pub returns-clause-granted : goal.returns-clause-granted
returns-clause-granted c = not_again

pub returns-clause-brought : goal.returns-clause-brought
returns-clause-brought c = not_granted

pub returns-clause-rise : goal.returns-clause-rise
returns-clause-rise c = rises
