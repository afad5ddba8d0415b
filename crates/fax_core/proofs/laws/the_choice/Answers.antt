use Rattle.fax_core.proofs.BestLemmas.{best_alone, ready_due}
use Rattle.fax_core.proofs.StepLemmas.{step_best, step_none}
use Rattle.fax_core.proofs.laws.the_choice.Goals as goal

pub returns-clause-best : goal.returns-clause-best
returns-clause-best c = step_best

pub returns-clause-alone : goal.returns-clause-alone
returns-clause-alone c = best_alone

pub returns-clause-nothing : goal.returns-clause-nothing
returns-clause-nothing c = step_none

pub returns-clause-due : goal.returns-clause-due
returns-clause-due c = ready_due
