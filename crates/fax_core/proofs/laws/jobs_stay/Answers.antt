use Rattle.fax_core.proofs.GoneLemmas.{run_gone}
use Rattle.fax_core.proofs.MadeLemmas.{new_jobs_are_there}
use Rattle.fax_core.proofs.PurgeLemmas.{run_there}
use Rattle.fax_core.proofs.laws.jobs_stay.Goals as goal

pub returns-clause-made : goal.returns-clause-made
returns-clause-made c = new_jobs_are_there

pub returns-clause-stay : goal.returns-clause-stay
returns-clause-stay c = run_there

pub returns-clause-gone : goal.returns-clause-gone
returns-clause-gone c = run_gone
