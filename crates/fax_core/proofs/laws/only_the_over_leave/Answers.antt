use Rattle.fax_core.proofs.GrantLemmas.{grants_stay}
use Rattle.fax_core.proofs.OwnLemmas.{runs_keep_jobs_of_grants, steps_keep_jobs_of_grants}
use Rattle.fax_core.proofs.PurgeLemmas.{only_the_over}
use Rattle.fax_core.proofs.laws.only_the_over_leave.Goals as goal

pub returns-clause-jobs : goal.returns-clause-jobs
returns-clause-jobs c = only_the_over

pub returns-clause-grants : goal.returns-clause-grants
returns-clause-grants c = grants_stay

pub returns-clause-step : goal.returns-clause-step
returns-clause-step c = steps_keep_jobs_of_grants

pub returns-clause-run : goal.returns-clause-run
returns-clause-run c = runs_keep_jobs_of_grants
