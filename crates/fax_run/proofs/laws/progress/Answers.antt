use Rattle.fax_run.proofs.ProgressLemmas.{busy_modems_find_theirs, free_modems_are_served, open_grants_can_end, waiting_jobs_get_ready}
use Rattle.fax_run.proofs.laws.progress.Goals as goal

pub returns-clause-free : goal.returns-clause-free
returns-clause-free c = free_modems_are_served

pub returns-clause-busy : goal.returns-clause-busy
returns-clause-busy c = busy_modems_find_theirs

pub returns-clause-open : goal.returns-clause-open
returns-clause-open c = open_grants_can_end

pub returns-clause-waiting : goal.returns-clause-waiting
returns-clause-waiting c = waiting_jobs_get_ready
