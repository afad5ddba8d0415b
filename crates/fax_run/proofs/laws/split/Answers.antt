use Rattle.fax_run.proofs.PastLemmas.{runs_split}
use Rattle.fax_run.proofs.RunLemmas.{runs_thread}
use Rattle.fax_run.proofs.laws.split.Goals as goal

pub returns-clause-thread : goal.returns-clause-thread
returns-clause-thread c = runs_thread

pub returns-clause-split : goal.returns-clause-split
returns-clause-split c = runs_split
