use Rattle.fax_core.specs.Run.{queue_after}
use Rattle.fax_core.proofs.PageLemmas.{one_each, step_gives}
use Rattle.fax_core.proofs.StepLemmas.{run_sound}
use Rattle.fax_core.proofs.laws.one_modem_one_job.Goals as goal

pub returns-clause-run : goal.returns-clause-run
returns-clause-run c = λ s m rs sound lawful a b g h o p e. one_each (queue_after s m rs) a b g h (run_sound s m rs sound lawful) o p e

pub returns-clause-given : goal.returns-clause-given
returns-clause-given c = step_gives
