use Rattle.fax_core.proofs.NewJobLemmas.{read_recorded}
use Rattle.fax_core.proofs.laws.read_orders.Goals as goal

pub returns : goal.returns
returns c = read_recorded
