use Rattle.fax_worker.proofs.OrderLemmas.{in_order_at_the_receiver}
use Rattle.fax_worker.proofs.laws.in_order_at_the_receiver.Goals as goal

pub returns : goal.returns
returns c = in_order_at_the_receiver
