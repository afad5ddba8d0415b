use Rattle.fax_worker.proofs.BoundLemmas.{once_at_the_receiver, transmits_the_next}
use Rattle.fax_worker.proofs.laws.once_at_the_receiver.Goals as goal

pub returns-clause-once : goal.returns-clause-once
returns-clause-once c = once_at_the_receiver

pub returns-clause-next : goal.returns-clause-next
returns-clause-next c = transmits_the_next
