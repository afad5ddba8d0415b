use Rattle.fax_ask.proofs.ResponseLemmas.{accepted_statuses, unavailable_alone}
use Rattle.fax_ask.proofs.laws.statuses.Goals as goal

pub returns-clause-accepted : goal.returns-clause-accepted
returns-clause-accepted c = accepted_statuses

pub returns-clause-unavailable : goal.returns-clause-unavailable
returns-clause-unavailable c = unavailable_alone
