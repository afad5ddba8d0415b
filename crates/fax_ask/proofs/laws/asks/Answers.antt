use Rattle.fax_ask.proofs.AloneLemmas.{one_ask, ask_or_refused, one_fault}
use Rattle.fax_ask.proofs.laws.asks.Goals as goal

pub returns-clause-one : goal.returns-clause-one
returns-clause-one c = one_ask

pub returns-clause-refused : goal.returns-clause-refused
returns-clause-refused c = ask_or_refused

pub returns-clause-fault : goal.returns-clause-fault
returns-clause-fault c = one_fault
