use Rattle.fax_worker.proofs.TraceLemmas.{reports_will_be_accepted, traces_agree}
use Rattle.fax_worker.proofs.laws.agrees.Goals as goal

pub returns-clause-agree : goal.returns-clause-agree
returns-clause-agree c = traces_agree

pub returns-clause-accepted : goal.returns-clause-accepted
returns-clause-accepted c = reports_will_be_accepted
