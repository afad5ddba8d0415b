use Rattle.fax_run.proofs.SessionsLemmas.{sessions_have_one_list}
use Rattle.fax_run.proofs.laws.sessions.Goals as goal

pub returns : goal.returns
returns c = sessions_have_one_list
