use Rattle.fax_worker.proofs.JoinLemmas.{answers_are_replies, sessions_are_traces}
use Rattle.fax_worker.proofs.laws.traces_are_histories.Goals as goal

pub returns-clause-replies : goal.returns-clause-replies
returns-clause-replies c = answers_are_replies

pub returns-clause-sessions : goal.returns-clause-sessions
returns-clause-sessions c = sessions_are_traces
