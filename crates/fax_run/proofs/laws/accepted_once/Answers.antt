use Rattle.fax_run.proofs.AcceptedLemmas as lemma
use Rattle.fax_run.proofs.laws.accepted_once.Goals as goal

pub returns : goal.returns
returns c = lemma.accepted_once
