use Rattle.fax_once.proofs.StopLemmas as lemma
use Rattle.fax_once.proofs.laws.only_accepted_make_rows.Goals as goal

pub returns : goal.returns
returns c = lemma.only_accepted
