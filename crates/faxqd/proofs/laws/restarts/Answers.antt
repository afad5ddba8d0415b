use Rattle.faxqd.proofs.RestartsLemmas as lemma
use Rattle.faxqd.proofs.laws.restarts.Goals as goal

pub returns : goal.returns
returns g c = lemma.restarts_have_one_history _
