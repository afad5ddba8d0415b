use Rattle.fax_http.proofs.WholeLemmas as lemma
use Rattle.fax_http.proofs.laws.whole_inputs.Goals as goal

pub returns : goal.returns
returns g c = lemma.serves_whole_inputs _ _ _ _
