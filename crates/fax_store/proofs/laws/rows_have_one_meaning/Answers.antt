use Rattle.fax_store.proofs.MeaningLemmas as lemma
use Rattle.fax_store.proofs.laws.rows_have_one_meaning.Goals as goal

pub returns : goal.returns
returns c = lemma.rows_have_one_meaning
