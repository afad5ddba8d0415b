use Rattle.fax_journal.proofs.MeaningLemmas as lemma
use Rattle.fax_journal.proofs.laws.files_have_one_meaning.Goals as goal

pub returns : goal.returns
returns c = lemma.files_have_one_meaning
