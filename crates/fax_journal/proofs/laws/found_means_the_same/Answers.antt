use Rattle.fax_journal.proofs.MeaningLemmas as lemma
use Rattle.fax_journal.proofs.laws.found_means_the_same.Goals as goal

pub returns : goal.returns
returns c = lemma.found_means_the_same
