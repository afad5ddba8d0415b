use Rattle.fax_check.proofs.MeantLemmas as lemma
use Rattle.fax_check.proofs.laws.sound_rows_are_whole.Goals as goal

pub returns : goal.returns
returns c = lemma.sound_rows_are_whole
