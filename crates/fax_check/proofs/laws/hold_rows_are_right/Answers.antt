use Rattle.fax_check.proofs.MeantLemmas as lemma
use Rattle.fax_check.proofs.laws.hold_rows_are_right.Goals as goal

pub returns : goal.returns
returns c = lemma.hold_rows_are_right
