use Rattle.fax_check.proofs.WholeLemmas.{rows_are_sound}
use Rattle.fax_check.proofs.laws.whole_rows_are_sound.Goals as goal

pub returns : goal.returns
returns c = rows_are_sound
