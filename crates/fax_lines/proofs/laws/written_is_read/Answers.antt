use Rattle.fax_lines.proofs.PrintedLemmas.{printed_spells}
use Rattle.fax_lines.proofs.TextLemmas.{spelled_alone}
use Rattle.fax_lines.proofs.laws.written_is_read.Goals as goal

pub returns-clause-spells : goal.returns-clause-spells
returns-clause-spells c = printed_spells

pub returns-clause-alone : goal.returns-clause-alone
returns-clause-alone c = spelled_alone
