use Rattle.fax_core.proofs.ReadImportLemmas.{read_counts}
use Rattle.fax_ask.proofs.ask.read_import.Goals as goal

pub returns-clause-counts : goal.returns-clause-counts
returns-clause-counts c = read_counts c.in_ok-lines.lines c.in_ok-to_import.field-0 c.in_ok-to_import.ensures
