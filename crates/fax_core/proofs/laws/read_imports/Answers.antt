use Rattle.fax_core.proofs.ReadImportLemmas.{read_old_recorded}
use Rattle.fax_core.proofs.laws.read_imports.Goals as goal

pub returns : goal.returns
returns c = read_old_recorded
