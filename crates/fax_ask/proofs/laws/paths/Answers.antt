use Rattle.fax_ask.proofs.RequestLemmas.{routed_paths_lack_lf}
use Rattle.fax_ask.proofs.laws.paths.Goals as goal

pub returns : goal.returns
returns c = routed_paths_lack_lf
