use Rattle.fax_net.proofs.LawLemmas.{each_its_own}
use Rattle.fax_net.proofs.laws.each_its_own.Goals as goal

pub returns : goal.returns
returns c = each_its_own
