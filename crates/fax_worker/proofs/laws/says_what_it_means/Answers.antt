use Rattle.fax_worker.proofs.SayingLemmas.{says_what_it_means}
use Rattle.fax_worker.proofs.laws.says_what_it_means.Goals as goal

pub returns : goal.returns
returns c = says_what_it_means
