use Rattle.std.proofs.Common.{rules}
use Rattle.fax_store.proofs.StoreLemmas.{forgets, undoes}
use Rattle.fax_store.proofs.work.Work.drop.Goals as goal

pub returns : goal.returns
returns g c = search (rules, forgets, undoes)
