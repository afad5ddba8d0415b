use Rattle.fax_worker.proofs.TraceLemmas.{numbers_are_used_once}
use Rattle.fax_worker.proofs.laws.one_number_one_request.Goals as goal

pub returns : goal.returns
returns c = numbers_are_used_once
