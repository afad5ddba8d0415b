use Rattle.fax_run.proofs.GrantLemmas.{runs_keep_grants}
use Rattle.fax_run.proofs.laws.grants_stay.Goals as goal

pub returns : goal.returns
returns c = runs_keep_grants
