use Rattle.std.proofs.Common.{rules}
use Rattle.fax_text.proofs.CivilLemmas.{same_civil}
use Rattle.fax_text.proofs.listing.time_of.Goals as goal

pub returns-clause-counted : goal.returns-clause-counted
returns-clause-counted c = same_civil c.args.zone.now _ _ (search rules)
