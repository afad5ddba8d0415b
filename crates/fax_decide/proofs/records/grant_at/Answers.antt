use Rattle.std.proofs.Common.{◌<◌, rules}
use Rattle.fax_value.specs.Limits.{last_grant}
use Rattle.fax_decide.proofs.LookingLemmas.{by_reading, goes_on, no_call}
use Rattle.fax_decide.proofs.RecordLemmas.{no_grant}
use Rattle.fax_decide.proofs.records.grant_at.Goals as goal

pub returns-then-number-from-clause-consults : goal.returns-then-number-from-clause-consults
returns-then-number-from-clause-consults g c = goes_on no_call (λ m k at none.
    let past : last_grant < c.args.number = search rules in
    no_grant m c.args.number at.lawful.grants past)

pub returns-clause-consults : goal.returns-clause-consults
returns-clause-consults g c = by_reading c.grant.ensures.leaves c.grant.ensures.answers
