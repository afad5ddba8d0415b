use Rattle.std.proofs.Common.{subst}
use Rattle.fax_ask.specs.Ask.{IsRefused}
use Rattle.fax_once.proofs.RequestLemmas.{body_told, unrouted}
use Rattle.fax_once.proofs.refusing.refuse_ask.Goals as goal

pub returns-in-BadBody-clause-verdict : goal.returns-in-BadBody-clause-verdict
returns-in-BadBody-clause-verdict c s m k refused =
    body_told s c.args.arrival.now m k c.in-BadBody.fault c.refuse_body.result
    (subst (IsRefused c.args.arrival.now.method c.args.arrival.now.path.now c.args.arrival.now.body.now) c.in-BadBody.is refused) c.refuse_body.ensures

pub returns-in-NoRoute-clause-verdict : goal.returns-in-NoRoute-clause-verdict
returns-in-NoRoute-clause-verdict c s m k refused =
    unrouted s c.args.arrival.now m k c.refused.result
    (subst (IsRefused c.args.arrival.now.method c.args.arrival.now.path.now c.args.arrival.now.body.now) c.in-NoRoute.is refused) c.refused.ensures
