use Rattle.fax_decide.proofs.FaultLemmas.{both_sides}
use Rattle.fax_decide.proofs.LookingLemmas.{decides, gives, goes_on, no_call}
use Rattle.fax_decide.proofs.request.decide.Goals as goal

pub returns-in-Mark-clause-decides : goal.returns-in-Mark-clause-decides
returns-in-Mark-clause-decides g c = rw c.in-Mark.is (decides (goes_on no_call (λ m k at none sound these. both_sides c.decide_mark.result _ (c.decide_mark.ensures m c.args.t))))

pub returns-in-GiveUp-clause-decides : goal.returns-in-GiveUp-clause-decides
returns-in-GiveUp-clause-decides g c = rw c.in-GiveUp.is (decides (goes_on no_call (λ m k at none sound these. both_sides c.decide_floor.result _ (c.decide_floor.ensures m c.args.t))))

pub returns-in-Purge-clause-decides : goal.returns-in-Purge-clause-decides
returns-in-Purge-clause-decides g c = rw c.in-Purge.is (decides (gives c.decide_purge.ensures (λ m k at decided sound these. both_sides c.decide_purge.result _ (decided sound))))
