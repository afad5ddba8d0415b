use Rattle.fax_decide.proofs.DecisionLemmas.{given_up_taken, taken_or}
use Rattle.fax_decide.specs.declared.effect.Effect.TheVariants.{GivenUp}
use Rattle.fax_decide.proofs.floors.decide_floor.Goals as goal

pub returns : goal.returns
returns c m t =
    taken_or (GivenUp c.args.upto) _ _ c.answered-reply.result _ c.take.ensures c.answered-reply.ensures
    (λ r told. given_up_taken m t c.args.upto r (rw c.get.ensures.number at told))
