use Rattle.std.proofs.Common.{arith, refl}
use Rattle.sqlite_value.specs.Keys.{plain}
use Rattle.fax_layout.proofs.ShapeLemmas.{all_alike, each_alike}
use Rattle.fax_layout.proofs.recognize.are_plain.Goals as goal

pub returns-then-not-is_plain : goal.returns-then-not-is_plain
returns-then-not-is_plain c =
    (λ none. absurd (let f = none in cc), λ same. absurd (let is = c.is_plain.ensures.1 (each_alike plain c.args.orders.now c.args.keys.now c.loop-order.order-index same) in let f = c.if-not-is_plain.true in cc))

pub returns : goal.returns
returns c = (λ _. all_alike plain c.args.orders.now c.args.keys.now (omega arith) (λ k low. c.loop-order.invariant k (omega arith)), λ _. refl)
