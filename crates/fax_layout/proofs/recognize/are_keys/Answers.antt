use Rattle.std.proofs.Common.{arith, refl}
use Rattle.fax_layout.proofs.ShapeLemmas.{same_each}
use Rattle.fax_layout.proofs.recognize.are_keys.Goals as goal

pub returns : goal.returns
returns c = (λ _. same_each (λ p. p.now) c.args.keys.now c.args.places.now (omega arith) (λ k low. c.loop-at.invariant k (omega arith)), λ _. refl)
