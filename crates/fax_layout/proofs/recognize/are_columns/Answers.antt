use Rattle.std.proofs.Common.{arith, refl}
use Rattle.fax_layout.specs.Tables.{column_of}
use Rattle.fax_layout.proofs.ShapeLemmas.{same_each}
use Rattle.fax_layout.proofs.recognize.are_columns.Goals as goal

pub returns : goal.returns
returns c = (λ _. same_each (λ n. column_of n.0.now n.1) c.args.columns.now c.args.names.now (omega arith) (λ k low. c.loop-at.invariant k (omega arith)), λ _. refl)
