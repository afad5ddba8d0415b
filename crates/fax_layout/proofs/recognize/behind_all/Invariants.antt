use Rattle.std.proofs.Common.{List, length, ◌++◌}
use Rattle.std.specs.Prelude.{◌↔◌}
use Rattle.fax_layout.specs.Shape.{Remains}
use Rattle.fax_layout.specs.declared.shape.Part.{Part}
use Rattle.fax_layout.proofs.recognize.behind_all.Given as goal

-- all the parts and others are what was left just where those that are still to come, and the others, are left now
abbrev pub invariant-loop-parts : goal.invariant-loop-parts
invariant-loop-parts l = (others : List Part) → Remains l.fn.left (l.fn.parts ++ others) ↔ Remains l.left (l.parts ++ others)

abbrev pub decreases-loop-parts : goal.decreases-loop-parts
decreases-loop-parts l = length l.parts
