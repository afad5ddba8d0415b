use Rattle.std.proofs.Common.{◌≡◌, length, map}
use Rattle.std.specs.Prelude.{◌↔◌}
use Rattle.fax_layout.specs.Shape.{Remains, indexes_from, parts_of, tables_from}
use Rattle.fax_layout.proofs.recognize.has_layout.Given as goal

-- the schema has the layout's tables and indexes just where what is left has those of the parts that are left
abbrev pub invariant-loop-layout : goal.invariant-loop-layout
invariant-loop-layout l = ((l.schema.tables ≡ tables_from 0 (parts_of (map (λ p. p.now) l.fn.layout))) × (l.schema.indexes ≡ indexes_from 0 0 (parts_of (map (λ p. p.now) l.fn.layout)))) ↔ Remains l.left (parts_of (map (λ p. p.now) l.layout))

abbrev pub decreases-loop-layout : goal.decreases-loop-layout
decreases-loop-layout l = length l.layout
