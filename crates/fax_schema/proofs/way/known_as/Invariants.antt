use Rattle.std.proofs.Common.{map, length}
use Rattle.std.specs.Prelude.{◌↔◌}
use Rattle.sqlite_rules.specs.Lists.{Has}
use Rattle.fax_schema.specs.Way.{layout_of}
use Rattle.fax_schema.proofs.way.known_as.Given as goal

-- it has none of the layouts before, and those that are left are of them
abbrev pub invariant-loop-known : goal.invariant-loop-known
invariant-loop-known l =
    (Has (map (λ k. layout_of k) l.known) l.schema ↔ Has (map (λ k. layout_of k) l.fn.known) l.schema)
    × ((k : _) → Has l.known k → Has l.fn.known k)

abbrev pub decreases-loop-known : goal.decreases-loop-known
decreases-loop-known l = length l.known
