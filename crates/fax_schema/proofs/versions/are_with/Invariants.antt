use Rattle.std.proofs.Common.{◌≡◌, length}
use Rattle.fax_schema.specs.Schema.{are_with}
use Rattle.fax_schema.proofs.versions.are_with.Given as goal

-- the tables before are others
abbrev pub invariant-loop-tables : goal.invariant-loop-tables
invariant-loop-tables l = are_with l.name l.tables ≡ are_with l.name l.fn.tables

abbrev pub decreases-loop-tables : goal.decreases-loop-tables
decreases-loop-tables l = length l.tables
