use Rattle.std.proofs.Common.{◌≡◌, ℕ, List, All, map, take}
use Rattle.fax_value.specs.Name.{IsName}
use Rattle.fax_tables.specs.Grant.{holder_shown}
use Rattle.fax_tables.proofs.grants.holders_in.Given as goal

-- the names in the rows so far
abbrev pub invariant-loop-row : goal.invariant-loop-row
invariant-loop-row l = record {
  found : (names : List (List ℕ)) → l.rows ≡ map holder_shown names → All IsName names → l.names.items ≡ take l.row-index names;
  stands : map (take 1) (take l.row-index l.rows) ≡ map holder_shown l.names.items;
}
