use Rattle.std.proofs.Common.{◌≡◌, map, ℕ, ◌<◌}
use Rattle.std.specs.List.{slice_get}
use Rattle.fax_layout.specs.Tables.{column_of}
use Rattle.fax_layout.proofs.recognize.are_columns.Given as goal

-- the columns before this one are as they are to be
abbrev pub invariant-loop-at : goal.invariant-loop-at
invariant-loop-at l = (k : ℕ) → k < l.at → slice_get l.columns k ≡ slice_get (map (λ n. column_of n.0.now n.1) l.names) k
