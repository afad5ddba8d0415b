use Rattle.std.proofs.Common.{◌≡◌, map, ℕ, ◌<◌}
use Rattle.std.specs.List.{slice_get}
use Rattle.fax_layout.proofs.recognize.are_keys.Given as goal

-- the keys before this one are as they are to be
abbrev pub invariant-loop-at : goal.invariant-loop-at
invariant-loop-at l = (k : ℕ) → k < l.at → slice_get l.keys k ≡ slice_get (map (λ p. p.now) l.places) k
