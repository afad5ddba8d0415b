use Rattle.std.proofs.Common.{◌≡◌, ◌<◌, ◌^◌, ℕ, List, [], ◌∷◌, All, map, take}
use Rattle.fax_tables.specs.Row.{number}
use Rattle.fax_tables.proofs.times.numbers_in.Given as goal

-- the numbers in the rows so far
abbrev pub invariant-loop-row : goal.invariant-loop-row
invariant-loop-row l = record {
  found : (numbers : List ℕ) → l.rows ≡ map (λ n. number n ∷ []) numbers → All (λ n. n < 2 ^ 32) numbers → l.numbers.items ≡ take l.row-index numbers;
  stands : map (take 1) (take l.row-index l.rows) ≡ map (λ n. number n ∷ []) l.numbers.items;
}
