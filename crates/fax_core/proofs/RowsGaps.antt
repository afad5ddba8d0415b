-- Worked rows: numbers that ascend with gaps, and numbers that don't.
use Rattle.std.proofs.Common.{[], ◌∷◌, arith}
use Rattle.fax_core.specs.Sound.{AscendBetween}

-- jobs 2 and 5 are left of eight
gaps_row : AscendBetween 0 (2 ∷ 5 ∷ []) 9
gaps_row = (omega arith, (omega arith, omega arith))

-- none are left of eight
none_row : AscendBetween 0 [] 9
none_row = omega arith

-- all are left of two
all_row : AscendBetween 0 (1 ∷ 2 ∷ []) 3
all_row = (omega arith, (omega arith, omega arith))

-- a number of 0, one that is there twice, two in the wrong order, and one that comes next
zero_row : ¬ AscendBetween 0 (0 ∷ 5 ∷ []) 9
zero_row h = omega (arith, h.0)

twice_row : ¬ AscendBetween 0 (5 ∷ 5 ∷ []) 9
twice_row h = omega (arith, (h.1).0)

fall_row : ¬ AscendBetween 0 (5 ∷ 2 ∷ []) 9
fall_row h = omega (arith, (h.1).0)

next_row : ¬ AscendBetween 0 (2 ∷ 9 ∷ []) 9
next_row h = omega (arith, (h.1).1)

-- a next number of 0
no_next_row : ¬ AscendBetween 0 [] 0
no_next_row h = omega (arith, h)
