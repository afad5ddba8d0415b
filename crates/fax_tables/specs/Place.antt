-- Records that stand by number.
use Rattle.std.specs.Prelude.{ℕ, List, [], ◌∷◌, nat_lt, if◌then◌else◌}

-- the record in its place among those
abbrev pub placed : {X : Type 0} → (X → ℕ) → X → List X → List X
placed number x [] = x ∷ []
placed number x (y ∷ ys) = if nat_lt (number y) (number x) then y ∷ placed number x ys else x ∷ y ∷ ys
