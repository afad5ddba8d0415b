use Rattle.std.specs.Prelude.{ℕ, Bool, true, false, List, [], ◌∷◌}

-- there is none
abbrev pub is_none : List ℕ → Bool
is_none [] = true
is_none (x ∷ xs) = false
