-- Blanks, and texts without those at their ends.
use Rattle.std.specs.Prelude.{ℕ, Bool, false, ◌||◌, ◌==◌, List, [], ◌∷◌, reverse, if◌then◌else◌}

-- a space or a tab
abbrev pub is_blank : ℕ → Bool
is_blank byte = (byte == 32) || (byte == 9)

abbrev pub begins_with_blank : List ℕ → Bool
begins_with_blank [] = false
begins_with_blank (byte ∷ bytes) = is_blank byte

-- what stands behind the blanks in front
abbrev pub without_blanks : List ℕ → List ℕ
without_blanks [] = []
without_blanks (byte ∷ bytes) = if is_blank byte then without_blanks bytes else byte ∷ bytes

-- what stands before the blanks at the end
unfoldable pub before_blanks : List ℕ → List ℕ
before_blanks text = reverse (without_blanks (reverse text))

-- what stands between them
abbrev pub trimmed : List ℕ → List ℕ
trimmed text = before_blanks (without_blanks text)
