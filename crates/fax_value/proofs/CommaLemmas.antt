-- The parts of a list with commas.
use Rattle.std.proofs.Common.{◌≡◌, ℕ, ◌+◌, ◌-◌, ◌<◌, ◌≤◌, inl, inr, Bool, true, false, List, [], ◌∷◌, length, take, drop, refl, ap, ◌∙◌, arith}
use Rattle.std.proofs.lemmas.Bool.{cases_Bool}
use Rattle.std.proofs.lemmas.List.{take_rest}
use Rattle.std.proofs.lemmas.List.Splits.{slice_split-cons_no, slice_split_first}
use Rattle.std.specs.List.{slice_split, onto_first, position_or_len}

-- where the first byte passes, the place of the first that does isn't the length
whole_yes : (p : ℕ → Bool) (x : ℕ) (xs : List ℕ) → p x ≡ true → length (x ∷ xs) ≤ position_or_len p (x ∷ xs) → ⊥
whole_yes p x xs passes h = let at : position_or_len p (x ∷ xs) ≡ 0 = rw passes refl in omega arith

-- where it doesn't, the place is behind it
whole_no : (p : ℕ → Bool) (x : ℕ) (xs : List ℕ) → p x ≡ false → length (x ∷ xs) ≤ position_or_len p (x ∷ xs) → length xs ≤ position_or_len p xs
whole_no p x xs fails h = let at : position_or_len p (x ∷ xs) ≡ 1 + position_or_len p xs = rw fails refl in omega arith

-- a text without a comma is one part
pub slice_split_whole : (p : ℕ → Bool) (xs : List ℕ) → length xs ≤ position_or_len p xs → slice_split p xs ≡ xs ∷ []
slice_split_whole p [] h = refl
slice_split_whole p (x ∷ xs) h =
    elim (cases_Bool (p x)) [
      | inl passes ↦ absurd (whole_yes p x xs passes h)
      | inr fails ↦ slice_split-cons_no p x xs fails ∙ ap (onto_first x) (slice_split_whole p xs (whole_no p x xs fails h))
    ]

-- the first part ends before the first comma
pub slice_split_at_first : (p : ℕ → Bool) (xs : List ℕ) (at : ℕ) → at ≡ position_or_len p xs → at < length xs → slice_split p xs ≡ take at xs ∷ slice_split p (take (length xs - (at + 1)) (drop (at + 1) xs))
slice_split_at_first p xs at e h =
    let before : position_or_len p xs < length xs = omega arith in
    slice_split_first p xs 0 before ∙ rw (← e, take_rest xs (at + 1)) refl
