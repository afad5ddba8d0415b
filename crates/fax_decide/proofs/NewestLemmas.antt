-- The newest of the jobs from a number on are the newest of all, where enough of them are read.
use Rattle.std.proofs.Common.{◌≡◌, inl, inr, ℕ, zero, suc, ◌+◌, ◌-◌, ◌≤◌, Bool, true, List, [], ◌∷◌, ◌++◌, drop, filter, length, map, nat_le, refl, sym, ap, ◌∙◌, arith, length-append}
use Rattle.std.proofs.lemmas.Bool.{cases_Bool, leb-true, le-leb}
use Rattle.std.proofs.lemmas.List.{drop-map, length-map}
use Rattle.std.proofs.Math.Seq.{drop-append-add}
use Rattle.fax_core.specs.Sound.{AscendBetween}
use Rattle.fax_run.specs.View.{newest}

module _ {X : Type 0} (num : X → ℕ) (first : ℕ) where
  abbrev pub is_later : X → Bool
  is_later x = nat_le first (num x)

  -- where numbers ascend from the first one on, all are later
  all_later : (low high : ℕ) (xs : List X) → AscendBetween low (map num xs) high → first ≤ low + 1 → filter is_later xs ≡ xs
  all_later low high [] ascend from = refl
  all_later low high (x ∷ xs) ascend from =
      let passes : is_later x ≡ true = le-leb first (num x) (omega (arith, ascend.0, from)) in
      rw passes (ap (λ rest. x ∷ rest) (all_later (num x) high xs ascend.1 (omega (arith, ascend.0, from))))

  -- those that are later come last
  later_last : (low high : ℕ) (xs : List X) → AscendBetween low (map num xs) high → (front : List X) × (xs ≡ front ++ filter is_later xs)
  later_last low high [] ascend = ([], refl)
  later_last low high (x ∷ xs) ascend = elim (cases_Bool (is_later x)) [
    | inl passes ↦
        (let from = leb-true first (num x) passes in
        let rest = all_later (num x) high xs ascend.1 (omega (arith, from)) in
        rw passes ([], ap (λ ys. x ∷ ys) (sym rest)))
    | inr fails ↦
        (let rest = later_last (num x) high xs ascend.1 in
        rw fails (x ∷ rest.0, ap (λ ys. x ∷ ys) rest.1))
  ]

-- the newest of a list are those of its end, where that is long enough
newest_of_end : {X : Type 0} (front ys : List X) → 200 ≤ length ys → newest (front ++ ys) ≡ newest ys
newest_of_end front ys enough =
    let many : length (front ++ ys) - 200 ≡ length front + (length ys - 200) = omega (arith, length-append front ys, enough) in
    ap (λ n. drop n (front ++ ys)) many ∙ drop-append-add front ys (length ys - 200)

-- so those of the later ones are those of all
pub newest_later : {X : Type 0} (num : X → ℕ) (first low high : ℕ) (xs : List X) → AscendBetween low (map num xs) high → 200 ≤ length (filter (is_later num first) xs)
    → newest (filter (is_later num first) xs) ≡ newest xs
newest_later num first low high xs ascend enough =
    let parts = later_last num first low high xs ascend in
    sym (ap newest parts.1 ∙ newest_of_end parts.0 (filter (is_later num first) xs) enough)

-- the newest of a mapped list are mapped from the newest
pub newest_map : {X Y : Type 0} (f : X → Y) (xs : List X) → newest (map f xs) ≡ map f (newest xs)
newest_map f xs = ap (λ n. drop (n - 200) (map f xs)) (length-map xs f) ∙ drop-map f (length xs - 200) xs

-- ascending numbers ascend still without the first of them
pub ascend_drop : (n low high : ℕ) (ns : List ℕ) → AscendBetween low ns high → (from : ℕ) × AscendBetween from (drop n ns) high
ascend_drop zero low high ns ascend = (low, ascend)
ascend_drop (suc n) low high [] ascend = (low, ascend)
ascend_drop (suc n) low high (x ∷ xs) ascend = ascend_drop n x high xs ascend.1
