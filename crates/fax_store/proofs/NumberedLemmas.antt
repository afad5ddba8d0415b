-- Rows that have a number each, and what holds of each element of a list.
use Rattle.std.proofs.Common.{◌≡◌, inl, inr, ℕ, pos, Bool, true, false, List, [], ◌∷◌, map, All, refl, sym, ap, ap₂, ◌∙◌}
use Rattle.std.proofs.lemmas.List.Elements.{All-from_recursion, All-map, recursion_from_All}
use Rattle.sqlite.specs.Order.{Row, column}
use Rattle.sqlite.specs.declared.types.Value.{Value}
use Rattle.sqlite.specs.declared.types.Value.TheVariants.{Int}
use Rattle.sqlite_rules.specs.Lists.{Has}
use Rattle.sqlite_rules.proofs.ListLemmas.{all_from, all_has}
use Rattle.fax_tables.specs.Row.{number}

-- the number that a value is
abbrev whole : Value → ℕ
whole (Int (pos n)) = n
whole other = 0

abbrev pub number_first : Row → ℕ
number_first row = whole (column row 0)

-- the numbers in these rows
abbrev pub numbers_in : List Row → List ℕ
numbers_in rows = map number_first rows

-- rows that have a number each are those of their numbers
pub numbered_rows : (rows : List Row) → ((r : Row) → Has rows r → (n : ℕ) × (r ≡ number n ∷ [])) → rows ≡ map (λ n. number n ∷ []) (numbers_in rows)
numbered_rows [] each = refl
numbered_rows (r ∷ rows) each =
    let first = each r (inl refl) in
    ap₂ ◌∷◌ (first.1 ∙ ap (λ (n : ℕ). number n ∷ []) (sym (ap number_first first.1))) (numbered_rows rows (λ s has. each s (inr has)))

-- tests are equal that pass together
pub both_ways_equal : (a b : Bool) → (a ≡ true → b ≡ true) → (b ≡ true → a ≡ true) → a ≡ b
both_ways_equal true b to from = sym (to refl)
both_ways_equal false true to from = from refl
both_ways_equal false false to from = refl

-- what a function keeps of each element holds of each that it makes
pub all_mapped : {X : Type 0} (P : X → Type 0) (f : X → X) (xs : List X) → ((x : X) → Has xs x → P x → P (f x)) → All P xs → All P (map f xs)
all_mapped P f xs keeps all = All-map P f xs (All-from_recursion (λ x. P (f x)) xs
    (all_from (λ x. P (f x)) xs (λ x has. keeps x has (all_has P xs x (recursion_from_All P xs all) has))))
