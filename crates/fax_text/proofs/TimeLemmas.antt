-- Few digits write a small number.
use Rattle.std.proofs.Common.{◌≡◌, ℕ, ◌^◌, ◌<◌, ◌≤◌, Bool, true, false, cond, ◌&&◌, List, [], ◌∷◌, length, leb, refl, arith}
use Rattle.std.proofs.Math.Nat.{pow-le-pow_right}
use Rattle.std.proofs.lemmas.Bool.{and_parts, leb-true}
use Rattle.std.proofs.lemmas.Int.Digits.{digits_value-lt}
use Rattle.std.proofs.lemmas.Str.{digit_value_digit}
use Rattle.std.specs.Char.{is_ascii_digit, digit_value}
use Rattle.std.specs.List.{list_all}
use Rattle.std.specs.Option.{IfSome}
use Rattle.std.specs.Prelude.{Some, None}
use Rattle.std.specs.Str.Parse.{AllDigits, digits_value}
use Rattle.fax_value.specs.Number.{is_number, number_of}

-- a digit's value is below 10
digit_small : (c : ℕ) → is_ascii_digit c ≡ true → digit_value c < 10
digit_small c h =
    let parts = and_parts (leb 48 c) (leb c 57) h in
    omega (arith, digit_value_digit c (leb-true 48 c parts.0, leb-true c 57 parts.1), leb-true c 57 parts.1)

-- ASCII digits are digits
every_digit : (ds : List ℕ) → list_all is_ascii_digit ds ≡ true → AllDigits 10 ds
every_digit [] h = tt
every_digit (d ∷ ds) h =
    let parts = and_parts (is_ascii_digit d) (list_all is_ascii_digit ds) h in
    (digit_small d parts.0, every_digit ds parts.1)

-- six digits at most write a number below 10 ^ 6
chosen : (ds : List ℕ) (t : Bool) → is_number ds ≡ t → length ds ≤ 6 → IfSome (cond t (Some (digits_value 10 ds)) None) (λ n. n < 10 ^ 6)
chosen ds true h short =
    let parts = and_parts (leb 1 (length ds) && leb (length ds) 18) (list_all is_ascii_digit ds) h in
    let power : 10 ^ length ds ≤ 10 ^ 6 = pow-le-pow_right (omega arith) short in
    omega (arith, digits_value-lt 10 ds (every_digit ds parts.1), power)
chosen ds false h short = tt

-- so does what is read of six bytes at most
pub six_digits : (ds : List ℕ) → length ds ≤ 6 → IfSome (number_of ds) (λ n. n < 10 ^ 6)
six_digits ds short = chosen ds (is_number ds) refl short
