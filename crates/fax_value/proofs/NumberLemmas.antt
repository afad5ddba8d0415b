-- What digits write, as far as a loop over them has come.
use Rattle.std.proofs.Common.{◌≡◌, ℕ, zero, suc, ◌+◌, ◌-◌, ◌*◌, ◌^◌, ◌<◌, ◌≤◌, Bool, true, false, cond, ◌&&◌, List, [], ◌∷◌, length, get_or, take, leb, refl, subst, arith}
use Rattle.std.proofs.Math.Nat.{pow-le-pow_right}
use Rattle.std.specs.Prelude.{Some, None}
use Rattle.std.proofs.lemmas.Bool.{and_parts, leb-true, eqb-false}
use Rattle.std.proofs.lemmas.Int.Digits.{digits_value_more, digits_value-lt}
use Rattle.std.proofs.lemmas.List.{length-take-le}
use Rattle.std.proofs.lemmas.Str.{digit_value_digit}
use Rattle.std.specs.Char.{is_ascii_digit, digit_value}
use Rattle.std.specs.List.{list_all}
use Rattle.std.specs.Int.{IsInRange}
use Rattle.std.specs.Str.Parse.{AllDigits, digits_value, digits_value_after}
use Rattle.fax_value.specs.Number.{is_number, number_of, begins_with_zero}

-- an ASCII digit is a byte from 48 to 57
digit_range : (c : ℕ) → is_ascii_digit c ≡ true → IsInRange 48 57 c
digit_range c h =
    let parts = and_parts (leb 48 c) (leb c 57) h in
    (leb-true 48 c parts.0, leb-true c 57 parts.1)

-- its value is below 10
digit_small : (c : ℕ) → is_ascii_digit c ≡ true → digit_value c < 10
digit_small c h =
    let range : IsInRange 48 57 c = digit_range c h in
    omega (arith, digit_value_digit c range)

-- the first of ASCII digits are digits
all_digits : (ds : List ℕ) (i : ℕ) → list_all is_ascii_digit ds ≡ true → AllDigits 10 (take i ds)
all_digits ds zero h = tt
all_digits [] (suc i) h = tt
all_digits (d ∷ ds) (suc i) h =
    let parts = and_parts (is_ascii_digit d) (list_all is_ascii_digit ds) h in
    (digit_small d parts.0, all_digits ds i parts.1)

-- and so are all
every_digit : (ds : List ℕ) → list_all is_ascii_digit ds ≡ true → AllDigits 10 ds
every_digit [] h = tt
every_digit (d ∷ ds) h =
    let parts = and_parts (is_ascii_digit d) (list_all is_ascii_digit ds) h in
    (digit_small d parts.0, every_digit ds parts.1)

-- the one in each place is a digit
digit_at : (ds : List ℕ) (i : ℕ) → list_all is_ascii_digit ds ≡ true → i < length ds → is_ascii_digit (get_or ds i 0) ≡ true
digit_at [] i h lt = absurd (omega arith)
digit_at (d ∷ ds) zero h lt = (and_parts (is_ascii_digit d) (list_all is_ascii_digit ds) h).0
digit_at (d ∷ ds) (suc i) h lt = digit_at ds i (and_parts (is_ascii_digit d) (list_all is_ascii_digit ds) h).1 (omega arith)

-- one more digit of at most eighteen
pub record IsStep (ds : List ℕ) (i : ℕ) : Type 0 where
  pub below : digits_value 10 (take i ds) < 10 ^ 17
  pub from : 48 ≤ get_or ds i 0
  pub to : get_or ds i 0 ≤ 57
  pub more : digits_value 10 (take (i + 1) ds) ≡ digits_value 10 (take i ds) * 10 + (get_or ds i 0 - 48)

-- one digit more, of at most eighteen, is such a step
pub step : (ds : List ℕ) (i : ℕ) → list_all is_ascii_digit ds ≡ true → length ds ≤ 18 → i < length ds → IsStep ds i
step ds i h short lt =
    let range : IsInRange 48 57 (get_or ds i 0) = digit_range (get_or ds i 0) (digit_at ds i h lt) in
    let len : length (take i ds) ≡ i = length-take-le i ds (omega arith) in
    let small : digits_value 10 (take i ds) < 10 ^ i = rw len at (digits_value-lt 10 (take i ds) (all_digits ds i h)) in
    let below : i ≤ 17 = omega arith in
    let power : 10 ^ i ≤ 10 ^ 17 = pow-le-pow_right (omega arith) below in
    let digit = digit_value_digit (get_or ds i 0) range in
    record {
      below = omega (arith, small, power);
      from = range.0;
      to = range.1;
      more = omega (arith, digits_value_more 10 ds i lt, digit);
    }

-- ---- the least number without a zero in front

-- a number with digits behind it is no less
after_ge : (n : ℕ) (ds : List ℕ) → n ≤ digits_value_after 10 n ds
after_ge n [] = omega arith
after_ge n (d ∷ ds) = omega (arith, after_ge (n * 10 + digit_value d) ds)

pub record IsRequestNumber (n : ℕ) : Type 0 where
  pub from : 1 ≤ n
  pub below : n < 10 ^ 18

-- digits of a number without a zero in front write a number from 1 below 10 ^ 18
in_range : (ds : List ℕ) → is_number ds ≡ true → begins_with_zero ds ≡ false → IsRequestNumber (digits_value 10 ds)
in_range [] h z = absurd (omega (arith, leb-true 1 0 (and_parts (leb 1 0) (leb 0 18) (and_parts (leb 1 0 && leb 0 18) true h).0).0))
in_range (d ∷ ds) h z =
    let outer = and_parts (leb 1 (length (d ∷ ds)) && leb (length (d ∷ ds)) 18) (list_all is_ascii_digit (d ∷ ds)) h in
    let inner = and_parts (leb 1 (length (d ∷ ds))) (leb (length (d ∷ ds)) 18) outer.0 in
    let short : length (d ∷ ds) ≤ 18 = leb-true (length (d ∷ ds)) 18 inner.1 in
    let digits = and_parts (is_ascii_digit d) (list_all is_ascii_digit ds) outer.1 in
    let range : IsInRange 48 57 d = digit_range d digits.0 in
    let some : (d ≡ 48 → ⊥) = eqb-false d 48 z in
    let all : AllDigits 10 (d ∷ ds) = (digit_small d digits.0, every_digit ds digits.1) in
    let power : 10 ^ length (d ∷ ds) ≤ 10 ^ 18 = pow-le-pow_right (omega arith) short in
    record {
      from = omega (arith, after_ge (0 * 10 + digit_value d) ds, digit_value_digit d range, some);
      below = omega (arith, digits_value-lt 10 (d ∷ ds) all, power);
    }

-- so does what is taken of them
chosen : (ds : List ℕ) (n : ℕ) (t : Bool) → is_number ds ≡ t → begins_with_zero ds ≡ false → cond t (Some (digits_value 10 ds)) None ≡ Some n → IsRequestNumber n
chosen ds n true h z e = let same : digits_value 10 ds ≡ n = cc in subst IsRequestNumber same (in_range ds h z)
chosen ds n false h z e = absurd cc

-- so a number that is read of such digits is in this range
pub request_number_range : (ds : List ℕ) (n : ℕ) → begins_with_zero ds ≡ false → number_of ds ≡ Some n → IsRequestNumber n
request_number_range ds n z e = chosen ds n (is_number ds) refl z e
