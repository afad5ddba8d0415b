-- Which texts are values.
use Rattle.std.proofs.Common.{◌≡◌, ℕ, suc, ◌-◌, ◌<◌, ◌≤◌, ◌^◌, Bool, true, false, cond, not, ◌&&◌, ◌||◌, eqb, leb, List, [], ◌∷◌, length, get_or, refl, sym, ap, ◌∙◌, inl, inr, arith}
use Rattle.std.specs.Char.{is_ascii_digit, is_ascii_alphanumeric}
use Rattle.std.specs.Fmt.{decimal}
use Rattle.std.specs.List.{list_all}
use Rattle.std.specs.Str.Parse.{AllDigits}
use Rattle.std.proofs.lemmas.Bool.{and_parts, and_from, or_cases, or_left, or_from, leb-true, le-leb, ne_eqb, eqb-true, not_from_false}
use Rattle.std.proofs.lemmas.Fmt.{decimal_is_IsNumeral}
use Rattle.std.proofs.lemmas.Str.Parse.{digit_from_value}
use Rattle.fax_value.specs.Dial.{is_key, are_keys, is_canonical}
use Rattle.fax_value.specs.JobTag.{is_job_tag}
use Rattle.fax_value.specs.Name.{is_name_byte, is_name}
use Rattle.fax_value.specs.Value.{ends_with_backslash, is_plain_byte, is_plain, is_value}
use Rattle.fax_value.specs.Blank.{begins_with_blank}

-- a text ends with a backslash just where its last byte is one
pub ends_with_backslash_last : (bs : List ℕ) → ends_with_backslash bs ≡ eqb (get_or bs (length bs - 1) 0) 92
ends_with_backslash_last [] = refl
ends_with_backslash_last (b ∷ []) = refl
ends_with_backslash_last (b ∷ c ∷ bs) =
    let k : length (b ∷ c ∷ bs) - 1 ≡ suc (length (c ∷ bs) - 1) = omega arith in
    ends_with_backslash_last (c ∷ bs) ∙ ap (λ (i : ℕ). eqb (get_or (b ∷ c ∷ bs) i 0) 92) (sym k)

-- ---- bytes from `!` to `~`

abbrev is_solid : ℕ → Bool
is_solid b = leb 33 b && leb b 126

record Solid (b : ℕ) : Type 0 where
  low : 33 ≤ b
  high : b ≤ 126

-- a byte from 33 to 126 is such
solid : (b : ℕ) → 33 ≤ b → b ≤ 126 → is_solid b ≡ true
solid b low high = and_from (leb 33 b) (leb b 126) (le-leb 33 b low) (le-leb b 126 high)

-- and such a byte is from 33 to 126
solid_parts : (b : ℕ) → is_solid b ≡ true → Solid b
solid_parts b h = let p = and_parts (leb 33 b) (leb b 126) h in record { low = leb-true 33 b p.0; high = leb-true b 126 p.1 }

-- where each byte that passes one test passes another, so do all
all_weaker : (p q : ℕ → Bool) → ((b : ℕ) → p b ≡ true → q b ≡ true) → (bs : List ℕ) → list_all p bs ≡ true → list_all q bs ≡ true
all_weaker p q weaker [] h = refl
all_weaker p q weaker (b ∷ bs) h =
    let parts = and_parts (p b) (list_all p bs) h in
    and_from (q b) (list_all q bs) (weaker b parts.0) (all_weaker p q weaker bs parts.1)

-- such a byte is plain
plain_of_solid : (b : ℕ) → is_solid b ≡ true → is_plain_byte b ≡ true
plain_of_solid b h =
    let s : Solid b = solid_parts b h in
    or_left (leb 32 b && not (eqb b 127)) (eqb b 9) (and_from (leb 32 b) (not (eqb b 127)) (le-leb 32 b (omega (arith, s.low))) (not_from_false (eqb b 127) (ne_eqb b 127 (λ e. absurd (omega (arith, s.high, e))))))

-- such bytes begin with no blank
no_blank : (bs : List ℕ) → list_all is_solid bs ≡ true → begins_with_blank bs ≡ false
no_blank [] h = refl
no_blank (b ∷ bs) h =
    let s : Solid b = solid_parts b (and_parts (is_solid b) (list_all is_solid bs) h).0 in
    or_from (eqb b 32) (eqb b 9) (ne_eqb b 32 (λ e. absurd (omega (arith, s.low, e)))) (ne_eqb b 9 (λ e. absurd (omega (arith, s.low, e))))

-- such bytes are a value
value_of_solid : (bs : List ℕ) → list_all is_solid bs ≡ true → is_value bs ≡ true
value_of_solid bs h = and_from (not (begins_with_blank bs)) (is_plain bs) (not_from_false (begins_with_blank bs) (no_blank bs h)) (all_weaker is_solid is_plain_byte plain_of_solid bs h)

-- a byte of a range within these is such
in_range : (low high b : ℕ) → (leb low b && leb b high) ≡ true → 33 ≤ low → high ≤ 126 → is_solid b ≡ true
in_range low high b h l u =
    let p = and_parts (leb low b) (leb b high) h in
    solid b (omega (arith, leb-true low b p.0)) (omega (arith, leb-true b high p.1))

-- so is a byte of a name
name_solid : (b : ℕ) → is_name_byte b ≡ true → is_solid b ≡ true
name_solid b h =
    elim (or_cases (is_ascii_alphanumeric b || eqb b 46 || eqb b 95) (eqb b 45) h) [
      | inl p ↦ elim (or_cases (is_ascii_alphanumeric b || eqb b 46) (eqb b 95) p) [
        | inl q ↦ elim (or_cases (is_ascii_alphanumeric b) (eqb b 46) q) [
          | inl r ↦ elim (or_cases ((leb 48 b && leb b 57) || (leb 65 b && leb b 90)) (leb 97 b && leb b 122) r) [
            | inl s ↦ elim (or_cases (leb 48 b && leb b 57) (leb 65 b && leb b 90) s) [
              | inl t ↦ in_range 48 57 b t (omega arith) (omega arith)
              | inr t ↦ in_range 65 90 b t (omega arith) (omega arith)
            ]
            | inr s ↦ in_range 97 122 b s (omega arith) (omega arith)
          ]
          | inr r ↦ let e = eqb-true b 46 r in solid b (omega (arith, e)) (omega (arith, e))
        ]
        | inr q ↦ let e = eqb-true b 95 q in solid b (omega (arith, e)) (omega (arith, e))
      ]
      | inr p ↦ let e = eqb-true b 45 p in solid b (omega (arith, e)) (omega (arith, e))
    ]

-- and a key
key_solid : (b : ℕ) → is_key b ≡ true → is_solid b ≡ true
key_solid b h =
    elim (or_cases (is_ascii_digit b || eqb b 42) (eqb b 35) h) [
      | inl p ↦ elim (or_cases (is_ascii_digit b) (eqb b 42) p) [
        | inl q ↦ in_range 48 57 b q (omega arith) (omega arith)
        | inr q ↦ let e = eqb-true b 42 q in solid b (omega (arith, e)) (omega (arith, e))
      ]
      | inr p ↦ let e = eqb-true b 35 p in solid b (omega (arith, e)) (omega (arith, e))
    ]

-- a name is a value
pub value_of_name : (bs : List ℕ) → is_name bs ≡ true → is_value bs ≡ true
value_of_name bs h = value_of_solid bs (all_weaker is_name_byte is_solid name_solid bs (and_parts (leb 1 (length bs) && leb (length bs) 32) (list_all is_name_byte bs) h).1)

-- keys are such bytes
solid_keys : (bs : List ℕ) → are_keys bs ≡ true → list_all is_solid bs ≡ true
solid_keys bs h = all_weaker is_key is_solid key_solid bs (and_parts (leb 1 (length bs) && leb (length bs) 32) (list_all is_key bs) h).1

-- so are keys behind a plus
solid_first : (b : ℕ) (bs : List ℕ) (t : Bool) → eqb b 43 ≡ t → are_keys (cond t bs (b ∷ bs)) ≡ true → list_all is_solid (b ∷ bs) ≡ true
solid_first b bs true e h = and_from (is_solid b) (list_all is_solid bs) (solid b (omega (arith, eqb-true b 43 e)) (omega (arith, eqb-true b 43 e))) (solid_keys bs h)
solid_first b bs false e h = solid_keys (b ∷ bs) h

-- a canonical number is a value
pub value_of_canonical : (bs : List ℕ) → is_canonical bs ≡ true → is_value bs ≡ true
value_of_canonical [] h = refl
value_of_canonical (b ∷ bs) h = value_of_solid (b ∷ bs) (solid_first b bs (eqb b 43) refl h)

-- so is a job tag
pub value_of_job_tag : (bs : List ℕ) → is_job_tag bs ≡ true → is_value bs ≡ true
value_of_job_tag bs h = (and_parts (leb (length bs) 200) (is_value bs) h).1

-- digits are such bytes
digits_solid : (bs : List ℕ) → AllDigits 10 bs → list_all is_solid bs ≡ true
digits_solid [] h = refl
digits_solid (b ∷ bs) h =
    let range = digit_from_value b h.0 in
    and_from (is_solid b) (list_all is_solid bs) (solid b (omega (arith, range.0)) (omega (arith, range.1))) (digits_solid bs h.1)

-- so is a number
pub value_of_number : (n : ℕ) → n < 2 ^ 64 → is_value (decimal n) ≡ true
value_of_number n small = value_of_solid (decimal n) (digits_solid (decimal n) (decimal_is_IsNumeral n small).0.1)
