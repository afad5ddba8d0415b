-- Keys are ASCII; and what a text spells that has separators.
use Rattle.std.proofs.Common.{◌≡◌, ◌≢◌, ℕ, zero, suc, ◌+◌, ◌<◌, Bool, true, false, cond, not, ◌&&◌, ◌||◌, eqb, leb, List, [], ◌∷◌, length, get_or, drop, add-one, refl, subst, arith, inl, inr}
use Rattle.std.proofs.lemmas.Bool.{and_parts, or_cases, leb-true, eqb-true, ne_eqb}
use Rattle.std.proofs.lemmas.Option.{same_Some}
use Rattle.std.proofs.lemmas.Str.{IsUtf8-from_ascii}
use Rattle.std.specs.Char.{is_ascii_digit}
use Rattle.std.specs.List.{list_all, position_from}
use Rattle.std.specs.Prelude.{Option, Some, None}
use Rattle.std.specs.Str.{IsAscii, IsUtf8}
use Rattle.fax_value.specs.Dial.{is_separator, is_key, are_keys, is_canonical, without_separators}

-- a key is ASCII
key_small : (b : ℕ) → is_key b ≡ true → b < 128
key_small b h =
    elim (or_cases (is_ascii_digit b || eqb b 42) (eqb b 35) h) [
      | inl p ↦ elim (or_cases (is_ascii_digit b) (eqb b 42) p) [
        | inl q ↦ let r = and_parts (leb 48 b) (leb b 57) q in omega (arith, leb-true b 57 r.1)
        | inr q ↦ omega (arith, eqb-true b 42 q)
      ]
      | inr p ↦ omega (arith, eqb-true b 35 p)
    ]

-- so are keys
keys_ascii : (bs : List ℕ) → list_all is_key bs ≡ true → IsAscii bs
keys_ascii [] h i = omega arith
keys_ascii (b ∷ bs) h zero = key_small b (and_parts (is_key b) (list_all is_key bs) h).0
keys_ascii (b ∷ bs) h (suc i) = keys_ascii bs (and_parts (is_key b) (list_all is_key bs) h).1 i

-- the same of keys that may not be none
are_keys_ascii : (bs : List ℕ) → are_keys bs ≡ true → IsAscii bs
are_keys_ascii bs h = keys_ascii bs (and_parts (leb 1 (length bs) && leb (length bs) 32) (list_all is_key bs) h).1

-- and of these behind a plus
first : (b : ℕ) (bs : List ℕ) (t : Bool) → eqb b 43 ≡ t → are_keys (cond t bs (b ∷ bs)) ≡ true → IsAscii (b ∷ bs)
first b bs true e h zero = omega (arith, eqb-true b 43 e)
first b bs true e h (suc i) = are_keys_ascii bs h i
first b bs false e h i = are_keys_ascii (b ∷ bs) h i

-- so a canonical number is ASCII
canonical_ascii : (bs : List ℕ) → is_canonical bs ≡ true → IsAscii bs
canonical_ascii [] h i = omega arith
canonical_ascii (b ∷ bs) h i = first b bs (eqb b 43) refl h i

-- and UTF-8
pub canonical_utf8 : (bs : List ℕ) → is_canonical bs ≡ true → IsUtf8 bs
canonical_utf8 bs h = IsUtf8-from_ascii bs (canonical_ascii bs h)

-- ---- with separators

-- with a byte more in front, bytes are separators and keys just where those kept are keys
all_kept : (b : ℕ) (bytes : List ℕ) (separator : Bool) → is_separator b ≡ separator → list_all (λ byte. is_separator byte || is_key byte) bytes ≡ list_all is_key (without_separators bytes)
    → list_all (λ byte. is_separator byte || is_key byte) (b ∷ bytes) ≡ list_all is_key (without_separators (b ∷ bytes))
all_kept b bytes true s e = rw s e
all_kept b bytes false s e = rw (s, e) refl

-- bytes are separators and keys just where those kept are keys
pub keys_kept : (bytes : List ℕ) → list_all (λ byte. is_separator byte || is_key byte) bytes ≡ list_all is_key (without_separators bytes)
keys_kept [] = refl
keys_kept (b ∷ bytes) = all_kept b bytes (is_separator b) refl (keys_kept bytes)

-- the place of the first byte that is kept, where the first byte of all has this place
abbrev first_from : ℕ → List ℕ → Option ℕ
first_from place bytes = position_from (λ byte. not (is_separator byte)) place bytes

-- the place is so far behind the first, and what is kept begins there
record IsFirstKept (bytes : List ℕ) (from place : ℕ) : Type 0 where
  behind : ℕ
  far : place ≡ from + behind
  kept : without_separators bytes ≡ get_or bytes behind 0 ∷ without_separators (drop (suc behind) bytes)

-- the place of the first byte kept, with one byte more in front
kept_next : (b : ℕ) (bytes : List ℕ) (from place : ℕ) (separator : Bool) → is_separator b ≡ separator → first_from from (b ∷ bytes) ≡ Some place
    → (first_from (from + 1) bytes ≡ Some place → IsFirstKept bytes (from + 1) place) → IsFirstKept (b ∷ bytes) from place
kept_next b bytes from place true s e next =
    let f : IsFirstKept bytes (from + 1) place = next (rw s at e) in
    record { behind = suc f.behind; far = omega (arith, f.far); kept = rw s f.kept }
kept_next b bytes from place false s e next =
    let here : Some from ≡ Some place = rw s at e in
    record { behind = 0; far = omega (arith, same_Some _ _ here); kept = rw s refl }

-- the first byte that is kept stands in this place
first_kept : (bytes : List ℕ) (from place : ℕ) → first_from from bytes ≡ Some place → IsFirstKept bytes from place
first_kept [] from place e = cc
first_kept (b ∷ bytes) from place e = kept_next b bytes from place (is_separator b) refl e (first_kept bytes (from + 1) place)

-- where no byte is kept, with one more in front, none is kept of those behind
none_next : (b : ℕ) (bytes : List ℕ) (from : ℕ) (separator : Bool) → is_separator b ≡ separator → first_from from (b ∷ bytes) ≡ None
    → (first_from (from + 1) bytes ≡ None → without_separators bytes ≡ []) → without_separators (b ∷ bytes) ≡ []
none_next b bytes from true s e next = rw s (next (rw s at e))
none_next b bytes from false s e next = let here : Some from ≡ None = rw s at e in cc

-- where there is no place, nothing is kept
none_kept : (bytes : List ℕ) (from : ℕ) → first_from from bytes ≡ None → without_separators bytes ≡ []
none_kept [] from e = refl
none_kept (b ∷ bytes) from e = none_next b bytes from (is_separator b) refl e (none_kept bytes (from + 1))

-- what is kept begins with the byte in the place
kept_from : (bytes : List ℕ) (place : ℕ) → first_from 0 bytes ≡ Some place → without_separators bytes ≡ get_or bytes place 0 ∷ without_separators (drop (place + 1) bytes)
kept_from bytes place e =
    let f : IsFirstKept bytes 0 place = first_kept bytes 0 place e in
    let here : f.behind ≡ place = omega (arith, f.far) in
    subst (λ n. without_separators bytes ≡ get_or bytes n 0 ∷ without_separators (drop (n + 1) bytes)) here (rw add-one f.kept)

-- behind a plus, keys are what makes a canonical number
behind_plus : (b : ℕ) (kept rest : List ℕ) → kept ≡ b ∷ rest → b ≡ 43 → are_keys rest ≡ is_canonical kept
behind_plus b kept rest e plus = rw (e, plus) refl

-- without a plus, they are too
with_no_plus : (b : ℕ) (kept rest : List ℕ) → kept ≡ b ∷ rest → b ≢ 43 → are_keys kept ≡ is_canonical kept
with_no_plus b kept rest e other = rw (e, ne_eqb b 43 other) refl

-- where the first byte that is kept is `+`, the keys stand behind it
pub keys_behind_plus : (bytes : List ℕ) (place : ℕ) → first_from 0 bytes ≡ Some place → get_or bytes place 0 ≡ 43 → are_keys (without_separators (drop (place + 1) bytes)) ≡ is_canonical (without_separators bytes)
keys_behind_plus bytes place e plus = behind_plus (get_or bytes place 0) (without_separators bytes) (without_separators (drop (place + 1) bytes)) (kept_from bytes place e) plus

-- where it isn't, the keys are all that is kept
pub keys_without_plus : (bytes : List ℕ) (place : ℕ) → first_from 0 bytes ≡ Some place → get_or bytes place 0 ≢ 43 → are_keys (without_separators bytes) ≡ is_canonical (without_separators bytes)
keys_without_plus bytes place e other = with_no_plus (get_or bytes place 0) (without_separators bytes) (without_separators (drop (place + 1) bytes)) (kept_from bytes place e) other

-- where nothing is kept, there are neither keys nor a number
pub no_keys : (bytes : List ℕ) → first_from 0 bytes ≡ None → are_keys (without_separators bytes) ≡ is_canonical (without_separators bytes)
no_keys bytes e = rw (none_kept bytes 0 e) refl
