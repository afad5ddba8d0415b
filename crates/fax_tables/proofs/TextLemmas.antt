-- Texts that are read back as they were written.
use Rattle.std.proofs.Common.{◌≡◌, ℕ, Bool, true, false, not, ◌&&◌, leb, List, [], ◌∷◌, length, filter, Result, Ok, Err, IsTrue, if◌then◌else◌, refl, ap, arith, inl, inr, zero, suc, ◌<◌}
use Rattle.std.specs.Prelude.{⊤}
use Rattle.std.specs.Bool.{MatchBool}
use Rattle.std.proofs.lemmas.Bool.{and_parts, cases_Bool}
use Rattle.std.proofs.lemmas.Bool.Decides.{nat_tests}
use Rattle.std.specs.List.{list_all}
use Rattle.std.specs.Prelude.{◌==◌}
use Rattle.fax_value.specs.Dial.{is_key, is_separator, are_keys, is_canonical, IsCanonical, without_separators, dial_of}
use Rattle.fax_value.specs.Name.{IsName, is_name_byte}
use Rattle.fax_job.specs.Pair.{Pair}
use Rattle.fax_tables.specs.Job.{IsText}
use Rattle.std.specs.Str.{IsAscii}
use Rattle.std.proofs.lemmas.Str.{IsUtf8-from_ascii}
use Rattle.fax_lines.specs.Reading.{is_no_memory}
use Rattle.fax_job.specs.declared.lines.LineFault.{LineFault}
pub use Rattle.fax_lines.proofs.PrintedLemmas.{printed_spells as lines_kept}

-- a key is no separator
key_stays : (b : ℕ) → is_key b ≡ true → not (is_separator b) ≡ true
key_stays b h = grind (arith, nat_tests)

-- a plus is no separator
plus_stays : (b : ℕ) → (b == 43) ≡ true → not (is_separator b) ≡ true
plus_stays b h = grind (arith, nat_tests)

-- keys stay where separators are left out
keys_stay : (bs : List ℕ) → list_all is_key bs ≡ true → filter (λ b. not (is_separator b)) bs ≡ bs
keys_stay [] h = refl
keys_stay (b ∷ bs) h =
    let both = and_parts (is_key b) (list_all is_key bs) h in
    rw (key_stays b both.0) (ap (λ rest. b ∷ rest) (keys_stay bs both.1))

-- bytes that are keys are each one
all_keys : (bs : List ℕ) → are_keys bs ≡ true → list_all is_key bs ≡ true
all_keys bs h = (and_parts (leb 1 (length bs) && leb (length bs) 32) (list_all is_key bs) h).1

-- a canonical number stays where separators are left out
canonical_stays : (bs : List ℕ) → is_canonical bs ≡ true → without_separators bs ≡ bs
canonical_stays [] h = refl
canonical_stays (b ∷ bs) h = elim (cases_Bool (b == 43)) [
  | inl plus ↦ rw (plus_stays b plus) (ap (λ rest. b ∷ rest) (keys_stay bs (all_keys bs (rw plus at h))))
  | inr off ↦ keys_stay (b ∷ bs) (all_keys (b ∷ bs) (rw off at h))
]

-- a canonical number is what it spells
pub dial_kept : (text : List ℕ) → IsCanonical text → dial_of text ≡ Ok text
dial_kept text h = rw (canonical_stays text h, h) refl

-- what is given of a text where it passes a test is the text
pub given_same : {E : Type 0} (passes : Bool) (text found : List ℕ) (fault : E) → ◌≡◌ {A = Result (List ℕ) E} (if passes then Ok text else Err fault) (Ok found) → found ≡ text
given_same true text found fault h = cc
given_same false text found fault h = absurd (let no = h in cc)

-- a name is ASCII
name_byte_small : (b : ℕ) → is_name_byte b ≡ true → b < 128
name_byte_small b h = grind (arith, nat_tests)

-- bytes of names are ASCII
name_bytes_small : (bs : List ℕ) → list_all is_name_byte bs ≡ true → IsAscii bs
name_bytes_small [] h i = omega arith
name_bytes_small (b ∷ bs) h zero = name_byte_small b (and_parts (is_name_byte b) (list_all is_name_byte bs) h).0
name_bytes_small (b ∷ bs) h (suc i) = name_bytes_small bs (and_parts (is_name_byte b) (list_all is_name_byte bs) h).1 i

-- a name is UTF-8 text
pub name_text : (text : List ℕ) → IsName text → IsText IsName text
name_text text h = record {
  formed = h;
  utf8 = IsUtf8-from_ascii text (name_bytes_small text (and_parts (leb 1 (length text) && leb (length text) 32) (list_all is_name_byte text) h).1);
}

-- a fault where there is a list is want of memory
pub wants_memory : (lines : List Pair) (fault : LineFault) → MatchBool (is_no_memory fault) ⊤ (◌≡◌ {A = Result (List Pair) LineFault} (Ok lines) (Err fault)) → IsTrue (is_no_memory fault)
wants_memory lines fault h =
    (elim (is_no_memory fault) as (λ b. MatchBool b ⊤ (◌≡◌ {A = Result (List Pair) LineFault} (Ok lines) (Err fault)) → IsTrue b) [ true ↦ λ _. refl | false ↦ λ no. absurd cc ]) h
