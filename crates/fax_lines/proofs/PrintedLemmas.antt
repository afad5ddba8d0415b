-- What is printed spells the list.
use Rattle.std.proofs.Common.{◌≡◌, ℕ, zero, suc, ◌<◌, ◌≤◌, Bool, true, false, cond, not, ◌&&◌, eqb, leb, List, [], ◌∷◌, ◌++◌, length, get_or, refl, sym, ap, subst, ◌∙◌, inl, inr, arith}
use Rattle.std.specs.Prelude.{codes}
use Rattle.std.specs.List.{AllByRecursion, list_all}
use Rattle.std.specs.Str.{IsUtf8, IsAscii, bytes_eq}
use Rattle.std.proofs.lemmas.Bool.{and_parts, cases_lt, ne_eqb, leb-true}
use Rattle.std.proofs.lemmas.List.{append-nil}
use Rattle.std.proofs.lemmas.List.Concat.{flat_map-cons, flat_map-append}
use Rattle.std.proofs.lemmas.Str.{IsUtf8-append, IsUtf8-nil, IsUtf8-encode, IsUtf8-from_ascii, encode_ascii, inside_one}
use lib.Utf8.{scalar, scalars, encode, encodes}
use Rattle.fax_job.specs.Pair.{Pair, is_pair, IsPair, begins_with_hash, ArePairs}
use Rattle.fax_lines.specs.Reading.{lines}
use Rattle.fax_job.specs.Spelling.{escaped_byte, escaped, printed_pair, printed}
use Rattle.fax_lines.specs.Spells.{Entry, Stated, entry_text, IsFormed, stated, texts, pairs, Spells}
use Rattle.fax_job.specs.Tag.{is_tag_byte, is_tag}
use Rattle.fax_value.specs.Value.{is_value, is_status}

-- ---- UTF-8

-- one byte of ASCII is ASCII
one : (b : ℕ) → b < 128 → IsAscii (b ∷ [])
one b small zero = small
one b small (suc i) = omega arith

-- so are two
two : (a b : ℕ) → a < 128 → b < 128 → IsAscii (a ∷ b ∷ [])
two a b p q zero = p
two a b p q (suc zero) = q
two a b p q (suc (suc i)) = omega arith

-- a byte of ASCII, escaped or not, is UTF-8
escaped_ascii : (b : ℕ) (t : Bool) → b < 128 → IsUtf8 (cond t (92 ∷ 10 ∷ []) (b ∷ []))
escaped_ascii b true small = IsUtf8-from_ascii (92 ∷ 10 ∷ []) (two 92 10 (omega arith) (omega arith))
escaped_ascii b false small = IsUtf8-from_ascii (b ∷ []) (one b small)

-- bytes above ASCII aren't escaped
escaped_high : (xs : List ℕ) → ((k : ℕ) → k < length xs → 128 ≤ get_or xs k 0) → escaped xs ≡ xs
escaped_high [] h = refl
escaped_high (x ∷ xs) h =
    let high : 128 ≤ x = h 0 (omega arith) in
    let other : eqb x 10 ≡ false = ne_eqb x 10 (λ e. absurd (omega (arith, high, e))) in
    flat_map-cons escaped_byte x xs ∙ rw (other, escaped_high xs (λ k below. h (suc k) (omega arith))) refl

-- a character, escaped, is UTF-8
escaped_char : (c : ℕ) → scalar c ≡ true → IsUtf8 (escaped (encode c))
escaped_char c ok = elim (cases_lt c 128) [
  | inl small ↦ rw (encode_ascii c small, flat_map-cons escaped_byte c [], append-nil) (escaped_ascii c (eqb c 10) small)
  | inr big ↦
      let high : (k : ℕ) → k < length (encode c) → 128 ≤ get_or (encode c) k 0 = λ k below. elim (cases_lt (get_or (encode c) k 0) 128) [
        | inl low ↦ absurd (omega (arith, inside_one c [] (encode c) k (sym (append-nil (encode c))) below low))
        | inr h ↦ h
      ] in
      subst IsUtf8 (sym (escaped_high (encode c) high)) (IsUtf8-encode c ok)
]

-- so are characters
escaped_chars : (cs : List ℕ) → scalars cs ≡ true → IsUtf8 (escaped (encodes cs))
escaped_chars [] e = IsUtf8-nil
escaped_chars (c ∷ cs) e =
    let parts = and_parts (scalar c) (scalars cs) e in
    subst IsUtf8 (sym (flat_map-append escaped_byte (encode c) (encodes cs))) (IsUtf8-append (escaped (encode c)) (escaped (encodes cs)) (escaped_char c parts.0) (escaped_chars cs parts.1))

-- so is a value
IsUtf8-escaped : (v : List ℕ) → IsUtf8 v → IsUtf8 (escaped v)
IsUtf8-escaped v u = subst (λ (x : List ℕ). IsUtf8 (escaped x)) u.1.1 (escaped_chars u.0 u.1.0)

-- a tag is ASCII
tag_ascii : (bs : List ℕ) → list_all is_tag_byte bs ≡ true → IsAscii bs
tag_ascii [] h i = omega arith
tag_ascii (b ∷ bs) h zero = omega (arith, leb-true b 126 (and_parts (leb 33 b) (leb b 126) (and_parts (leb 33 b && leb b 126) (not (eqb b 58)) (and_parts (is_tag_byte b) (list_all is_tag_byte bs) h).0).0).1)
tag_ascii (b ∷ bs) h (suc i) = tag_ascii bs (and_parts (is_tag_byte b) (list_all is_tag_byte bs) h).1 i

-- a pair has a tag
tag_of : (p : Pair) → is_pair p ≡ true → is_tag p.tag ≡ true
tag_of p h = (and_parts (is_tag p.tag) (not (begins_with_hash p.tag)) (and_parts (is_tag p.tag && not (begins_with_hash p.tag)) (cond (bytes_eq p.tag (codes "status")) (is_status p.value) (is_value p.value)) h).0).0

-- a pair is printed as UTF-8
IsUtf8-printed_pair : (p : Pair) → IsPair p → IsUtf8 (printed_pair p)
IsUtf8-printed_pair p h =
    let bytes = (and_parts (leb 1 (length p.tag) && leb (length p.tag) 64) (list_all is_tag_byte p.tag) (tag_of p h.formed)).1 in
    let tag = IsUtf8-from_ascii p.tag (tag_ascii p.tag bytes) in
    let colon = IsUtf8-from_ascii (58 ∷ []) (one 58 (omega arith)) in
    let feed = IsUtf8-from_ascii (10 ∷ []) (one 10 (omega arith)) in
    IsUtf8-append (p.tag ++ (58 ∷ []) ++ escaped p.value) (10 ∷ []) (IsUtf8-append (p.tag ++ (58 ∷ [])) (escaped p.value) (IsUtf8-append p.tag (58 ∷ []) tag colon) (IsUtf8-escaped p.value h.utf8)) feed

-- so are pairs
IsUtf8-printed : (ps : List Pair) → AllByRecursion IsPair ps → IsUtf8 (printed ps)
IsUtf8-printed [] h = IsUtf8-nil
IsUtf8-printed (p ∷ ps) h = subst IsUtf8 (sym (flat_map-cons printed_pair p ps)) (IsUtf8-append (printed_pair p) (printed ps) (IsUtf8-printed_pair p h.0) (IsUtf8-printed ps h.1))

-- ---- entries

-- pairs as entries without blanks
plainly : List Pair → List Entry
plainly [] = []
plainly (p ∷ ps) = Stated [] p ∷ plainly ps

-- their texts are what is printed
texts_are : (ps : List Pair) → texts (plainly ps) ≡ printed ps
unfolding plainly
texts_are [] = refl
texts_are (p ∷ ps) = flat_map-cons entry_text (Stated [] p) (plainly ps) ∙ ap (λ (x : List ℕ). printed_pair p ++ x) (texts_are ps) ∙ sym (flat_map-cons printed_pair p ps)

-- their pairs are these
pairs_are : (ps : List Pair) → pairs (plainly ps) ≡ ps
unfolding plainly
pairs_are [] = refl
pairs_are (p ∷ ps) = flat_map-cons stated (Stated [] p) (plainly ps) ∙ ap (λ (qs : List Pair). p ∷ qs) (pairs_are ps)

-- they are formed
formed_are : (ps : List Pair) → AllByRecursion IsPair ps → AllByRecursion IsFormed (plainly ps)
unfolding plainly
formed_are [] h = tt
formed_are (p ∷ ps) h = ((refl, h.0.formed), formed_are ps h.1)

-- what is printed of a list spells it
pub printed_spells : (ps : List Pair) → ArePairs ps → Spells (printed ps) ps
printed_spells ps h = record {
  entries = plainly ps;
  formed = formed_are ps h.each;
  made = ap lines (sym (texts_are ps));
  stated = sym (pairs_are ps);
  once = h.once;
  utf8 = IsUtf8-printed ps h.each;
}
