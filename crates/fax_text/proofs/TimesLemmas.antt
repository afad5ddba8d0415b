-- A number has no byte that is escaped.
use Rattle.std.proofs.Common.{◌≡◌, ℕ, ◌<◌, ◌^◌, true, false, eqb, List, [], ◌∷◌, ◌++◌, refl, sym, ap, ◌∙◌, append_assoc, true≢false}
use Rattle.std.specs.Fmt.{decimal}
use Rattle.std.specs.List.{list_all}
use Rattle.std.proofs.lemmas.Bool.{and_parts, ne_eqb}
use Rattle.std.proofs.lemmas.List.Concat.{flat_map-cons}
use Rattle.fax_value.specs.Value.{is_plain_byte}
use Rattle.fax_value.proofs.ValueLemmas.{value_of_number}
use Rattle.fax_job.specs.Pair.{pair}
use Rattle.fax_job.specs.Spelling.{escaped, escaped_byte, printed_pair}

-- a byte of a value on one line is no LF
plain_is_no_lf : (byte : ℕ) → is_plain_byte byte ≡ true → eqb byte 10 ≡ false
plain_is_no_lf byte h = ne_eqb byte 10 (λ e. absurd (true≢false (sym h ∙ ap is_plain_byte e)))

-- so such bytes aren't escaped
plain_escaped : (text : List ℕ) → list_all is_plain_byte text ≡ true → escaped text ≡ text
plain_escaped [] h = refl
plain_escaped (byte ∷ text) h =
    let both = and_parts (is_plain_byte byte) (list_all is_plain_byte text) h in
    let other = plain_is_no_lf byte both.0 in
    flat_map-cons escaped_byte byte text ∙ rw (other, plain_escaped text both.1) refl

-- nor are digits
decimal_escaped : (n : ℕ) → n < 2 ^ 64 → escaped (decimal n) ≡ decimal n
decimal_escaped n small = plain_escaped (decimal n) (and_parts _ (list_all is_plain_byte (decimal n)) (value_of_number n small)).1

-- the key line of a number, written part by part
pub line_written : (start tag : List ℕ) (n : ℕ) {tagged colon number line : List ℕ} → n < 2 ^ 64
    → tagged ≡ start ++ tag → colon ≡ tagged ++ 58 ∷ [] → number ≡ colon ++ decimal n → line ≡ number ++ 10 ∷ []
    → line ≡ start ++ printed_pair (pair tag (decimal n))
line_written start tag n small a b c d =
    d ∙ rw (c, b, a, decimal_escaped n small) (simp append_assoc)
