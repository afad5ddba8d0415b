-- Texts without the blanks at their ends.
use Rattle.std.proofs.Common.{◌≡◌, ◌≢◌, ℕ, true, eqb, List, [], ◌∷◌, ◌++◌, reverse, refl, sym, ap, ◌∙◌}
use Rattle.std.specs.Prelude.{Option, Some, None}
use Rattle.std.specs.Option.{MatchOption, IfSome, IfNone}
use Rattle.std.proofs.lemmas.Bool.{ne_eqb, or_from}
use Rattle.std.proofs.lemmas.List.{reverse-append, reverse-reverse}
use denote.Ref.{Bor}
use Rattle.fax_value.specs.Blank.{is_blank, without_blanks, before_blanks}

-- a text that begins with no blank stays without the blanks in front
pub without_blanks_none : (x : List ℕ) → ((rest : List ℕ) → x ≢ 32 ∷ rest) → ((rest : List ℕ) → x ≢ 9 ∷ rest) → without_blanks x ≡ x
without_blanks_none [] space tab = refl
without_blanks_none (b ∷ x) space tab =
    rw (or_from (eqb b 32) (eqb b 9) (ne_eqb b 32 (λ e. space x (ap (λ (n : ℕ). n ∷ x) e))) (ne_eqb b 9 (λ e. tab x (ap (λ (n : ℕ). n ∷ x) e)))) refl

-- what `strip_prefix` gives at a tab
pub without_blanks_is : (bs : List ℕ) (r : Option (Bor (List ℕ))) (Q : Bor (List ℕ) → Type 0) → ((rest : List ℕ) → bs ≢ 32 ∷ rest) → MatchOption r ((rest : List ℕ) → bs ≢ 9 ∷ rest) Q → IfNone r (without_blanks bs ≡ bs)
without_blanks_is bs None Q space tab = without_blanks_none bs space tab
without_blanks_is bs (Some x) Q space h = tt

-- ---- at the end

-- the last byte comes first in the reverse
last_first : (c : ℕ) (front : List ℕ) → reverse (front ++ c ∷ []) ≡ c ∷ reverse front
last_first c front = reverse-append front (c ∷ [])

-- a blank at the end is taken off
pub before_blanks-blank : (c : ℕ) (bs front : List ℕ) → is_blank c ≡ true → bs ≡ front ++ c ∷ [] → before_blanks bs ≡ before_blanks front
unfolding before_blanks
before_blanks-blank c bs front blank e =
    ap (λ t. reverse (without_blanks (reverse t))) e
    ∙ ap (λ t. reverse (without_blanks t)) (last_first c front)
    ∙ rw blank refl

-- the first byte of a text's reverse is the last of the text
turned : (c : ℕ) (bs rest : List ℕ) → reverse bs ≡ c ∷ rest → bs ≡ reverse rest ++ c ∷ []
turned c bs rest e = sym (reverse-reverse bs) ∙ ap (λ t. reverse t) e ∙ reverse-append (c ∷ []) rest

-- a text that ends with no blank stays without the blanks behind
pub before_blanks-none : (bs : List ℕ) → ((front : List ℕ) → bs ≢ front ++ 32 ∷ []) → ((front : List ℕ) → bs ≢ front ++ 9 ∷ []) → before_blanks bs ≡ bs
unfolding before_blanks
before_blanks-none bs space tab =
    ap reverse (without_blanks_none (reverse bs) (λ rest e. space (reverse rest) (turned 32 bs rest e)) (λ rest e. tab (reverse rest) (turned 9 bs rest e))) ∙ reverse-reverse bs

-- what `strip_suffix` gives at a tab
pub before_blanks_is : (bs : List ℕ) (r : Option (Bor (List ℕ))) → MatchOption r ((front : List ℕ) → bs ≢ front ++ (9 ∷ [])) (λ x. bs ≡ x.now ++ (9 ∷ [])) → IfSome r (λ front. before_blanks bs ≡ before_blanks front.now)
before_blanks_is bs None h = tt
before_blanks_is bs (Some x) h = before_blanks-blank 9 bs x.now refl h

-- a text with no space at its end, and no tab that `strip_suffix` finds there, stays
pub before_blanks_unless : (bs : List ℕ) (r : Option (Bor (List ℕ))) → ((front : List ℕ) → bs ≢ front ++ (32 ∷ [])) → MatchOption r ((front : List ℕ) → bs ≢ front ++ (9 ∷ [])) (λ x. bs ≡ x.now ++ (9 ∷ [])) → IfNone r (before_blanks bs ≡ bs)
before_blanks_unless bs None space h = before_blanks-none bs space h
before_blanks_unless bs (Some x) space h = tt
