-- Cutting texts at a byte, at a blank, and before the blanks at their end.
use Rattle.std.proofs.Common.{◌≡◌, ◌≢◌, ℕ, ◌<◌, ◌≤◌, true, false, eqb, List, [], ◌∷◌, ◌++◌, length, get_or, refl, sym, ap, ◌∙◌, arith, lit<, length-append}
use Rattle.std.specs.Prelude.{Option, Some, None}
use Rattle.std.specs.Option.{MatchOption, option_map}
use Rattle.std.proofs.lemmas.Bool.{ne_eqb, eq-eqb, or_from}
use Rattle.std.proofs.lemmas.Str.Pattern.{IsSplitOnceResult, split_parts}
use Rattle.std.proofs.Math.ListN.{get_or-append}
use denote.Ref.{Bor}
use Rattle.fax_value.specs.Blank.{is_blank, before_blanks}
use Rattle.fax_lines.proofs.LineLemmas.{Lacks, Lacks-tail}
use Rattle.fax_dest.specs.Line.{at_byte, at_blank, value_from}

-- bytes that lack one don't begin with it
lacks_first : (c b : ℕ) (bs : List ℕ) → Lacks c (b ∷ bs) → eqb b c ≡ false
lacks_first c b bs h = ne_eqb b c (h 0 (omega arith))

-- a text is cut at the first such byte
at_byte_some : (c : ℕ) (x y : List ℕ) → Lacks c x → at_byte c (x ++ c ∷ y) ≡ Some (x, y)
at_byte_some c [] y h = rw (eq-eqb c c refl) refl
at_byte_some c (b ∷ x) y h = rw (lacks_first c b x h) (ap (option_map (λ (parts : List ℕ × List ℕ). (b ∷ parts.0, parts.1))) (at_byte_some c x y (Lacks-tail c b x h)))

-- and one without it isn't
at_byte_none : (c : ℕ) (x : List ℕ) → Lacks c x → at_byte c x ≡ None
at_byte_none c [] h = refl
at_byte_none c (b ∷ x) h = rw (lacks_first c b x h) (ap (option_map (λ (parts : List ℕ × List ℕ). (b ∷ parts.0, parts.1))) (at_byte_none c x (Lacks-tail c b x h)))

-- what is found at a byte is where the text is cut
at_byte_by : (c : ℕ) (bs : List ℕ) (r : Option (Bor (List ℕ) × Bor (List ℕ))) → MatchOption r (Lacks c bs) (λ x. (bs ≡ x.0.now ++ (c ∷ x.1.now)) × Lacks c x.0.now) → option_map (λ parts. (parts.0.now, parts.1.now)) r ≡ at_byte c bs
at_byte_by c bs None h = sym (at_byte_none c bs h)
at_byte_by c bs (Some x) h = sym (ap (at_byte c) h.0 ∙ at_byte_some c x.0.now x.1.now h.1)

-- what `split_once` gives at a byte
pub at_byte_is : (c : ℕ) (bs : List ℕ) (r : Option (Bor (List ℕ) × Bor (List ℕ))) → c < 128 → IsSplitOnceResult c bs r → option_map (λ parts. (parts.0.now, parts.1.now)) r ≡ at_byte c bs
at_byte_is c bs r ascii h = at_byte_by c bs r (split_parts c bs r h ascii)

-- ---- at a blank

-- what lacks a space and a tab doesn't begin with a blank
lacks_blank : (b : ℕ) (x : List ℕ) → Lacks 32 (b ∷ x) → Lacks 9 (b ∷ x) → is_blank b ≡ false
lacks_blank b x space tab = or_from (eqb b 32) (eqb b 9) (lacks_first 32 b x space) (lacks_first 9 b x tab)

-- a text is cut at the first blank
at_blank_some : (c : ℕ) (x y : List ℕ) → is_blank c ≡ true → Lacks 32 x → Lacks 9 x → at_blank (x ++ c ∷ y) ≡ (x, y)
at_blank_some c [] y blank space tab = rw blank refl
at_blank_some c (b ∷ x) y blank space tab =
    rw (lacks_blank b x space tab) (ap (λ (parts : List ℕ × List ℕ). (b ∷ parts.0, parts.1)) (at_blank_some c x y blank (Lacks-tail 32 b x space) (Lacks-tail 9 b x tab)))

-- one without a blank is whole, with nothing behind
at_blank_none : (x : List ℕ) → Lacks 32 x → Lacks 9 x → at_blank x ≡ (x, [])
at_blank_none [] space tab = refl
at_blank_none (b ∷ x) space tab =
    rw (lacks_blank b x space tab) (ap (λ (parts : List ℕ × List ℕ). (b ∷ parts.0, parts.1)) (at_blank_none x (Lacks-tail 32 b x space) (Lacks-tail 9 b x tab)))

-- what a text lacks, its front lacks
lacks_front : (c : ℕ) (bs x y : List ℕ) → bs ≡ x ++ y → Lacks c bs → Lacks c x
lacks_front c bs x y e h i lt same =
    h i (omega (arith, ap length e, length-append x y)) (ap (λ t. get_or t i 0) e ∙ get_or-append x y 0 i lt ∙ same)

-- and so does a shorter front
lacks_shorter : (c : ℕ) (bs x y x' y' : List ℕ) → bs ≡ x ++ y → bs ≡ x' ++ y' → length x ≤ length x' → Lacks c x' → Lacks c x
lacks_shorter c bs x y x' y' e e' short h i lt same =
    h i (omega arith) (sym (get_or-append x' y' 0 i (omega arith)) ∙ sym (ap (λ t. get_or t i 0) e') ∙ ap (λ t. get_or t i 0) e ∙ get_or-append x y 0 i lt ∙ same)

abbrev Cuts : ℕ → List ℕ → Bor (List ℕ) × Bor (List ℕ) → Type 0
Cuts c bs x = (bs ≡ x.0.now ++ (c ∷ x.1.now)) × Lacks c x.0.now

abbrev two : List ℕ → List ℕ → List ℕ × List ℕ
two x y = (x, y)

-- where neither a space nor a tab is found, the text is whole
pub at_blank_neither : (bs : List ℕ) → IsSplitOnceResult 32 bs None → IsSplitOnceResult 9 bs None → two bs [] ≡ at_blank bs
at_blank_neither bs space tab = sym (at_blank_none bs (split_parts 32 bs None space (lit< tt)) (split_parts 9 bs None tab (lit< tt)))

-- a space with no tab before it is the first blank
by_space : (bs : List ℕ) (x : Bor (List ℕ) × Bor (List ℕ)) → Cuts 32 bs x → Lacks 9 x.0.now → two x.0.now x.1.now ≡ at_blank bs
by_space bs x cut tab = sym (ap at_blank cut.0 ∙ at_blank_some 32 x.0.now x.1.now refl cut.1 tab)

-- so is a tab with no space before it
by_tab : (bs : List ℕ) (x : Bor (List ℕ) × Bor (List ℕ)) → Cuts 9 bs x → Lacks 32 x.0.now → two x.0.now x.1.now ≡ at_blank bs
by_tab bs x cut space = sym (ap at_blank cut.0 ∙ at_blank_some 9 x.0.now x.1.now refl space cut.1)

-- where a space alone is found, the text is cut there
pub at_blank_space : (bs : List ℕ) (x : Bor (List ℕ) × Bor (List ℕ)) → IsSplitOnceResult 32 bs (Some x) → IsSplitOnceResult 9 bs None → two x.0.now x.1.now ≡ at_blank bs
at_blank_space bs x space tab =
    let cut : Cuts 32 bs x = split_parts 32 bs (Some x) space (lit< tt) in
    by_space bs x cut (lacks_front 9 bs x.0.now (32 ∷ x.1.now) cut.0 (split_parts 9 bs None tab (lit< tt)))

-- where a tab alone is found, it is cut there
pub at_blank_tab : (bs : List ℕ) (x : Bor (List ℕ) × Bor (List ℕ)) → IsSplitOnceResult 32 bs None → IsSplitOnceResult 9 bs (Some x) → two x.0.now x.1.now ≡ at_blank bs
at_blank_tab bs x space tab =
    let cut : Cuts 9 bs x = split_parts 9 bs (Some x) tab (lit< tt) in
    by_tab bs x cut (lacks_front 32 bs x.0.now (9 ∷ x.1.now) cut.0 (split_parts 32 bs None space (lit< tt)))

-- where the space comes first, it is cut there
pub at_blank_space_first : (bs : List ℕ) (x y : Bor (List ℕ) × Bor (List ℕ)) → IsSplitOnceResult 32 bs (Some x) → IsSplitOnceResult 9 bs (Some y) → length x.0.now < length y.0.now → two x.0.now x.1.now ≡ at_blank bs
at_blank_space_first bs x y space tab short =
    let cut : Cuts 32 bs x = split_parts 32 bs (Some x) space (lit< tt) in
    let other : Cuts 9 bs y = split_parts 9 bs (Some y) tab (lit< tt) in
    by_space bs x cut (lacks_shorter 9 bs x.0.now (32 ∷ x.1.now) y.0.now (9 ∷ y.1.now) cut.0 other.0 (omega arith) other.1)

-- and else at the tab
pub at_blank_tab_first : (bs : List ℕ) (x y : Bor (List ℕ) × Bor (List ℕ)) → IsSplitOnceResult 32 bs (Some x) → IsSplitOnceResult 9 bs (Some y) → length y.0.now ≤ length x.0.now → two y.0.now y.1.now ≡ at_blank bs
at_blank_tab_first bs x y space tab short =
    let cut : Cuts 9 bs y = split_parts 9 bs (Some y) tab (lit< tt) in
    let other : Cuts 32 bs x = split_parts 32 bs (Some x) space (lit< tt) in
    by_tab bs y cut (lacks_shorter 32 bs y.0.now (9 ∷ y.1.now) x.0.now (32 ∷ x.1.now) cut.0 other.0 short other.1)

-- ---- values

-- a value without quotes is what stands before the blanks at its end
pub unquoted : (bs : List ℕ) → ((rest : List ℕ) → bs ≢ 34 ∷ rest) → Some (before_blanks bs) ≡ value_from bs
unfolding before_blanks
unquoted [] h = refl
unquoted (b ∷ x) h = rw (ne_eqb b 34 (λ e. h x (ap (λ (n : ℕ). n ∷ x) e))) refl
