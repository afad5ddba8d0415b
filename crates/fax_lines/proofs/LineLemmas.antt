-- Cutting texts: at an LF, at the first colon, behind blanks and before a backslash.
use Rattle.std.proofs.Common.{◌≡◌, ◌≢◌, ℕ, suc, ◌<◌, Bool, true, false, cond, eqb, List, [], ◌∷◌, ◌++◌, length, get_or, refl, sym, ap, subst, ◌∙◌, arith}
use Rattle.std.specs.Prelude.{Option, Some, None}
use Rattle.std.specs.Option.{MatchOption, IfNone, option_map, option_copied}
use Rattle.std.proofs.lemmas.Bool.{ne_eqb, eqb-true, or_from}
use Rattle.std.proofs.lemmas.Str.Pattern.{IsSplitOnceResult, split_parts}
use denote.Ref.{Bor}
use Rattle.fax_lines.specs.Reading.{onto, lines, at_colon, before_backslash}
use Rattle.fax_value.specs.Blank.{without_blanks, is_blank, begins_with_blank}
use Rattle.fax_value.specs.Value.{ends_with_backslash}

-- no byte is c
abbrev pub Lacks : ℕ → List ℕ → Type 0
Lacks c bs = (i : ℕ) → i < length bs → get_or bs i 0 ≢ c

-- the rest of bytes that lack one lacks it
pub Lacks-tail : (c b : ℕ) (bs : List ℕ) → Lacks c (b ∷ bs) → Lacks c bs
Lacks-tail c b bs h i lt = h (suc i) (omega arith)

-- bytes that lack one don't begin with it
lacks_first : (c b : ℕ) (bs : List ℕ) → Lacks c (b ∷ bs) → eqb b c ≡ false
lacks_first c b bs h = ne_eqb b c (h 0 (omega arith))

-- a text is cut at its first LF
pub lines_cut : (x y : List ℕ) → Lacks 10 x → lines (x ++ 10 ∷ y) ≡ x ∷ lines y
lines_cut [] y h = refl
lines_cut (b ∷ x) y h = rw (lacks_first 10 b x h) (ap (onto b) (lines_cut x y (Lacks-tail 10 b x h)))

-- a text without an LF is its last line
pub lines_last : (x : List ℕ) → Lacks 10 x → 0 < length x → lines x ≡ x ∷ []
lines_last [] h some = absurd (omega arith)
lines_last (b ∷ []) h some = rw (lacks_first 10 b [] h) refl
lines_last (b ∷ c ∷ x) h some = rw (lacks_first 10 b (c ∷ x) h) (ap (onto b) (lines_last (c ∷ x) (Lacks-tail 10 b (c ∷ x) h) (omega arith)))

-- a text is cut at its first colon
pub at_colon_some : (x y : List ℕ) → Lacks 58 x → at_colon (x ++ 58 ∷ y) ≡ Some (x, y)
at_colon_some [] y h = refl
at_colon_some (b ∷ x) y h = rw (lacks_first 58 b x h) (ap (option_map (λ (parts : List ℕ × List ℕ). (b ∷ parts.0, parts.1))) (at_colon_some x y (Lacks-tail 58 b x h)))

-- a text without one isn't
pub at_colon_none : (x : List ℕ) → Lacks 58 x → at_colon x ≡ None
at_colon_none [] h = refl
at_colon_none (b ∷ x) h = rw (lacks_first 58 b x h) (ap (option_map (λ (parts : List ℕ × List ℕ). (b ∷ parts.0, parts.1))) (at_colon_none x (Lacks-tail 58 b x h)))

-- a text that ends with a backslash is what stands before it
pub before_backslash_some : (x : List ℕ) → before_backslash (x ++ 92 ∷ []) ≡ Some x
before_backslash_some [] = refl
before_backslash_some (b ∷ []) = refl
before_backslash_some (b ∷ c ∷ x) = ap (option_map (λ (part : List ℕ). b ∷ part)) (before_backslash_some (c ∷ x))

-- one that doesn't has nothing before it
pub before_backslash_none : (x : List ℕ) → ((front : List ℕ) → x ≢ front ++ 92 ∷ []) → before_backslash x ≡ None
before_backslash_none [] h = refl
before_backslash_none (b ∷ []) h = rw (ne_eqb b 92 (λ e. h [] (ap (λ (n : ℕ). n ∷ []) e))) refl
before_backslash_none (b ∷ c ∷ x) h = ap (option_map (λ (part : List ℕ). b ∷ part)) (before_backslash_none (c ∷ x) (λ front e. h (b ∷ front) (ap (λ (t : List ℕ). b ∷ t) e)))

-- ---- as the calls of str give them

-- what is found at a colon is where the text is cut
at_colon_by : (bs : List ℕ) (r : Option (Bor (List ℕ) × Bor (List ℕ))) → MatchOption r (Lacks 58 bs) (λ x. (bs ≡ x.0.now ++ (58 ∷ x.1.now)) × Lacks 58 x.0.now) → option_map (λ parts. (parts.0.now, parts.1.now)) r ≡ at_colon bs
at_colon_by bs None h = sym (at_colon_none bs h)
at_colon_by bs (Some x) h = sym (ap at_colon h.0 ∙ at_colon_some x.0.now x.1.now h.1)

-- what `split_once` gives at a colon is where the text is cut
pub at_colon_is : (bs : List ℕ) (r : Option (Bor (List ℕ) × Bor (List ℕ))) → IsSplitOnceResult 58 bs r → option_map (λ parts. (parts.0.now, parts.1.now)) r ≡ at_colon bs
at_colon_is bs r h = at_colon_by bs r (split_parts 58 bs r h (omega arith))

-- what is found at an LF is where the lines are cut
lines_by : (bs : List ℕ) (r : Option (Bor (List ℕ) × Bor (List ℕ))) → 0 < length bs → MatchOption r (Lacks 10 bs) (λ x. (bs ≡ x.0.now ++ (10 ∷ x.1.now)) × Lacks 10 x.0.now) → MatchOption r (lines bs ≡ bs ∷ []) (λ x. lines bs ≡ x.0.now ∷ lines x.1.now)
lines_by bs None some h = lines_last bs h some
lines_by bs (Some x) some h = ap lines h.0 ∙ lines_cut x.0.now x.1.now h.1

-- what `split_once` gives at an LF is where the lines are cut
pub lines_is : (bs : List ℕ) (r : Option (Bor (List ℕ) × Bor (List ℕ))) → 0 < length bs → IsSplitOnceResult 10 bs r → MatchOption r (lines bs ≡ bs ∷ []) (λ x. lines bs ≡ x.0.now ∷ lines x.1.now)
lines_is bs r some h = lines_by bs r some (split_parts 10 bs r h (omega arith))

-- what `strip_suffix` gives at a backslash is what stands before it
pub before_backslash_is : (bs : List ℕ) (r : Option (Bor (List ℕ))) → MatchOption r ((front : List ℕ) → bs ≢ front ++ (92 ∷ [])) (λ x. bs ≡ x.now ++ (92 ∷ [])) → option_copied r ≡ before_backslash bs
before_backslash_is bs None h = sym (before_backslash_none bs h)
before_backslash_is bs (Some x) h = sym (ap before_backslash h ∙ before_backslash_some x.now)

-- ---- what the parts were cut from

abbrev pub done : {A : Type 0} → A → Option A
done x = Some x

abbrev pub two : List ℕ → List ℕ → List ℕ × List ℕ
two x y = (x, y)

abbrev pub none_yet : Option (List ℕ)
none_yet = None

-- what is found as one is that alone
pub some_is : {A : Type 0} (x y : A) → done x ≡ done y → x ≡ y
some_is x y e = cc

-- the parts of a text at its first colon make the text, with a byte more in front
at_colon_back : (b : ℕ) (bs x y : List ℕ) (t : Bool) (r : Option (List ℕ × List ℕ)) → eqb b 58 ≡ t → ((x y : List ℕ) → r ≡ Some (x, y) → bs ≡ x ++ 58 ∷ y) → cond t (done (two [] bs)) (option_map (λ (parts : List ℕ × List ℕ). two (b ∷ parts.0) parts.1) r) ≡ done (two x y) → b ∷ bs ≡ x ++ 58 ∷ y
at_colon_back b bs x y true r e h given =
    let parts = some_is (two [] bs) (two x y) given in
    subst (λ (p : List ℕ × List ℕ). b ∷ bs ≡ p.0 ++ 58 ∷ p.1) parts (ap (λ (n : ℕ). n ∷ bs) (eqb-true b 58 e))
at_colon_back b bs x y false None e h given = absurd cc
at_colon_back b bs x y false (Some p) e h given =
    subst (λ (q : List ℕ × List ℕ). b ∷ bs ≡ q.0 ++ 58 ∷ q.1) (some_is (two (b ∷ p.0) p.1) (two x y) given) (ap (λ (t : List ℕ). b ∷ t) (h p.0 p.1 refl))

-- the parts of a text at its first colon make the text
pub at_colon_parts : (bs x y : List ℕ) → at_colon bs ≡ Some (x, y) → bs ≡ x ++ 58 ∷ y
at_colon_parts [] x y e = absurd cc
at_colon_parts (b ∷ bs) x y e = at_colon_back b bs x y (eqb b 58) (at_colon bs) refl (at_colon_parts bs) e

-- what is put before what is found is there only where something is found
map_cons : (b : ℕ) (r : Option (List ℕ)) (x : List ℕ) → option_map (λ (part : List ℕ). b ∷ part) r ≡ Some x → (y : List ℕ) × (r ≡ Some y) × (b ∷ y ≡ x)
map_cons b None x e = absurd cc
map_cons b (Some y) x e = (y, refl, some_is (b ∷ y) x e)

-- a byte with nothing before a backslash is one
one_backslash : (b : ℕ) (x : List ℕ) (t : Bool) → eqb b 92 ≡ t → cond t (Some []) None ≡ Some x → b ∷ [] ≡ x ++ 92 ∷ []
one_backslash b x true e given = subst (λ (t : List ℕ). b ∷ [] ≡ t ++ 92 ∷ []) (some_is [] x given) (ap (λ (n : ℕ). n ∷ []) (eqb-true b 92 e))
one_backslash b x false e given = absurd cc

-- what stands before a backslash at the end makes the text with it
pub before_backslash_parts : (bs x : List ℕ) → before_backslash bs ≡ Some x → bs ≡ x ++ 92 ∷ []
before_backslash_parts [] x e = absurd cc
before_backslash_parts (b ∷ []) x e = one_backslash b x (eqb b 92) refl e
before_backslash_parts (b ∷ c ∷ bs) x e =
    let r = map_cons b (before_backslash (c ∷ bs)) x e in
    ap (λ (t : List ℕ). b ∷ t) (before_backslash_parts (c ∷ bs) r.0 r.1) ∙ ap (λ (t : List ℕ). t ++ 92 ∷ []) r.2

-- ---- where values begin and end

-- a text ends with a backslash where its last part does
pub ends_append : (x : List ℕ) (b : ℕ) (y : List ℕ) → ends_with_backslash (x ++ b ∷ y) ≡ ends_with_backslash (b ∷ y)
ends_append [] b y = refl
ends_append (a ∷ []) b y = refl
ends_append (a ∷ c ∷ x) b y = ends_append (c ∷ x) b y

-- a text begins with a blank where its first part does
pub start_append : (x y : List ℕ) → 0 < length x → begins_with_blank (x ++ y) ≡ begins_with_blank x
start_append [] y some = absurd (omega arith)
start_append (b ∷ x) y some = refl

one_lacks : (b : ℕ) (t : Bool) → eqb b 92 ≡ t → cond t (Some []) none_yet ≡ None → eqb b 92 ≡ false
one_lacks b true e given = absurd cc
one_lacks b false e given = e

-- where nothing is found with a byte in front, nothing was
map_cons_none : (b : ℕ) (r : Option (List ℕ)) → option_map (λ (part : List ℕ). b ∷ part) r ≡ None → r ≡ None
map_cons_none b None e = refl
map_cons_none b (Some y) e = absurd cc

-- a text with nothing before a backslash doesn't end with one
pub ends_lacking : (bs : List ℕ) → before_backslash bs ≡ None → ends_with_backslash bs ≡ false
ends_lacking [] e = refl
ends_lacking (b ∷ []) e = one_lacks b (eqb b 92) refl e
ends_lacking (b ∷ c ∷ bs) e = ends_lacking (c ∷ bs) (map_cons_none b (before_backslash (c ∷ bs)) e)

-- a text behind its blanks doesn't begin with one, with a byte more in front
start_by : (b : ℕ) (bs : List ℕ) (t : Bool) → is_blank b ≡ t → begins_with_blank (without_blanks bs) ≡ false → begins_with_blank (cond t (without_blanks bs) (b ∷ bs)) ≡ false
start_by b bs true e h = h
start_by b bs false e h = e

-- a text behind its blanks doesn't begin with one
pub without_blanks_start : (bs : List ℕ) → begins_with_blank (without_blanks bs) ≡ false
without_blanks_start [] = refl
without_blanks_start (b ∷ bs) = start_by b bs (is_blank b) refl (without_blanks_start bs)
