-- The lines of entries.
use Rattle.std.proofs.Common.{◌≡◌, ℕ, zero, suc, Bool, true, false, cond, not, ◌&&◌, eqb, leb, List, [], ◌∷◌, ◌++◌, length, refl, sym, ap, ◌∙◌, append_assoc, inl, inr, arith}
use Rattle.std.specs.Prelude.{codes}
use Rattle.std.specs.List.{AllByRecursion, list_all}
use Rattle.std.specs.Str.{bytes_eq}
use Rattle.std.proofs.lemmas.Bool.{and_parts, or_parts, or_from, or_cases, ne_eqb, eqb-true, eqb-false, leb-true, not-true}
use Rattle.std.proofs.lemmas.List.Concat.{flat_map-cons}
use Rattle.fax_job.specs.Pair.{Pair, is_pair, begins_with_hash}
use Rattle.fax_lines.specs.Reading.{lines}
use Rattle.fax_job.specs.Spelling.{escaped_byte, escaped}
use Rattle.fax_lines.specs.Spells.{Entry, Skipped, Stated, entry_text, has_byte, IsFormed, texts}
use Rattle.fax_job.specs.Tag.{is_tag_byte, is_tag}
use Rattle.fax_value.specs.Value.{is_value, is_status}
use Rattle.fax_value.specs.Blank.{is_blank}
use Rattle.fax_lines.proofs.LineLemmas.{Lacks, lines_cut}

-- the lines of a value, the first behind what it has begun with
abbrev pub continued : List ℕ → List ℕ → List (List ℕ)
continued begun [] = begun ∷ []
continued begun (b ∷ bs) = cond (eqb b 10) ((begun ++ 92 ∷ []) ∷ continued [] bs) (continued (begun ++ b ∷ []) bs)

abbrev pub entry_lines : Entry → List (List ℕ)
entry_lines (Skipped line) = line ∷ []
entry_lines (Stated blanks p) = continued (p.tag ++ 58 ∷ blanks) p.value

-- ---- bytes that are not there

-- bytes without one lack it in each place
pub Lacks-from : (c : ℕ) (bs : List ℕ) → has_byte c bs ≡ false → Lacks c bs
Lacks-from c [] h i lt = absurd (omega arith)
Lacks-from c (b ∷ bs) h zero lt = eqb-false b c (or_parts (eqb b c) (has_byte c bs) h).0
Lacks-from c (b ∷ bs) h (suc i) lt = Lacks-from c bs (or_parts (eqb b c) (has_byte c bs) h).1 i (omega arith)

-- where two texts lack a byte, both together do
pub lacks_append : (c : ℕ) (xs ys : List ℕ) → has_byte c xs ≡ false → has_byte c ys ≡ false → has_byte c (xs ++ ys) ≡ false
lacks_append c [] ys p q = q
lacks_append c (x ∷ xs) ys p q =
    let parts = or_parts (eqb x c) (has_byte c xs) p in
    or_from (eqb x c) (has_byte c (xs ++ ys)) parts.0 (lacks_append c xs ys parts.1 q)

-- a byte that is another lacks it
pub lacks_one : (c b : ℕ) → eqb b c ≡ false → has_byte c (b ∷ []) ≡ false
lacks_one c b e = or_from (eqb b c) false e refl

-- a tag lacks a byte that none of a tag is
tag_lacks : (c : ℕ) (bs : List ℕ) → ((b : ℕ) → is_tag_byte b ≡ true → eqb b c ≡ false) → list_all is_tag_byte bs ≡ true → has_byte c bs ≡ false
tag_lacks c [] never h = refl
tag_lacks c (b ∷ bs) never h =
    let parts = and_parts (is_tag_byte b) (list_all is_tag_byte bs) h in
    or_from (eqb b c) (has_byte c bs) (never b parts.0) (tag_lacks c bs never parts.1)

-- a byte of a tag is no LF
tag_no_feed : (b : ℕ) → is_tag_byte b ≡ true → eqb b 10 ≡ false
tag_no_feed b h =
    let low = leb-true 33 b (and_parts (leb 33 b) (leb b 126) (and_parts (leb 33 b && leb b 126) (not (eqb b 58)) h).0).0 in
    ne_eqb b 10 (λ e. absurd (omega (arith, low, e)))

-- nor a colon
tag_no_colon : (b : ℕ) → is_tag_byte b ≡ true → eqb b 58 ≡ false
tag_no_colon b h = not-true (eqb b 58) (and_parts (leb 33 b && leb b 126) (not (eqb b 58)) h).1

-- a tag is of such bytes
tag_bytes : (tag : List ℕ) → is_tag tag ≡ true → list_all is_tag_byte tag ≡ true
tag_bytes tag h = (and_parts (leb 1 (length tag) && leb (length tag) 64) (list_all is_tag_byte tag) h).1

-- so a tag has no LF
pub tag_lacks_feed : (tag : List ℕ) → is_tag tag ≡ true → has_byte 10 tag ≡ false
tag_lacks_feed tag h = tag_lacks 10 tag tag_no_feed (tag_bytes tag h)

-- and no colon
pub tag_lacks_colon : (tag : List ℕ) → is_tag tag ≡ true → has_byte 58 tag ≡ false
tag_lacks_colon tag h = tag_lacks 58 tag tag_no_colon (tag_bytes tag h)

-- nor have blanks an LF
pub blanks_lack_feed : (bs : List ℕ) → list_all is_blank bs ≡ true → has_byte 10 bs ≡ false
blanks_lack_feed [] h = refl
blanks_lack_feed (b ∷ bs) h =
    let parts = and_parts (is_blank b) (list_all is_blank bs) h in
    or_from (eqb b 10) (has_byte 10 bs)
    (elim (or_cases (eqb b 32) (eqb b 9) parts.0) [
      | inl e ↦ ne_eqb b 10 (λ x. absurd (omega (arith, eqb-true b 32 e, x)))
      | inr e ↦ ne_eqb b 10 (λ x. absurd (omega (arith, eqb-true b 9 e, x)))
    ])
    (blanks_lack_feed bs parts.1)

-- ---- lines of an entry

-- a text is cut behind its first line
cut : (x y : List ℕ) → has_byte 10 x ≡ false → lines (x ++ 10 ∷ y) ≡ x ∷ lines y
cut x y h = lines_cut x y (Lacks-from 10 x h)

-- the first byte of a value is an LF, or isn't
value_step : (b : ℕ) (bs begun rest : List ℕ) (t : Bool) → eqb b 10 ≡ t → has_byte 10 begun ≡ false
    → ((begun : List ℕ) → has_byte 10 begun ≡ false → lines (begun ++ (escaped bs ++ 10 ∷ rest)) ≡ continued begun bs ++ lines rest)
    → lines (begun ++ ((cond t (92 ∷ 10 ∷ []) (b ∷ []) ++ escaped bs) ++ 10 ∷ rest)) ≡ cond t ((begun ++ 92 ∷ []) ∷ continued [] bs) (continued (begun ++ b ∷ []) bs) ++ lines rest
value_step b bs begun rest true e lacks ih =
    let regrouped : begun ++ 92 ∷ 10 ∷ (escaped bs ++ 10 ∷ rest) ≡ (begun ++ 92 ∷ []) ++ 10 ∷ (escaped bs ++ 10 ∷ rest) = sym (append_assoc begun (92 ∷ []) (10 ∷ (escaped bs ++ 10 ∷ rest))) in
    ap lines regrouped ∙ cut (begun ++ 92 ∷ []) (escaped bs ++ 10 ∷ rest) (lacks_append 10 begun (92 ∷ []) lacks refl) ∙ ap (λ (ls : List (List ℕ)). (begun ++ 92 ∷ []) ∷ ls) (ih [] refl)
value_step b bs begun rest false e lacks ih =
    let regrouped : begun ++ b ∷ (escaped bs ++ 10 ∷ rest) ≡ (begun ++ b ∷ []) ++ (escaped bs ++ 10 ∷ rest) = sym (append_assoc begun (b ∷ []) (escaped bs ++ 10 ∷ rest)) in
    ap lines regrouped ∙ ih (begun ++ b ∷ []) (lacks_append 10 begun (b ∷ []) lacks (lacks_one 10 b e))

-- a value behind what its line has begun with has these lines
value_lines : (v begun rest : List ℕ) → has_byte 10 begun ≡ false → lines (begun ++ (escaped v ++ 10 ∷ rest)) ≡ continued begun v ++ lines rest
value_lines [] begun rest lacks = cut begun rest lacks
value_lines (b ∷ bs) begun rest lacks =
    ap (λ (x : List ℕ). lines (begun ++ (x ++ 10 ∷ rest))) (flat_map-cons escaped_byte b bs)
    ∙ value_step b bs begun rest (eqb b 10) refl lacks (λ more h. value_lines bs more rest h)

-- a pair has a tag
pair_tag : (p : Pair) → is_pair p ≡ true → is_tag p.tag ≡ true
pair_tag p h = (and_parts (is_tag p.tag) (not (begins_with_hash p.tag)) (and_parts (is_tag p.tag && not (begins_with_hash p.tag)) (cond (bytes_eq p.tag (codes "status")) (is_status p.value) (is_value p.value)) h).0).0

-- the text of an entry has its lines, and what follows has its own
pub entry_lines_are : (e : Entry) (rest : List ℕ) → IsFormed e → lines (entry_text e ++ rest) ≡ entry_lines e ++ lines rest
entry_lines_are (Skipped line) rest h = ap lines (append_assoc line (10 ∷ []) rest) ∙ cut line rest h.1
entry_lines_are (Stated blanks p) rest h =
    let head = p.tag ++ 58 ∷ blanks in
    let lacks : has_byte 10 (p.tag ++ 58 ∷ blanks) ≡ false = lacks_append 10 p.tag (58 ∷ blanks) (tag_lacks_feed p.tag (pair_tag p h.1)) (blanks_lack_feed blanks h.0) in
    let regrouped : entry_text (Stated blanks p) ++ rest ≡ head ++ (escaped p.value ++ 10 ∷ rest) = append_assoc (head ++ escaped p.value) (10 ∷ []) rest ∙ append_assoc head (escaped p.value) (10 ∷ rest) in
    ap lines regrouped ∙ value_lines p.value head rest lacks

abbrev pub all_lines : List Entry → List (List ℕ)
all_lines [] = []
all_lines (e ∷ es) = entry_lines e ++ all_lines es

-- the texts of entries have their lines
pub all_lines_are : (es : List Entry) → AllByRecursion IsFormed es → lines (texts es) ≡ all_lines es
all_lines_are [] h = refl
all_lines_are (e ∷ es) h =
    ap lines (flat_map-cons entry_text e es) ∙ entry_lines_are e (texts es) h.0 ∙ ap (λ (ls : List (List ℕ)). entry_lines e ++ ls) (all_lines_are es h.1)
