-- What may be taken: a tag with its value, and a status that goes on.
use Rattle.std.proofs.Common.{◌≡◌, ℕ, Bool, true, false, cond, not, ◌&&◌, eqb, List, [], ◌∷◌, ◌++◌, refl, sym, ap, subst, ◌∙◌, length-append, arith}
use Rattle.std.specs.Prelude.{Option, Some, None, Result, Ok, Err, codes}
use Rattle.std.specs.List.{list_all}
use Rattle.std.specs.Str.{bytes_eq}
use Rattle.std.proofs.lemmas.Bool.{and_parts, and_from, or_parts, or_left, not-false, not_from_false}
use Rattle.std.proofs.lemmas.List.{append-nil}
use Rattle.std.proofs.lemmas.List.Folds.{list_all-append}
use Rattle.std.proofs.lemmas.Slice.Eq.{bytes_eq-Decides}
use Rattle.fax_job.specs.declared.lines.LineKind.{LineKind}
use Rattle.fax_job.specs.declared.lines.LineKind.TheVariants.{BadTag, Twice, BadValue}
use Rattle.fax_job.specs.Pair.{Pair, pair, is_pair, begins_with_hash, has_tag}
use Rattle.fax_lines.specs.Reading.{is_skipped, at_colon, before_backslash, begun_part, parts_of, at_parts, entry_of, IsEntry, IsOpen}
use Rattle.fax_value.specs.Blank.{without_blanks, is_blank, begins_with_blank}
use Rattle.fax_job.specs.Tag.{is_tag, is_known}
use Rattle.fax_value.specs.Value.{ends_with_backslash, is_plain_byte, is_plain, is_value, is_status_byte, is_status}
use Rattle.fax_lines.proofs.LineLemmas.{at_colon_parts, before_backslash_parts, ends_append, start_append, ends_lacking, without_blanks_start}

-- ---- the parts of a line

-- what is let pass wasn't refused by the test before it
guard : {A : Type 0} (b : Bool) (kind : LineKind) (r : Result A LineKind) (x : A) → cond b (Err kind) r ≡ Ok x → (b ≡ false) × (r ≡ Ok x)
guard true kind r x e = absurd cc
guard false kind r x e = (refl, e)

abbrev okay : Pair → Result Pair LineKind
okay p = Ok p

-- what is read as one pair is that alone
ok_is : (p q : Pair) → okay p ≡ okay q → p ≡ q
ok_is p q e = cc

-- a line that begins with no `#` has a tag that doesn't
no_hash : (tag rest : List ℕ) → is_tag tag ≡ true → begins_with_hash (tag ++ 58 ∷ rest) ≡ false → begins_with_hash tag ≡ false
no_hash [] rest formed h = refl
no_hash (b ∷ tag) rest formed h = h

-- the two parts of a line that are read may be taken
parts_entry : (seen : List Pair) (tag rest : List ℕ) (p : Pair) → begins_with_hash (tag ++ 58 ∷ rest) ≡ false → parts_of seen tag rest ≡ Ok p → IsEntry seen p
parts_entry seen tag rest p hash e =
    let a = guard (not (is_tag tag)) BadTag _ p e in
    let b = guard (is_known tag && has_tag tag seen) Twice _ p a.1 in
    let c = guard (not (is_plain (without_blanks rest))) BadValue _ p b.1 in
    let formed : is_tag tag ≡ true = not-false _ a.0 in
    subst (IsEntry seen) (ok_is (pair tag (without_blanks rest)) p c.1) (record {
      tag = formed;
      no_comment = no_hash tag rest formed hash;
      once = b.0;
      start = without_blanks_start rest;
      plain = not-false _ c.0;
    })

-- so may a line cut at its colon, or not
entry_at : (seen : List Pair) (line : List ℕ) (r : Option (List ℕ × List ℕ)) (p : Pair) → at_colon line ≡ r → begins_with_hash line ≡ false → at_parts seen r ≡ Ok p → IsEntry seen p
entry_at seen line None p cut hash e = absurd cc
entry_at seen line (Some parts) p cut hash e = parts_entry seen parts.0 parts.1 p (ap begins_with_hash (sym (at_colon_parts line parts.0 parts.1 cut)) ∙ hash) e

-- so may a line that is read
pub entry_is : (seen : List Pair) (line : List ℕ) (p : Pair) → is_skipped line ≡ false → entry_of seen line ≡ Ok p → IsEntry seen p
unfolding entry_of
entry_is seen line p skipped e = entry_at seen line (at_colon line) p refl (or_parts (begins_with_hash line) (list_all is_blank line) skipped).0 e

-- ---- bytes

-- plain bytes are bytes of a status
plain_bytes : (bs : List ℕ) → is_plain bs ≡ true → list_all is_status_byte bs ≡ true
plain_bytes [] h = refl
plain_bytes (b ∷ bs) h =
    let parts = and_parts (is_plain_byte b) (is_plain bs) h in
    and_from (is_status_byte b) (list_all is_status_byte bs) (or_left (is_plain_byte b) (eqb b 10) parts.0) (plain_bytes bs parts.1)

-- the front of a plain text is plain
pub plain_front : (x y : List ℕ) → is_plain (x ++ y) ≡ true → is_plain x ≡ true
plain_front x y h = (and_parts (is_plain x) (is_plain y) (sym (list_all-append is_plain_byte x y) ∙ h)).0

-- bytes of a status together are such
status_append : (x y : List ℕ) → list_all is_status_byte x ≡ true → list_all is_status_byte y ≡ true → list_all is_status_byte (x ++ y) ≡ true
status_append x y p q = list_all-append is_status_byte x y ∙ and_from (list_all is_status_byte x) (list_all is_status_byte y) p q

-- bytes of a status with no blank in front and no backslash at the end are one
pub is_status_from : (v : List ℕ) → begins_with_blank v ≡ false → ends_with_backslash v ≡ false → list_all is_status_byte v ≡ true → is_status v ≡ true
is_status_from v start end bytes =
    and_from (not (begins_with_blank v) && not (ends_with_backslash v)) (list_all is_status_byte v)
    (and_from (not (begins_with_blank v)) (not (ends_with_backslash v)) (not_from_false _ start) (not_from_false _ end))
    bytes

-- a tag with a status, or with a value, is a pair
pub is_pair_from : (p : Pair) → is_tag p.tag ≡ true → begins_with_hash p.tag ≡ false → cond (bytes_eq p.tag (codes "status")) (is_status p.value) (is_value p.value) ≡ true → is_pair p ≡ true
is_pair_from p tag hash value =
    and_from (is_tag p.tag && not (begins_with_hash p.tag)) _ (and_from (is_tag p.tag) (not (begins_with_hash p.tag)) tag (not_from_false _ hash)) value

-- ---- pairs

-- what may be taken has a value
value_other : (p : Pair) (seen : List Pair) → IsEntry seen p → is_value p.value ≡ true
value_other p seen h = and_from (not (begins_with_blank p.value)) (is_plain p.value) (not_from_false _ h.start) h.plain

-- with another tag than a status it is a pair
pair_other : (seen : List Pair) (p : Pair) (t : Bool) → bytes_eq p.tag (codes "status") ≡ t → t ≡ false → IsEntry seen p → is_pair p ≡ true
pair_other seen p t e other h = is_pair_from p h.tag h.no_comment (rw (e ∙ other) (value_other p seen h))

-- with a status that doesn't go on it is one
pair_of_status : (seen : List Pair) (p : Pair) → bytes_eq p.tag (codes "status") ≡ true → before_backslash p.value ≡ None → IsEntry seen p → is_pair p ≡ true
pair_of_status seen p e whole h =
    is_pair_from p h.tag h.no_comment (rw e (is_status_from p.value h.start (ends_lacking p.value whole) (plain_bytes p.value h.plain)))

-- the same whether it is a status or not
pair_by : (seen : List Pair) (p : Pair) (t : Bool) → bytes_eq p.tag (codes "status") ≡ t → cond t (before_backslash p.value) None ≡ None → IsEntry seen p → is_pair p ≡ true
pair_by seen p true e whole h = pair_of_status seen p e whole h
pair_by seen p false e whole h = pair_other seen p false e refl h

-- what may be taken and isn't begun is a pair
pub pair_of_entry : (seen : List Pair) (p : Pair) → begun_part p ≡ None → IsEntry seen p → is_pair p ≡ true
unfolding begun_part
pair_of_entry seen p whole h = pair_by seen p (bytes_eq p.tag (codes "status")) refl whole h

-- ---- a status that goes on

-- the tag of a status is known
known_status : is_known (codes "status") ≡ true
unfolding is_known
known_status = refl

-- where one is true and both aren't, the other isn't
fresh_from : (a b : Bool) → a ≡ true → (a && b) ≡ false → b ≡ false
fresh_from true b yes_a e = e
fresh_from false b yes_a e = absurd cc

-- a part with no blank in front has none before an LF
start_of : (part rest : List ℕ) → begins_with_blank (part ++ 92 ∷ []) ≡ false → begins_with_blank (part ++ 10 ∷ rest) ≡ false
start_of [] rest h = refl
start_of (b ∷ part) rest h = h

-- a value that is begun is a status that goes on
part_by : (p : Pair) (part : List ℕ) (t : Bool) → bytes_eq p.tag (codes "status") ≡ t → cond t (before_backslash p.value) None ≡ Some part → (bytes_eq p.tag (codes "status") ≡ true) × (before_backslash p.value ≡ Some part)
part_by p part true e cut = (e, cut)
part_by p part false e cut = absurd cc

-- the same of a pair that is begun
pub part_of : (p : Pair) (part : List ℕ) → begun_part p ≡ Some part → (bytes_eq p.tag (codes "status") ≡ true) × (before_backslash p.value ≡ Some part)
unfolding begun_part
part_of p part cut = part_by p part (bytes_eq p.tag (codes "status")) refl cut

-- a status that goes on is open
open_at : (seen : List Pair) (p : Pair) (part : List ℕ) → IsEntry seen p → bytes_eq p.tag (codes "status") ≡ true → before_backslash p.value ≡ Some part → IsOpen seen (part ++ 10 ∷ [])
open_at seen p part h tag cut =
    let value : p.value ≡ part ++ 92 ∷ [] = before_backslash_parts p.value part cut in
    let is_status_tag : p.tag ≡ codes "status" = (bytes_eq-Decides p.tag (codes "status")).0 tag in
    let known : is_known p.tag ≡ true = ap is_known is_status_tag ∙ known_status in
    let lacking : has_tag p.tag seen ≡ false = fresh_from (is_known p.tag) (has_tag p.tag seen) known h.once in
    record {
      fresh = ap (λ (t : List ℕ). has_tag t seen) (sym is_status_tag) ∙ lacking;
      some = omega (arith, length-append part (10 ∷ []));
      start = start_of part [] (ap begins_with_blank (sym value) ∙ h.start);
      end = ends_append part 10 [];
      bytes = status_append part (10 ∷ []) (plain_bytes part (plain_front part (92 ∷ []) (ap is_plain (sym value) ∙ h.plain))) refl;
    }

-- so is a pair that is begun
pub open_first : (seen : List Pair) (p : Pair) (part : List ℕ) → IsEntry seen p → begun_part p ≡ Some part → IsOpen seen (part ++ 10 ∷ [])
open_first seen p part h cut = open_at seen p part h (part_of p part cut).0 (part_of p part cut).1

-- a line more that goes on leaves it open
pub open_more : (seen : List Pair) (begun line part : List ℕ) → IsOpen seen begun → is_plain line ≡ true → before_backslash line ≡ Some part → IsOpen seen (begun ++ part ++ 10 ∷ [])
open_more seen begun line part h plain cut =
    let value : line ≡ part ++ 92 ∷ [] = before_backslash_parts line part cut in
    record {
      fresh = h.fresh;
      some = omega (arith, length-append (begun ++ part) (10 ∷ []));
      start = start_append (begun ++ part) (10 ∷ []) (omega (arith, h.some, length-append begun part)) ∙ start_append begun part h.some ∙ h.start;
      end = ends_append (begun ++ part) 10 [];
      bytes = status_append (begun ++ part) (10 ∷ []) (status_append begun part h.bytes (plain_bytes part (plain_front part (92 ∷ []) (ap is_plain (sym value) ∙ plain)))) refl;
    }

-- two texts without a backslash at their end have none together
ends_more : (begun line : List ℕ) → ends_with_backslash begun ≡ false → ends_with_backslash line ≡ false → ends_with_backslash (begun ++ line) ≡ false
ends_more begun [] p q = ap ends_with_backslash (append-nil begun) ∙ p
ends_more begun (b ∷ line) p q = ends_append begun b line ∙ q

-- a line that doesn't go on makes the status a pair
pub pair_of_parts : (seen : List Pair) (begun line : List ℕ) → IsOpen seen begun → is_plain line ≡ true → before_backslash line ≡ None → is_pair (pair (codes "status") (begun ++ line)) ≡ true
pair_of_parts seen begun line h plain whole =
    is_pair_from (pair (codes "status") (begun ++ line)) refl refl
    (is_status_from (begun ++ line) (start_append begun line h.some ∙ h.start) (ends_more begun line h.end (ends_lacking line whole)) (status_append begun line h.bytes (plain_bytes line plain)))

-- the tag of an open status is new
pub once_of_parts : (seen : List Pair) (begun : List ℕ) → IsOpen seen begun → (is_known (codes "status") && has_tag (codes "status") seen) ≡ false
once_of_parts seen begun h = rw known_status h.fresh
