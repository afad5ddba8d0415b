-- What entries state is read from their lines.
use Rattle.std.proofs.Common.{arith, length, length-append, ◌≡◌, ℕ, ◌+◌, Bool, true, false, cond, not, ◌&&◌, ◌||◌, eqb, List, [], ◌∷◌, ◌++◌, refl, sym, ap, subst, ◌∙◌, append_assoc, inl, inr}
use Rattle.std.specs.Prelude.{Option, Some, None, Ok, codes}
use Rattle.std.specs.List.{AllByRecursion, list_all}
use Rattle.std.specs.Option.{option_map}
use Rattle.std.specs.Str.{bytes_eq}
use Rattle.std.proofs.lemmas.Bool.{and_parts, and_from, and_cases, and_left, and_right, or_from, or_left, or_right, eqb-true, not-true, both_ways, cases_Bool}
use Rattle.std.proofs.lemmas.List.{append-nil}
use Rattle.std.proofs.lemmas.List.Concat.{flat_map-cons}
use Rattle.std.proofs.lemmas.List.Folds.{list_all-append}
use Rattle.std.proofs.lemmas.Slice.Eq.{bytes_eq-Decides}
use Rattle.fax_job.specs.Pair.{Pair, pair, is_pair, has_tag, is_once, begins_with_hash}
use Rattle.fax_lines.specs.Reading.{is_skipped, at_colon, before_backslash, begun_part, at_parts, entry_of, taken, begin_step, go_on_step, read_on}
use Rattle.fax_value.specs.Blank.{without_blanks, is_blank, begins_with_blank}
use Rattle.fax_lines.specs.Spells.{Entry, Skipped, Stated, IsFormed, stated, pairs}
use Rattle.fax_job.specs.Tag.{is_tag, is_known}
use Rattle.fax_value.specs.Value.{ends_with_backslash, is_plain_byte, is_plain, is_value, is_status_byte, is_status}
use Rattle.fax_lines.proofs.EntryLemmas.{continued, all_lines, Lacks-from, tag_lacks_colon}
use Rattle.fax_lines.proofs.LineLemmas.{at_colon_some, before_backslash_some, ends_append}

-- ---- one line

-- a line with a colon isn't all blanks
counts_all : (xs ys : List ℕ) → list_all is_blank (xs ++ 58 ∷ ys) ≡ false
counts_all [] ys = refl
counts_all (b ∷ xs) ys = and_right (is_blank b) (list_all is_blank (xs ++ 58 ∷ ys)) (counts_all xs ys)

-- a line begins with `#` only where its tag does
hash_append : (tag ys : List ℕ) → begins_with_hash tag ≡ false → begins_with_hash (tag ++ 58 ∷ ys) ≡ false
hash_append [] ys h = refl
hash_append (b ∷ tag) ys h = h

-- a value with no blank in front stays without blanks
start_same : (v : List ℕ) → begins_with_blank v ≡ false → without_blanks v ≡ v
start_same [] h = refl
start_same (b ∷ v) h = rw h refl

-- so it does behind blanks
behind_blanks : (blanks v : List ℕ) → list_all is_blank blanks ≡ true → begins_with_blank v ≡ false → without_blanks (blanks ++ v) ≡ v
behind_blanks [] v h start = start_same v start
behind_blanks (b ∷ blanks) v h start =
    let parts = and_parts (is_blank b) (list_all is_blank blanks) h in
    rw parts.0 (behind_blanks blanks v parts.1 start)

-- a text that doesn't end with a backslash has nothing before one
whole_none : (bs : List ℕ) → ends_with_backslash bs ≡ false → before_backslash bs ≡ None
whole_none [] h = refl
whole_none (b ∷ []) h = rw h refl
whole_none (b ∷ c ∷ bs) h = ap (option_map (λ (part : List ℕ). b ∷ part)) (whole_none (c ∷ bs) h)

-- a tag that may be taken behind the pairs, and blanks
pub record IsHead (seen : List Pair) (tag blanks : List ℕ) : Type 0 where
  pub formed : is_tag tag ≡ true
  pub hash : begins_with_hash tag ≡ false
  pub once : (is_known tag && has_tag tag seen) ≡ false
  pub blank : list_all is_blank blanks ≡ true

-- a tag, blanks and a plain value are read as the pair
entry : (seen : List Pair) (tag blanks w : List ℕ) → IsHead seen tag blanks → begins_with_blank w ≡ false → is_plain w ≡ true → entry_of seen ((tag ++ 58 ∷ blanks) ++ w) ≡ Ok (pair tag w)
unfolding entry_of
entry seen tag blanks w h start plain =
    let cut = at_colon_some tag (blanks ++ w) (Lacks-from 58 tag (tag_lacks_colon tag h.formed)) in
    ap (λ (line : List ℕ). at_parts seen (at_colon line)) (append_assoc tag (58 ∷ blanks) w)
    ∙ ap (at_parts seen) cut
    ∙ rw (h.formed, h.once, behind_blanks blanks w h.blank start, plain) refl

-- a line of them begins the pair
pub begun : (m : ℕ) (seen : List Pair) (tag blanks w : List ℕ) → IsHead seen tag blanks → begins_with_blank w ≡ false → is_plain w ≡ true → begin_step m seen ((tag ++ 58 ∷ blanks) ++ w) ≡ Ok (taken seen (pair tag w))
unfolding begin_step
begun m seen tag blanks w h start plain =
    let line = (tag ++ 58 ∷ blanks) ++ w in
    let regrouped : (tag ++ 58 ∷ blanks) ++ w ≡ tag ++ 58 ∷ (blanks ++ w) = append_assoc tag (58 ∷ blanks) w in
    let counts : is_skipped ((tag ++ 58 ∷ blanks) ++ w) ≡ false = ap is_skipped regrouped ∙ or_from (begins_with_hash (tag ++ 58 ∷ (blanks ++ w))) (list_all is_blank (tag ++ 58 ∷ (blanks ++ w))) (hash_append tag (blanks ++ w) h.hash) (counts_all tag (blanks ++ w)) in
    rw (counts, entry seen tag blanks w h start plain) refl

-- ---- bytes of statuses

-- a plain byte is one of a status
plain_status : (b : ℕ) → is_plain_byte b ≡ true → is_status_byte b ≡ true
plain_status b h = or_left (is_plain_byte b) (eqb b 10) h

-- so plain bytes are
status_of_plain : (bs : List ℕ) → is_plain bs ≡ true → list_all is_status_byte bs ≡ true
status_of_plain [] h = refl
status_of_plain (b ∷ bs) h =
    let parts = and_parts (is_plain_byte b) (is_plain bs) h in
    and_from (is_status_byte b) (list_all is_status_byte bs) (plain_status b parts.0) (status_of_plain bs parts.1)

-- what is one of two and not the second is the first
plain_by : (a t : Bool) → (a || t) ≡ true → t ≡ false → a ≡ true
plain_by true t h e = refl
plain_by false t h e = absurd (both_ways t e h)

-- a byte of a status that is no LF is plain
pub plain_of_status : (b : ℕ) → is_status_byte b ≡ true → eqb b 10 ≡ false → is_plain_byte b ≡ true
plain_of_status b h e = plain_by (is_plain_byte b) (eqb b 10) h e

-- a byte amid those of a status is one
pub bytes_mid : (xs : List ℕ) (b : ℕ) (ys : List ℕ) → list_all is_status_byte (xs ++ b ∷ ys) ≡ true → is_status_byte b ≡ true
bytes_mid xs b ys h = (and_parts (is_status_byte b) (list_all is_status_byte ys) (and_parts (list_all is_status_byte xs) (list_all is_status_byte (b ∷ ys)) (sym (list_all-append is_status_byte xs (b ∷ ys)) ∙ h)).1).0

-- plain texts together are plain
pub plain_append : (xs ys : List ℕ) → is_plain xs ≡ true → is_plain ys ≡ true → is_plain (xs ++ ys) ≡ true
plain_append xs ys p q = list_all-append is_plain_byte xs ys ∙ and_from (is_plain xs) (is_plain ys) p q

-- a plain byte alone is plain
pub plain_one : (b : ℕ) → is_plain_byte b ≡ true → is_plain (b ∷ []) ≡ true
plain_one b h = and_from (is_plain_byte b) true h refl

-- ---- a status that goes on

record IsRest (v begun c w : List ℕ) : Type 0 where
  pub made : v ≡ begun ++ (c ++ w)
  pub plain : is_plain c ≡ true
  pub bytes : list_all is_status_byte v ≡ true
  pub end : ends_with_backslash v ≡ false

-- a text ends with no backslash only where its end doesn't
end_of : (begun c : List ℕ) → ends_with_backslash (begun ++ c) ≡ false → ends_with_backslash c ≡ false
end_of begun [] h = refl
end_of begun (b ∷ c) h = sym (ends_append begun b c) ∙ h

-- reading comes from the lines to those behind, so many lines on
pub record Lands (ls : List (List ℕ)) (n : ℕ) (seen : List Pair) (begun : Option (List ℕ)) (behind : List (List ℕ)) (after : List Pair) (count : ℕ) : Type 0 where
  pub place : ℕ
  pub counted : place ≡ n + count
  pub same : read_on ls n seen begun ≡ read_on behind place after None

abbrev status_pair : List ℕ → Pair
status_pair v = pair (codes "status") v

-- the last line of a status ends it
goes_end : (v begun c : List ℕ) (n : ℕ) (seen : List Pair) (X : List (List ℕ)) → IsRest v begun c [] → Lands (c ∷ X) n seen (Some begun) X (seen ++ status_pair v ∷ []) 1
unfolding read_on go_on_step
goes_end v begun c n seen X h =
    let made : begun ++ c ≡ v = ap (λ (x : List ℕ). begun ++ x) (sym (append-nil c)) ∙ sym h.made in
    let cut = whole_none c (end_of begun c (ap ends_with_backslash made ∙ h.end)) in
    record { place = n + 1; counted = refl; same = rw (h.plain, cut, made) refl }

-- a line with a backslash at its end goes on, and those behind end the status
goes_feed : (v begun c bs : List ℕ) (n : ℕ) (seen : List Pair) (X : List (List ℕ)) → is_plain c ≡ true → Lands (continued [] bs ++ X) (n + 1) seen (Some (begun ++ c ++ 10 ∷ [])) X (seen ++ status_pair v ∷ []) (length (continued [] bs)) → Lands ((c ++ 92 ∷ []) ∷ (continued [] bs ++ X)) n seen (Some begun) X (seen ++ status_pair v ∷ []) (length ((c ++ 92 ∷ []) ∷ continued [] bs))
unfolding read_on go_on_step
goes_feed v begun c bs n seen X plain rest =
    let line_plain = plain_append c (92 ∷ []) plain refl in
    record { place = rest.place; counted = omega (arith, rest.counted); same = rw (line_plain, before_backslash_some c) rest.same }

-- the next byte of a status, an LF or not, goes on to its end
goes_by : (v begun c : List ℕ) (b : ℕ) (bs : List ℕ) (n : ℕ) (seen : List Pair) (X : List (List ℕ)) (t : Bool) → eqb b 10 ≡ t → IsRest v begun c (b ∷ bs)
    → ((begun c : List ℕ) (n : ℕ) → IsRest v begun c bs → Lands (continued c bs ++ X) n seen (Some begun) X (seen ++ status_pair v ∷ []) (length (continued c bs)))
    → Lands (cond t ((c ++ 92 ∷ []) ∷ continued [] bs) (continued (c ++ b ∷ []) bs) ++ X) n seen (Some begun) X (seen ++ status_pair v ∷ []) (length (cond t ((c ++ 92 ∷ []) ∷ continued [] bs) (continued (c ++ b ∷ []) bs)))
goes_by v begun c b bs n seen X true e h ih =
    let made : v ≡ (begun ++ c ++ 10 ∷ []) ++ bs = h.made ∙ ap (λ (x : ℕ). begun ++ (c ++ x ∷ bs)) (eqb-true b 10 e) ∙ sym (append_assoc (begun ++ c) (10 ∷ []) bs ∙ append_assoc begun c (10 ∷ bs)) in
    goes_feed v begun c bs n seen X h.plain (ih (begun ++ c ++ 10 ∷ []) [] (n + 1) (record { made = made; plain = refl; bytes = h.bytes; end = h.end }))
goes_by v begun c b bs n seen X false e h ih =
    let byte : is_status_byte b ≡ true = bytes_mid (begun ++ c) b bs (ap (list_all is_status_byte) (append_assoc begun c (b ∷ bs) ∙ sym h.made) ∙ h.bytes) in
    ih begun (c ++ b ∷ []) n (record {
      made = h.made ∙ ap (λ (x : List ℕ). begun ++ x) (sym (append_assoc c (b ∷ []) bs));
      plain = plain_append c (b ∷ []) h.plain (plain_one b (plain_of_status b byte e));
      bytes = h.bytes;
      end = h.end;
    })

-- the lines of a status end it, behind what it has begun with
goes : (w v begun c : List ℕ) (n : ℕ) (seen : List Pair) (X : List (List ℕ)) → IsRest v begun c w → Lands (continued c w ++ X) n seen (Some begun) X (seen ++ status_pair v ∷ []) (length (continued c w))
goes [] v begun c n seen X h = goes_end v begun c n seen X h
goes (b ∷ bs) v begun c n seen X h = goes_by v begun c b bs n seen X (eqb b 10) refl h (λ begun c n h. goes bs v begun c n seen X h)

-- ---- a tag and its value

pub record IsFirst (tag v c w : List ℕ) : Type 0 where
  pub made : v ≡ c ++ w
  pub plain : is_plain c ≡ true
  pub start : begins_with_blank v ≡ false
  pub bytes : list_all is_status_byte v ≡ true
  pub ends : bytes_eq tag (codes "status") ≡ true → ends_with_backslash v ≡ false
  pub one : bytes_eq tag (codes "status") ≡ false → is_plain v ≡ true

-- the front of a value begins with no blank, also before a backslash
pub start_front : (c y : List ℕ) → begins_with_blank (c ++ y) ≡ false → begins_with_blank (c ++ 92 ∷ []) ≡ false
start_front [] y h = refl
start_front (b ∷ c) y h = h

-- what ends with no backslash, or is no status, isn't begun
whole_by : (tag v : List ℕ) (t : Bool) → bytes_eq tag (codes "status") ≡ t → (t ≡ true → ends_with_backslash v ≡ false) → cond t (before_backslash v) None ≡ None
whole_by tag v true e h = whole_none v (h refl)
whole_by tag v false e h = refl

-- a whole value isn't begun
whole_part : (tag v : List ℕ) → (bytes_eq tag (codes "status") ≡ true → ends_with_backslash v ≡ false) → begun_part (pair tag v) ≡ None
unfolding begun_part
whole_part tag v h = whole_by tag v (bytes_eq tag (codes "status")) refl h

-- a part of a status with a backslash is
pub first_part : (tag c : List ℕ) → bytes_eq tag (codes "status") ≡ true → begun_part (pair tag (c ++ 92 ∷ [])) ≡ Some c
unfolding begun_part
first_part tag c e = rw (e, before_backslash_some c) refl

-- a line with the whole value is its pair
starts_end : (tag blanks v c : List ℕ) (n : ℕ) (seen : List Pair) (X : List (List ℕ)) → IsHead seen tag blanks → IsFirst tag v c [] → Lands (((tag ++ 58 ∷ blanks) ++ c) ∷ X) n seen None X (seen ++ pair tag v ∷ []) 1
unfolding read_on
starts_end tag blanks v c n seen X head h =
    let made : c ≡ v = sym (append-nil c) ∙ sym h.made in
    let line = begun (n + 1) seen tag blanks v head h.start (subst (λ (x : List ℕ). is_plain x ≡ true) made h.plain) in
    record { place = n + 1; counted = refl; same = rw (made, line, whole_part tag v h.ends) refl }

-- a line with a part of a status goes on, and those behind end it
starts_feed : (tag blanks v c bs : List ℕ) (n : ℕ) (seen : List Pair) (X : List (List ℕ)) → IsHead seen tag blanks → bytes_eq tag (codes "status") ≡ true → begins_with_blank (c ++ 92 ∷ []) ≡ false → is_plain c ≡ true → Lands (continued [] bs ++ X) (n + 1) seen (Some (c ++ 10 ∷ [])) X (seen ++ pair tag v ∷ []) (length (continued [] bs)) → Lands (((tag ++ 58 ∷ blanks) ++ c ++ 92 ∷ []) ∷ (continued [] bs ++ X)) n seen None X (seen ++ pair tag v ∷ []) (length (((tag ++ 58 ∷ blanks) ++ c ++ 92 ∷ []) ∷ continued [] bs))
unfolding read_on
starts_feed tag blanks v c bs n seen X head status start plain rest =
    let line = begun (n + 1) seen tag blanks (c ++ 92 ∷ []) head start (plain_append c (92 ∷ []) plain refl) in
    record { place = rest.place; counted = omega (arith, rest.counted); same = rw (append_assoc (tag ++ 58 ∷ blanks) c (92 ∷ []), line, first_part tag c status) rest.same }

-- only a status has an LF
feed_status : (tag v c bs : List ℕ) → IsFirst tag v c (10 ∷ bs) → bytes_eq tag (codes "status") ≡ true
feed_status tag v c bs h =
    elim (cases_Bool (bytes_eq tag (codes "status"))) [
      | inl e ↦ e
      | inr e ↦ absurd (both_ways (list_all is_plain_byte (10 ∷ bs)) refl (and_parts (is_plain c) (is_plain (10 ∷ bs)) (sym (list_all-append is_plain_byte c (10 ∷ bs)) ∙ ap is_plain (sym h.made) ∙ h.one e)).1)
    ]

-- the next byte of a value, an LF or not, goes on to its pair
starts_by : (tag blanks v c : List ℕ) (b : ℕ) (bs : List ℕ) (n : ℕ) (seen : List Pair) (X : List (List ℕ)) (t : Bool) → eqb b 10 ≡ t → IsHead seen tag blanks → IsFirst tag v c (b ∷ bs)
    → ((c : List ℕ) → IsFirst tag v c bs → Lands (continued ((tag ++ 58 ∷ blanks) ++ c) bs ++ X) n seen None X (seen ++ pair tag v ∷ []) (length (continued ((tag ++ 58 ∷ blanks) ++ c) bs)))
    → Lands (cond t (((tag ++ 58 ∷ blanks) ++ c ++ 92 ∷ []) ∷ continued [] bs) (continued ((tag ++ 58 ∷ blanks) ++ c ++ b ∷ []) bs) ++ X) n seen None X (seen ++ pair tag v ∷ []) (length (cond t (((tag ++ 58 ∷ blanks) ++ c ++ 92 ∷ []) ∷ continued [] bs) (continued ((tag ++ 58 ∷ blanks) ++ c ++ b ∷ []) bs)))
starts_by tag blanks v c b bs n seen X true e head h ih =
    let feed : b ≡ 10 = eqb-true b 10 e in
    let first : IsFirst tag v c (10 ∷ bs) = subst (λ (x : ℕ). IsFirst tag v c (x ∷ bs)) feed h in
    let status : bytes_eq tag (codes "status") ≡ true = feed_status tag v c bs first in
    let tag_is : tag ≡ codes "status" = (bytes_eq-Decides tag (codes "status")).0 status in
    let made : v ≡ (c ++ 10 ∷ []) ++ bs = first.made ∙ sym (append_assoc c (10 ∷ []) bs) in
    let rest : Lands (continued [] bs ++ X) (n + 1) seen (Some (c ++ 10 ∷ [])) X (seen ++ status_pair v ∷ []) (length (continued [] bs)) = goes bs v (c ++ 10 ∷ []) [] (n + 1) seen X (record { made = made; plain = refl; bytes = h.bytes; end = h.ends status }) in
    starts_feed tag blanks v c bs n seen X head status (start_front c (b ∷ bs) (ap begins_with_blank (sym h.made) ∙ h.start)) h.plain (subst (λ (x : List ℕ). Lands (continued [] bs ++ X) (n + 1) seen (Some (c ++ 10 ∷ [])) X (seen ++ pair x v ∷ []) (length (continued [] bs))) (sym tag_is) rest)
starts_by tag blanks v c b bs n seen X false e head h ih =
    let byte : is_status_byte b ≡ true = bytes_mid c b bs (ap (list_all is_status_byte) (sym h.made) ∙ h.bytes) in
    let more : IsFirst tag v (c ++ b ∷ []) bs = record {
      made = h.made ∙ sym (append_assoc c (b ∷ []) bs);
      plain = plain_append c (b ∷ []) h.plain (plain_one b (plain_of_status b byte e));
      start = h.start;
      bytes = h.bytes;
      ends = h.ends;
      one = h.one;
    } in
    subst (λ (x : List ℕ). Lands (continued x bs ++ X) n seen None X (seen ++ pair tag v ∷ []) (length (continued x bs))) (sym (append_assoc (tag ++ 58 ∷ blanks) c (b ∷ []))) (ih (c ++ b ∷ []) more)

-- the lines of a tag and its value are its pair
starts : (w tag blanks v c : List ℕ) (n : ℕ) (seen : List Pair) (X : List (List ℕ)) → IsHead seen tag blanks → IsFirst tag v c w → Lands (continued ((tag ++ 58 ∷ blanks) ++ c) w ++ X) n seen None X (seen ++ pair tag v ∷ []) (length (continued ((tag ++ 58 ∷ blanks) ++ c) w))
starts [] tag blanks v c n seen X head h = starts_end tag blanks v c n seen X head h
starts (b ∷ bs) tag blanks v c n seen X head h = starts_by tag blanks v c b bs n seen X (eqb b 10) refl head h (λ c h. starts bs tag blanks v c n seen X head h)

-- ---- pairs that are formed

-- the value of a formed pair may be read from its start, whether it is a status or not
first_by : (p : Pair) (t : Bool) → bytes_eq p.tag (codes "status") ≡ t → cond t (is_status p.value) (is_value p.value) ≡ true → IsFirst p.tag p.value [] p.value
first_by p true e h =
    let outer = and_parts (not (begins_with_blank p.value) && not (ends_with_backslash p.value)) (list_all is_status_byte p.value) h in
    let inner = and_parts (not (begins_with_blank p.value)) (not (ends_with_backslash p.value)) outer.0 in
    record {
      made = refl;
      plain = refl;
      start = not-true (begins_with_blank p.value) inner.0;
      bytes = outer.1;
      ends = λ same. not-true (ends_with_backslash p.value) inner.1;
      one = λ other. absurd (both_ways (bytes_eq p.tag (codes "status")) other e);
    }
first_by p false e h =
    let parts = and_parts (not (begins_with_blank p.value)) (is_plain p.value) h in
    record {
      made = refl;
      plain = refl;
      start = not-true (begins_with_blank p.value) parts.0;
      bytes = status_of_plain p.value parts.1;
      ends = λ same. absurd (both_ways (bytes_eq p.tag (codes "status")) e same);
      one = λ other. parts.1;
    }

-- a tag amid pairs is among them
has_tag_mid : (tag : List ℕ) (seen : List Pair) (p : Pair) (rest : List Pair) → bytes_eq p.tag tag ≡ true → has_tag tag (seen ++ p ∷ rest) ≡ true
has_tag_mid tag [] p rest e = or_left (bytes_eq p.tag tag) (has_tag tag rest) e
has_tag_mid tag (q ∷ seen) p rest e = or_right (bytes_eq q.tag tag) (has_tag tag (seen ++ p ∷ rest)) (has_tag_mid tag seen p rest e)

-- no other pair has the tag of a known one
differ : (q p : Pair) (seen rest : List Pair) → is_known p.tag ≡ true → (is_known q.tag && has_tag q.tag (seen ++ p ∷ rest)) ≡ false → bytes_eq q.tag p.tag ≡ false
differ q p seen rest known h =
    elim (cases_Bool (bytes_eq q.tag p.tag)) [
      | inl same ↦
          let tag : q.tag ≡ p.tag = (bytes_eq-Decides q.tag p.tag).0 same in
          let there : has_tag q.tag (seen ++ p ∷ rest) ≡ true = has_tag_mid q.tag seen p rest ((bytes_eq-Decides p.tag q.tag).1 (sym tag)) in
          absurd (both_ways (is_known q.tag && has_tag q.tag (seen ++ p ∷ rest)) h (and_from (is_known q.tag) (has_tag q.tag (seen ++ p ∷ rest)) (ap is_known tag ∙ known) there))
      | inr other ↦ other
    ]

-- a known tag amid pairs that come once isn't among those before
once_mid : (seen : List Pair) (p : Pair) (rest : List Pair) → is_once (seen ++ p ∷ rest) ≡ true → (is_known p.tag && has_tag p.tag seen) ≡ false
once_mid [] p rest h = and_right (is_known p.tag) false refl
once_mid (q ∷ seen) p rest h =
    let parts = and_parts (not (is_known q.tag && has_tag q.tag (seen ++ p ∷ rest))) (is_once (seen ++ p ∷ rest)) h in
    elim (cases_Bool (is_known p.tag)) [
      | inl known ↦ elim (and_cases (is_known p.tag) (has_tag p.tag seen) (once_mid seen p rest parts.1)) [
        | inl unknown ↦ and_left (is_known p.tag) _ unknown
        | inr lacking ↦ and_right (is_known p.tag) _ (or_from (bytes_eq q.tag p.tag) (has_tag p.tag seen) (differ q p seen rest known (not-true _ parts.0)) lacking)
      ]
      | inr unknown ↦ and_left (is_known p.tag) _ unknown
    ]

-- the tag and the blanks of a formed pair may stand there
head_of : (seen : List Pair) (blanks : List ℕ) (p : Pair) (rest : List Pair) → IsFormed (Stated blanks p) → is_once (seen ++ p ∷ rest) ≡ true → IsHead seen p.tag blanks
head_of seen blanks p rest h once =
    let outer = and_parts (is_tag p.tag && not (begins_with_hash p.tag)) (cond (bytes_eq p.tag (codes "status")) (is_status p.value) (is_value p.value)) h.1 in
    let inner = and_parts (is_tag p.tag) (not (begins_with_hash p.tag)) outer.0 in
    record { formed = inner.0; hash = not-true (begins_with_hash p.tag) inner.1; once = once_mid seen p rest once; blank = h.0 }

-- the value of a pair may be read from its start
pub first_of_pair : (p : Pair) → is_pair p ≡ true → IsFirst p.tag p.value [] p.value
first_of_pair p h = first_by p (bytes_eq p.tag (codes "status")) refl (and_parts (is_tag p.tag && not (begins_with_hash p.tag)) (cond (bytes_eq p.tag (codes "status")) (is_status p.value) (is_value p.value)) h).1

-- ---- entries

-- a line that is skipped is passed over
skips : (line : List ℕ) (X : List (List ℕ)) (n : ℕ) (seen : List Pair) → is_skipped line ≡ true → read_on (line ∷ X) n seen None ≡ read_on X (n + 1) seen None
unfolding read_on begin_step
skips line X n seen h = rw h refl

-- the pairs of entries are the first's and those behind
stated_first : (es : List Entry) (blanks : List ℕ) (p : Pair) → pairs (Stated blanks p ∷ es) ≡ p ∷ pairs es
stated_first es blanks p = flat_map-cons stated (Stated blanks p) es

-- no lines are read as what was seen
read_nothing : (n : ℕ) (seen : List Pair) → read_on [] n seen None ≡ Ok seen
unfolding read_on
read_nothing n seen = refl

-- behind the entries reading goes on with their pairs
pub passes : (es : List Entry) (X : List (List ℕ)) (n : ℕ) (seen : List Pair) → AllByRecursion IsFormed es → is_once (seen ++ pairs es) ≡ true → Lands (all_lines es ++ X) n seen None X (seen ++ pairs es) (length (all_lines es))
passes [] X n seen h once = record { place = n; counted = omega arith; same = ap (λ (ps : List Pair). read_on X n ps None) (sym (append-nil seen)) }
passes (Skipped line ∷ es) X n seen h once =
    let same : pairs (Skipped line ∷ es) ≡ pairs es = flat_map-cons stated (Skipped line) es in
    let rest = passes es X (n + 1) seen h.1 (ap (λ (ps : List Pair). is_once (seen ++ ps)) (sym same) ∙ once) in
    record {
      place = rest.place;
      counted = omega (arith, rest.counted);
      same = skips line (all_lines es ++ X) n seen h.0.0 ∙ rest.same ∙ ap (λ (ps : List Pair). read_on X rest.place (seen ++ ps) None) (sym same);
    }
passes (Stated blanks p ∷ es) X n seen h once =
    let split : seen ++ pairs (Stated blanks p ∷ es) ≡ (seen ++ p ∷ []) ++ pairs es = ap (λ (ps : List Pair). seen ++ ps) (stated_first es blanks p) ∙ sym (append_assoc seen (p ∷ []) (pairs es)) in
    let whole : is_once (seen ++ p ∷ pairs es) ≡ true = ap (λ (ps : List Pair). is_once (seen ++ ps)) (sym (stated_first es blanks p)) ∙ once in
    let head : (p.tag ++ 58 ∷ blanks) ++ [] ≡ p.tag ++ 58 ∷ blanks = append-nil (p.tag ++ 58 ∷ blanks) in
    let landed = starts p.value p.tag blanks p.value [] n seen (all_lines es ++ X) (head_of seen blanks p (pairs es) h.0 whole) (first_of_pair p h.0.1) in
    let rest = passes es X landed.place (seen ++ p ∷ []) h.1 (ap is_once (sym split) ∙ once) in
    let long : length (continued (p.tag ++ 58 ∷ blanks) p.value ++ all_lines es) ≡ length (continued (p.tag ++ 58 ∷ blanks) p.value) + length (all_lines es) = length-append (continued (p.tag ++ 58 ∷ blanks) p.value) (all_lines es) in
    let same_head : length (continued ((p.tag ++ 58 ∷ blanks) ++ []) p.value) ≡ length (continued (p.tag ++ 58 ∷ blanks) p.value) = ap (λ (x : List ℕ). length (continued x p.value)) head in
    record {
      place = rest.place;
      counted = omega (arith, rest.counted, landed.counted, long, same_head);
      same = ap (λ (ls : List (List ℕ)). read_on ls n seen None) (append_assoc (continued (p.tag ++ 58 ∷ blanks) p.value) (all_lines es) X)
          ∙ ap (λ (x : List ℕ). read_on (continued x p.value ++ (all_lines es ++ X)) n seen None) (sym head)
          ∙ landed.same
          ∙ rest.same
          ∙ ap (λ (ps : List Pair). read_on X rest.place ps None) (sym split);
    }

-- the lines of entries are read as their pairs
pub reads : (es : List Entry) (n : ℕ) (seen : List Pair) → AllByRecursion IsFormed es → is_once (seen ++ pairs es) ≡ true → read_on (all_lines es) n seen None ≡ Ok (seen ++ pairs es)
reads es n seen h once =
    let passed = passes es [] n seen h once in
    ap (λ (ls : List (List ℕ)). read_on ls n seen None) (sym (append-nil (all_lines es))) ∙ passed.same ∙ read_nothing passed.place (seen ++ pairs es)
