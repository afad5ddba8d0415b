-- Texts that grow at their end, and the lines at their places.
use Rattle.std.proofs.Common.{◌≡◌, ℕ, ◌-◌, ◌≤◌, List, [], ◌∷◌, ◌++◌, take, drop, length, refl, ap, ◌∙◌, append_assoc, arith, length-append, length-drop}
use Rattle.std.specs.Prelude.{slice_range}
use Rattle.std.specs.Str.{IsUtf8, IsCharBoundary}
use Rattle.std.proofs.Math.Seq.{take-append_seam, drop-append_seam}
use Rattle.std.proofs.lemmas.List.{take-append-le, drop-append-le, map_push, append-nil}
use Rattle.std.proofs.lemmas.Str.{IsUtf8-append, IsUtf8-take, IsCharBoundary-from_take, IsCharBoundary-at_seam, IsCharBoundary-end}
use Rattle.fax_job.specs.declared.line_text.Place.{Place}
use Rattle.fax_job.specs.LineText.{pair_at, IsPlace, ArePlaces, pairs_at, Keeps}
use Rattle.fax_job.specs.Pair.{Pair, pair}

-- ---- a text that grows

-- a character's boundary is one with more behind the text
boundary_kept : (text more : List ℕ) (i : ℕ) → IsUtf8 text → IsUtf8 more → IsCharBoundary text i → IsCharBoundary (text ++ more) i
boundary_kept text more i utf8 other cut =
    let within : i ≤ length text = cut.0 in
    let front : take i (text ++ more) ≡ take i text = take-append-le i text more within in
    IsCharBoundary-from_take (text ++ more) i (IsUtf8-append text more utf8 other) (omega (arith, length-append text more)) (rw front (IsUtf8-take text i utf8 cut))

-- a range of a text is the same with more behind
range_kept : (text more : List ℕ) (i j : ℕ) → i ≤ j → j ≤ length text → slice_range (text ++ more) i j ≡ slice_range text i j
range_kept text more i j first last =
    ap (take (j - i)) (drop-append-le i text more (omega arith)) ∙ take-append-le (j - i) (drop i text) more (omega (arith, length-drop i text))

-- a place in a text is one with more behind
place_kept : (text more : List ℕ) → IsUtf8 text → IsUtf8 more → (place : Place) → IsPlace text place → IsPlace (text ++ more) place
place_kept text more utf8 other place h = record {
  tag_first = h.tag_first;
  end_last = h.end_last;
  tag = boundary_kept text more place.tag utf8 other h.tag;
  value = boundary_kept text more place.value utf8 other h.value;
  end = boundary_kept text more place.end utf8 other h.end;
}

-- the pair in a place is the same with more behind
pair_kept : (text more : List ℕ) (place : Place) → IsPlace text place → pair_at (text ++ more) place ≡ pair_at text place
pair_kept text more place h =
    let tag = range_kept text more place.tag place.value h.tag_first (h.value.0) in
    let value = range_kept text more place.value place.end h.end_last (h.end.0) in
    ap (λ t. pair t (slice_range (text ++ more) place.value place.end)) tag ∙ ap (pair (slice_range text place.tag place.value)) value

-- a text keeps its places with more behind
Keeps-append : (text more : List ℕ) → IsUtf8 text → IsUtf8 more → Keeps text (text ++ more)
Keeps-append text more utf8 other = record { place = place_kept text more utf8 other; pair = pair_kept text more }

-- the same of a text that grew by more
pub Keeps-grown : (old new more : List ℕ) → IsUtf8 old → IsUtf8 more → new ≡ old ++ more → Keeps old new
Keeps-grown old new more utf8 other grown = rw grown (Keeps-append old more utf8 other)

-- what keeps the places twice keeps them
Keeps-then : (a b c : List ℕ) → Keeps a b → Keeps b c → Keeps a c
Keeps-then a b c first second = record {
  place = λ place h. second.place place (first.place place h);
  pair = λ place h. second.pair place (first.place place h) ∙ first.pair place h;
}

-- a text that grew by a tag and then a value keeps its places
pub Keeps-grown_twice : (old middle new tag value : List ℕ) → IsUtf8 old → IsUtf8 tag → IsUtf8 middle → IsUtf8 value → middle ≡ old ++ tag → new ≡ middle ++ value → Keeps old new
Keeps-grown_twice old middle new tag value old_utf8 tag_utf8 middle_utf8 value_utf8 first second =
    Keeps-then old middle new (Keeps-grown old middle tag old_utf8 tag_utf8 first) (Keeps-grown middle new value middle_utf8 value_utf8 second)

-- ---- what is written at the end

-- the range between two seams is what was put there
range_seam : (xs ys zs : List ℕ) → slice_range (xs ++ (ys ++ zs)) (length xs) (length (xs ++ ys)) ≡ ys
range_seam xs ys zs =
    let count : length (xs ++ ys) - length xs ≡ length ys = omega (arith, length-append xs ys) in
    ap (take (length (xs ++ ys) - length xs)) (drop-append_seam xs (ys ++ zs)) ∙ ap (λ n. take n (ys ++ zs)) count ∙ take-append_seam ys zs

-- the range behind a seam is what was put there
range_end : (xs ys : List ℕ) → slice_range (xs ++ ys) (length xs) (length (xs ++ ys)) ≡ ys
range_end xs ys = rw append-nil at (range_seam xs ys [])

-- the place of a tag and a value behind a text
pub IsPlace-written : (text tag value : List ℕ) (place : Place) → IsUtf8 tag → IsUtf8 value → place.tag ≡ length text → place.value ≡ length (text ++ tag) → place.end ≡ length (text ++ tag ++ value) → IsPlace (text ++ tag ++ value) place
IsPlace-written text tag value place tag_utf8 value_utf8 at_tag at_value at_end = record {
  tag_first = omega (arith, length-append text tag);
  end_last = omega (arith, length-append (text ++ tag) value);
  tag = rw at_tag (IsCharBoundary-at_seam (text ++ tag ++ value) text (tag ++ value) (append_assoc text tag value) (IsUtf8-append tag value tag_utf8 value_utf8));
  value = rw at_value (IsCharBoundary-at_seam (text ++ tag ++ value) (text ++ tag) value refl value_utf8);
  end = rw at_end (IsCharBoundary-end (text ++ tag ++ value));
}

-- the pair in that place is the tag and the value
pub pair_at-written : (text tag value : List ℕ) (place : Place) → place.tag ≡ length text → place.value ≡ length (text ++ tag) → place.end ≡ length (text ++ tag ++ value) → pair_at (text ++ tag ++ value) place ≡ pair tag value
pair_at-written text tag value place at_tag at_value at_end =
    let first : slice_range (text ++ tag ++ value) place.tag place.value ≡ tag = rw (at_tag, at_value, append_assoc) (range_seam text tag value) in
    let second : slice_range (text ++ tag ++ value) place.value place.end ≡ value = rw (at_value, at_end) (range_end (text ++ tag) value) in
    ap (λ t. pair t (slice_range (text ++ tag ++ value) place.value place.end)) first ∙ ap (pair tag) second

-- ---- all places

-- places that are kept are places
pub places_kept : (old new : List ℕ) (places : List Place) → Keeps old new → ArePlaces old places → ArePlaces new places
places_kept old new [] kept h = tt
places_kept old new (place ∷ places) kept h = (kept.place place h.0, places_kept old new places kept h.1)

-- and have the same pairs
pub pairs_kept : (old new : List ℕ) (places : List Place) → Keeps old new → ArePlaces old places → pairs_at new places ≡ pairs_at old places
pairs_kept old new [] kept h = refl
pairs_kept old new (place ∷ places) kept h =
    ap (λ p. p ∷ pairs_at new places) (kept.pair place h.0) ∙ ap (λ ps. pair_at old place ∷ ps) (pairs_kept old new places kept h.1)

-- places with one more are places
places_push : (text : List ℕ) (places : List Place) (place : Place) → ArePlaces text places → IsPlace text place → ArePlaces text (places ++ place ∷ [])
places_push text [] place h one = (one, tt)
places_push text (first ∷ places) place h one = (h.0, places_push text places place h.1 one)

-- so they are in a text that grew
pub places_more : (old new : List ℕ) (places : List Place) (place : Place) → Keeps old new → ArePlaces old places → IsPlace new place → ArePlaces new (places ++ place ∷ [])
places_more old new places place kept h one = places_push new places place (places_kept old new places kept h) one

-- and its pair comes behind theirs
pub pairs_more : (old new : List ℕ) (places : List Place) (place : Place) (p : Pair) → Keeps old new → ArePlaces old places → pair_at new place ≡ p → pairs_at new (places ++ place ∷ []) ≡ pairs_at old places ++ p ∷ []
pairs_more old new places place p kept h one =
    map_push (pair_at new) places place ∙ ap (λ ps. ps ++ pair_at new place ∷ []) (pairs_kept old new places kept h) ∙ ap (λ q. pairs_at old places ++ q ∷ []) one
