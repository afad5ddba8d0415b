-- Lists of pairs that grow at their end.
use Rattle.std.proofs.Common.{◌≡◌, ℕ, ◌<◌, ◌^◌, true, false, not, ◌&&◌, List, [], ◌∷◌, ◌++◌, refl, sym, ap, ◌∙◌, inl, inr}
use Rattle.std.specs.Prelude.{codes}
use Rattle.std.specs.Fmt.{decimal}
use Rattle.std.specs.List.{AllByRecursion}
use Rattle.std.specs.Str.{IsUtf8, bytes_eq}
use Rattle.std.proofs.lemmas.Bool.{and_parts, and_from, and_cases, and_left, and_right, or_parts, or_from, not-true, not_from_false, cases_Bool, both_ways}
use Rattle.std.proofs.lemmas.Slice.Eq.{bytes_eq-Decides}
use Rattle.std.proofs.lemmas.Fmt.{IsAscii-decimal}
use Rattle.std.proofs.lemmas.Str.{IsUtf8-from_ascii}
use Rattle.fax_value.specs.Value.{is_status, is_value}
use Rattle.fax_value.proofs.ValueLemmas.{value_of_number}
use Rattle.fax_job.specs.Pair.{Pair, pair, IsPair, begins_with_hash, has_tag, is_once, are_unknown, ArePairs}
use Rattle.fax_job.specs.Tag.{is_known, is_tag}

-- texts that test as equal are equal
bytes_eq-true : (xs ys : List ℕ) → bytes_eq xs ys ≡ true → xs ≡ ys
bytes_eq-true xs ys h = (bytes_eq-Decides xs ys).0 h

-- they test so either way round
bytes_eq-turn : (xs ys : List ℕ) → bytes_eq xs ys ≡ bytes_eq ys xs
bytes_eq-turn xs ys =
    elim (cases_Bool (bytes_eq xs ys)) [
      | inl same ↦ same ∙ sym ((bytes_eq-Decides ys xs).1 (sym (bytes_eq-true xs ys same)))
      | inr other ↦ elim (cases_Bool (bytes_eq ys xs)) [
        | inl same ↦ absurd (both_ways (bytes_eq xs ys) other ((bytes_eq-Decides xs ys).1 (sym (bytes_eq-true ys xs same))))
        | inr still ↦ other ∙ sym still
      ]
    ]

-- pairs with one more are pairs
pub each_push : (ps : List Pair) (p : Pair) → AllByRecursion IsPair ps → IsPair p → AllByRecursion IsPair (ps ++ p ∷ [])
each_push [] p each one = (one, tt)
each_push (q ∷ ps) p each one = (each.0, each_push ps p each.1 one)

-- a tag that neither the pairs nor one more has isn't among them
has_tag_push : (tag : List ℕ) (ps : List Pair) (p : Pair) → has_tag tag ps ≡ false → bytes_eq p.tag tag ≡ false → has_tag tag (ps ++ p ∷ []) ≡ false
has_tag_push tag [] p h one = or_from (bytes_eq p.tag tag) false one refl
has_tag_push tag (q ∷ ps) p h one =
    let parts = or_parts (bytes_eq q.tag tag) (has_tag tag ps) h in
    or_from (bytes_eq q.tag tag) (has_tag tag (ps ++ p ∷ [])) parts.0 (has_tag_push tag ps p parts.1 one)

-- the first pair of the list, and one more at the end
once_first : (q : Pair) (ps : List Pair) (p : Pair) → (is_known q.tag && has_tag q.tag ps) ≡ false → (is_known p.tag && has_tag p.tag (q ∷ ps)) ≡ false → (is_known q.tag && has_tag q.tag (ps ++ p ∷ [])) ≡ false
once_first q ps p here new =
    elim (and_cases (is_known q.tag) (has_tag q.tag ps) here) [
      | inl unknown ↦ and_left (is_known q.tag) _ unknown
      | inr lacks ↦ elim (cases_Bool (bytes_eq p.tag q.tag)) [
        | inl same ↦ elim (and_cases (is_known p.tag) (has_tag p.tag (q ∷ ps)) new) [
          | inl unknown ↦ and_left (is_known q.tag) _ (ap is_known (sym (bytes_eq-true p.tag q.tag same)) ∙ unknown)
          | inr lacking ↦ absurd (both_ways (bytes_eq p.tag q.tag) (bytes_eq-turn p.tag q.tag ∙ (or_parts (bytes_eq q.tag p.tag) (has_tag p.tag ps) lacking).0) same)
        ]
        | inr other ↦ and_right (is_known q.tag) _ (has_tag_push q.tag ps p lacks other)
      ]
    ]

-- what is behind the first pair holds the new one's tag no more than the list
once_rest : (q : Pair) (ps : List Pair) (p : Pair) → (is_known p.tag && has_tag p.tag (q ∷ ps)) ≡ false → (is_known p.tag && has_tag p.tag ps) ≡ false
once_rest q ps p new =
    elim (and_cases (is_known p.tag) (has_tag p.tag (q ∷ ps)) new) [
      | inl unknown ↦ and_left (is_known p.tag) _ unknown
      | inr lacking ↦ and_right (is_known p.tag) _ (or_parts (bytes_eq q.tag p.tag) (has_tag p.tag ps) lacking).1
    ]

-- where a known tag is new, each comes once with it
pub once_push : (ps : List Pair) (p : Pair) → is_once ps ≡ true → (is_known p.tag && has_tag p.tag ps) ≡ false → is_once (ps ++ p ∷ []) ≡ true
once_push [] p h new = and_from _ true (not_from_false _ (and_right (is_known p.tag) false refl)) refl
once_push (q ∷ ps) p h new =
    let parts = and_parts (not (is_known q.tag && has_tag q.tag ps)) (is_once ps) h in
    and_from _ (is_once (ps ++ p ∷ [])) (not_from_false _ (once_first q ps p (not-true _ parts.0) new)) (once_push ps p parts.1 (once_rest q ps p new))

-- so the list with it is one
pub ArePairs-push : (ps : List Pair) (p : Pair) → ArePairs ps → IsPair p → (is_known p.tag && has_tag p.tag ps) ≡ false → ArePairs (ps ++ p ∷ [])
ArePairs-push ps p h one new = record { each = each_push ps p h.each one; once = once_push ps p h.once new }

-- ---- known tags before others

-- pairs and pairs behind them are pairs
pub each_append : (ps qs : List Pair) → AllByRecursion IsPair ps → AllByRecursion IsPair qs → AllByRecursion IsPair (ps ++ qs)
each_append [] qs p q = q
each_append (x ∷ ps) qs p q = (p.0, each_append ps qs p.1 q)

-- a tag that neither list has isn't among both
has_tag_append : (tag : List ℕ) (ps qs : List Pair) → has_tag tag ps ≡ false → has_tag tag qs ≡ false → has_tag tag (ps ++ qs) ≡ false
has_tag_append tag [] qs p q = q
has_tag_append tag (x ∷ ps) qs p q =
    let parts = or_parts (bytes_eq x.tag tag) (has_tag tag ps) p in
    or_from (bytes_eq x.tag tag) (has_tag tag (ps ++ qs)) parts.0 (has_tag_append tag ps qs parts.1 q)

-- a tag that is known isn't one that isn't
other_tag : (known other : List ℕ) → is_known known ≡ true → is_known other ≡ false → bytes_eq other known ≡ false
other_tag known other k o =
    elim (cases_Bool (bytes_eq other known)) [
      | inl same ↦ absurd (both_ways (is_known known) (ap is_known (sym (bytes_eq-true other known same)) ∙ o) k)
      | inr differ ↦ differ
    ]

-- lines without a known tag don't have this known one
lacks_known : (tag : List ℕ) (qs : List Pair) → is_known tag ≡ true → are_unknown qs ≡ true → has_tag tag qs ≡ false
lacks_known tag [] k u = refl
lacks_known tag (q ∷ qs) k u =
    let parts = and_parts (not (is_known q.tag)) (are_unknown qs) u in
    or_from (bytes_eq q.tag tag) (has_tag tag qs) (other_tag tag q.tag k (not-true (is_known q.tag) parts.0)) (lacks_known tag qs k parts.1)

-- a known tag that the first list lacks, both lack, where the second has none that is known
first_once : (p : Pair) (ps qs : List Pair) → (is_known p.tag && has_tag p.tag ps) ≡ false → are_unknown qs ≡ true → (is_known p.tag && has_tag p.tag (ps ++ qs)) ≡ false
first_once p ps qs h u =
    elim (and_cases (is_known p.tag) (has_tag p.tag ps) h) [
      | inl unknown ↦ and_left (is_known p.tag) _ unknown
      | inr lacking ↦ elim (cases_Bool (is_known p.tag)) [
        | inl known ↦ and_right (is_known p.tag) _ (has_tag_append p.tag ps qs lacking (lacks_known p.tag qs known u))
        | inr unknown ↦ and_left (is_known p.tag) _ unknown
      ]
    ]

-- so known lines and others behind them come once each
pub once_append : (ps qs : List Pair) → is_once ps ≡ true → is_once qs ≡ true → are_unknown qs ≡ true → is_once (ps ++ qs) ≡ true
once_append [] qs p q u = q
once_append (x ∷ ps) qs p q u =
    let parts = and_parts (not (is_known x.tag && has_tag x.tag ps)) (is_once ps) p in
    and_from _ (is_once (ps ++ qs)) (not_from_false _ (first_once x ps qs (not-true _ parts.0) u)) (once_append ps qs parts.1 q u)

-- ---- a tag with its value

-- a tag with a value, and no status, is a pair
pub pair_of_value : (tag value : List ℕ) → is_tag tag ≡ true → begins_with_hash tag ≡ false → bytes_eq tag (codes "status") ≡ false → is_value value ≡ true → IsUtf8 value → IsPair (pair tag value)
pair_of_value tag value formed hash other h utf8 = record {
  formed = and_from (is_tag tag && not (begins_with_hash tag)) _ (and_from (is_tag tag) (not (begins_with_hash tag)) formed (not_from_false (begins_with_hash tag) hash)) (rw other h);
  utf8 = utf8;
}

-- so is one with a number
pub pair_of_number : (tag : List ℕ) (n : ℕ) → is_tag tag ≡ true → begins_with_hash tag ≡ false → bytes_eq tag (codes "status") ≡ false → n < 2 ^ 64 → IsPair (pair tag (decimal n))
pair_of_number tag n formed hash other small = pair_of_value tag (decimal n) formed hash other (value_of_number n small) (IsUtf8-from_ascii (decimal n) (IsAscii-decimal n small))

-- a status is a pair
pub pair_of_state : (value : List ℕ) → is_status value ≡ true → IsUtf8 value → IsPair (pair (codes "status") value)
pair_of_state value h utf8 = record { formed = h; utf8 = utf8 }
