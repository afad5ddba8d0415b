-- Hours as they are read item by item.
use Rattle.std.proofs.Math.Bool.{or_assoc, or-false, and-true, and-false}
use Rattle.std.specs.Int.{bit_at}
use Rattle.std.specs.Int.Bits.{bit_or}
use Rattle.std.proofs.lemmas.Bool.{cases_Bool}
use Rattle.std.proofs.Common.{◌-◌, take, drop, inl, inr, ◌≤◌, ◌&&◌, ◌≡◌, ℕ, ◌<◌, ◌+◌, List, [], ◌∷◌, Option, Some, None, Result, Ok, Err, Bool, true, false, cond, length, get_or, map, fold, replicate, refl, sym, ap, ◌∙◌, arith, ◌||◌, eqb, max}
use Rattle.std.proofs.lemmas.Grind.{same_number_lists}
use Rattle.std.proofs.lemmas.List.{get_or-replicate, length-replicate}
use Rattle.std.proofs.lemmas.List.FromFn.{get_or-map-range_with_len, length-map-range_with_len}
use Rattle.std.proofs.lemmas.Nat.Bits.{bit_at_or, bit_at-zero, bit_at-lt, bit_at_ones}
use Rattle.std.specs.List.{range_with_len, list_any}
use Rattle.fax_value.specs.Comma.{parts_of, parts_left}
use Rattle.fax_hours.specs.Item.{item_of, has_day, covers}
use Rattle.fax_hours.specs.Range.{has_minute}
use Rattle.fax_hours.specs.Hours.{then_items, items_in, items_of, names, is_in, with_days, days_at, week_of, week_in, hours_of, IsNamedBy}
use Rattle.fax_hours.specs.declared.hours.HoursFault.{HoursFault}
use Rattle.fax_hours.specs.declared.item.Item.{Item}

-- the week that items make of a week
unfoldable pub week_from : List ℕ → List Item → List ℕ
week_from week items = map (λ minute. fold (with_days minute) (get_or week minute 0) items) (range_with_len 0 1440)

abbrev pub from : List ℕ → Result (List Item) HoursFault → Result (List ℕ) HoursFault
from week (Ok items) = Ok (week_from week items)
from week (Err fault) = Err fault

-- a week has 1440 minutes, whatever items it is made of
length-week_from : (week : List ℕ) (items : List Item) → length (week_from week items) ≡ 1440
unfolding week_from
length-week_from week items = length-map-range_with_len (λ minute. fold (with_days minute) (get_or week minute 0) items) 0 1440

-- each minute of it has the days that the items add to those before
get_or-week_from : (week : List ℕ) (items : List Item) (minute : ℕ) → minute < 1440 → get_or (week_from week items) minute 0 ≡ fold (with_days minute) (get_or week minute 0) items
unfolding week_from
get_or-week_from week items minute h = get_or-map-range_with_len (λ m. fold (with_days m) (get_or week m 0) items) 0 1440 minute minute 0 h (omega arith)

abbrev SameResult : Result (List ℕ) HoursFault → Result (List ℕ) HoursFault → Type 0
SameResult a b = a ≡ b

-- what is read as one week is read as that alone
same_ok : (a b : List ℕ) → SameResult (Ok a) (Ok b) → a ≡ b
same_ok a b e = cc

-- no items leave the week
pub week_from_none : (week : List ℕ) → length week ≡ 1440 → week_from week [] ≡ week
week_from_none week size =
    same_number_lists _ _ (length-week_from week [] ∙ sym size) (λ minute h. get_or-week_from week [] minute (omega (arith, length-week_from week [])))

-- an item and then others
pub week_from_more : (old new : List ℕ) (item : Item) (items : List Item) → ((minute : ℕ) → minute < 1440 → get_or new minute 0 ≡ with_days minute (get_or old minute 0) item) → week_from new items ≡ week_from old (item ∷ items)
week_from_more old new item items added =
    same_number_lists _ _ (length-week_from new items ∙ sym (length-week_from old (item ∷ items)))
    (λ minute h. let small : minute < 1440 = omega (arith, length-week_from new items) in
    get_or-week_from new items minute small ∙ ap (λ days. fold (with_days minute) days items) (added minute small) ∙ sym (get_or-week_from old (item ∷ items) minute small))

-- with no days at first it is the items' week
pub week_from_never : (items : List Item) → week_from (replicate 1440 0) items ≡ week_of items
unfolding week_of
week_from_never items =
    same_number_lists _ _ (length-week_from (replicate 1440 0) items ∙ sym (length-map-range_with_len (days_at items) 0 1440))
    (λ minute h. let small : minute < 1440 = omega (arith, length-week_from (replicate 1440 0) items) in
    get_or-week_from (replicate 1440 0) items minute small ∙ ap (λ days. fold (with_days minute) days items) (get_or-replicate 1440 minute 0 0 small) ∙ sym (get_or-map-range_with_len (days_at items) 0 1440 minute minute 0 small (omega arith)))

-- ---- the union

-- of two that are 0 or 1 the greater is 1 where either is
one_of_two : (a b : ℕ) → a < 2 → b < 2 → eqb (max a b) 1 ≡ (eqb a 1 || eqb b 1)
one_of_two a b h k = grind arith

-- a day is in the union where it is in either
has_day-or : (a b day : ℕ) → has_day (bit_or a b) day ≡ (has_day a day || has_day b day)
has_day-or a b day = ap (λ bit. eqb bit 1) (bit_at_or a b day) ∙ one_of_two (bit_at a day) (bit_at b day) (bit_at-lt a day) (bit_at-lt b day)

-- the same where the union is made in the range alone
with_days_case : (a b day : ℕ) (in_range : Bool) → has_day (cond in_range (bit_or a b) a) day ≡ (has_day a day || (has_day b day && in_range))
with_days_case a b day true = has_day-or a b day ∙ ap (λ c. has_day a day || c) (sym (and-true (has_day b day)))
with_days_case a b day false = sym (or-false (has_day a day)) ∙ ap (λ c. has_day a day || c) (sym (and-false (has_day b day)))

-- a day is in with an item where it was in or the item covers it
has_day-with_days : (day minute days : ℕ) (item : Item) → has_day (with_days minute days item) day ≡ (has_day days day || covers day minute item)
has_day-with_days day minute days item = with_days_case days item.days day (has_minute item.range minute)

-- a day is in with items where it was in or one of them covers it
has_day-fold : (day minute days : ℕ) (items : List Item) → has_day (fold (with_days minute) days items) day ≡ (has_day days day || list_any (covers day minute) items)
has_day-fold day minute days [] = sym (or-false (has_day days day))
has_day-fold day minute days (item ∷ items) =
    has_day-fold day minute (with_days minute days item) items
    ∙ ap (λ b. b || list_any (covers day minute) items) (has_day-with_days day minute days item)
    ∙ or_assoc (has_day days day) (covers day minute item) (list_any (covers day minute) items)

-- a day is in at a minute just where an item covers it
pub is_in-week_of : (items : List Item) (day minute : ℕ) → minute < 1440 → is_in (week_of items) day minute ≡ names items day minute
unfolding week_of
is_in-week_of items day minute h =
    ap (λ days. has_day days day) (get_or-map-range_with_len (days_at items) 0 1440 minute minute 0 h (omega arith))
    ∙ has_day-fold day minute 0 items
    ∙ ap (λ bit. eqb bit 1 || list_any (covers day minute) items) (bit_at-zero day)

-- ---- every hour

-- where each minute has all days, each day is in at each minute
pub is_in-every_hour : (week : List ℕ) (day minute : ℕ) → week ≡ replicate 1440 127 → day < 7 → minute < 1440 → is_in week day minute ≡ true
is_in-every_hour week day minute e d m =
    ap (λ w. has_day (get_or w minute 0) day) e
    ∙ ap (λ days. has_day days day) (get_or-replicate 1440 minute 127 0 m)
    ∙ ap (λ bit. eqb bit 1) (bit_at_ones 7 day d)

-- ---- reading

-- what a text names, as far as it is read
pub hours_of-from_never : (week text : List ℕ) → week ≡ replicate 1440 0 → hours_of text ≡ from week (items_in (parts_of text))
unfolding hours_of items_of
hours_of-from_never week text e = go (items_in (parts_of text))
  where
    go : (items : Result (List Item) HoursFault) → week_in items ≡ from week items
    go (Ok items) = ap (λ w. Ok w) (sym (week_from_never items) ∙ ap (λ w. week_from w items) (sym e))
    go (Err fault) = refl

-- an item that was read adds to the week, and then those behind it do
pub from-then_items : (old new : List ℕ) (item : Item) (items : Result (List Item) HoursFault) → ((minute : ℕ) → minute < 1440 → get_or new minute 0 ≡ with_days minute (get_or old minute 0) item) → from old (then_items (Ok item) items) ≡ from new items
from-then_items old new item (Ok items) added = ap (λ w. Ok w) (sym (week_from_more old new item items added))
from-then_items old new item (Err fault) added = refl

-- the items' week is theirs
pub IsNamedBy-hours_of : (text week : List ℕ) → Ok week ≡ hours_of text → IsNamedBy text week
unfolding hours_of
IsNamedBy-hours_of text week e = go (items_of text) refl e
  where
    go : (items : Result (List Item) HoursFault) → items_of text ≡ items → Ok week ≡ week_in items → IsNamedBy text week
    go (Ok items) is e' = record {
      items = items;
      read = is;
      same = λ day minute d m. ap (λ w. is_in w day minute) (same_ok week (week_of items) e') ∙ is_in-week_of items day minute m;
    }
    go (Err fault) is e' = absurd (cc)

-- with the invariant of the loop: the parts that are left add to the week
abbrev pub IsReadTo : List ℕ → List ℕ → Option (List ℕ) → Type 0
IsReadTo text week rest = (hours_of text ≡ from week (items_in (parts_left rest))) × (length week ≡ 1440)

-- nothing was read yet
pub read_first : (text part week : List ℕ) → week ≡ replicate 1440 0 → part ≡ text → IsReadTo text week (Some part)
read_first text part week e same =
    (hours_of-from_never week text e ∙ ap (λ t. from week (items_in (parts_of t))) (sym same), ap length e ∙ length-replicate {A = ℕ} 1440 0)

-- one item more was read, and added to the week
pub read_more : (text old new part : List ℕ) (rest after : Option (List ℕ)) (parts : List ℕ) (item : Item) → IsReadTo text old rest → rest ≡ Some parts → parts_of parts ≡ part ∷ parts_left after → Ok item ≡ item_of part → ((minute : ℕ) → minute < 1440 → get_or new minute 0 ≡ with_days minute (get_or old minute 0) item) → length new ≡ 1440 → IsReadTo text new after
read_more text old new part rest after parts item read left cut is added size = (
  read.0 ∙ ap (λ o. from old (items_in (parts_left o))) left ∙ ap (λ ps. from old (items_in ps)) cut
      ∙ ap (λ i. from old (then_items i (items_in (parts_left after)))) (sym is) ∙ from-then_items old new item (items_in (parts_left after)) added,
  size,
)

-- where an item has a fault, the text has it
pub read_fault : (text old part : List ℕ) (rest after : Option (List ℕ)) (parts : List ℕ) (fault : HoursFault) → IsReadTo text old rest → rest ≡ Some parts → parts_of parts ≡ part ∷ parts_left after → Err fault ≡ item_of part → Err fault ≡ hours_of text
read_fault text old part rest after parts fault read left cut is =
    sym (read.0 ∙ ap (λ o. from old (items_in (parts_left o))) left ∙ ap (λ ps. from old (items_in ps)) cut
    ∙ ap (λ i. from old (then_items i (items_in (parts_left after)))) (sym is))

-- where nothing is left, the text names the week
pub read_last : (text week : List ℕ) (rest : Option (List ℕ)) → IsReadTo text week rest → rest ≡ None → Ok week ≡ hours_of text
read_last text week rest read left =
    ap (λ w. Ok w) (sym (week_from_none week read.1)) ∙ sym (read.0 ∙ ap (λ o. from week (items_in (parts_left o))) left)
