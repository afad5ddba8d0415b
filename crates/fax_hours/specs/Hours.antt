-- Hours of the week: the items that a text names, and the set of (day, minute) that is their union.
use Rattle.std.specs.Prelude.{◌≡◌, ℕ, ◌<◌, Bool, ◌==◌, List, [], ◌∷◌, fold, map, replicate, slice_index, Option, Some, None, Result, Ok, Err, if◌then◌else◌}
use Rattle.std.specs.Int.Bits.{bit_or}
use Rattle.std.specs.List.{list_any, range_with_len}
use Rattle.fax_value.specs.Comma.{parts_of}
use Rattle.fax_hours.specs.Item.{item_of, covers, has_day}
use Rattle.fax_hours.specs.Range.{has_minute}
use Rattle.fax_hours.specs.declared.hours.HoursFault.{HoursFault}
use Rattle.fax_hours.specs.declared.item.Item.{Item}

-- ---- the items

abbrev pub then_items : Result Item HoursFault → Result (List Item) HoursFault → Result (List Item) HoursFault
then_items (Ok item) (Ok items) = Ok (item ∷ items)
then_items (Ok item) (Err fault) = Err fault
then_items (Err fault) items = Err fault

-- the first fault is told
abbrev pub items_in : List (List ℕ) → Result (List Item) HoursFault
items_in [] = Ok []
items_in (part ∷ parts) = then_items (item_of part) (items_in parts)

unfoldable pub items_of : List ℕ → Result (List Item) HoursFault
items_of text = items_in (parts_of text)

-- ---- the set

-- items name the union of what they cover
abbrev pub names : List Item → ℕ → ℕ → Bool
names items day minute = list_any (covers day minute) items

-- ---- the set as one set of days for each minute of the day

abbrev pub is_in : List ℕ → ℕ → ℕ → Bool
is_in week day minute = has_day (slice_index week minute) day

-- with the days of an item that has the minute
abbrev pub with_days : ℕ → ℕ → Item → ℕ
with_days minute days item = if has_minute item.range minute then bit_or days item.days else days

abbrev pub days_at : List Item → ℕ → ℕ
days_at items minute = fold (with_days minute) 0 items

unfoldable pub week_of : List Item → List ℕ
week_of items = map (days_at items) (range_with_len 0 1440)

unfoldable pub every_hour : List ℕ
every_hour = replicate 1440 127

abbrev pub week_in : Result (List Item) HoursFault → Result (List ℕ) HoursFault
week_in (Ok items) = Ok (week_of items)
week_in (Err fault) = Err fault

-- the week that a text names, or its first fault
unfoldable pub hours_of : List ℕ → Result (List ℕ) HoursFault
hours_of text = week_in (items_of text)

-- the text's items name exactly the minutes of the week
pub record IsNamedBy (text : List ℕ) (week : List ℕ) : Type 0 where
  pub items : List Item
  pub read : items_of text ≡ Ok items
  pub same : (day minute : ℕ) → day < 7 → minute < 1440 → is_in week day minute ≡ names items day minute
