-- Items of hours: days, and a range of minutes on each of them.
use Rattle.std.specs.Prelude.{ℕ, Bool, ◌==◌, ◌&&◌, List, length, take, drop, Option, Some, None, Result, Ok, Err, if◌then◌else◌}
use Rattle.std.specs.Char.{is_ascii_alphabetic}
use Rattle.std.specs.List.{prefix_len}
use Rattle.std.specs.Int.{bit_at}
use Rattle.fax_value.specs.Blank.{trimmed}
use Rattle.fax_hours.specs.Days.{days_of}
use Rattle.fax_hours.specs.Range.{range_of, has_minute}
use Rattle.fax_hours.specs.declared.hours.HoursFault.{HoursFault}
use Rattle.fax_hours.specs.declared.hours.HoursFault.TheVariants.{Empty, Day, Range as BadRange}
use Rattle.fax_hours.specs.declared.item.Item.{Item}
use Rattle.fax_hours.specs.declared.range.Range.{Range}

-- a day is among those of a set
abbrev pub has_day : ℕ → ℕ → Bool
has_day days day = bit_at days day == 1

-- the range over midnight is one on the same named day, too
abbrev pub covers : ℕ → ℕ → Item → Bool
covers day minute item = has_day item.days day && has_minute item.range minute

-- ---- from texts

-- how many letters a text begins with
abbrev pub letter_count : List ℕ → ℕ
letter_count text = prefix_len is_ascii_alphabetic text

abbrev pub whole_day : Range
whole_day = record { start = 0; end = 1440 }

unfoldable pub range_or_all : List ℕ → Option Range
range_or_all text = if length text == 0 then Some whole_day else range_of text

abbrev pub item_with : ℕ → Option Range → Result Item HoursFault
item_with days None = Err BadRange
item_with days (Some range) = Ok (record { days = days; range = range })

abbrev pub on_days : Option ℕ → Option Range → Result Item HoursFault
on_days None range = Err Day
on_days (Some days) range = item_with days range

-- days, and a range behind them
abbrev pub item_from : List ℕ → Result Item HoursFault
item_from text =
    if length text == 0 then Err Empty
    else on_days (days_of (take (letter_count text) text)) (range_or_all (drop (letter_count text) text))

unfoldable pub item_of : List ℕ → Result Item HoursFault
item_of text = item_from (trimmed text)
