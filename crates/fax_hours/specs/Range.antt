-- Ranges of the minutes of a day.
use Rattle.std.specs.Prelude.{ℕ, ◌+◌, ◌*◌, Bool, ◌==◌, ◌&&◌, ◌||◌, nat_lt, nat_le, List, length, take, drop, slice_index, codes, Option, Some, None, option_and_then, if◌then◌else◌}
use Rattle.std.specs.Option.{option_map}
use Rattle.std.specs.Str.{bytes_eq}
use Rattle.fax_value.specs.Number.{number_of}
use Rattle.fax_hours.specs.declared.range.Range.{Range}

-- the start is in, the end is out; a start that isn't before the end goes over midnight
abbrev pub has_minute : Range → ℕ → Bool
has_minute range minute =
    if nat_lt range.start range.end then nat_le range.start minute && nat_lt minute range.end
    else nat_le range.start minute || nat_lt minute range.end

-- 00 to 23 and 00 to 59
abbrev pub minute_at : ℕ → ℕ → Option ℕ
minute_at hour minute = if nat_le hour 23 && nat_le minute 59 then Some (hour * 60 + minute) else None

-- the minute of the day that `hhmm` writes
unfoldable pub minute_of : List ℕ → Option ℕ
minute_of text = option_and_then (λ hour. option_and_then (λ minute. minute_at hour minute) (number_of (drop 2 text))) (number_of (take 2 text))

-- a range may end at 2400
unfoldable pub end_of : List ℕ → Option ℕ
end_of text = if bytes_eq text (codes "2400") then Some 1440 else minute_of text

abbrev pub between : Option ℕ → Option ℕ → Option Range
between start end = option_and_then (λ s. option_map (λ e. record { start = s; end = e }) end) start

-- `hhmm-hhmm`
unfoldable pub range_of : List ℕ → Option Range
range_of text =
    if (length text == 9) && (slice_index text 4 == 45) then between (minute_of (take 4 text)) (end_of (drop 5 text))
    else None
