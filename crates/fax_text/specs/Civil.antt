-- What a clock shows, as a function of the zone and the moment. A day's number is 0 for the first of
-- January 1970, and negative before it.
use Rattle.std.specs.Prelude.{ℕ, ◌/◌, ◌%◌, Bool, List, ℤ, pos, map, unsigned_abs, unwrap_or}
use Rattle.std.specs.Int.{int_div_euclid, int_rem_euclid}
use Rattle.std.specs.List.{find, flat_map, range_with_len}
use Rattle.std.specs.Ordering.{int_eq}
use Rattle.jiff.specs.Types.{TimeZone}
use Rattle.jiff_core.specs.Calendar.{days_from_civil, days_in_month}
use Rattle.fax_hours.specs.Zone.{shown_seconds}
use Rattle.fax_hours.specs.declared.zone.Civil.{Civil}

-- a date, at midnight
abbrev pub date : ℕ → ℕ → ℕ → Civil
date year month day = record { year = pos year; month = month; day = day; hour = 0; minute = 0 }

abbrev pub dates_of_month : ℕ → ℕ → List Civil
dates_of_month year month = map (date year month) (range_with_len 1 (days_in_month (pos year) month))

abbrev pub dates_of_year : ℕ → List Civil
dates_of_year year = flat_map (dates_of_month year) (range_with_len 1 12)

-- the dates of so many years from the first one on
unfoldable pub dates : ℕ → ℕ → List Civil
dates first years = flat_map dates_of_year (range_with_len first years)

-- it is the date of the day with this number
abbrev pub has_number : ℤ → Civil → Bool
has_number number civil = int_eq (days_from_civil civil.year civil.month civil.day) number

-- the date of the day with this number, in the years 1969 to 9999
abbrev pub date_of : ℤ → Civil
date_of number = unwrap_or (find (has_number number) (dates 1969 8031)) (date 1970 1 1)

-- of seconds on a clock: the whole days, and the hours and minutes of the seconds that are left
abbrev pub civil_of : ℤ → Civil
civil_of shown =
    record (date_of (int_div_euclid shown (pos 86400))) {
      hour = unsigned_abs (int_rem_euclid shown (pos 86400)) / 3600;
      minute = unsigned_abs (int_rem_euclid shown (pos 86400)) / 60 % 60;
    }

-- what a clock in the zone shows at a moment
unfoldable pub civil_at : TimeZone → ℕ → Civil
civil_at zone seconds = civil_of (shown_seconds zone seconds)
