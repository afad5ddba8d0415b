-- What a clock shows in a time zone. An instant, and what a clock shows then, are numbers of seconds
-- since the first of January 1970.
use Rattle.std.specs.Prelude.{◌≡◌, ℕ, ◌+◌, ◌*◌, ◌/◌, ◌%◌, ◌<◌, List, ℤ, pos, ◌+ℤ◌, unsigned_abs}
use Rattle.std.specs.Int.{int_div_euclid, int_rem_euclid}
use Rattle.jiff.specs.Placed.{IsPosixZone}
use Rattle.jiff.specs.Types.{DateTime, TimeZone}
use Rattle.jiff.specs.Words.{civil_nanos, offset_at, nanos_of_seconds, IsTimestampNanos, weekday_of}
use Rattle.fax_hours.specs.declared.zone.Civil.{Civil}

-- the zone is the rule that the text writes
abbrev pub IsZoneOf : List ℕ → TimeZone → Type 0
IsZoneOf text zone = IsPosixZone text zone

-- `jiff` has the instant
abbrev pub CanBeShown : ℕ → Type 0
CanBeShown seconds = IsTimestampNanos (nanos_of_seconds (pos seconds))

-- `jiff`'s offset of the zone at the instant
abbrev pub offset : TimeZone → ℕ → ℤ
offset zone seconds = offset_at zone (nanos_of_seconds (pos seconds))

-- the date and time are as far from 1970 as the instant and the zone's offset say
pub record IsShown (zone : TimeZone) (seconds : ℕ) (shown : DateTime) : Type 0 where
  pub nanos : civil_nanos shown ≡ nanos_of_seconds (pos seconds) +ℤ nanos_of_seconds (offset zone seconds)

-- they have these parts
pub record IsCivil (zone : TimeZone) (seconds : ℕ) (civil : Civil) : Type 0 where
  pub shown : DateTime
  pub is : IsShown zone seconds shown
  pub year : civil.year ≡ shown.date.year
  pub month : civil.month ≡ shown.date.month
  pub day : civil.day ≡ shown.date.day
  pub hour : civil.hour ≡ shown.time.hour
  pub minute : civil.minute ≡ shown.time.minute

abbrev pub WeekMinute : Type 0
WeekMinute = ℕ × ℕ

abbrev pub pair : ℕ → ℕ → WeekMinute
pair day minute = (day, minute)

-- one of seven days and of 1440 minutes
abbrev pub IsInWeek : WeekMinute → Type 0
IsInWeek p = (p.0 < 7) × (p.1 < 1440)

-- the days of the week count from Sunday, the minutes from midnight
pub record IsWeekMinute (zone : TimeZone) (seconds : ℕ) (p : WeekMinute) : Type 0 where
  pub shown : DateTime
  pub is : IsShown zone seconds shown
  pub day : p.0 ≡ (weekday_of shown.date + 1) % 7
  pub minute : p.1 ≡ shown.time.hour * 60 + shown.time.minute

-- ---- the same, counted

-- what the clock shows, in seconds
abbrev pub shown_seconds : TimeZone → ℕ → ℤ
shown_seconds zone seconds = pos seconds +ℤ offset zone seconds

-- of the whole days since a Thursday, and of the whole minutes since the last midnight
abbrev pub pair_of : ℤ → WeekMinute
pair_of shown =
    pair (unsigned_abs (int_rem_euclid (int_div_euclid shown (pos 86400) +ℤ pos 4) (pos 7)))
    (unsigned_abs (int_rem_euclid shown (pos 86400)) / 60)

unfoldable pub week_minute_at : TimeZone → ℕ → WeekMinute
week_minute_at zone seconds = pair_of (shown_seconds zone seconds)
