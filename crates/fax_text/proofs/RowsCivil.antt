-- Worked rows: what a clock shows a thousand seconds after the first midnight of 1970, in UTC and five
-- hours behind it.
use Rattle.std.proofs.Common.{◌≡◌, ◌∙◌, ℤ, pos, neg_ℤ, ◌+ℤ◌, ◌*ℤ◌, codes, refl, sym, ap, rules}
use Rattle.std.specs.Fmt.{digits}
use Rattle.jiff.proofs.Family.{civil_nanos-parts, fixed_offset_at}
use Rattle.jiff.proofs.ZoneFacts.{offset_at-UTC}
use Rattle.jiff.specs.Types.{Date, DateTime, Fixed, Offset, Time, UTC}
use Rattle.jiff.specs.Words.{civil_nanos, epoch_day, nanos_of_seconds, time_nanos}
use Rattle.fax_text.specs.Civil.{civil_at}
use Rattle.fax_text.specs.Listing.{time_shown, time_text}
use Rattle.fax_text.proofs.CivilLemmas.{first_number, last_number, same_civil}

-- from the number of the day
counted : (shown : DateTime) (day : ℤ) → epoch_day shown.date ≡ day → civil_nanos shown ≡ day *ℤ pos 86_400_000_000_000 +ℤ pos (time_nanos shown.time)
counted shown day e = civil_nanos-parts shown ∙ ap (λ n. n *ℤ pos 86_400_000_000_000 +ℤ pos (time_nanos shown.time)) e

abbrev on : Date → Time → DateTime
on date time = record { date = date; time = time }

-- the first day of 1970
new_year : Date
new_year = record { year = pos 1970; month = 1; day = 1; year_in = search rules; month_in = search rules; day_in = search rules }

-- the day before
new_years_eve : Date
new_years_eve = record { year = pos 1969; month = 12; day = 31; year_in = search rules; month_in = search rules; day_in = search rules }

-- 00:16:40
sixteen_past_midnight : Time
sixteen_past_midnight = record { hour = 0; minute = 16; second = 40; subsec_nanosecond = 0; hour_in = search rules; minute_in = search rules; second_in = search rules; subsec_in = search rules }

-- 19:16:40
sixteen_past_seven : Time
sixteen_past_seven = record { hour = 19; minute = 16; second = 40; subsec_nanosecond = 0; hour_in = search rules; minute_in = search rules; second_in = search rules; subsec_in = search rules }

-- an offset of five hours behind UTC
five_hours_behind : Offset
five_hours_behind = record { seconds = neg_ℤ (pos 18000); in_range = search rules }

-- in UTC a clock shows the first
in_utc : record { year = pos 1970; month = 1; day = 1; hour = 0; minute = 16 } ≡ civil_at UTC 1000
unfolding new_year sixteen_past_midnight
in_utc = same_civil UTC 1000 _ (record {
  shown = on new_year sixteen_past_midnight;
  is = record { nanos = counted (on new_year sixteen_past_midnight) (pos 0) first_number ∙ sym (ap (λ o. nanos_of_seconds (pos 1000) +ℤ nanos_of_seconds o) (offset_at-UTC (nanos_of_seconds (pos 1000)))) };
  year = refl;
  month = refl;
  day = refl;
  hour = refl;
  minute = refl;
})

-- the day before
behind_utc : record { year = pos 1969; month = 12; day = 31; hour = 19; minute = 16 } ≡ civil_at (Fixed five_hours_behind) 1000
unfolding new_years_eve sixteen_past_seven five_hours_behind
behind_utc = same_civil (Fixed five_hours_behind) 1000 _ (record {
  shown = on new_years_eve sixteen_past_seven;
  is = record { nanos = counted (on new_years_eve sixteen_past_seven) (neg_ℤ (pos 1)) last_number ∙ sym (ap (λ o. nanos_of_seconds (pos 1000) +ℤ nanos_of_seconds o) (fixed_offset_at five_hours_behind (nanos_of_seconds (pos 1000)))) };
  year = refl;
  month = refl;
  day = refl;
  hour = refl;
  minute = refl;
})

-- as a listing shows it
as_text : codes "1969-12-31 19:16" ≡ time_shown (Fixed five_hours_behind) 1000
unfolding digits time_shown
as_text = ap time_text behind_utc
