-- What a clock shows, counted.
use Rattle.std.proofs.Common.{◌≡◌, ℕ, ◌+◌, ◌*◌, ◌/◌, ◌%◌, sym, ap, ◌∙◌, arith, ℤ, pos, ◌+ℤ◌, unsigned_abs}
use Rattle.std.specs.Int.{int_div_euclid, int_rem_euclid}
use Rattle.jiff.proofs.Family.{civil_nanos-parts, time_nanos_bound}
use Rattle.jiff.proofs.SpanFacts.{signed_arith}
use Rattle.jiff.specs.Types.{DateTime, TimeZone, UTC}
use Rattle.jiff.specs.Words.{civil_nanos, offset_at, nanos_of_seconds, epoch_day}
use Rattle.jiff_core.specs.Calendar.{weekday_number}
use Rattle.fax_hours.specs.Zone.{offset, IsWeekMinute, WeekMinute, pair, pair_of, shown_seconds, week_minute_at}

-- Thursday is 3 days after Monday and 4 after Sunday
sunday_first : (day : ℤ) → (weekday_number day + 1) % 7 ≡ unsigned_abs (int_rem_euclid (day +ℤ pos 4) (pos 7))
unfolding weekday_number
sunday_first day = omega (arith, signed_arith)

-- the whole days, and what is left in seconds
days_of : (shown : DateTime) (s : ℤ) → civil_nanos shown ≡ nanos_of_seconds s → int_div_euclid s (pos 86400) ≡ epoch_day shown.date
days_of shown s e = omega (arith, signed_arith, civil_nanos-parts shown, time_nanos_bound shown.time)

-- the minute of the day is what is left of its seconds
minutes_of : (shown : DateTime) (s : ℤ) → civil_nanos shown ≡ nanos_of_seconds s → unsigned_abs (int_rem_euclid s (pos 86400)) / 60 ≡ shown.time.hour * 60 + shown.time.minute
minutes_of shown s e = omega (arith, signed_arith, civil_nanos-parts shown, time_nanos_bound shown.time)

-- seconds and an offset are the seconds of both
as_one : (shown : DateTime) (s o : ℤ) → civil_nanos shown ≡ nanos_of_seconds s +ℤ nanos_of_seconds o → civil_nanos shown ≡ nanos_of_seconds (s +ℤ o)
as_one shown s o e = omega (arith, signed_arith)

-- pairs with the same day and minute are the same
same_parts : (p : WeekMinute) (day minute : ℕ) → p.0 ≡ day → p.1 ≡ minute → p ≡ pair day minute
same_parts p day minute d m = ap (λ x. pair x p.1) d ∙ ap (λ y. pair day y) m

-- the pair of the date and time is the one that is counted
pub same_pair : (zone : TimeZone) (seconds : ℕ) (p : WeekMinute) → IsWeekMinute zone seconds p → p ≡ week_minute_at zone seconds
unfolding week_minute_at
same_pair zone seconds p h =
    let nanos = as_one h.shown (pos seconds) (offset zone seconds) h.is.nanos in
    same_parts p _ _
    (h.day ∙ sunday_first (epoch_day h.shown.date) ∙ ap (λ day. unsigned_abs (int_rem_euclid (day +ℤ pos 4) (pos 7))) (sym (days_of h.shown (shown_seconds zone seconds) nanos)))
    (h.minute ∙ sym (minutes_of h.shown (shown_seconds zone seconds) nanos))

-- in UTC the clock shows the seconds themselves
pub week_minute_at-UTC : (moment : ℕ) → week_minute_at UTC moment ≡ pair ((moment / 86400 + 4) % 7) (moment % 86400 / 60)
unfolding week_minute_at offset_at
week_minute_at-UTC moment = let same : shown_seconds UTC moment ≡ pos moment = omega (arith, signed_arith) in ap pair_of same
