-- What a clock shows is the date of its day's number, with the hour and the minute.
use Rattle.std.proofs.Common.{◌≡◌, ◌∙◌, ℕ, zero, suc, ◌+◌, ◌-◌, ◌/◌, ◌%◌, ◌<◌, ◌≤◌, Bool, true, false, cond, List, [], ◌∷◌, map, flat_map, find, length, get_or, All, Contains, Option, Some, unwrap_or, ℤ, pos, negsuc, neg_ℤ, ◌+ℤ◌, ◌≤ℤ◌, unsigned_abs, inl, refl, sym, ap, subst, arith, rules, true≢false}
use Rattle.std.proofs.lemmas.Bool.Decides.{Decides-int_eq}
use Rattle.std.proofs.lemmas.Int.{by_lt_z}
use Rattle.std.proofs.lemmas.List.{get_or-map, length-map}
use Rattle.std.proofs.lemmas.List.Elements.{All-append, All-head, All-map, All-nil, All-tail, All-weaker, Contains-append_left, Contains-append_right}
use Rattle.std.proofs.lemmas.List.FromFn.{get_or-range_with_len, length-range_with_len}
use Rattle.std.proofs.lemmas.Map.Made.{Contains-tail}
use Rattle.std.specs.Int.{IsInRange, int_div_euclid, int_rem_euclid}
use Rattle.std.specs.List.{range_with_len}
use Rattle.jiff.proofs.Family.{civil_nanos-parts, days_from_civil-day, days_from_civil-next_year, epoch_day-lt, epoch_day_injective, time_nanos_bound}
use Rattle.jiff.proofs.SpanFacts.{signed_arith}
use Rattle.jiff.specs.Types.{Date, DateTime, Fixed, Posix, TimeZone, Tzif, UTC, Unknown}
use Rattle.jiff.specs.Words.{civil_nanos, epoch_day, nanos_of_seconds, offset_at}
use Rattle.jiff_core.specs.Calendar.{IsCivilDate, days_from_civil, days_in_month}
use Rattle.jiff_tz.specs.PosixRule as PosixRule
use Rattle.jiff_tz.specs.Tzif as Table
use Rattle.fax_hours.specs.Zone.{IsCivil, offset, shown_seconds}
use Rattle.fax_hours.specs.declared.zone.Civil.{Civil}
use Rattle.fax_text.specs.Civil.{civil_at, date, date_of, dates, dates_of_month, dates_of_year, has_number}

-- ---- what is found, and what is in a list

-- a choice by a test finds x, where the test holds of x alone and else x is found
test_first : {X : Type 0} (x y : X) (test : Bool) (found : Option X) → (test ≡ true → y ≡ x) → (test ≡ false → found ≡ Some x) → cond test (Some y) found ≡ Some x
test_first x y true found here after = ap (λ z. Some z) (here refl)
test_first x y false found here after = after refl

-- an element that passes is found where no other passes
find_only : {X : Type 0} (p : X → Bool) (x : X) (xs : List X) → Contains xs x → p x ≡ true → All (λ y. p y ≡ true → y ≡ x) xs → find p xs ≡ Some x
find_only p x [] there passes only = absurd (omega (arith, there.1))
find_only p x (y ∷ ys) there passes only =
    test_first x y (p y) (find p ys) (All-head (λ z. p z ≡ true → z ≡ x) y ys only)
    (λ fails. find_only p x ys (Contains-tail y ys x (λ same. true≢false (sym passes ∙ ap p (sym same) ∙ fails)) there) passes (All-tail (λ z. p z ≡ true → z ≡ x) y ys only))

-- what holds of all that each element makes holds of all of them
all_flat_map : {A X : Type 0} (P : X → Type 0) (f : A → List X) (items : List A) → All (λ a. All P (f a)) items → All P (flat_map f items)
all_flat_map P f [] h = All-nil P
all_flat_map P f (a ∷ items) h = All-append P (f a) (flat_map f items) (All-head (λ b. All P (f b)) a items h) (all_flat_map P f items (All-tail (λ b. All P (f b)) a items h))

-- what holds of each number of a range holds of all
all_range : (P : ℕ → Type 0) (first count : ℕ) → ((n : ℕ) → first ≤ n → n < first + count → P n) → All P (range_with_len first count)
all_range P first count h k d inside =
    let small : k < count = omega (arith, length-range_with_len first count) in
    subst P (sym (get_or-range_with_len first count k d small)) (h (first + k) (omega arith) (omega arith))

-- a range has each number in it
contains_range : (first count n : ℕ) → first ≤ n → n < first + count → Contains (range_with_len first count) n
contains_range first count n low high =
    let at : first + (n - first) ≡ n = omega arith in
    (n - first, omega (arith, length-range_with_len first count), get_or-range_with_len first count (n - first) n (omega arith) ∙ at)

-- a mapped list has what is made of each element
contains_map : {A X : Type 0} (f : A → X) (items : List A) (a : A) → Contains items a → Contains (map f items) (f a)
contains_map f items a there = (there.0, omega (arith, there.1, length-map items f), get_or-map f items there.0 a (f a) there.1 ∙ ap f there.2)

-- what is made of an element is among what is made of all
contains_flat_map : {A X : Type 0} (f : A → List X) (items : List A) (a : A) (x : X) (k : ℕ) → k < length items → get_or items k a ≡ a → Contains (f a) x → Contains (flat_map f items) x
contains_flat_map f [] a x k inside at there = absurd (omega arith)
contains_flat_map f (b ∷ bs) a x zero inside at there = Contains-append_left (f b) (flat_map f bs) x (subst (λ c. Contains (f c) x) (sym at) there)
contains_flat_map f (b ∷ bs) a x (suc k) inside at there = Contains-append_right (f b) (flat_map f bs) x (contains_flat_map f bs a x k (omega arith) at there)

-- ---- the dates

-- a date of the calendar, at midnight
record IsMidnight (civil : Civil) : Type 0 where
  valid : IsCivilDate civil.year civil.month civil.day
  hour : civil.hour ≡ 0
  minute : civil.minute ≡ 0

-- all of these dates are dates of the calendar, at midnight
all_dates : (first years : ℕ) → first + years ≤ 10000 → All IsMidnight (dates first years)
unfolding dates
all_dates first years fits =
    all_flat_map IsMidnight dates_of_year (range_with_len first years) (all_range (λ year. All IsMidnight (dates_of_year year)) first years (λ year low high.
    all_flat_map IsMidnight (dates_of_month year) (range_with_len 1 12) (all_range (λ month. All IsMidnight (dates_of_month year month)) 1 12 (λ month one twelve.
    All-map IsMidnight (date year month) (range_with_len 1 (days_in_month (pos year) month)) (all_range (λ day. IsMidnight (date year month day)) 1 (days_in_month (pos year) month) (λ day first_day last_day. record {
      valid = ((omega (arith, signed_arith), omega (arith, signed_arith)), (one, omega arith), (first_day, omega arith));
      hour = refl;
      minute = refl;
    }))))))

-- each date of these years is among them
has_date : (first years year month day : ℕ) → first ≤ year → year < first + years → IsInRange 1 12 month → IsInRange 1 (days_in_month (pos year) month) day → Contains (dates first years) (date year month day)
unfolding dates
has_date first years year month day low high in_year in_month =
    let y = contains_range first years year low high in
    let m = contains_range 1 12 month in_year.0 (omega (arith, in_year.1)) in
    let d = contains_range 1 (days_in_month (pos year) month) day in_month.0 (omega (arith, in_month.1)) in
    contains_flat_map dates_of_year (range_with_len first years) year (date year month day) y.0 y.1 y.2
    (contains_flat_map (dates_of_month year) (range_with_len 1 12) month (date year month day) m.0 m.1 m.2
    (contains_map (date year month) (range_with_len 1 (days_in_month (pos year) month)) day d))

abbrev number : Civil → ℤ
number civil = days_from_civil civil.year civil.month civil.day

-- such a date, as the calendar has it
as_date : (civil : Civil) → IsMidnight civil → Date
as_date civil h = record { year = civil.year; month = civil.month; day = civil.day; year_in = h.valid.0; month_in = h.valid.1; day_in = h.valid.2 }

-- a day has one date
one_date : (a b : Civil) → IsMidnight a → IsMidnight b → number a ≡ number b → a ≡ b
unfolding as_date
one_date a b h k e =
    let same = epoch_day_injective (as_date a h) (as_date b k) e in
    let hour : a.hour ≡ b.hour = h.hour ∙ sym k.hour in
    let minute : a.minute ≡ b.minute = h.minute ∙ sym k.minute in
    λ i. record { year = same.0 i; month = same.1 i; day = same.2 i; hour = hour i; minute = minute i }

-- a date among them is the one found by its number
date_found : (n : ℤ) (civil : Civil) → IsMidnight civil → Contains (dates 1969 8031) civil → number civil ≡ n → find (has_number n) (dates 1969 8031) ≡ Some civil
date_found n civil h there e =
    find_only (has_number n) civil (dates 1969 8031) there ((Decides-int_eq (number civil) n).1 e)
    (All-weaker IsMidnight (λ y. has_number n y ≡ true → y ≡ civil) (λ y midnight passes. one_date y civil midnight h ((Decides-int_eq (number y) n).0 passes ∙ sym e)) (dates 1969 8031) (all_dates 1969 8031 (omega arith)))

-- ---- what a clock shows from 1970 on

-- no clock is more than 25:59:59 behind
least_offset : (zone : TimeZone) (n : ℤ) → neg_ℤ (pos 93599) ≤ℤ offset_at zone n
unfolding offset_at
least_offset UTC n = omega (arith, signed_arith)
least_offset Unknown n = omega (arith, signed_arith)
least_offset (Fixed o) n = o.in_range.0
least_offset (Posix rule) n = (PosixRule.offset_at rule n).in_range.0
least_offset (Tzif table) n = (Table.offset_at table.now n).in_range.0

-- 30 December 1969
third_last : Date
third_last = record { year = pos 1969; month = 12; day = 30; year_in = search rules; month_in = search rules; day_in = search rules }

-- the day 1 January 1970 has the number 0
pub first_number : days_from_civil (pos 1970) 1 1 ≡ pos 0
unfolding days_from_civil
first_number = omega (arith, signed_arith)

-- one before 0 is -1
one_back : (day before : ℤ) → day ≡ pos 0 → day ≡ before +ℤ pos 1 → before ≡ neg_ℤ (pos 1)
one_back day before start next = omega (arith, signed_arith)

-- 31 December 1969 has the number -1
pub last_number : days_from_civil (pos 1969) 12 31 ≡ neg_ℤ (pos 1)
last_number = one_back _ _ first_number (days_from_civil-next_year (pos 1969) (pos 1970) (search rules) refl)

-- where the 31st has the number -1, the 30th has -2
two_back : (day before : ℤ) → day ≡ neg_ℤ (pos 1) → before +ℤ pos 31 ≡ day +ℤ pos 30 → before ≡ neg_ℤ (pos 2)
two_back day before start same = omega (arith, signed_arith)

-- 30 December 1969 has the number -2
third_last_number : days_from_civil (pos 1969) 12 30 ≡ neg_ℤ (pos 2)
third_last_number = two_back _ _ last_number (days_from_civil-day (pos 1969) 12 30 31 (omega arith) (omega arith))

-- from that day on the year is 1969 at least
since_1969 : (d : Date) → neg_ℤ (pos 2) ≤ℤ epoch_day d → pos 1969 ≤ℤ d.year
unfolding third_last
since_1969 d low =
    by_lt_z d.year (pos 1969) (λ lt. absurd (omega (arith, signed_arith, epoch_day-lt d third_last (inl lt), third_last_number))) (λ ge. ge)

-- the whole days of the seconds on the clock, and what is left
as_one : (shown : DateTime) (s o : ℤ) → civil_nanos shown ≡ nanos_of_seconds s +ℤ nanos_of_seconds o → civil_nanos shown ≡ nanos_of_seconds (s +ℤ o)
as_one shown s o e = omega (arith, signed_arith)

-- the day on the clock is that of its seconds
day_of : (shown : DateTime) (s : ℤ) → civil_nanos shown ≡ nanos_of_seconds s → epoch_day shown.date ≡ int_div_euclid s (pos 86400)
day_of shown s e = omega (arith, signed_arith, civil_nanos-parts shown, time_nanos_bound shown.time)

-- so is the hour
hour_of : (shown : DateTime) (s : ℤ) → civil_nanos shown ≡ nanos_of_seconds s → shown.time.hour ≡ unsigned_abs (int_rem_euclid s (pos 86400)) / 3600
hour_of shown s e = omega (arith, signed_arith, civil_nanos-parts shown, time_nanos_bound shown.time)

-- and the minute
minute_of : (shown : DateTime) (s : ℤ) → civil_nanos shown ≡ nanos_of_seconds s → shown.time.minute ≡ unsigned_abs (int_rem_euclid s (pos 86400)) / 60 % 60
minute_of shown s e = omega (arith, signed_arith, civil_nanos-parts shown, time_nanos_bound shown.time)

-- a year from 1969 on isn't negative
not_negative : (z : ℤ) → pos 1969 ≤ℤ z → pos (unsigned_abs z) ≡ z
not_negative (pos n) h = refl
not_negative (negsuc n) h = absurd (omega (arith, signed_arith))

-- the date of a day is the one with its number
date_shown : (d : Date) → neg_ℤ (pos 2) ≤ℤ epoch_day d → date_of (epoch_day d) ≡ date (unsigned_abs d.year) d.month d.day
date_shown d low =
    let since = since_1969 d low in
    let year = not_negative d.year since in
    let valid : IsCivilDate (pos (unsigned_abs d.year)) d.month d.day = subst (λ y. IsCivilDate y d.month d.day) (sym year) (d.year_in, d.month_in, d.day_in) in
    let there = has_date 1969 8031 (unsigned_abs d.year) d.month d.day (omega (arith, signed_arith)) (omega (arith, signed_arith, d.year_in.1)) valid.1 valid.2 in
    ap (λ o. unwrap_or o (date 1970 1 1))
    (date_found (epoch_day d) (date (unsigned_abs d.year) d.month d.day) (record { valid = valid; hour = refl; minute = refl }) there (ap (λ y. days_from_civil y d.month d.day) year))

-- what `jiff` shows is what is counted
pub same_civil : (zone : TimeZone) (seconds : ℕ) (civil : Civil) → IsCivil zone seconds civil → civil ≡ civil_at zone seconds
unfolding civil_at
same_civil zone seconds civil h =
    let s : ℤ = shown_seconds zone seconds in
    let nanos = as_one h.shown (pos seconds) (offset zone seconds) h.is.nanos in
    let day = day_of h.shown s nanos in
    let low : neg_ℤ (pos 2) ≤ℤ epoch_day h.shown.date = omega (arith, signed_arith, least_offset zone (nanos_of_seconds (pos seconds))) in
    let at : date_of (int_div_euclid s (pos 86400)) ≡ date (unsigned_abs h.shown.date.year) h.shown.date.month h.shown.date.day = subst (λ n. date_of n ≡ date (unsigned_abs h.shown.date.year) h.shown.date.month h.shown.date.day) day (date_shown h.shown.date low) in
    let counted = sym (not_negative h.shown.date.year (since_1969 h.shown.date low)) in
    let year : civil.year ≡ (date_of (int_div_euclid s (pos 86400))).year = h.year ∙ counted ∙ ap (λ (c : Civil). c.year) (sym at) in
    let month : civil.month ≡ (date_of (int_div_euclid s (pos 86400))).month = h.month ∙ ap (λ (c : Civil). c.month) (sym at) in
    let day : civil.day ≡ (date_of (int_div_euclid s (pos 86400))).day = h.day ∙ ap (λ (c : Civil). c.day) (sym at) in
    let hour = h.hour ∙ hour_of h.shown s nanos in
    let minute = h.minute ∙ minute_of h.shown s nanos in
    λ i. record { year = year i; month = month i; day = day i; hour = hour i; minute = minute i }
