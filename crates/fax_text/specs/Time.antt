-- Times on the command line of sendfax: a part of what at(1) takes, or an instant.
use Rattle.std.specs.Prelude.{ℕ, ◌+◌, ◌*◌, ◌/◌, ◌==◌, List, codes, length, take, drop, nat_le, Option, Some, None, option_and_then, if◌then◌else◌, ℤ, pos, negsuc}
use Rattle.std.specs.List.{before_first, after_first}
use Rattle.std.specs.Option.{option_map}
use Rattle.std.specs.Result.{result_ok}
use Rattle.std.specs.Str.{bytes_eq}
use Rattle.jiff.specs.Words.{parse_timestamp}
use Rattle.fax_value.specs.Limits.{last_moment}
use Rattle.fax_value.specs.Number.{number_of}

-- how many seconds a unit has
abbrev pub seconds_in : List ℕ → Option ℕ
seconds_in unit =
    if bytes_eq unit (codes "minutes") then Some 60
    else if bytes_eq unit (codes "hours") then Some 3600
    else if bytes_eq unit (codes "days") then Some 86400
    else None

-- 1 to 6 digits
abbrev pub count_in : List ℕ → Option ℕ
count_in text = if nat_le (length text) 6 then number_of text else None

-- how many seconds `N UNIT` is
unfoldable pub span_in : List ℕ → Option ℕ
span_in text =
    option_and_then (λ count. option_map (λ seconds. count * seconds) (seconds_in (after_first (λ byte. byte == 32) text)))
    (count_in (before_first (λ byte. byte == 32) text))

-- whole seconds since 1970; before that there are none
abbrev pub whole_seconds : ℤ → Option ℕ
whole_seconds (pos nanoseconds) = Some (nanoseconds / 1000000000)
whole_seconds (negsuc nanoseconds) = None

-- the instant that `jiff` reads in a text, a fraction of a second dropped
unfoldable pub instant_in : List ℕ → Option ℕ
instant_in text = option_and_then whole_seconds (result_ok (parse_timestamp text))

-- what stands behind a text's beginning
unfoldable pub behind : List ℕ → List ℕ → Option (List ℕ)
behind beginning text = if bytes_eq (take (length beginning) text) beginning then Some (drop (length beginning) text) else None

abbrev pub from_now_or_instant : ℕ → List ℕ → Option (List ℕ) → Option ℕ
from_now_or_instant now text None = instant_in text
from_now_or_instant now text (Some span) = option_map (λ seconds. now + seconds) (span_in span)

-- `now`, `now + N UNIT`, or an instant
unfoldable pub seconds_named : ℕ → List ℕ → Option ℕ
seconds_named now text =
    if bytes_eq text (codes "now") then Some now
    else from_now_or_instant now text (behind (codes "now + ") text)

-- the same, where the queue has that moment
unfoldable pub time_in : ℕ → List ℕ → Option ℕ
time_in now text = option_and_then (λ seconds. if nat_le seconds last_moment then Some seconds else None) (seconds_named now text)
