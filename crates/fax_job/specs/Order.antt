-- The values of an order, tag by tag, and the order or the first fault of a list. An empty value is none.
use Rattle.std.specs.Prelude.{ℕ, Bool, true, false, ◌==◌, List, length, codes, nat_le, Option, Some, None, Result, Ok, Err, unwrap_or, option_and_then, if◌then◌else◌}
use Rattle.std.specs.Option.{option_map, ok_or}
use Rattle.fax_job.specs.declared.order.Order.{Order}
use Rattle.fax_job.specs.declared.order.OrderFault.{OrderFault}
use Rattle.fax_value.specs.declared.text_fault.TextFault.{TextFault}
use Rattle.fax_value.specs.declared.text_fault.TextFault.TheVariants as text
use Rattle.fax_job.specs.declared.order.OrderFault.TheVariants.{NoNumber, BadDial, BadModem, BadJobtag, BadTts, BadKilltime, BadPriority, NoPages, BadPages, BadMaxtries, BadMaxdials, NotAlterable, BadNpages, BadNtries, BadTottries, BadNdials, BadTotdials, BadState, NoMemory}
use Rattle.fax_value.specs.Dial.{is_canonical, without_separators}
use Rattle.fax_value.specs.JobTag.{is_job_tag}
use Rattle.fax_value.specs.Limits.{last_moment, most_attempts, most_pages}
use Rattle.fax_value.specs.Name.{is_name}
use Rattle.fax_value.specs.Number.{number_of}
use Rattle.fax_job.specs.Pair.{Pair, value_of, extra_of}

abbrev pub is_no_memory : OrderFault → Bool
is_no_memory NoMemory = true
is_no_memory NoNumber = false
is_no_memory BadDial = false
is_no_memory BadModem = false
is_no_memory BadJobtag = false
is_no_memory BadTts = false
is_no_memory BadKilltime = false
is_no_memory BadPriority = false
is_no_memory NoPages = false
is_no_memory BadPages = false
is_no_memory BadMaxtries = false
is_no_memory BadMaxdials = false
is_no_memory NotAlterable = false
is_no_memory BadNpages = false
is_no_memory BadNtries = false
is_no_memory BadTottries = false
is_no_memory BadNdials = false
is_no_memory BadTotdials = false
is_no_memory BadState = false

-- a bad text is this fault, and want of memory stays what it is
abbrev pub fault_of : OrderFault → TextFault → OrderFault
fault_of bad text.Bad = bad
fault_of bad text.NoMemory = NoMemory

-- the number that a value writes, up to the greatest
unfoldable pub number_within : List ℕ → ℕ → Option ℕ
number_within value greatest = option_and_then (λ number. if nat_le number greatest then Some number else None) (number_of value)

-- ---- the values

unfoldable pub dial_in : List ℕ → Result (List ℕ) OrderFault
dial_in value =
    if length value == 0 then Err NoNumber
    else if is_canonical (without_separators value) then Ok (without_separators value)
    else Err BadDial

abbrev pub or_any : List ℕ → List ℕ
or_any value = if length value == 0 then codes "any" else value

unfoldable pub modem_in : List ℕ → Result (List ℕ) OrderFault
modem_in value = if is_name (or_any value) then Ok (or_any value) else Err BadModem

unfoldable pub jobtag_in : List ℕ → Result (List ℕ) OrderFault
jobtag_in value = if is_job_tag value then Ok value else Err BadJobtag

-- 0 is none
unfoldable pub moment_in : List ℕ → Option (Option ℕ)
moment_in value =
    if length value == 0 then Some None
    else option_map (λ seconds. if seconds == 0 then None else Some seconds) (number_within value last_moment)

unfoldable pub tts_in : List ℕ → Result (Option ℕ) OrderFault
tts_in value = ok_or (moment_in value) BadTts

unfoldable pub killtime_in : List ℕ → Result (Option ℕ) OrderFault
killtime_in value = ok_or (moment_in value) BadKilltime

unfoldable pub priority_in : List ℕ → Result ℕ OrderFault
priority_in value = if length value == 0 then Ok 127 else ok_or (number_within value 255) BadPriority

abbrev pub pages : Option ℕ → Result ℕ OrderFault
pages None = Err BadPages
pages (Some number) = if number == 0 then Err NoPages else Ok number

unfoldable pub totpages_in : List ℕ → Result ℕ OrderFault
totpages_in value = if length value == 0 then Err NoPages else pages (number_within value most_pages)

-- 0 is none
unfoldable pub limit_in : List ℕ → ℕ → Option ℕ
limit_in value default =
    if length value == 0 then Some default
    else option_map (λ limit. if limit == 0 then default else limit) (number_within value most_attempts)

unfoldable pub maxtries_in : List ℕ → Result ℕ OrderFault
maxtries_in value = ok_or (limit_in value 3) BadMaxtries

unfoldable pub maxdials_in : List ℕ → Result ℕ OrderFault
maxdials_in value = ok_or (limit_in value 12) BadMaxdials

-- ---- the list

infixl 10 ◌>>=◌
abbrev pub ◌>>=◌ : {A B : Type 0} → Result A OrderFault → (A → Result B OrderFault) → Result B OrderFault
(Ok value) >>= next = next value
(Err fault) >>= next = Err fault

abbrev pub value_or_none : List Pair → List ℕ → List ℕ
value_or_none ps tag = unwrap_or (value_of tag ps) (codes "")

-- the first tag at fault is told, in this order
unfoldable pub order_of : List Pair → Result Order OrderFault
order_of ps = do
  dial ← dial_in (value_or_none ps (codes "number"))
  modem ← modem_in (value_or_none ps (codes "modem"))
  jobtag ← jobtag_in (value_or_none ps (codes "jobtag"))
  tts ← tts_in (value_or_none ps (codes "tts"))
  killtime ← killtime_in (value_or_none ps (codes "killtime"))
  priority ← priority_in (value_or_none ps (codes "priority"))
  totpages ← totpages_in (value_or_none ps (codes "totpages"))
  maxtries ← maxtries_in (value_or_none ps (codes "maxtries"))
  maxdials ← maxdials_in (value_or_none ps (codes "maxdials"))
  Ok (record { dial = dial; modem = modem; jobtag = jobtag; tts = tts; killtime = killtime; priority = priority; totpages = totpages; maxtries = maxtries; maxdials = maxdials; extra = extra_of ps })
