-- An import: what an older queue recorded of a job, tag by tag, or the first fault of a list. An empty value is none.
use Rattle.std.specs.Prelude.{ℕ, ◌==◌, List, length, codes, min, max, Option, Some, None, Result, Ok, option_and_then, if◌then◌else◌}
use Rattle.std.specs.Option.{option_map, ok_or}
use Rattle.fax_job.specs.declared.import.Import.{Import}
use Rattle.fax_job.specs.declared.order.OrderFault.{OrderFault}
use Rattle.fax_job.specs.declared.order.OrderFault.TheVariants.{BadNpages, BadNtries, BadTottries, BadNdials, BadTotdials, BadState}
use Rattle.fax_value.specs.Limits.{most_attempts, most_pages}
use Rattle.fax_job.specs.Order.{◌>>=◌, number_within, value_or_none, order_of}
use Rattle.fax_job.specs.Pair.{Pair}

-- ---- the values

-- a number up to the greatest; none is 0
unfoldable pub count_in : List ℕ → ℕ → Option ℕ
count_in value greatest = if length value == 0 then Some 0 else number_within value greatest

-- more pages sent than there are count as all
unfoldable pub npages_in : List ℕ → ℕ → Result ℕ OrderFault
npages_in value totpages = ok_or (option_map (λ pages. min pages totpages) (count_in value most_pages)) BadNpages

unfoldable pub ntries_in : List ℕ → Result ℕ OrderFault
ntries_in value = ok_or (count_in value most_attempts) BadNtries

unfoldable pub tottries_in : List ℕ → Result ℕ OrderFault
tottries_in value = ok_or (count_in value most_attempts) BadTottries

unfoldable pub ndials_in : List ℕ → Result ℕ OrderFault
ndials_in value = ok_or (count_in value most_attempts) BadNdials

unfoldable pub totdials_in : List ℕ → Result ℕ OrderFault
totdials_in value = ok_or (count_in value most_attempts) BadTotdials

-- sendq(5): the states are 1 to 8. None is 2, a job that waits
unfoldable pub state_in : List ℕ → Result ℕ OrderFault
state_in value =
    if length value == 0 then Ok 2
    else ok_or (option_and_then (λ state. if state == 0 then None else Some state) (number_within value 8)) BadState

-- ---- the list

-- what is counted in all is no less than its part in a row, and a limit no less than what is used of it
abbrev pub raised : Import → Import
raised i = record i {
  tottries = max i.tottries i.ntries;
  totdials = max i.totdials i.ndials;
  order = record i.order { maxtries = max i.order.maxtries (max i.tottries i.ntries); maxdials = max i.order.maxdials (max i.totdials i.ndials) };
}

-- the first tag at fault is told, those of an order first, then in this order. The job's old number isn't looked at
unfoldable pub import_of : List Pair → Result Import OrderFault
import_of ps = do
  order ← order_of ps
  npages ← npages_in (value_or_none ps (codes "npages")) order.totpages
  ntries ← ntries_in (value_or_none ps (codes "ntries"))
  tottries ← tottries_in (value_or_none ps (codes "tottries"))
  ndials ← ndials_in (value_or_none ps (codes "ndials"))
  totdials ← totdials_in (value_or_none ps (codes "totdials"))
  state ← state_in (value_or_none ps (codes "state"))
  Ok (raised (record { order = order; npages = npages; ntries = ntries; tottries = tottries; ndials = ndials; totdials = totdials; state = state; status = value_or_none ps (codes "status") }))
