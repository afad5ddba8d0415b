-- Why a body of key lines is refused, from the faults of its lines and of what they state.
use Rattle.std.proofs.Common.{◌≡◌, ℕ, false, List, refl}
use Rattle.std.specs.Prelude.{Result, Err, ⊤}
use Rattle.std.specs.Bool.{MatchBool}
use Rattle.fax_job.specs.declared.lines.LineKind.{LineKind}
use Rattle.fax_job.specs.declared.lines.LineKind.TheVariants as kind
use Rattle.fax_job.specs.declared.order.OrderFault.{OrderFault}
use Rattle.fax_job.specs.declared.order.OrderFault.TheVariants as fault
use Rattle.fax_job.specs.Order.{is_no_memory}
use Rattle.fax_job.specs.Pair.{Pair}
use Rattle.fax_lines.specs.Reading.{fault_at, is_memory}
use Rattle.fax_job.specs.Refusal.{line_refusal, order_refusal}
use Rattle.fax_lines.specs.Spells.{Spells, IsFirstFault}
use Rattle.fax_ask.specs.Ask.{IsLinesRefusal}

module _ {T : Type 0} (value_of : List Pair → Result T OrderFault) (body : List ℕ) where
  -- a line's fault refuses the body, where it is the first or want of memory
  pub lines_refused : (line : ℕ) (k : LineKind) → (is_memory k ≡ false → IsFirstFault body (fault_at line k)) → IsLinesRefusal value_of body (line_refusal line k)
  lines_refused line kind.NotText h = h refl
  lines_refused line kind.NoColon h = h refl
  lines_refused line kind.BadTag h = h refl
  lines_refused line kind.Twice h = h refl
  lines_refused line kind.BadValue h = h refl
  lines_refused line kind.OpenEnd h = h refl
  lines_refused line kind.NoMemory h = tt

  -- so does the fault of what the lines state, or want of memory there
  pub order_refused : (lines : List Pair) (f : OrderFault) → Spells body lines → MatchBool (is_no_memory f) ⊤ (value_of lines ≡ Err f) → IsLinesRefusal value_of body (order_refusal f)
  order_refused lines fault.NoNumber s h = record { lines = lines; spelled = s; faulty = h }
  order_refused lines fault.BadDial s h = record { lines = lines; spelled = s; faulty = h }
  order_refused lines fault.BadModem s h = record { lines = lines; spelled = s; faulty = h }
  order_refused lines fault.BadJobtag s h = record { lines = lines; spelled = s; faulty = h }
  order_refused lines fault.BadTts s h = record { lines = lines; spelled = s; faulty = h }
  order_refused lines fault.BadKilltime s h = record { lines = lines; spelled = s; faulty = h }
  order_refused lines fault.BadPriority s h = record { lines = lines; spelled = s; faulty = h }
  order_refused lines fault.NoPages s h = record { lines = lines; spelled = s; faulty = h }
  order_refused lines fault.BadPages s h = record { lines = lines; spelled = s; faulty = h }
  order_refused lines fault.BadMaxtries s h = record { lines = lines; spelled = s; faulty = h }
  order_refused lines fault.BadMaxdials s h = record { lines = lines; spelled = s; faulty = h }
  order_refused lines fault.NotAlterable s h = record { lines = lines; spelled = s; faulty = h }
  order_refused lines fault.BadNpages s h = record { lines = lines; spelled = s; faulty = h }
  order_refused lines fault.BadNtries s h = record { lines = lines; spelled = s; faulty = h }
  order_refused lines fault.BadTottries s h = record { lines = lines; spelled = s; faulty = h }
  order_refused lines fault.BadNdials s h = record { lines = lines; spelled = s; faulty = h }
  order_refused lines fault.BadTotdials s h = record { lines = lines; spelled = s; faulty = h }
  order_refused lines fault.BadState s h = record { lines = lines; spelled = s; faulty = h }
  order_refused lines fault.NoMemory s h = tt
