-- What is asked of the queue is lawful.
use Rattle.std.specs.Prelude.{◌≤◌, ⊤}
use Rattle.fax_job.specs.declared.import.Import.{Import}
use Rattle.fax_job.specs.declared.order.Order.{Order}
use Rattle.fax_core.specs.declared.ask.Ask.{Ask}
use Rattle.fax_core.specs.declared.ask.Ask.TheVariants.{Submission, Bring}

-- an order has a page, a try and a dial
pub record HasLimits (o : Order) : Type 0 where
  pub pages : 1 ≤ o.totpages
  pub tries : 1 ≤ o.maxtries
  pub dials : 1 ≤ o.maxdials

-- no more pages are sent than there are, and no counter of an import is over its limit
pub record HasCounts (i : Import) : Type 0 where
  pub limits : HasLimits i.order
  pub npages : i.npages ≤ i.order.totpages
  pub ntries : i.ntries ≤ i.tottries
  pub tottries : i.tottries ≤ i.order.maxtries
  pub ndials : i.ndials ≤ i.totdials
  pub totdials : i.totdials ≤ i.order.maxdials

-- whoever reads it from bytes owes that
abbrev pub IsLawfulAsk : Ask → Type 0
IsLawfulAsk (Submission order) = HasLimits order
IsLawfulAsk (Bring i) = HasCounts i
IsLawfulAsk other = ⊤
