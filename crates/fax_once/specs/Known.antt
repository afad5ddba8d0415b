-- What is known of a queue within a work.
use Rattle.std.specs.Prelude.{◌≡◌, ◌⊎◌, ⊤, ℕ, Bool, false, IfSome, Option, Some, None, Result, map, IfErr, IfOk, OnOk}
use Rattle.sqlite.specs.State.{State}
use Rattle.sqlite_trees.specs.declared.store.Store.{Ghosts}
use Rattle.fax_core.specs.Ageing.{aged_job}
use Rattle.fax_core.specs.Ledger.{Ledger}
use Rattle.fax_core.specs.Queue.{Queue}
use Rattle.fax_decide.specs.Effect.{accepted}
use Rattle.fax_decide.specs.declared.effect.Effect.{Effect}
use Rattle.fax_run.specs.Run.{Start}
use Rattle.fax_store.specs.Calls.{Follows, within}
use Rattle.fax_store.specs.Work.{IsUnderWay, Works}
use Rattle.fax_store.specs.declared.work.Work.{Work}
use Rattle.fax_tables.specs.Meta.{meta_of, with_meta}
use Rattle.fax_tables.specs.Tables.{IsLawfulMeta}
use Rattle.fax_tables.specs.declared.fault.StoreFault.{StoreFault}
use Rattle.fax_tables.specs.declared.meta.Meta.{Meta}
use Rattle.fax_tables.specs.declared.fault.StoreFault.TheVariants.{Unavailable}
use Rattle.fax_once.specs.declared.known.Known.{Known}
use Rattle.fax_once.specs.declared.known.Numbers.{Numbers}
use Rattle.fax_once.specs.declared.known.Numbers.TheVariants.{Unread, Written, Pending}

-- no job expires by t
abbrev pub IsAged : ℕ → Queue → Type 0
IsAged t m = map (aged_job t) m.jobs ≡ m.jobs

-- the tables mean the queue, but for a clock and next numbers that have still to be written
abbrev pub Stand : Numbers → Queue → Queue → Type 0
Stand Unread tables m = tables ≡ m
Stand (Written meta) tables m = (tables ≡ m) × (meta ≡ meta_of m)
Stand (Pending meta) tables m = (m ≡ with_meta meta tables) × IsLawfulMeta m

-- the tables have the clock and the next numbers
abbrev pub IsWritten : Numbers → Type 0
IsWritten Unread = ⊤
IsWritten (Written meta) = ⊤
IsWritten (Pending meta) = ⊥

-- after a change they have still to be written, or are those before it, which the tables have
abbrev pub IsMoved : Numbers → Meta → Meta → Numbers → Type 0
IsMoved numbers before after moved = (moved ≡ Pending after) ⊎ ((moved ≡ Written after) × (after ≡ before) × IsWritten numbers)

-- what is known holds of the queue, where the tables mean this one
pub record Knows (known : Known) (tables m : Queue) : Type 0 where
  pub numbers : Stand known.numbers tables m
  pub aged : IfSome known.aged (λ t. IsAged t m)

-- the clock and the next numbers that are known
abbrev pub meta_in : Numbers → Option Meta
meta_in Unread = None
meta_in (Written meta) = Some meta
meta_in (Pending meta) = Some meta

-- those that have still to be written
abbrev pub pending_in : Numbers → Option Meta
pending_in Unread = None
pending_in (Written meta) = None
pending_in (Pending meta) = Some meta

-- the moment is one by which nothing expires after the change at t
abbrev pub IsAgedAfter : Effect → ℕ → Option ℕ → Type 0
IsAgedAfter effect t aged = (m : Queue) → IfSome aged (λ u. IsAged u (accepted t effect m))

-- the work began at this queue with these kept replies, and leads there with what is known
abbrev pub LeadsTo : Known → State → Bool → Queue → Ledger → Start → Type 0
LeadsTo known s failed m₀ k₀ there = (tables : Queue) × Knows known tables there.queue × IsUnderWay s failed m₀ k₀ tables there.kept

-- the work began there, and is not to be committed
abbrev pub HasBegun : State → Bool → Queue → Ledger → Type 0
HasBegun s failed m₀ k₀ = (m : Queue) × (k : Ledger) × IsUnderWay s failed m₀ k₀ m k

module _ {S : Type 0} (g : Ghosts S) where
  -- The clock and the next numbers are written where that was still to be done, so that the tables mean the queue.
  pub record Settles (old new : Work S) (result : Result Known StoreFault) (known : Known) : Type 0 where
    pub leaves : Follows g old new
    pub goes_on : OnOk result (old.failed ≡ false → new.failed ≡ false)
    pub settled : (m₀ tables m : Queue) (k₀ k : Ledger) → Works (within g old) old.failed m₀ k₀ tables k → Knows known tables m → Works (within g new) new.failed m₀ k₀ m k
    pub knows : IfOk result (λ known₂. (tables m : Queue) → Knows known tables m → Knows known₂ m m)
    pub cause : IfErr result (λ fault. fault ≡ Unavailable)
