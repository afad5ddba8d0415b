-- A request whose number is new, decided and written within a work, as the contracts of the calls speak of it.
use Rattle.std.specs.Prelude.{◌≡◌, ◌⊎◌, ⊤, ℕ, false, Option, Some, None, Result, IfOk, MatchResult, OnOk}
use Rattle.sqlite.specs.State.{HasCleanDisk}
use Rattle.sqlite_trees.specs.declared.store.Store.{Ghosts}
use Rattle.fax_core.specs.Ageing.{aged}
use Rattle.fax_core.specs.Clock.{decided_at}
use Rattle.fax_core.specs.Ledger.{Ledger, IsKeptStatus}
use Rattle.fax_core.specs.Machine.{act}
use Rattle.fax_core.specs.Queue.{Queue}
use Rattle.fax_core.specs.Settings.{Settings}
use Rattle.fax_core.specs.Sound.{Sound}
use Rattle.fax_core.specs.declared.ask.Ask.{Ask as Step}
use Rattle.fax_decide.specs.Decision.{Decides}
use Rattle.fax_decide.specs.Fault.{OrNoAnswer}
use Rattle.fax_decide.specs.Read.{IsRead, IsSubmission}
use Rattle.fax_decide.specs.declared.fault.Fault.{Fault}
use Rattle.fax_decide.specs.declared.fault.Fault.TheVariants.{NoAnswer}
use Rattle.fax_store.specs.Calls.{Follows, Looks, shown, within}
use Rattle.fax_store.specs.Kept.{IsUnkept}
use Rattle.fax_store.specs.Store.{MeansNow, Serves, StaysOpen}
use Rattle.fax_store.specs.Work.{IsActive, Keeps, Works}
use Rattle.fax_store.specs.declared.store.Store.{Store}
use Rattle.fax_store.specs.declared.work.Work.{Work}
use Rattle.fax_tables.specs.declared.fault.StoreFault.{StoreFault}
use Rattle.fax_run.specs.Laws.{left_of}
use Rattle.fax_run.specs.Reading.{post_of}
use Rattle.fax_run.specs.Run.{Start}
use Rattle.fax_run.specs.Verdict.{Verdict, Told, new_asked}
use Rattle.fax_run.specs.Verdict as verdict
use Rattle.fax_run.specs.declared.arrival.Arrival.{Arrival}
use Rattle.fax_tables.specs.Fault.{OrUnavailable}
use Rattle.fax_tables.specs.Meta.{meta_of}
use Rattle.fax_tables.specs.declared.meta.Meta.{Meta}
use Rattle.fax_once.specs.Known.{HasBegun, Knows, LeadsTo}
use Rattle.fax_once.specs.declared.known.Known.{Known}
use Rattle.fax_once.specs.Sender.{AsksStep}
use Rattle.fax_once.specs.declared.acceptance.Answered.{Answered}
use Rattle.fax_once.specs.declared.acceptance.Answered.TheVariants.{Unchanged, Accepted}
use Rattle.fax_once.specs.declared.acceptance.Decided.{Decided}
use Rattle.fax_once.specs.declared.sender.Sender.{Sender}

-- the verdict refuses with this reply, or accepts with it
abbrev pub IsBy : Answered → Verdict → Type 0
IsBy (Unchanged reply) v = v ≡ Told reply
IsBy (Accepted reply) v = (after : Queue) × (kept : Ledger) × (v ≡ verdict.Accepted after kept reply)

-- the reply to what is accepted may be kept
abbrev pub MayBeKept : Answered → Type 0
MayBeKept (Unchanged reply) = ⊤
MayBeKept (Accepted reply) = IsKeptStatus reply.status

-- where a verdict leads
abbrev pub left_by : Queue → Ledger → Verdict → Start
left_by m k v = left_of (record { queue = m; kept = k }) v

-- the tables mean the queue, or a job is submitted, which is decided by the clock and the next numbers alone
abbrev pub MeansFor : Step → Queue → Queue → Type 0
MeansFor ask tables m = (tables ≡ m) ⊎ IsSubmission ask

-- the clock and the next numbers are known, or the tables have them
abbrev pub IsKnownOf : Option Meta → Queue → Queue → Type 0
IsKnownOf None tables m = tables ≡ m
IsKnownOf (Some meta) tables m = meta ≡ meta_of m

-- the same where this is to be decided
abbrev pub IsKnownFor : Step → Option Meta → Queue → Queue → Type 0
IsKnownFor ask known tables m = IsKnownOf known tables m × MeansFor ask tables m

-- it is decided at the later of this moment and the clock
pub record IsDecidedAt (s : Settings) (ask : Step) (moment : ℕ) (m : Queue) (decided : Decided) : Type 0 where
  pub now : decided.t ≡ decided_at m.clock moment
  pub meta : decided.meta ≡ meta_of m
  pub decides : Decides (act s (aged decided.t m) decided.t ask) m decided.t decided.decision

module _ {S : Type 0} (g : Ghosts S) where
  -- The clock and the next numbers are read, unless they are known.
  pub record ReadsMeta (old new : Store S) (result : Result Meta StoreFault) (known : Option Meta) : Type 0 where
    pub leaves : Looks g old new result
    pub opens : OnOk result (StaysOpen (shown g old) (shown g new))
    pub answers : (tables m : Queue) (k : Ledger) → MeansNow (shown g old) tables k → IsKnownOf known tables m → Serves (shown g new)
        → OrUnavailable result (λ meta. meta ≡ meta_of m)

  -- A request is decided at the later of a moment and the clock, and nothing changes.
  pub record DecidesNow (old new : Store S) (result : Result Decided Fault) (s : Settings) (ask : Step) (moment : ℕ) (known : Option Meta) : Type 0 where
    -- The store is only looked at.
    pub leaves : Looks g old new result
    -- Where it is decided, a store that served serves still.
    pub opens : OnOk result (StaysOpen (shown g old) (shown g new))
    -- Of a sound queue the decision is the machine's, or memory or the store gave none.
    pub decided : (tables m : Queue) (k : Ledger) → Sound m → MeansNow (shown g old) tables k → IsKnownFor ask known tables m → Serves (shown g new) → IsRead ask
        → OrNoAnswer result (IsDecidedAt s ask moment m)

  -- The same within a work, which goes on as it was, or can't be committed.
  pub record DecidesWithin (old new : Work S) (result : Result Decided Fault) (s : Settings) (ask : Step) (moment : ℕ) (known : Option Meta) : Type 0 where
    pub leaves : Follows g old new
    pub goes_on : OnOk result (new.failed ≡ false)
    pub keeps : Keeps (within g old) old.failed (within g new) new.failed
    pub opens : OnOk result (IsActive (within g old) old.failed → HasCleanDisk (within g new) → Serves (within g new))
    pub decided : (m₀ tables m : Queue) (k₀ k : Ledger) → Sound m → Works (within g old) old.failed m₀ k₀ tables k → IsKnownFor ask known tables m → Serves (within g new) → IsRead ask
        → OrNoAnswer result (IsDecidedAt s ask moment m)

  -- A request whose number is new is answered within a work.
  pub record AnswersWithin (old new : Work S) (result : Result Answered Fault) (s : Settings) (a : Arrival) (sender : Sender) (ask : Step) (floor : ℕ) (known known₂ : Known) : Type 0 where
    -- Nothing is committed, and the work goes on over the same store.
    pub leaves : Follows g old new
    pub goes_on : OnOk result (new.failed ≡ false)
    -- Where there is an answer, the store of a work that is under way serves as long as the disk is clean.
    pub opens : OnOk result (IsActive (within g old) old.failed → HasCleanDisk (within g new) → Serves (within g new))
    pub kept : IfOk result MayBeKept
    -- Of a sound queue without a reply to the number the answer is that of its verdict, and leads where that does. Or memory or the store gave none: then the work isn't to be committed.
    pub comes : (m₀ tables m : Queue) (k₀ k : Ledger) → Sound m → Works (within g old) old.failed m₀ k₀ tables k → Knows known tables m → MeansFor ask tables m → AsksStep a sender ask
        → (Serves (within g old) → IsUnkept sender.client.now sender.number k.replies) → Serves (within g new)
        → (let v = new_asked s m k floor (post_of a sender.number ask) in
        MatchResult result (λ x. IsBy x v × Sound (left_by m k v).queue × LeadsTo known₂ (within g new) new.failed m₀ k₀ (left_by m k v))
        (λ fault. (fault ≡ NoAnswer) × HasBegun (within g new) new.failed m₀ k₀))
