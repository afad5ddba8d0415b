-- What a call leaves of the store that it looks at, and what it says of the queue there. A contract has `S.Store` for g.
use Rattle.std.specs.Prelude.{◌≡◌, ℕ, IfOk, OnOk, Result}
use Rattle.fax_ask.specs.Response.{Response}
use Rattle.fax_core.specs.Ledger.{Ledger}
use Rattle.fax_core.specs.Queue.{Queue}
use Rattle.fax_core.specs.Reply.{Step}
use Rattle.fax_core.specs.Sound.{Sound}
use Rattle.fax_store.specs.Calls.{Looks, shown}
use Rattle.fax_store.specs.Store.{MeansNow, Serves, StaysOpen}
use Rattle.fax_store.specs.declared.store.Store.{Store}
use Rattle.fax_tables.specs.Meta.{meta_of}
use Rattle.fax_tables.specs.declared.meta.Meta.{Meta}
use Rattle.fax_decide.specs.Decision.{Decides}
use Rattle.fax_decide.specs.Fault.{OnlyNoAnswer, OrNoAnswer}
use Rattle.fax_decide.specs.declared.decision.Decision.{Decision}
use Rattle.fax_decide.specs.declared.fault.Fault.{Fault}

-- The decision is what the request does to the queue at t, and where it was read, memory or the store alone leave none.
abbrev pub IsDecided : Result Decision Fault → Step → Queue → ℕ → Type 0 → Type 0
IsDecided result step m t IsRead = IfOk result (Decides step m t) × (IsRead → OnlyNoAnswer result)

module _ {S : Type 0} (g : _) where
  -- The call changes nothing, and where it answers, a store that served serves still. Of each queue that the tables mean now, within a work or not, this holds, as long as it serves.
  pub record Consults {A E : Type 0} (old new : Store S) (result : Result A E) (P : Queue → Type 0) : Type 0 where
    pub leaves : Looks g old new result
    pub opens : OnOk result (StaysOpen (shown g old) (shown g new))
    pub found : (m : Queue) (k : Ledger) → MeansNow (shown g old) m k → Serves (shown g new) → P m

  -- So is a request decided. Of a sound queue with this clock and these next numbers the decision is what it does to the queue at t, and where the request was read, memory or the store alone leave none.
  pub record DecidesBy (old new : Store S) (result : Result Decision Fault) (meta : Meta) (t : ℕ) (step : Queue → Step) (IsRead : Type 0) : Type 0 where
    pub leaves : Looks g old new result
    pub opens : OnOk result (StaysOpen (shown g old) (shown g new))
    pub decided : (m : Queue) (k : Ledger) → Sound m → MeansNow (shown g old) m k → Serves (shown g new) → meta ≡ meta_of m → IfOk result (Decides (step m) m t)
    pub cause : (m : Queue) (k : Ledger) → Sound m → MeansNow (shown g old) m k → Serves (shown g new) → meta ≡ meta_of m → IsRead → OnlyNoAnswer result

  -- So is the queue viewed. Of a sound queue the reply is this view, unless memory or the store gave no answer.
  pub record Views (old new : Store S) (result : Result Response Fault) (view : Queue → Response) : Type 0 where
    pub leaves : Looks g old new result
    pub opens : OnOk result (StaysOpen (shown g old) (shown g new))
    pub viewed : (m : Queue) (k : Ledger) → Sound m → MeansNow (shown g old) m k → Serves (shown g new) → OrNoAnswer result (λ reply. reply ≡ view m)
