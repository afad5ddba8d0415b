-- What an accepted request writes within a work, as the contracts of the calls speak of it.
use Rattle.std.specs.Prelude.{◌≡◌, ℕ, Bool, true, false, List, Option, Result, IfOk, MatchResult, OnErr, OnOk}
use Rattle.sqlite_trees.specs.declared.store.Store.{Ghosts}
use Rattle.fax_ask.specs.Response.{Response}
use Rattle.fax_core.specs.Ledger.{Ledger, with_reply, entry, IsKeptStatus}
use Rattle.fax_core.specs.Queue.{Queue}
use Rattle.fax_decide.specs.Effect.{IsWritable, Suits, given_in, written}
use Rattle.fax_decide.specs.Fault.{OnlyNoAnswer}
use Rattle.fax_decide.specs.declared.effect.Effect.{Effect}
use Rattle.fax_decide.specs.declared.fault.Fault.{Fault}
use Rattle.fax_store.specs.Calls.{BecomesWhere, FailsOnly, Follows, within}
use Rattle.fax_store.specs.Job.{with_expired}
use Rattle.fax_store.specs.Kept.{IsUnkept}
use Rattle.fax_store.specs.Store.{Serves}
use Rattle.fax_store.specs.Work.{Works}
use Rattle.fax_store.specs.declared.work.Work.{Work}
use Rattle.fax_tables.specs.declared.fault.StoreFault.{StoreFault}
use Rattle.fax_value.specs.Name.{IsName}
use Rattle.fax_run.specs.Verdict.{without}
use Rattle.fax_once.specs.Known.{IsAged}
use Rattle.fax_once.specs.declared.acceptance.Answered.{Answered}
use Rattle.fax_once.specs.declared.acceptance.Answered.TheVariants.{Accepted}
use Rattle.fax_once.specs.declared.sender.Sender.{Sender}

-- what is kept then: the reply to the sender's number, with what was said, and nothing that the client gives up
abbrev pub kept_after : Sender → List ℕ → Response → Option ℕ → Ledger → Ledger
kept_after sender said reply given k = with_reply (entry sender.client.now sender.number said reply.status reply.body) (without sender.client.now given k)

-- The aged queue takes the change, the client is a name, the status is one that is kept, and no reply is kept to the sender's number.
abbrev pub IsAcceptable : ℕ → Effect → Sender → Response → Queue → Ledger → Type 0
IsAcceptable t effect sender reply m k =
    IsWritable effect (with_expired t m) × IsName sender.client.now × IsKeptStatus reply.status × IsUnkept sender.client.now sender.number k.replies

module _ {S : Type 0} (g : Ghosts S) where
  -- Within a work some writes make f of a queue of which P holds, and h of the kept replies.
  pub record WritesWithin {A : Type 0} (old new : Work S) (result : Result A StoreFault) (P : Queue → Type 0) (f : Queue → Queue) (h : Ledger → Ledger) (Q : Queue → Ledger → Type 0) : Type 0 where
    -- Nothing is committed, and the work goes on over the same store.
    pub leaves : Follows g old new
    -- A refusal ends the work.
    pub fails : OnErr result (new.failed ≡ true)
    -- What the work means becomes what f and h make of it.
    pub changes : BecomesWhere g old new P f h
    -- Where Q holds of what the work means, they are refused for lack of the store alone.
    pub cause : FailsOnly g old new result Q

  -- A request is accepted at t: its change is made within the work, and its reply is kept there.
  pub record Accepts (old new : Work S) (result : Result Answered Fault) (t : ℕ) (is_aged : Bool) (effect : Effect) (sender : Sender) (said : List ℕ) (reply : Response) : Type 0 where
    -- Nothing is committed, and the work goes on over the same store.
    pub leaves : Follows g old new
    pub goes_on : OnOk result (new.failed ≡ false)
    -- The answer is this reply, which may be kept.
    pub gives : IfOk result (λ x. (x ≡ Accepted reply) × IsKeptStatus reply.status)
    -- Where the change suits the aged queue, the work means what is written of it, or what it did, unless it can't be committed.
    pub changes : (m₀ m : Queue) (k₀ k : Ledger) → (is_aged ≡ true → IsAged t m) → Suits effect (with_expired t m) → Works (within g old) old.failed m₀ k₀ m k
        → MatchResult result (λ _. Works (within g new) new.failed m₀ k₀ (written t effect (with_expired t m)) (kept_after sender said reply (given_in effect) k))
        (λ _. Works (within g new) new.failed m₀ k₀ m k)
    -- What is acceptable fails for lack of memory or of the store alone.
    pub cause : (m₀ m : Queue) (k₀ k : Ledger) → Works (within g old) old.failed m₀ k₀ m k → Serves (within g new) → (is_aged ≡ true → IsAged t m) → IsAcceptable t effect sender reply m k
        → OnlyNoAnswer result
