-- What is decided of a request: what it does to the queue as it is at t.
use Rattle.std.specs.Prelude.{◌≡◌, ℕ, Option, Some, None}
use Rattle.fax_job.specs.declared.refusal.Refusal.{Refusal}
use Rattle.fax_ask.specs.Answer.{Replied}
use Rattle.fax_ask.specs.Response.{Response, accepted_response, refused_response}
use Rattle.fax_core.specs.Ageing.{aged}
use Rattle.fax_core.specs.Machine.{stamped}
use Rattle.fax_core.specs.Queue.{Queue}
use Rattle.fax_core.specs.Reply as machine
use Rattle.fax_core.specs.Reply.{Step}
use Rattle.fax_store.specs.Job.{with_expired}
use Rattle.fax_decide.specs.Effect.{IsNumberLeft, IsWithin, Suits, accepted, given_in}
use Rattle.fax_decide.specs.declared.effect.Effect.{Effect}
use Rattle.fax_decide.specs.declared.decision.Decision.{Decision}
use Rattle.fax_decide.specs.declared.decision.Decision.TheVariants.{Taken, Refused}

-- through which number a reply states that the client has given up its replies
abbrev pub given_told : machine.Reply → Option ℕ
given_told (machine.Floored floor) = Some floor
given_told told = None

-- The step is taken: with the times of its jobs it leaves what the effect makes of the queue at t, and its reply is this. What is written then is within its limits, and the reply states what is given up.
pub record IsTaken (step : Step) (m : Queue) (t : ℕ) (effect : Effect) (reply : Response) : Type 0 where
  pub suits : Suits effect (with_expired t m)
  pub within : IsWithin effect
  pub left : IsNumberLeft effect (with_expired t m)
  pub told : machine.Reply
  pub taken : stamped t (aged t m) step ≡ machine.Taken (accepted t effect m) told
  pub given : given_in effect ≡ given_told told
  pub replied : reply ≡ accepted_response (Replied told)

-- the step is refused, and its reply is this
pub record IsRefused (step : Step) (reply : Response) : Type 0 where
  pub refusal : Refusal
  pub keys : machine.Keys
  pub refused : step ≡ machine.Refused refusal keys
  pub replied : reply ≡ refused_response refusal keys

-- the decision is that step, from this queue at t
abbrev pub Decides : Step → Queue → ℕ → Decision → Type 0
Decides step m t (Taken effect reply) = IsTaken step m t effect reply
Decides step m t (Refused reply) = IsRefused step reply
