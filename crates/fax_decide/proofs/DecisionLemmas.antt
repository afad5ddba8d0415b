-- What is decided, and told.
use Rattle.std.proofs.Common.{MatchResult, None, Ok, ◌≡◌, ℕ, false, Result, Err, refl, sym, ap, subst, ◌∙◌}
use Rattle.fax_job.specs.declared.refusal.Refusal.{Refusal}
use Rattle.fax_job.specs.declared.refusal.Refusal.TheVariants.{PageOrder}
use Rattle.fax_ask.specs.Answer.{Replied}
use Rattle.fax_ask.specs.Detail.{has_detail}
use Rattle.fax_ask.specs.Response.{Response, accepted_response, refused_response}
use Rattle.fax_core.specs.Ageing.{aged}
use Rattle.fax_core.specs.Decisions.{JobAndGrant}
use Rattle.fax_core.specs.Job.{Job}
use Rattle.fax_core.specs.Machine.{keys_of_job, reported, stamped}
use Rattle.fax_core.specs.Queue.{Queue}
use Rattle.fax_core.proofs.StampLemmas.{stamp_same}
use Rattle.fax_core.specs.Reply as machine
use Rattle.fax_core.specs.Reply.{Step}
use Rattle.fax_store.specs.Job.{with_expired}
use Rattle.fax_store.specs.Meta.{with_clock}
use Rattle.fax_decide.specs.Decision.{IsRefused, IsTaken, given_told}
use Rattle.fax_decide.specs.declared.decision.Decision.{Decision}
use Rattle.fax_decide.specs.declared.decision.Decision.TheVariants.{Taken}
use Rattle.fax_decide.specs.declared.effect.Effect.TheVariants.{GivenUp, Nothing}
use Rattle.fax_decide.specs.declared.effect.Effect.{Effect}
use Rattle.fax_decide.specs.declared.fault.Fault.{Fault}
use Rattle.fax_decide.specs.Fault.{OrNoAnswer}

-- what is decided by the reply that there is, where memory or the store alone may leave none
pub taken_or : (effect : Effect) (P : Response → Type 0) (Q : Decision → Type 0) (reply : Result Response Fault) (result : Result Decision Fault)
    → MatchResult reply (λ r. result ≡ Ok (Taken effect r)) (λ e. result ≡ Err e) → OrNoAnswer reply P → ((r : Response) → P r → Q (Taken effect r)) → OrNoAnswer result Q
taken_or effect P Q (Ok r) result is told holds = subst (λ d. OrNoAnswer d Q) (sym is) (holds r told)
taken_or effect P Q (Err e) result is why holds = subst (λ d. OrNoAnswer d Q) (sym is) why

-- what leaves the aged queue is taken, and told
module _ (m : Queue) (t : ℕ) where
  same_after : (told : machine.Reply) → stamped t (aged t m) (machine.Taken (aged t m) told) ≡ machine.Taken (with_clock t (with_expired t m)) told
  same_after told = ap (λ (n : Queue). machine.Taken n told) (stamp_same t (aged t m) (aged t m) refl)

  pub nothing_taken : (told : machine.Reply) (reply : Response) → given_told told ≡ None → reply ≡ accepted_response (Replied told) → IsTaken (machine.Taken (aged t m) told) m t Nothing reply
  nothing_taken told reply plain replied = record { suits = tt; within = tt; left = tt; told = told; taken = same_after told; given = sym plain; replied = replied }

  -- so is what gives up replies
  pub given_up_taken : (upto : ℕ) (reply : Response) → reply ≡ accepted_response (Replied (machine.Floored upto)) → IsTaken (machine.Taken (aged t m) (machine.Floored upto)) m t (GivenUp upto) reply
  given_up_taken upto reply replied = record { suits = tt; within = tt; left = tt; told = machine.Floored upto; taken = same_after (machine.Floored upto); given = refl; replied = replied }

-- what the machine refuses is refused, and told with its keys
pub refused_as : {step : Step} {e : Refusal} {keys : machine.Keys} {reply : Response} → step ≡ machine.Refused e keys → reply ≡ refused_response e keys
    → IsRefused step reply
refused_as {step} {e} {keys} refused replied = record { refusal = e; keys = keys; refused = refused; replied = replied }

-- where no more is told of a refusal, no keys of the job are
pub plain_keys : (e : Refusal) (j : Job) → has_detail e ≡ false → keys_of_job e j ≡ machine.NoKeys
plain_keys PageOrder j is = absurd (let no = is in cc)
plain_keys e j is = refl

-- a report is refused, and no more is told of it
pub report_refused : (n : Queue) (reply_to : Queue → JobAndGrant → machine.Reply) (j : Job) (r : Result JobAndGrant Refusal) (e : Refusal) (reply : Response)
    → has_detail e ≡ false → reply ≡ refused_response e machine.NoKeys → Err e ≡ r → IsRefused (reported n reply_to j r) reply
report_refused n reply_to j r e reply alone same refused =
    refused_as (ap (reported n reply_to j) (sym refused) ∙ ap (λ (k : machine.Keys). machine.Refused e k) (plain_keys e j alone)) same
