-- Messages that the queue answers together.
use Rattle.std.proofs.Common.{◌≡◌, ◌∙◌, ℕ, List, ap, length, subst, sym}
use Rattle.std.specs.Prelude.{Err, IfOk, IfSome, Ok, Option, Result, Vec}
use Rattle.std.specs.Result.{result_ok}
use Rattle.std.specs.declared.alloc.Global.{Global}
use Rattle.fax_job.specs.declared.refusal.Refusal.TheVariants.{Unavailable}
use Rattle.fax_ask.specs.Response.{Response, refused_response}
use Rattle.fax_core.specs.Reply.{NoKeys}
use Rattle.fax_http.specs.Conversation.{Turn}
use Rattle.fax_http.specs.Joined.{AreTurnsOf, replies_to}
use Rattle.fax_http.specs.declared.message.Message.{Message}
use Rattle.fax_once.specs.Batch.{replies_to as replies_to_batch}
use Rattle.fax_run.specs.declared.arrival.Arrival.{Arrival}
use Rattle.fax_desk.specs.Desk.{Arrive, replies_of}
use Rattle.fax_desk.proofs.ArriveLemmas.{as_many}

-- a batch has as many replies as messages, where it has some
pub many_replies : {E : Type 0} (result : Result (Vec Response Global) E) (told : Option (Vec Response Global)) (arrivals messages : ℕ) → told ≡ result_ok result
    → IfOk result (λ replies. length replies.items ≡ arrivals) → arrivals ≡ messages → IfSome told (λ replies. length replies.items ≡ messages)
many_replies (Ok replies) told arrivals messages is many same = subst (λ o. IfSome o (λ rs. length rs.items ≡ messages)) (sym is) (many ∙ same)
many_replies (Err e) told arrivals messages is many same = subst (λ o. IfSome o (λ rs. length rs.items ≡ messages)) (sym is) tt

module _ {C : Type 0} (gives : C → List ℕ → ℕ → C → Type 0) (clock later : C) (messages : List Message) (turns : List Turn) (arrivals : List Arrival)
    (told : Option (Vec Response Global)) (are : AreTurnsOf messages told turns) (arrive : Arrive gives clock turns arrivals later) where
  -- what the messages are told is what a batch of their arrivals is
  pub told_as_batch : {E : Type 0} (result : Result (Vec Response Global) E) → told ≡ result_ok result → replies_of turns ≡ replies_to_batch arrivals result
  told_as_batch (Ok replies) is = are.replies ∙ ap (replies_to messages) is
  told_as_batch (Err e) is =
      are.replies ∙ ap (replies_to messages) is ∙ as_many gives (refused_response Unavailable NoKeys) clock later messages turns arrivals are.parts arrive
