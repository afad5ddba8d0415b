-- Messages that are answered together.
use Rattle.std.specs.Prelude.{ℕ, ◌≡◌, ◌≤◌, List, codes, drop, length, map, Option, Some, None, Vec}
use Rattle.std.specs.List.{AllZip}
use Rattle.std.specs.declared.alloc.Global.{Global}
use Rattle.httparse.specs.Grammar.{RequestHead}
use Rattle.fax_job.specs.declared.refusal.Refusal.TheVariants.{Unavailable}
use Rattle.fax_ask.specs.Response.{Response, refused_response}
use Rattle.fax_core.specs.Reply.{NoKeys}
use Rattle.fax_http.specs.declared.cut.Cut.{Cut}
use Rattle.fax_http.specs.declared.message.Message.{Message}
use Rattle.fax_http.specs.Conversation.{Turn, wants_body}
use Rattle.fax_http.specs.Cut.{ArePartsOf}
use Rattle.fax_http.specs.Message.{BeginsWith, is_last}

-- the message begins the input, and is cut from it so
pub record IsPost (input : List ℕ) (message : Message) (cut : Cut) : Type 0 where
  pub head : RequestHead
  pub method : head.method ≡ codes "POST"
  pub begins : BeginsWith input head message.body.now (drop cut.used input)
  pub within : cut.used ≤ length input
  pub parts : ArePartsOf message head message.body.now
  pub has_body : cut.form.has_body ≡ wants_body head
  pub ends : cut.form.is_last ≡ is_last head

-- these are the heads and bodies of the messages
abbrev pub AreMessages : List Message → List Turn → Type 0
AreMessages messages turns = AllZip (λ (message : Message) (turn : Turn). ArePartsOf message turn.head turn.body) messages turns

-- the replies to messages: where there are none, each is 503
abbrev pub replies_to : List Message → Option (Vec Response Global) → List Response
replies_to messages None = map (λ (message : Message). refused_response Unavailable NoKeys) messages
replies_to messages (Some replies) = replies.items

-- these are the messages, with their replies
pub record AreTurnsOf (messages : List Message) (result : Option (Vec Response Global)) (turns : List Turn) : Type 0 where
  pub parts : AreMessages messages turns
  pub replies : map (λ (turn : Turn). turn.reply) turns ≡ replies_to messages result
