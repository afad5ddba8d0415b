-- The next messages of some places are answered together.
use Rattle.std.specs.Prelude.{◌≡◌, ◌⊎◌, ℕ, ◌<◌, ◌≤◌, Bool, true, false, List, [], ◌∷◌, codes, drop, get_or, length, Option, Some, None, Vec, ⊤}
use Rattle.std.specs.List.{AllZip, filter_map}
use Rattle.std.specs.declared.alloc.Global.{Global}
use Rattle.httparse.specs.Grammar.{RequestHead}
use Rattle.fax_job.specs.declared.refusal.Refusal.TheVariants.{Unavailable}
use Rattle.fax_ask.specs.Response.{Response, refused_response}
use Rattle.fax_core.specs.Reply.{NoKeys}
use Rattle.fax_http.specs.Conversation.{Turn, spelled, wants_body}
use Rattle.fax_http.specs.Cut.{ArePartsOf}
use Rattle.fax_http.specs.Message.{BeginsWith, is_last}
use Rattle.fax_http.specs.Serving.{Joining}
use Rattle.fax_http.specs.declared.cut.Cut.{Cut}
use Rattle.fax_http.specs.declared.message.Message.{Message}
use Rattle.fax_http.specs.declared.turn.Found.TheVariants.{Answered, Last}
use Rattle.fax_net.specs.History.{asks_for_listing}
use Rattle.fax_net.specs.Link.{Keeps, is_due}
use Rattle.fax_net.specs.declared.link.Link.{Link}

-- what a message asks
pub record Asked : Type 0 where
  pub head : RequestHead
  pub body : List ℕ

-- a message that asks this is due, begins what was said and isn't answered, and is cut off so; it asks for no listing
pub record IsCutOff (link : Link) (cut : Cut) (asked : Asked) : Type 0 where
  pub due : is_due link ≡ true
  pub method : asked.head.method ≡ codes "POST"
  pub small : asks_for_listing link.said ≡ false
  pub begins : BeginsWith link.said asked.head asked.body (drop cut.used link.said)
  pub within : cut.used ≤ length link.said
  pub has_body : cut.form.has_body ≡ wants_body asked.head
  pub ends : cut.form.is_last ≡ is_last asked.head

-- the parts of what is found at the front of what was said
pub record IsDuePost (link : Link) (message : Message) (cut : Cut) : Type 0 where
  pub asked : Asked
  pub cuts : IsCutOff link cut asked
  pub parts : ArePartsOf message asked.head asked.body

-- at a place, or nothing is
abbrev pub IsCutAt : Link → Option Cut → Option Asked → Type 0
IsCutAt link None None = ⊤
IsCutAt link None (Some asked) = ⊥
IsCutAt link (Some cut) None = ⊥
IsCutAt link (Some cut) (Some asked) = IsCutOff link cut asked

-- these are the messages of so many places, in their order
pub record GathersTo (count : ℕ) (links : List Link) (cuts : List (Option Cut)) (messages : List Message) : Type 0 where
  pub asked : List (Option Asked)
  pub as_many : length asked ≡ count
  pub each : (place : ℕ) (d : Link) → place < count → IsCutAt (get_or links place d) (get_or cuts place None) (get_or asked place None)
  pub parts : AllZip (λ (message : Message) (a : Asked). ArePartsOf message a.head a.body) messages (filter_map (λ a. a) asked)

-- of all
abbrev pub Gathers : List Link → List (Option Cut) → List Message → Type 0
Gathers links cuts messages = GathersTo (length links) links cuts messages

-- what is cut off is there
abbrev pub FitsIn : Link → Option Cut → Type 0
FitsIn link None = ⊤
FitsIn link (Some cut) = cut.used ≤ length link.said

-- a reply to the message that was cut off is to be written
pub record HasReply (link link₂ : Link) (cut : Cut) (reply : Response) : Type 0 where
  pub said : link₂.said ≡ drop cut.used link.said
  pub last : cut.form.is_last ≡ true → Keeps (Last (spelled reply cut.form.has_body cut.form.is_last)) link link₂ true
  pub more : cut.form.is_last ≡ false → Keeps (Answered (spelled reply cut.form.has_body cut.form.is_last)) link link₂ true

-- the replies in their order, each to the next place whose message was cut off; where there are no more, it is 503
abbrev pub given : List (Option Cut) → List Response → List (Option Response)
given [] replies = []
given (None ∷ cuts) replies = None ∷ given cuts replies
given (Some cut ∷ cuts) [] = Some (refused_response Unavailable NoKeys) ∷ given cuts []
given (Some cut ∷ cuts) (reply ∷ replies) = Some reply ∷ given cuts replies

abbrev pub replies_in : Option (Vec Response Global) → List Response
replies_in None = []
replies_in (Some replies) = replies.items

abbrev pub IsGiven : Link → Link → Option Cut → Option Response → Type 0
IsGiven link link₂ None reply = link₂ ≡ link
IsGiven link link₂ (Some cut) None = ⊥
IsGiven link link₂ (Some cut) (Some reply) = HasReply link link₂ cut reply

-- each place has its reply
pub record GivesOut (links links₂ : List Link) (cuts : List (Option Cut)) (replies : List Response) : Type 0 where
  pub as_many : length links₂ ≡ length links
  pub each : (place : ℕ) (d : Link) → place < length links → IsGiven (get_or links place d) (get_or links₂ place d) (get_or cuts place None) (get_or (given cuts replies) place None)

-- what was asked, with its reply
abbrev pub turn_of : Option Asked → Option Response → Option Turn
turn_of None reply = None
turn_of (Some asked) None = None
turn_of (Some asked) (Some reply) = Some (record { head = asked.head; body = asked.body; reply = reply })

abbrev pub turns_of : List (Option Asked) → List (Option Response) → List (Option Turn)
turns_of [] replies = []
turns_of (a ∷ asked) [] = None ∷ turns_of asked []
turns_of (a ∷ asked) (reply ∷ replies) = turn_of a reply ∷ turns_of asked replies

module _ {H : Type 0} (together : Joining H) (over : H → Bool) (old new : H) (links links₂ : List Link) where
  -- the messages of some places were answered together
  pub record HasJoined : Type 0 where
    pub cuts : List (Option Cut)
    pub asked : List (Option Asked)
    pub replies : List Response
    pub as_many : length asked ≡ length links
    pub each : (place : ℕ) (d : Link) → place < length links → IsCutAt (get_or links place d) (get_or cuts place None) (get_or asked place None)
    pub gives : GivesOut links links₂ cuts replies
    pub answered : together old (filter_map (λ turn. turn) (turns_of asked (given cuts replies))) new

  -- or nothing was
  abbrev pub Joins : Type 0
  Joins = HasJoined ⊎ ((new ≡ old) × (links₂ ≡ links))
