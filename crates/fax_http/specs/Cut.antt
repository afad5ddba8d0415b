use Rattle.std.specs.Prelude.{◌≡◌, ℕ, List, codes, ⊤}
use Rattle.httparse.specs.Grammar.{RequestHead}
use Rattle.httparse.specs.Spans.{IsRequestAt}
use Rattle.httparse.specs.declared.spans.HeaderSpan.{HeaderSpan}
use Rattle.httparse.specs.declared.spans.RequestSpans.{RequestSpans}
use Rattle.fax_http.specs.declared.message.Front.{Front}
use Rattle.fax_http.specs.declared.message.Front.TheVariants.{NotYet, Whole}
use Rattle.fax_http.specs.declared.message.HeadRead.{HeadRead}
use Rattle.fax_http.specs.declared.message.HeadRead.TheVariants.{Head, Never, NotYet as NoHeadYet}
use Rattle.fax_http.specs.declared.message.Message.{Message}
use Rattle.fax_http.specs.Message.{BeginsWith, IsHead, fields_of, is_last, sole, values_of}

-- the input is a head within its limits and then other bytes, and the spans are the head's
pub record HoldsHead (input : List ℕ) (room : List HeaderSpan) (spans : RequestSpans) : Type 0 where
  pub head : RequestHead
  pub is_head : IsHead head
  pub at : IsRequestAt input room spans head

-- P of the spans of the head, where one was read
abbrev pub IfHead : HeadRead → (RequestSpans → Type 0) → Type 0
IfHead (Head spans) P = P spans
IfHead NoHeadYet P = ⊤
IfHead Never P = ⊤

-- the parts are those of a message with that head and body
pub record ArePartsOf (message : Message) (head : RequestHead) (body : List ℕ) : Type 0 where
  pub method : message.method.now ≡ head.method
  pub target : message.target.now ≡ head.target
  pub client : message.client.now ≡ sole (values_of (codes "Fax-Client") (fields_of head))
  pub number : message.number.now ≡ sole (values_of (codes "Fax-Number") (fields_of head))
  pub moment : message.moment.now ≡ sole (values_of (codes "Fax-Moment") (fields_of head))
  pub content : message.body.now ≡ body
  pub is_last : message.is_last ≡ is_last head

-- the input is a message and then the rest, and the parts are the message's
pub record HoldsMessage (input : List ℕ) (message : Message) (rest : List ℕ) : Type 0 where
  pub head : RequestHead
  pub begins : BeginsWith input head message.body.now rest
  pub parts : ArePartsOf message head message.body.now

-- P of the message and of the bytes behind it, where it is there to its end
abbrev pub IfWhole : Front → (Message → List ℕ → Type 0) → Type 0
IfWhole (Whole message rest) P = P message rest.now
IfWhole NotYet P = ⊤
