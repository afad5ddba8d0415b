-- The reply to one request: the head of a response, and a body as long as the head's one `Content-Length` says (RFC 9112, sections 4 and 6).
use Rattle.std.specs.Prelude.{◌≡◌, ◌⊎◌, ℕ, ◌≤◌, Bool, true, false, List, ◌++◌, length, map, Option, Ok, codes, ⊤}
use Rattle.std.specs.Io.KnownBytes.{IsAtEnd}
use Rattle.httparse.specs.Grammar.{ResponseHead, IsResponseHead, print_response, status_code}
use Rattle.httparse.specs.Spans.{name_and_value}
use Rattle.fax_http.specs.declared.answer.Answer.{Answer}
use Rattle.fax_http.specs.declared.answer.AnswerRead.{AnswerRead}
use Rattle.fax_http.specs.declared.answer.AnswerRead.TheVariants.{Whole, NotYet, Never}
use Rattle.fax_http.specs.declared.device.Watched.{Watched}
use Rattle.fax_http.specs.Device.{Took}
use Rattle.fax_http.specs.Message.{Fields, framed, values_of}

-- the fields of a reply
abbrev pub reply_fields : ResponseHead → Fields
reply_fields head = map name_and_value head.fields

-- a head within its limits, of a reply that none follows, and the body that it frames
pub record IsAnswer (head : ResponseHead) (body : List ℕ) : Type 0 where
  pub grammar : IsResponseHead head
  pub bytes : length (print_response head) ≤ 16384
  pub fields : length head.fields ≤ 64
  pub final : 200 ≤ status_code head
  pub says_length : length (values_of (codes "Content-Length") (reply_fields head)) ≡ 1
  pub frames : framed (reply_fields head) ≡ Ok (length body)

-- the bytes begin with a reply of that status and that body
pub record BeginsWithAnswer (input : List ℕ) (status : ℕ) (body : List ℕ) : Type 0 where
  pub head : ResponseHead
  pub rest : List ℕ
  pub is_answer : IsAnswer head body
  pub bytes : input ≡ print_response head ++ (body ++ rest)
  pub status_is : status ≡ status_code head

-- no reply begins the bytes
abbrev pub BeginsNoAnswer : List ℕ → Type 0
BeginsNoAnswer input = (status : ℕ) (body : List ℕ) → ¬ BeginsWithAnswer input status body

-- none does, whatever bytes follow
abbrev pub NeverBeginsAnswer : List ℕ → Type 0
NeverBeginsAnswer input = (more : List ℕ) → BeginsNoAnswer (input ++ more)

-- P of the status and of the body, where a reply is there to its end
abbrev pub IfAnswer : AnswerRead → (ℕ → List ℕ → Type 0) → Type 0
IfAnswer (Whole status body) P = P status body.now
IfAnswer NotYet P = ⊤
IfAnswer Never P = ⊤

-- bytes were taken from the reader, and begin with the reply
pub record Gives {R : Type 0} (remaining : R → Option (List ℕ)) (old new : Watched R) (answer : Answer) : Type 0 where
  pub taken : List ℕ
  pub took : Took remaining old new taken false
  pub begins : BeginsWithAnswer taken answer.status answer.body.items

module _ {R : Type 0} (remaining : R → Option (List ℕ)) (old new : Watched R) where
  -- why no reply comes: none can begin what was read, or none does and the reader has failed or ended
  abbrev pub LacksAnswer : List ℕ → Bool → Type 0
  LacksAnswer taken failed = NeverBeginsAnswer taken ⊎ (BeginsNoAnswer taken × ((failed ≡ true) ⊎ IsAtEnd (remaining new.device)))

  -- bytes were taken from the reader, and no reply comes of them
  pub record GivesNone : Type 0 where
    pub taken : List ℕ
    pub failed : Bool
    pub took : Took remaining old new taken failed
    pub lacks : LacksAnswer taken failed
