-- Messages: the head of a request, and a body as long as the head's fields frame it (RFC 9112, sections 2 to 6).
use Rattle.std.specs.Prelude.{◌≡◌, ◌⊎◌, ℕ, ◌+◌, ◌<◌, ◌≤◌, Bool, ◌||◌, ◌==◌, List, [], ◌∷◌, ◌++◌, length, map, filter, Option, Some, None, Result, Ok, Err, codes, if◌then◌else◌, nat_le}
use Rattle.std.specs.List.{list_any}
use Rattle.std.specs.Str.{str_eq_ignore_ascii_case}
use Rattle.httparse.specs.Grammar.{RequestHead, IsRequestHead, MayBecomeRequest, print_request}
use Rattle.httparse.specs.Spans.{name_and_value}
use Rattle.fax_value.specs.Blank.{trimmed}
use Rattle.fax_value.specs.Comma.{parts_of}
use Rattle.fax_value.specs.Number.{number_of}
use Rattle.fax_http.specs.declared.message.Broken.{Broken}
use Rattle.fax_http.specs.declared.message.Broken.TheVariants.{BadHttp, TooLarge}

-- the fields of a head: names, and values without the white space around them
abbrev pub Fields : Type 0
Fields = List (List ℕ × List ℕ)

-- the fields of a head
abbrev pub fields_of : RequestHead → Fields
fields_of head = map name_and_value head.fields

-- the values of the fields of that name, in order; letter case doesn't matter
abbrev pub values_of : List ℕ → Fields → List (List ℕ)
values_of name fields = map (λ f. f.1) (filter (λ f. str_eq_ignore_ascii_case f.0 name) fields)

-- the value of a field that occurs once, else nothing
abbrev pub sole : List (List ℕ) → List ℕ
sole [] = []
sole (value ∷ []) = value
sole (value ∷ another ∷ more) = []

-- the word stands in the list that a value is, between commas; letter case and the blanks around it don't matter
abbrev pub lists : List ℕ → List ℕ → Bool
lists word value = list_any (λ part. str_eq_ignore_ascii_case (trimmed part) word) (parts_of value)

-- no message follows: this one is of HTTP/1.0, or a `Connection` field has the word `close` (RFC 9112, section 9.6)
abbrev pub closes : ℕ → Fields → Bool
closes minor fields = (minor == 0) || list_any (lists (codes "close")) (values_of (codes "Connection") fields)

-- no message follows that of the head
abbrev pub is_last : RequestHead → Bool
is_last head = closes head.minor (fields_of head)

-- a length within its bound
abbrev pub bounded : Option ℕ → Result ℕ Broken
bounded None = Err BadHttp
bounded (Some n) = if nat_le n 65536 then Ok n else Err TooLarge

-- the length that the values of `Content-Length` say
abbrev pub said_length : List (List ℕ) → Result ℕ Broken
said_length [] = Ok 0
said_length (value ∷ []) = bounded (number_of value)
said_length (value ∷ another ∷ more) = Err BadHttp

-- the length where the body isn't coded for its transfer
abbrev pub uncoded : List (List ℕ) → Result ℕ Broken → Result ℕ Broken
uncoded [] length_said = length_said
uncoded (coding ∷ more) length_said = Err BadHttp

-- the length of the body that the fields frame
abbrev pub framed : Fields → Result ℕ Broken
framed fields = uncoded (values_of (codes "Transfer-Encoding") fields) (said_length (values_of (codes "Content-Length") fields))

-- a head within its limits
pub record IsHead (head : RequestHead) : Type 0 where
  pub grammar : IsRequestHead head
  pub bytes : length (print_request head) ≤ 16384
  pub fields : length head.fields ≤ 64

-- a head, and the body that it frames
pub record IsMessage (head : RequestHead) (body : List ℕ) : Type 0 where
  pub is_head : IsHead head
  pub frames : framed (fields_of head) ≡ Ok (length body)

-- the bytes are a message and then the rest
pub record BeginsWith (input : List ℕ) (head : RequestHead) (body rest : List ℕ) : Type 0 where
  pub message : IsMessage head body
  pub bytes : input ≡ print_request head ++ (body ++ rest)

-- the bytes begin with a head that frames too long a body
pub record IsTooLarge (input : List ℕ) : Type 0 where
  pub head : RequestHead
  pub rest : List ℕ
  pub is_head : IsHead head
  pub frames : framed (fields_of head) ≡ Err TooLarge
  pub bytes : input ≡ print_request head ++ rest

-- no message begins the bytes
abbrev pub BeginsNone : List ℕ → Type 0
BeginsNone input = (head : RequestHead) (body rest : List ℕ) → ¬ (BeginsWith input head body rest)

-- no head within its limits begins the bytes
abbrev pub HasNoHead : List ℕ → Type 0
HasNoHead input = (head : RequestHead) (rest : List ℕ) → IsHead head → ¬ (input ≡ print_request head ++ rest)

-- neither a message begins the bytes, nor a head that frames too long a body
pub record IsBad (input : List ℕ) : Type 0 where
  pub none : BeginsNone input
  pub not_too_large : ¬ (IsTooLarge input)

-- whatever bytes follow, no head within its limits begins them
abbrev pub NeverHasHead : List ℕ → Type 0
NeverHasHead input = (more : List ℕ) → HasNoHead (input ++ more)

-- no head yet, in fewer bytes than one may have; more can make it one by the grammar, or it ends in its target
pub record IsUnfinishedHead (input : List ℕ) : Type 0 where
  pub none : HasNoHead input
  pub within : length input < 16384
  pub grammar : MayBecomeRequest input

-- the bytes begin with a head, and end before the body that it frames does
pub record IsUnfinishedBody (input : List ℕ) : Type 0 where
  pub head : RequestHead
  pub rest : List ℕ
  pub size : ℕ
  pub is_head : IsHead head
  pub frames : framed (fields_of head) ≡ Ok size
  pub bytes : input ≡ print_request head ++ rest
  pub short : length rest < size

-- no message yet, in fewer bytes than one may have: its head or its body isn't there to its end
pub record IsUnfinished (input : List ℕ) : Type 0 where
  pub none : IsBad input
  pub within : length input < 16384 + 65536
  pub part : IsUnfinishedHead input ⊎ IsUnfinishedBody input

-- whatever bytes follow, neither a message begins them, nor a head that frames too long a body
abbrev pub StaysBad : List ℕ → Type 0
StaysBad input = (more : List ℕ) → IsBad (input ++ more)
