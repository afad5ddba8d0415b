-- What a journal has, and how it is stored in its row.
use Rattle.std.specs.Prelude.{◌≤◌, ℕ, List, [], ◌∷◌, ◌++◌, Option, Some, None, IfSome}
use Rattle.std.specs.Str.{IsUtf8}
use Rattle.sqlite.specs.Order.{Row}
use Rattle.sqlite.specs.declared.types.Value.TheVariants.{Null, Text, Blob}
use Rattle.fax_value.specs.Dial.{IsCanonical}
use Rattle.fax_value.specs.Limits.{last_job}
use Rattle.fax_value.specs.Name.{IsName}
use Rattle.fax_tables.specs.Job.{IsText}
use Rattle.fax_tables.specs.Row.{number, call_number}
use Rattle.fax_worker.specs.Sayable.{IsHeld, IsNumbered}
use Rattle.fax_worker.specs.Worker.{Held}

-- a request that isn't answered yet
pub record Request : Type 0 where
  pub number : ℕ
  pub path : List ℕ
  pub body : List ℕ
  -- the key under which the answer is to be remembered
  pub key : Option (List ℕ)

pub record Entry : Type 0 where
  pub client : List ℕ
  -- the last request number that the client used
  pub last : ℕ
  pub unanswered : Option Request
  -- the grant that a worker holds
  pub held : Option Held

-- ---- which entries can be stored

pub record IsRequest (r : Request) : Type 0 where
  pub number : IsNumbered r.number
  pub path : IsUtf8 r.path
  pub key : IfSome r.key IsUtf8

-- a grant as a queue hands it out
pub record IsHandedOut (h : Held) : Type 0 where
  pub held : IsHeld h
  pub job : 1 ≤ h.job
  pub last_job : h.job ≤ last_job
  pub dial : IsText IsCanonical h.dial

pub record IsValid (e : Entry) : Type 0 where
  pub client : IsName e.client
  pub last : IsNumbered e.last
  pub unanswered : IfSome e.unanswered IsRequest
  pub held : IfSome e.held IsHandedOut

-- ---- rows

-- whether there is a key, and the key
abbrev pub key_columns : Option (List ℕ) → Row
key_columns None = number 0 ∷ Text [] ∷ []
key_columns (Some key) = number 1 ∷ Text key ∷ []

-- whether there is a request, and the request
abbrev pub request_columns : Option Request → Row
request_columns None = number 0 ∷ number 0 ∷ Text [] ∷ Blob [] ∷ key_columns None
request_columns (Some r) = number 1 ∷ number r.number ∷ Text r.path ∷ Blob r.body ∷ key_columns r.key

-- whether there is a grant, and the grant
abbrev pub held_columns : Option Held → Row
held_columns None = number 0 ∷ number 0 ∷ number 0 ∷ Text [] ∷ number 0 ∷ number 0 ∷ number 0 ∷ number 0 ∷ []
held_columns (Some h) = number 1 ∷ number h.grant ∷ number h.job ∷ Text h.dial ∷ number h.first_page ∷ number h.last_page ∷ number (call_number h.call) ∷ number h.pages ∷ []

-- all columns after the first, which is the rowid
abbrev pub entry_columns : Entry → Row
entry_columns e = Text e.client ∷ number e.last ∷ request_columns e.unanswered ++ held_columns e.held

-- a row begins with its rowid, and the column that is the rowid is NULL
abbrev pub entry_row : Entry → Row
entry_row e = number 1 ∷ Null ∷ entry_columns e

abbrev pub entry_rows : Option Entry → List Row
entry_rows None = []
entry_rows (Some e) = entry_row e ∷ []
