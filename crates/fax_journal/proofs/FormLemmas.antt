-- The columns of an entry: which values they are, and in which places a row has them.
use Rattle.std.proofs.Common.{◌≡◌, ℕ, ◌+◌, List, [], ◌∷◌, ◌++◌, length, Option, Some, None, refl, sym, ap, ap₂, ◌∙◌, append_assoc, append-nil, length-append, arith}
use Rattle.sqlite.specs.Order.{Row, column}
use Rattle.sqlite.specs.declared.types.Value.{Value}
use Rattle.sqlite.specs.declared.types.Value.TheVariants.{Text, Blob}
use Rattle.fax_tables.specs.Row.{HasValue, HasValues, number, call_number}
use Rattle.fax_worker.specs.Worker.{Held}
use Rattle.fax_journal.specs.Entry.{Entry, Request, entry_columns, held_columns, key_columns, request_columns}

-- ---- which values they are

pub record Plain : Type 0 where
  pub client : List ℕ
  pub last : ℕ
  pub unanswered : ℕ
  pub number : ℕ
  pub path : List ℕ
  pub body : List ℕ
  pub keyed : ℕ
  pub key : List ℕ
  pub holds : ℕ
  pub grant : ℕ
  pub job : ℕ
  pub dial : List ℕ
  pub first_page : ℕ
  pub last_page : ℕ
  pub call : ℕ
  pub pages : ℕ

abbrev pub plain_columns : Plain → Row
plain_columns p =
    Text p.client ∷ number p.last ∷ number p.unanswered ∷ number p.number ∷ Text p.path ∷ Blob p.body ∷ number p.keyed ∷ Text p.key
    ∷ number p.holds ∷ number p.grant ∷ number p.job ∷ Text p.dial ∷ number p.first_page ∷ number p.last_page ∷ number p.call ∷ number p.pages ∷ []

record KeyValues (row : Row) : Type 0 where
  keyed : ℕ
  key : List ℕ
  is : row ≡ number keyed ∷ Text key ∷ []

key_values : (key : Option (List ℕ)) → KeyValues (key_columns key)
key_values None = record { keyed = 0; key = []; is = refl }
key_values (Some key) = record { keyed = 1; key = key; is = refl }

record RequestValues (row : Row) : Type 0 where
  unanswered : ℕ
  given : ℕ
  path : List ℕ
  body : List ℕ
  keyed : ℕ
  key : List ℕ
  is : row ≡ number unanswered ∷ number given ∷ Text path ∷ Blob body ∷ number keyed ∷ Text key ∷ []

request_values : (request : Option Request) → RequestValues (request_columns request)
request_values None = record { unanswered = 0; given = 0; path = []; body = []; keyed = 0; key = []; is = refl }
request_values (Some r) =
    let k = key_values r.key in
    record {
      unanswered = 1;
      given = r.number;
      path = r.path;
      body = r.body;
      keyed = k.keyed;
      key = k.key;
      is = ap (λ (row : Row). number 1 ∷ number r.number ∷ Text r.path ∷ Blob r.body ∷ row) k.is;
    }

record HeldValues (row : Row) : Type 0 where
  holds : ℕ
  grant : ℕ
  job : ℕ
  dial : List ℕ
  first_page : ℕ
  last_page : ℕ
  call : ℕ
  pages : ℕ
  is : row ≡ number holds ∷ number grant ∷ number job ∷ Text dial ∷ number first_page ∷ number last_page ∷ number call ∷ number pages ∷ []

held_values : (held : Option Held) → HeldValues (held_columns held)
held_values None = record { holds = 0; grant = 0; job = 0; dial = []; first_page = 0; last_page = 0; call = 0; pages = 0; is = refl }
held_values (Some h) =
    record { holds = 1; grant = h.grant; job = h.job; dial = h.dial; first_page = h.first_page; last_page = h.last_page; call = call_number h.call; pages = h.pages; is = refl }

-- the columns of an entry are plain values
pub plain_of : (e : Entry) → (p : Plain) × (entry_columns e ≡ plain_columns p)
plain_of e =
    let r = request_values e.unanswered in
    let h = held_values e.held in (
      record {
        client = e.client;
        last = e.last;
        unanswered = r.unanswered;
        number = r.given;
        path = r.path;
        body = r.body;
        keyed = r.keyed;
        key = r.key;
        holds = h.holds;
        grant = h.grant;
        job = h.job;
        dial = h.dial;
        first_page = h.first_page;
        last_page = h.last_page;
        call = h.call;
        pages = h.pages;
      },
      ap₂ (λ (front behind : Row). Text e.client ∷ number e.last ∷ (front ++ behind)) r.is h.is,
    )

-- ---- in which places they are

at_front : (front : Row) (v : Value) (rest : Row) → column (front ++ v ∷ rest) (length front) ≡ v
at_front [] v rest = refl
at_front (x ∷ xs) v rest = at_front xs v rest

-- a row has the values that are in it, from the place where they begin
has_values : (row front values behind : Row) (at : ℕ) → row ≡ front ++ (values ++ behind) → at ≡ length front → HasValues row at values
has_values row front [] behind at is place = tt
has_values row front (v ∷ vs) behind at is place = (
  record {
    within = omega (arith, place, ap length is, length-append front (v ∷ (vs ++ behind)));
    is = ap₂ (λ (r : Row) i. column r i) is place ∙ at_front front v (vs ++ behind);
  },
  has_values row (front ++ v ∷ []) vs behind (at + 1) (is ∙ sym (append_assoc front (v ∷ []) (vs ++ behind))) (omega (arith, place, length-append front (v ∷ []))),
)

-- a request has six columns
pub request_length : (request : Option Request) → length (request_columns request) ≡ 6
request_length request = ap length (request_values request).is

module _ (e : Entry) (row : Row) (is : row ≡ entry_columns e) where
  pub client_there : HasValue row 0 (Text e.client)
  client_there = (has_values row [] (Text e.client ∷ []) (number e.last ∷ (request_columns e.unanswered ++ held_columns e.held)) 0 is refl).0

  pub last_there : HasValue row 1 (number e.last)
  last_there = (has_values row (Text e.client ∷ []) (number e.last ∷ []) (request_columns e.unanswered ++ held_columns e.held) 1 is refl).0

  pub request_there : HasValues row 2 (request_columns e.unanswered)
  request_there = has_values row (Text e.client ∷ number e.last ∷ []) (request_columns e.unanswered) (held_columns e.held) 2 is refl

  pub held_there : HasValues row 8 (held_columns e.held)
  held_there = has_values row (Text e.client ∷ number e.last ∷ request_columns e.unanswered) (held_columns e.held) [] 8
      (is ∙ ap (λ (r : Row). (Text e.client ∷ number e.last ∷ request_columns e.unanswered) ++ r) (sym (append-nil (held_columns e.held)))) (omega (arith, request_length e.unanswered))
