-- What the columns of an optional part tell.
use Rattle.std.proofs.Common.{◌≡◌, ℕ, List, Bool, true, false, Option, Some, None, is_some, if◌then◌else◌, refl, sym, ◌∙◌}
use Rattle.sqlite.specs.Order.{Row}
use Rattle.fax_tables.specs.Row.{HasNumber, HasValues}
use Rattle.fax_worker.specs.Worker.{Held}
use Rattle.fax_journal.specs.Entry.{Entry, Request, held_columns, key_columns, request_columns}

-- ---- whether a part is there

pub key_flag : (row : Row) (key : Option (List ℕ)) → HasValues row 6 (key_columns key) → HasNumber row 6 (if is_some key then 1 else 0)
key_flag row None has = has.0
key_flag row (Some key) has = has.0

pub request_flag : (row : Row) (request : Option Request) → HasValues row 2 (request_columns request) → HasNumber row 2 (if is_some request then 1 else 0)
request_flag row None has = has.0
request_flag row (Some r) has = has.0

pub held_flag : (row : Row) (held : Option Held) → HasValues row 8 (held_columns held) → HasNumber row 8 (if is_some held then 1 else 0)
held_flag row None has = has.0
held_flag row (Some h) has = has.0

-- it isn't
pub none_there : {X : Type 0} (o : Option X) (flag : Bool) → flag ≡ false → flag ≡ is_some o → None ≡ o
none_there None flag off is = refl
none_there (Some x) flag off is = absurd (let e = sym off ∙ is in cc)

-- it is, so what holds of each part that is there holds
pub some_there : {X : Type 0} (o : Option X) (flag : Bool) → flag ≡ true → flag ≡ is_some o → (P : Option X → Type 0) → ((x : X) → P (Some x)) → P o
some_there None flag on is P each = absurd (let e = sym on ∙ is in cc)
some_there (Some x) flag on is P each = each x

-- and what is found is it
pub some_is : {X : Type 0} (o found : Option X) (flag : Bool) → flag ≡ true → flag ≡ is_some o → (There Valid : Option X → Type 0) → ((x : X) → There (Some x) → Valid (Some x) → found ≡ Some x) → There o → Valid o → found ≡ o
some_is None found flag on is There Valid each there valid = absurd (let e = sym on ∙ is in cc)
some_is (Some x) found flag on is There Valid each there valid = each x there valid

-- ---- records of the same parts

pub same_request : (r : Request) (number : ℕ) (path body : List ℕ) (key : Option (List ℕ)) → number ≡ r.number → path ≡ r.path → body ≡ r.body → key ≡ r.key
    → ◌≡◌ {A = Request} (record { number = number; path = path; body = body; key = key }) r
same_request r number path body key e0 e1 e2 e3 = rw (e0, e1, e2, e3) refl

pub same_entry : (e : Entry) (client : List ℕ) (last : ℕ) (unanswered : Option Request) (held : Option Held) → client ≡ e.client → last ≡ e.last → unanswered ≡ e.unanswered → held ≡ e.held
    → ◌≡◌ {A = Entry} (record { client = client; last = last; unanswered = unanswered; held = held }) e
same_entry e client last unanswered held e0 e1 e2 e3 = rw (e0, e1, e2, e3) refl
