-- What is kept of the clients.
use Rattle.std.specs.Prelude.{◌≡◌, ◌≤◌, ◌<◌, ◌^◌, ◌⊎◌, ℕ, Bool, ◌==◌, ◌&&◌, List, [], ◌∷◌, ◌++◌, Option, filter, not, if◌then◌else◌, nat_le, nat_lt}
use Rattle.std.specs.List.{find}
use Rattle.std.specs.Str.{bytes_eq}
use Rattle.fax_value.specs.Name.{IsName}
use Rattle.fax_core.specs.Queue.{Entry}

-- the entry that a reply is kept as
abbrev pub entry : List ℕ → ℕ → List ℕ → ℕ → List ℕ → Entry
entry client n said status body = record { client = client; number = n; said = said; status = status; body = body }

-- the status of a reply that is kept: OK or Created
abbrev pub IsKeptStatus : ℕ → Type 0
IsKeptStatus status = (status ≡ 200) ⊎ (status ≡ 201)

pub record IsLawfulEntry (e : Entry) : Type 0 where
  pub client : IsName e.client
  pub number : (1 ≤ e.number) × (e.number < 10 ^ 18)
  pub status : IsKeptStatus e.status

-- the entry of this number of this client, if there is one
abbrev pub kept_for : List ℕ → ℕ → List Entry → Option Entry
kept_for client n k = find (λ e. bytes_eq e.client client && (e.number == n)) k

-- the replies, and of each client the number through which it has given its own up: 0, where it has given up none
pub record Ledger : Type 0 where
  pub replies : List Entry
  pub floor : List ℕ → ℕ

abbrev pub empty_ledger : Ledger
empty_ledger = record { replies = []; floor = λ _. 0 }

-- with one more reply
abbrev pub with_reply : Entry → Ledger → Ledger
with_reply e k = record k { replies = k.replies ++ e ∷ [] }

-- the greater of both
abbrev pub greater : ℕ → ℕ → ℕ
greater a b = if nat_lt a b then b else a

-- the entry is of this client, with a number through this one
abbrev pub is_through : List ℕ → ℕ → Entry → Bool
is_through client upto e = bytes_eq e.client client && nat_le e.number upto

-- without this client's replies through this number
abbrev pub without_replies : List ℕ → ℕ → Ledger → Ledger
without_replies client floor k = record k { replies = filter (λ e. not (is_through client floor e)) k.replies }

-- the floors, with this one of this client
abbrev pub floors_with : List ℕ → ℕ → (List ℕ → ℕ) → List ℕ → ℕ
floors_with client floor floors other = if bytes_eq other client then floor else floors other

-- with this floor of this client, and without its replies through it
abbrev pub with_floor : List ℕ → ℕ → Ledger → Ledger
with_floor client floor k = record (without_replies client floor k) { floor = floors_with client floor k.floor }

-- the client gives up its replies through this number: its floor is raised to it, where it isn't as high
abbrev pub given_up : List ℕ → ℕ → Ledger → Ledger
given_up client upto k = with_floor client (greater (k.floor client) upto) k
