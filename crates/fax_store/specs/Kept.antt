-- Which reply is kept for a client's request number.
use Rattle.std.specs.Prelude.{◌≡◌, ⊤, ℕ, List, [], ◌∷◌, Option, Some, None}
use Rattle.sqlite.specs.Effect.{Database}
use Rattle.sqlite.specs.declared.types.Value.{Value}
use Rattle.sqlite.specs.declared.types.Value.TheVariants.{Text}
use Rattle.sqlite_rules.specs.Lists.{Has}
use Rattle.fax_core.specs.Ledger.{Ledger, kept_for}
use Rattle.fax_core.specs.Queue.{Queue, Entry}
use Rattle.fax_tables.specs.Kept.{Tells}
use Rattle.fax_tables.specs.Row.{number}
use Rattle.fax_schema.specs.Schema.{replies_tree}
use Rattle.fax_tables.specs.Tables.{TablesMean}
use Rattle.fax_tables.specs.declared.replies.Kept.{Kept}

-- the entry is of this number of this client
pub record IsOf (client : List ℕ) (n : ℕ) (e : Entry) : Type 0 where
  pub client_is : e.client ≡ client
  pub number_is : e.number ≡ n

-- a number of a client has one entry at most
abbrev pub AreKeptOnce : List Entry → Type 0
AreKeptOnce k = (client : List ℕ) (n : ℕ) (e f : Entry) → Has k e → Has k f → IsOf client n e → IsOf client n f → e ≡ f

-- so it is in all tables that mean something, since the two columns are their key
abbrev pub TablesKeepOnce : Type 0
TablesKeepOnce = (db : Database) (m : Queue) (k : Ledger) → TablesMean db m k → AreKeptOnce k.replies

-- what is found tells that entry
abbrev pub IsKeptFor : List Entry → List ℕ → ℕ → Option Kept → Type 0
IsKeptFor k client n None = kept_for client n k ≡ None
IsKeptFor k client n (Some kept) = (e : Entry) × (kept_for client n k ≡ Some e) × Tells kept e

-- no reply is kept for this number of this client
abbrev pub IsUnkept : List ℕ → ℕ → List Entry → Type 0
IsUnkept client n k = (e : Entry) → Has k e → ¬ IsOf client n e

-- ---- the rows, whatever they say

-- a row of the kept replies has this number of this client, whatever stands beside it
pub record HasReply (db : Database) (client : List ℕ) (n : ℕ) : Type 0 where
  pub id : Value
  pub said : Value
  pub status : Value
  pub body : Value
  pub has : Has (db.trees replies_tree) (id ∷ Text client ∷ number n ∷ said ∷ status ∷ body ∷ [])

-- where none is found there is no such row
abbrev pub MissesNone : Database → List ℕ → ℕ → Option Kept → Type 0
MissesNone db client n None = ¬ HasReply db client n
MissesNone db client n (Some kept) = ⊤
