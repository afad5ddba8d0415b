-- What a floor is in the rows, and what the giving up of replies leaves on its way.
use Rattle.std.specs.Prelude.{◌≡◌, ◌≤◌, ◌<◌, ℕ, Bool, true, false, List, filter, length, Option, Some, None, Result, IfErr, IfOk, OnOk}
use Rattle.sqlite.specs.Effect.{Database}
use Rattle.sqlite_trees.specs.declared.store.Store.{Ghosts}
use Rattle.fax_core.specs.Ledger.{Ledger, is_through, without_replies}
use Rattle.fax_core.specs.Queue.{Queue}
use Rattle.fax_schema.specs.Schema.{floors_tree}
use Rattle.fax_store.specs.Calls.{Runs, shown}
use Rattle.fax_store.specs.Store.{Serves, StandsOrNone}
use Rattle.fax_store.specs.Work.{Steps, Works}
use Rattle.fax_store.specs.declared.store.Store.{Store}
use Rattle.fax_tables.specs.declared.fault.StoreFault.{StoreFault}
use Rattle.fax_tables.specs.declared.fault.StoreFault.TheVariants.{Unavailable}

-- whatever the rows say, one has this client beside this floor, or none has the client and the floor is 0
abbrev pub FloorStands : Database → List ℕ → ℕ → Type 0
FloorStands db = StandsOrNone db floors_tree

-- how many of the client's replies have numbers through this one
abbrev pub through : List ℕ → ℕ → Ledger → ℕ
through client n k = length (filter (is_through client n) k.replies)

-- The number of the hundredth of them, if there are so many through the floor: a hundred have numbers through it.
abbrev pub IsHundredth : List ℕ → ℕ → Ledger → Option ℕ → Type 0
IsHundredth client floor k None = through client floor k < 100
IsHundredth client floor k (Some n) = through client n k ≡ 100

-- the first hundred of them are gone
pub record AreHundredLess (client : List ℕ) (floor : ℕ) (k left : Ledger) : Type 0 where
  pub last : ℕ
  pub within : last ≤ floor
  pub hundred : through client last k ≡ 100
  pub is : left ≡ without_replies client last k

-- so are they where there were so many, else none is gone
abbrev pub IsHundredLess : List ℕ → ℕ → Ledger → Ledger → Bool → Type 0
IsHundredLess client floor k left true = AreHundredLess client floor k left
IsHundredLess client floor k left false = (left ≡ k) × (through client floor k < 100)

module _ {S : Type 0} (g : Ghosts S) (client : List ℕ) (floor : ℕ) where
  -- The call takes the client's replies with numbers through this one away, where they are a hundred at most.
  pub record TakesFew {A : Type 0} (old new : Store S) (result : Result A StoreFault) : Type 0 where
    pub leaves : Runs g old new result
    pub written : (m₀ m : Queue) (k₀ k : Ledger) → through client floor k ≤ 100 → Works (shown g old) false m₀ k₀ m k → Serves (shown g new)
        → Steps (shown g new) result m₀ k₀ m (without_replies client floor k)
    pub cause : IfErr result (λ fault. fault ≡ Unavailable)

  -- The call takes a hundred of them away, or none where there are fewer, and changes nothing else.
  pub record TakesHundred (old new : Store S) (result : Result Bool StoreFault) : Type 0 where
    pub leaves : Runs g old new result
    pub written : (m₀ m : Queue) (k₀ k : Ledger) → Works (shown g old) false m₀ k₀ m k → Serves (shown g new)
        → (left : Ledger) × Steps (shown g new) result m₀ k₀ m left × IfOk result (IsHundredLess client floor k left)

  -- The call takes them away but for fewer than a hundred, and changes nothing else.
  pub record Thins {A : Type 0} (old new : Store S) (result : Result A StoreFault) : Type 0 where
    pub leaves : Runs g old new result
    pub written : (m₀ m : Queue) (k₀ k : Ledger) → Works (shown g old) false m₀ k₀ m k → Serves (shown g new)
        → (left : Ledger) × (without_replies client floor left ≡ without_replies client floor k) × Steps (shown g new) result m₀ k₀ m left
        × OnOk result (through client floor left < 100)
