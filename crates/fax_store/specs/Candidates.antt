-- Which of the jobs that wait are asked for, and where a reading of them stands.
use Rattle.std.specs.Prelude.{◌≡◌, ◌<◌, ◌≤◌, ℕ, ◌==◌, Bool, true, false, ◌&&◌, ◌||◌, List, [], ◌∷◌, ◌++◌, filter, map, nat_lt, not, take, IfOk, OnOk, Option, Some, None, MatchOption, Result}
use Rattle.std.specs.Borrow.{GName}
use Rattle.std.specs.Str.{bytes_eq}
use Rattle.std.specs.Vec.Iter.{into_iter_items}
use Rattle.std.specs.declared.vec.IntoIter.{IntoIter}
use Rattle.sqlite.specs.Order.{Row}
use Rattle.sqlite.specs.State.{HasCleanDisk}
use Rattle.sqlite.specs.declared.types.Value.{Value}
use Rattle.sqlite.specs.declared.types.Value.TheVariants.{Null, Text}
use Rattle.sqlite_trees.specs.declared.store.Store.{Ghosts}
use Rattle.fax_core.specs.Job.{Job, fields_of}
use Rattle.fax_core.specs.Ledger.{Ledger}
use Rattle.fax_core.specs.Queue.{Queue}
use Rattle.fax_store.specs.Calls.{Looks, shown}
use Rattle.fax_store.specs.Job.{AreWaiting}
use Rattle.fax_store.specs.Store.{MeansNow, Serves, StaysOpen}
use Rattle.fax_store.specs.declared.candidates.Asked.{Asked}
use Rattle.fax_store.specs.declared.candidates.Candidates.{Candidates}
use Rattle.fax_store.specs.declared.candidates.Front.{Front}
use Rattle.fax_store.specs.declared.candidates.Front.TheVariants.{First, Number, Time, Priority}
use Rattle.fax_store.specs.declared.store.Store.{Store}
use Rattle.fax_tables.specs.Fault.{OrUnavailable}
use Rattle.fax_tables.specs.declared.fault.StoreFault.{StoreFault}
use Rattle.fax_tables.specs.Job.{prospect, prospect_shown}
use Rattle.fax_tables.specs.declared.prospect.Prospect.{Prospect}

-- ---- what is asked for

-- it is to another number than the one that is named
abbrev pub is_other : Option (List ℕ) → Job → Bool
is_other None j = true
is_other (Some dial) j = not (bytes_eq j.dial dial)

-- the number that is named, for SQL
abbrev pub value_of : Option (List ℕ) → Value
value_of None = Null
value_of (Some dial) = Text dial

-- the jobs that wait, but for those to that number
pub record AreAsked (asked : Asked) (m : Queue) (jobs : List Job) : Type 0 where
  pub all : List Job
  pub waiting : AreWaiting asked.t m all
  pub is : jobs ≡ filter (is_other asked.but) all

-- ---- what stands behind a front, in the order of the choice

-- what one statement finds: all; or behind a job those of the same priority and time to send, behind these those of the same priority, and behind these all others
abbrev pub is_near : Front → Job → Bool
is_near First j = true
is_near (Number p t n) j = j.priority == p && (j.tts == t && nat_lt n j.number)
is_near (Time p t) j = j.priority == p && nat_lt t j.tts
is_near (Priority p) j = nat_lt p j.priority

-- what comes after these
abbrev pub is_beyond : Front → Job → Bool
is_beyond (Number p t n) j = nat_lt p j.priority || (j.priority == p && nat_lt t j.tts)
is_beyond (Time p t) j = nat_lt p j.priority
is_beyond other j = false

abbrev pub is_behind : Front → Job → Bool
is_behind front j = is_near front j || is_beyond front j

-- behind this job
abbrev pub front_of : Prospect → Front
front_of last = Number last.priority last.tts last.job

-- where there are no more that one statement finds
abbrev pub next_front : Front → Front
next_front (Number p t n) = Time p t
next_front (Time p t) = Priority p
next_front other = other

-- one statement finds all
abbrev pub is_last : Front → Bool
is_last First = true
is_last (Number p t n) = false
is_last (Time p t) = false
is_last (Priority p) = true

-- ---- what is read and given

-- the rows of the first of them that one statement finds
pub record IsPage (asked : Asked) (m : Queue) (front : Front) (most : ℕ) (rows : List Row) : Type 0 where
  pub all : List Job
  pub waiting : AreAsked asked m all
  pub is : rows ≡ map (λ j. prospect_shown (fields_of j)) (take most (filter (is_near front) all))

-- how many jobs a page has at most
abbrev pub longest_page : ℕ
longest_page = 4096

-- The jobs that are asked for are those given, then those of the page, then those behind the front. The next page may have jobs, but no more than the longest.
pub record StandsAt (asked : Asked) (m : Queue) (given : List Job) (page : List Row) (front : Front) (most : ℕ) : Type 0 where
  pub all : List Job
  pub waiting : AreAsked asked m all
  pub read : List Job
  pub parts : all ≡ given ++ (read ++ filter (is_behind front) all)
  pub shown : page ≡ map (λ j. prospect_shown (fields_of j)) read
  pub some : 0 < most
  pub bounded : most ≤ longest_page

-- The next job is given, or none is, where those given are all that are asked for.
abbrev pub Gives : {A : Type 0} → (Job → A → Type 0) → Asked → Queue → List Job → List Row → Front → ℕ → Option A → Type 0
Gives Of asked m given page front most found =
    MatchOption found (AreAsked asked m given × StandsAt asked m given page front most) (λ next. (j : Job) × Of j next × StandsAt asked m (given ++ j ∷ []) page front most)

-- as the choice looks at it
abbrev pub IsProspect : Job → Prospect → Type 0
IsProspect j found = found ≡ prospect (fields_of j)

-- ---- calls of a reading

module _ {S Z : Type 0} (g : Ghosts S) where
  -- A reading of these begins: none is read yet.
  pub record Starts (name : GName) (old : Store S) (what : Asked) (new : Candidates S (IntoIter Row Z) Asked) : Type 0 where
    pub same_reference : new.store.ghost_name ≡ name
    pub same : new.store.now ≡ old
    pub asked : (new.asked.t ≡ what.t) × (new.asked.but ≡ what.but)
    pub stands : (m : Queue) (k : Ledger) → MeansNow (shown g old) m k → Serves (shown g old)
        → StandsAt new.asked m [] (into_iter_items new.page) new.front new.most

  -- The reading goes on, and changes nothing. Of those given before, and what is answered, this holds then. The store may not be asked anything, but at the end it is.
  pub record Reaches {A : Type 0} (old new : Candidates S (IntoIter Row Z) Asked) (result : Result A StoreFault) (IsEnd : A → Type 0) (Finds : Queue → List Job → A → Type 0) : Type 0 where
    pub same_reference : new.store.ghost_name ≡ old.store.ghost_name
    pub leaves : Looks g old.store.now new.store.now result
    pub opens : OnOk result (StaysOpen (shown g old.store.now) (shown g new.store.now))
    pub none : IfOk result (λ a. IsEnd a → HasCleanDisk (shown g new.store.now) → Serves (shown g new.store.now))
    pub asked : new.asked ≡ old.asked
    pub found : (m : Queue) (k : Ledger) (given : List Job) → MeansNow (shown g old.store.now) m k → Serves (shown g new.store.now)
        → StandsAt old.asked m given (into_iter_items old.page) old.front old.most → OrUnavailable result (Finds m given)

  -- The next page is read, where all of the last one is given, and it is told whether one statement finds all behind the front.
  pub record ReadsOn (old new : Candidates S (IntoIter Row Z) Asked) (result : Result Bool StoreFault) : Type 0 where
    pub same_reference : new.store.ghost_name ≡ old.store.ghost_name
    pub leaves : Looks g old.store.now new.store.now result
    pub opens : OnOk result (HasCleanDisk (shown g new.store.now) → Serves (shown g new.store.now))
    pub asked : new.asked ≡ old.asked
    pub told : IfOk result (λ last. last ≡ is_last old.front)
    pub next : OnOk result (into_iter_items new.page ≡ [] → new.front ≡ next_front old.front)
    pub found : (m : Queue) (k : Ledger) (given : List Job) → MeansNow (shown g old.store.now) m k → Serves (shown g new.store.now)
        → StandsAt old.asked m given [] old.front old.most → OrUnavailable result (λ last. StandsAt old.asked m given (into_iter_items new.page) new.front new.most
        × (into_iter_items new.page ≡ [] → last ≡ true → AreAsked old.asked m given))
