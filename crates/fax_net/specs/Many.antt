-- What a server of many connections does, a place after the other.
use Rattle.std.specs.Prelude.{◌≡◌, ℕ, ◌+◌, ◌-◌, ◌^◌, ◌<◌, ◌≤◌, Bool, true, false, List, length, get_or, nat_lt}
use Rattle.fax_http.specs.Serving.{Replying}
use Rattle.fax_net.specs.declared.link.Link.{Link}
use Rattle.fax_net.specs.History.{AreAnswered, Happens, IsAttended, IsRight, Step, Talk, comings, looks, talk}
use Rattle.fax_net.specs.Link.{Holds}
use Rattle.fax_net.specs.Lists.{is_none}

-- it is attended to, whether or not more are to come
abbrev pub IsSettled : Bool → Talk → Type 0
IsSettled is_busy t = (may_come : Bool) → IsAttended is_busy may_come t

module _ {P H : Type 0} (did : P → Step → P → Type 0) (answers : Replying H) (over : H → Bool) (count : ℕ) where
  -- the history is what the connections did and what was answered, and each step of it fits where so many are to come
  pub record Runs (start : P) (first : H) (history : List Step) (peers : P) (handler : H) : Type 0 where
    pub happens : Happens did start history peers
    pub answered : AreAnswered answers over first history handler
    pub right : IsRight count history

  -- the history went on at this place alone, and what is kept there is what became of it
  pub record GoesFrom (place : ℕ) (peers : P) (handler : H) (link : Link) (left left₂ : ℕ) (moved : Bool) (Wanted : Talk → Type 0)
      (start : P) (first : H) (earlier : List Step) : Type 0 where
    pub later : List Step
    pub runs : Runs start first later peers handler
    pub holds : Holds (talk place later) link
    pub others : (k : ℕ) → ¬ (place ≡ k) → talk k later ≡ talk k earlier
    pub left_is : comings later + left₂ ≡ comings earlier + left
    pub grown : comings earlier ≤ comings later
    pub looks_are : looks later ≡ looks earlier
    pub stays_moved : (talk place earlier).is_moved ≡ true → (talk place later).is_moved ≡ true
    pub has_moved : moved ≡ true → (talk place later).is_moved ≡ true
    pub also : Wanted (talk place later)

module _ {P H : Type 0} (did : P → Step → P → Type 0) (answers : Replying H) (over : H → Bool) where
  -- so it goes from any history on of which this is known, where no message of the connection was answered since the last look, unless its reply is still pending
  abbrev pub Moves : ℕ → P → P → H → H → Link → Link → ℕ → ℕ → (List Step → Type 0) → Bool → (Talk → Type 0) → Type 0
  Moves place peers peers₂ handler handler₂ link link₂ left left₂ Known moved Wanted =
      (count : ℕ) (start : P) (first : H) (earlier : List Step) → Runs did answers over count start first earlier peers handler → place < 64 → Holds (talk place earlier) link
      → (is_none link.pending ≡ true → (talk place earlier).replies ≡ 0) → Known earlier → GoesFrom did answers over count place peers₂ handler₂ link₂ left left₂ moved Wanted start first earlier

-- what is kept at each place is what became of the connection there
abbrev pub AllHold : List Step → List Link → Type 0
AllHold history links = (k : ℕ) (d : Link) → k < length links → Holds (talk k history) (get_or links k d)

-- no message of a place was answered since the last look, unless its reply is still pending
abbrev pub AreFresh : List Step → List Link → Type 0
AreFresh history links = (k : ℕ) (d : Link) → k < length links → is_none (get_or links k d).pending ≡ true → (talk k history).replies ≡ 0

-- something moved since the last look at each of these places
abbrev pub HaveMoved : List Step → List Bool → Type 0
HaveMoved history places = (k : ℕ) → get_or places k false ≡ true → (talk k history).is_moved ≡ true

module _ {P H : Type 0} (did : P → Step → P → Type 0) (answers : Replying H) (over : H → Bool) (count : ℕ) where
  -- each place had its turn, unless who answers is over
  pub record GoesRound (peers : P) (handler : H) (links : List Link) (left left₂ : ℕ) (is_busy : Bool) (start : P) (first : H) (earlier : List Step) : Type 0 where
    pub later : List Step
    pub runs : Runs did answers over count start first later peers handler
    pub holds : AllHold later links
    pub left_is : comings later + left₂ ≡ comings earlier + left
    pub looks_are : looks later ≡ looks earlier
    pub attended : over handler ≡ false → (k : ℕ) → k < 64 → IsAttended is_busy (nat_lt 0 left₂) (talk k later)

  -- what is there was read, and what may be answered together was, unless something that came is held back
  pub record GoesReady (peers : P) (handler : H) (links : List Link) (held_back : List Bool) (start : P) (first : H) (earlier : List Step) : Type 0 where
    pub later : List Step
    pub runs : Runs did answers over count start first later peers handler
    pub holds : AllHold later links
    pub comings_are : comings later ≡ comings earlier
    pub looks_are : looks later ≡ looks earlier
    pub fresh : AreFresh later links
    pub moved : HaveMoved later held_back

module _ {P H : Type 0} (did : P → Step → P → Type 0) (answers : Replying H) (over : H → Bool) where
  abbrev pub Readies : P → P → H → H → List Link → List Link → List Bool → Type 0
  Readies peers peers₂ handler handler₂ links links₂ held_back =
      (count : ℕ) (start : P) (first : H) (earlier : List Step) → Runs did answers over count start first earlier peers handler → AllHold earlier links
      → ((k : ℕ) → (talk k earlier).replies ≡ 0) → (length links₂ ≡ 64) × GoesReady did answers over count peers₂ handler₂ links₂ held_back start first earlier

  abbrev pub Rounds : P → P → H → H → List Link → List Link → ℕ → ℕ → List Bool → Bool → Type 0
  Rounds peers peers₂ handler handler₂ links links₂ left left₂ held_back is_busy =
      (count : ℕ) (start : P) (first : H) (earlier : List Step) → Runs did answers over count start first earlier peers handler → AllHold earlier links
      → AreFresh earlier links → HaveMoved earlier held_back → GoesRound did answers over count peers₂ handler₂ links₂ left left₂ is_busy start first earlier

  -- So many connections came and were served to their end, unless who answers is over, or the server has looked at them 2 ^ 64 - 1 times.
  pub record ServesMany (count : ℕ) (peers : P) (handler : H) (peers₂ : P) (handler₂ : H) : Type 0 where
    pub history : List Step
    pub runs : Runs did answers over count peers handler history peers₂ handler₂
    pub within : comings history ≤ count
    pub all : over handler₂ ≡ false → looks history < 2 ^ 64 - 1
        → (comings history ≡ count) × ((place : ℕ) → place < 64 → (talk place history).is_open ≡ false)
