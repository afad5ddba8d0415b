-- What is done at one place in one call.
use Rattle.std.specs.Prelude.{◌≡◌, ◌⊎◌, ℕ, ◌+◌, Bool, true, false}
use Rattle.fax_net.specs.declared.link.Link.{Link}
use Rattle.fax_net.specs.declared.link.Stage.TheVariants.{Free, Open}
use Rattle.fax_net.specs.History.{Act, Answered, At, Came, Dry, Ended, Failed, Fits, Held, Left, Missed, Refused, Said, Step, Talk, Took, Waits, acted}
use Rattle.fax_net.specs.Link.{IsUnused, awaits, is_held, is_owing, Holds}

-- an act of a connection that is there
abbrev pub is_deed : Act → Bool
is_deed Came = false
is_deed Missed = false
is_deed (Said bytes) = true
is_deed Dry = true
is_deed Ended = true
is_deed (Took bytes) = true
is_deed Waits = true
is_deed Failed = true
is_deed Left = true
is_deed Held = false
is_deed (Answered turn is_over) = false
is_deed (Refused broken) = false

-- something moved by it
abbrev pub moves : Act → Bool
moves Came = true
moves Missed = false
moves (Said bytes) = true
moves Dry = false
moves Ended = true
moves (Took bytes) = true
moves Waits = false
moves Failed = true
moves Left = true
moves Held = false
moves (Answered turn is_over) = true
moves (Refused broken) = true

module _ {P : Type 0} (did : P → Step → P → Type 0) (place : ℕ) (peers peers₂ : P) (link link₂ : Link) where
  -- one act was done: it fits whatever became of the connection, and what is kept is what becomes of it
  pub record Acts (act : Act) (moved : Bool) : Type 0 where
    pub is_deed : is_deed act ≡ true
    pub happens : did peers (At place act) peers₂
    pub fits : (t : Talk) → Holds t link → Fits act t × Holds (acted act t) link₂
    pub moved_is : moved ≡ moves act

  -- nothing was done
  abbrev pub Rests : Bool → Type 0
  Rests moved = (peers₂ ≡ peers) × (link₂ ≡ link) × (moved ≡ false)

  -- one act was done, or nothing
  abbrev pub Does : Bool → Type 0
  Does moved = ((act : Act) × Acts act moved) ⊎ Rests moved

  -- where more is awaited, it was read
  abbrev pub TakesIn : Bool → Type 0
  TakesIn moved = ((act : Act) × Acts act moved × (moved ≡ false → act ≡ Dry)) ⊎ ((awaits link ≡ false) × Rests moved)

  -- the same, unless something was written: then more may be to do, and nothing was done
  abbrev pub TakesMore : Bool → Bool → Type 0
  TakesMore has_written moved = ((has_written ≡ true) × (moved ≡ true) × (peers₂ ≡ peers) × (link₂ ≡ link)) ⊎ TakesIn moved

  -- where something is owed, it was written: where nothing moved, the peer took nothing
  abbrev pub Writes : Bool → Type 0
  Writes moved = ((act : Act) × Acts act moved × (moved ≡ false → act ≡ Waits)) ⊎ ((is_owing link ≡ false) × Rests moved)

  -- a connection that is to be held is, or its time is over and it is closed; else nothing is done
  abbrev pub HoldsUp : Bool → Bool → Type 0
  HoldsUp is_full moved =
      ((is_held is_full link ≡ false) × Rests moved)
      ⊎ ((is_held is_full link ≡ true) × ((did peers (At place Held) peers₂ × (link₂ ≡ link) × (moved ≡ false))
      ⊎ (did peers (At place Failed) peers₂ × IsUnused link₂ Free × (moved ≡ true))))

  -- a connection came, or one that can't be accepted, or nobody; only where no more are to come was nobody asked for
  abbrev pub Admits : ℕ → ℕ → Bool → Type 0
  Admits left left₂ moved =
      (did peers (At place Came) peers₂ × IsUnused link₂ Open × (left ≡ left₂ + 1) × (moved ≡ true))
      ⊎ ((did peers (At place Missed) peers₂ × (link₂ ≡ link) × (left ≡ left₂ + 1) × (moved ≡ false))
      ⊎ ((did peers (At place Waits) peers₂ × (link₂ ≡ link) × (left₂ ≡ left) × (moved ≡ false))
      ⊎ (Rests moved × (left ≡ 0) × (left₂ ≡ 0))))
