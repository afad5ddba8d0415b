-- How listening ends, and what it answers.
use Rattle.std.specs.Prelude.{◌≡◌, ◌⊎◌, ℕ, ◌-◌, ◌^◌, ◌<◌, ◌≤◌, Bool, true, false, List, [], ◌∷◌, ◌++◌, Option, codes}
use Rattle.fax_http.specs.Conversation.{Turn}
use Rattle.fax_http.specs.Device.{BrokeOff, Put}
use Rattle.fax_http.specs.declared.device.Watched.{Watched}
use Rattle.fax_net.specs.History.{Happens, IsOverAtLast, IsRight, Step, comings, looks, talk, turns_of}
use Rattle.fax_net.specs.declared.peers.BindFault.{BindFault}
use Rattle.fax_net.specs.declared.peers.BindFault.TheVariants.{Refused, NoMemory}
use Rattle.fax_ending.specs.Ending.{no_database, no_memory, write_failed}
use Rattle.fax_text.specs.declared.status.Status.{Status}
use Rattle.fax_text.specs.declared.status.Status.TheVariants.{Success, Fault, Usage, Unused, Later}

-- what it says once it listens
abbrev pub listening : List ℕ
listening = codes "faxqd: listening\n"

-- why it can't listen
abbrev pub bind_line : BindFault → List ℕ
bind_line Refused = codes "faxqd: cannot listen" ++ 10 ∷ []
bind_line NoMemory = no_memory

module _ {W : Type 0} (contents : W → Option (List ℕ)) (out out₂ : Watched W) where
  -- it didn't say that it listens, and so ends with this line: it can't, has no memory for connections, or the output failed
  abbrev pub SaidNothing : List ℕ → Type 0
  SaidNothing line =
      ((out₂ ≡ out) × (((fault : BindFault) × (line ≡ bind_line fault)) ⊎ (line ≡ no_memory))) ⊎ (BrokeOff contents out out₂ listening × (line ≡ write_failed))

  module _ {P : Type 0} (opened : P → Type 0) (did : P → Step → P → Type 0) where
    -- It opened the network, and said that it listens. So many connections came then, and each was served to its end; unless the store was shut, or it has looked at them 2 ^ 64 - 1 times. These are the messages of all, as they were answered.
    pub record HasListened (count : ℕ) (turns : List Turn) (shut : Bool) : Type 0 where
      pub said : Put contents out out₂ listening false
      pub start : P
      pub opens : opened start
      pub last : P
      pub history : List Step
      pub happens : Happens did start history last
      pub right : IsRight count history
      pub turns_are : turns ≡ turns_of history
      pub over : IsOverAtLast history shut
      pub within : comings history ≤ count
      pub all : shut ≡ false → looks history < 2 ^ 64 - 1
          → (comings history ≡ count) × ((place : ℕ) → place < 64 → (talk place history).is_open ≡ false)

    -- It succeeds where all connections were served; else it doesn't listen, or the output failed, or the store was shut. The last is what is said at the end.
    abbrev pub Listens : ℕ → List Turn → Bool → Status → List ℕ → Type 0
    Listens count turns shut Success line = HasListened count turns shut × (shut ≡ false) × (line ≡ [])
    Listens count turns shut Fault line = ((turns ≡ []) × SaidNothing line) ⊎ (HasListened count turns shut × (shut ≡ true) × (line ≡ no_database))
    Listens count turns shut Usage line = ⊥
    Listens count turns shut Unused line = ⊥
    Listens count turns shut Later line = ⊥
