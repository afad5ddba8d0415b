-- What is proved of the definitions. Each is the contract of a function in `src/laws.rt`.
use Rattle.std.specs.Prelude.{◌≡◌, ◌⊎◌, ℕ, ◌≤◌, List, [], ◌∷◌, ◌++◌, length}
use Rattle.fax_http.specs.Conversation.{GoOn, Reads, Turn}
use Rattle.fax_net.specs.History.{IsRight, Step, Talk, owed, talk}

-- another message may follow each of the turns but the last one
abbrev pub GoOnToLast : List Turn → Type 0
GoOnToLast turns = (turns ≡ []) ⊎ ((earlier : List Turn) × (last : Turn) × (turns ≡ earlier ++ last ∷ []) × GoOn earlier)

-- What a connection said is its messages and a rest, of 1,000 messages at most, of which only the last one may be such that none follows. What it took is a front of the replies to these messages in order, with the refusal behind them.
pub record IsItsOwn (t : Talk) : Type 0 where
  pub rest : List ℕ
  pub reads : Reads t.said t.turns rest
  pub going : GoOnToLast t.turns
  pub within : length t.turns ≤ 1000
  pub left : List ℕ
  pub owes : owed t ≡ t.took ++ left

-- at each moment of a history whose steps fit, that is so of each place, whatever happened at the others
abbrev pub EachItsOwn : Type 0
EachItsOwn = (count : ℕ) (history : List Step) (place : ℕ) → IsRight count history → IsItsOwn (talk place history)
