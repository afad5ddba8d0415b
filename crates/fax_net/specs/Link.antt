-- What a server keeps of one connection is what became of it.
use Rattle.std.specs.Prelude.{◌≡◌, ◌⊎◌, ℕ, ◌+◌, ◌<◌, ◌≤◌, Bool, ◌&&◌, true, false, not, List, [], ◌∷◌, ◌++◌, length, if◌then◌else◌}
use Rattle.fax_http.specs.declared.message.Broken.TheVariants.{BadHttp}
use Rattle.fax_http.specs.declared.turn.Found.{Found}
use Rattle.fax_http.specs.declared.turn.Found.TheVariants.{Answered, Last, Refused, NotYet}
use Rattle.fax_http.specs.Conversation.{failure_of}
use Rattle.fax_http.specs.Found.{Finds}
use Rattle.fax_http.specs.Serving.{Answering}
use Rattle.fax_http.specs.Message.{IsUnfinished}
use Rattle.fax_net.specs.declared.link.Link.{Link}
use Rattle.fax_net.specs.declared.link.Stage.{Stage}
use Rattle.fax_net.specs.declared.link.Stage.TheVariants.{Free, Open, Ended, Ending}
use Rattle.fax_net.specs.History.{GoesOn, IsDone, Talk, asks_for_listing, last_owed, owed}
use Rattle.fax_net.specs.Lists.{is_none}

abbrev pub is_open : Stage → Bool
is_open Free = false
is_open Open = true
is_open Ended = false
is_open Ending = false

abbrev pub is_taken : Stage → Bool
is_taken Free = false
is_taken Open = true
is_taken Ended = true
is_taken Ending = true

abbrev pub is_ending : Stage → Bool
is_ending Free = false
is_ending Open = false
is_ending Ended = false
is_ending Ending = true

-- its next message is to be looked for
abbrev pub is_due : Link → Bool
is_due link = (is_open link.stage && is_none link.pending) && not link.is_awaited

-- more of its next message is to be read
abbrev pub awaits : Link → Bool
awaits link = (is_open link.stage && is_none link.pending) && link.is_awaited

-- all is said and written
abbrev pub is_done : Link → Bool
is_done link = is_ending link.stage && is_none link.pending

-- something is to be written
abbrev pub is_owing : Link → Bool
is_owing link = is_taken link.stage && not (is_none link.pending)

-- its next message asks for a listing, for which there is no room
abbrev pub is_held : Bool → Link → Bool
is_held is_full link = is_full && (is_due link && asks_for_listing link.said)

-- how long the reply is of which something is to be written to it
abbrev pub untaken_by : Link → ℕ
untaken_by link = if is_owing link then link.size else 0

-- to all
abbrev pub untaken_in : List Link → ℕ
untaken_in [] = 0
untaken_in (link ∷ links) = untaken_by link + untaken_in links

-- nothing was said or written yet
pub record IsUnused (link : Link) (stage : Stage) : Type 0 where
  pub stage_is : link.stage ≡ stage
  pub said : link.said ≡ []
  pub pending : link.pending ≡ []
  pub messages : link.messages ≡ 0
  pub unseen : link.is_awaited ≡ false

-- the conversation goes on: the bytes that it said and that aren't answered stand behind its messages, and what is owed to it was taken or is pending
pub record IsGoing (t : Talk) (link : Link) : Type 0 where
  pub is_open : t.is_open ≡ true
  pub goes_on : GoesOn t link.said
  pub counted : length t.turns ≡ link.messages
  pub owes : owed t ≡ t.took ++ link.pending
  pub awaited : link.is_awaited ≡ true → IsUnfinished link.said
  pub unended : link.stage ≡ Open → t.has_ended ≡ false
  pub sized : is_none link.pending ≡ false → link.size ≡ length (last_owed t.refused t.turns)

-- it says no more, and that isn't answered yet
pub record HasSaidAll (t : Talk) (link : Link) : Type 0 where
  pub going : IsGoing t link
  pub ended : t.has_ended ≡ true
  pub nothing : link.pending ≡ []
  pub part : IsUnfinished link.said

-- nothing more is answered
pub record IsEnding (t : Talk) (link : Link) : Type 0 where
  pub is_open : t.is_open ≡ true
  pub done : IsDone t
  pub owes : owed t ≡ t.took ++ link.pending
  pub sized : is_none link.pending ≡ false → link.size ≡ length (last_owed t.refused t.turns)

abbrev pub HoldsAt : Stage → Talk → Link → Type 0
HoldsAt Free t link = t.is_open ≡ false
HoldsAt Open t link = IsGoing t link
HoldsAt Ended t link = HasSaidAll t link
HoldsAt Ending t link = IsEnding t link

-- what is kept is what became of it
abbrev pub Holds : Talk → Link → Type 0
Holds t link = HoldsAt link.stage t link

-- ---- what changes

-- a reply is to be written
pub record Owes (link link₂ : Link) (bytes : List ℕ) (stage : Stage) : Type 0 where
  pub stage_is : link₂.stage ≡ stage
  pub said : link₂.said ≡ link.said
  pub pending : link₂.pending ≡ bytes
  pub size : link₂.size ≡ length bytes
  pub messages : link₂.messages ≡ link.messages
  pub is_awaited : link₂.is_awaited ≡ link.is_awaited

-- what is left where nothing more is said: nothing, or bytes that begin no message
abbrev pub EndsAt : Stage → Link → Link → Bool → Type 0
EndsAt Free link link₂ moved = (moved ≡ false) × (link₂ ≡ link)
EndsAt Open link link₂ moved = (moved ≡ false) × (link₂ ≡ link)
EndsAt Ended link link₂ moved =
    ((moved ≡ false) × (link.said ≡ []) × (link₂ ≡ record link { stage = Ending }))
    ⊎ ((moved ≡ true) × ¬ (link.said ≡ []) × Owes link link₂ (failure_of BadHttp) Ending)
EndsAt Ending link link₂ moved = (moved ≡ false) × (link₂ ≡ link)

abbrev pub HasEnded : Link → Link → Bool → Type 0
HasEnded link link₂ moved = EndsAt link.stage link link₂ moved

-- where a message is due and nothing was said of it, it is awaited
abbrev pub AwaitsNext : Link → Link → Type 0
AwaitsNext link link₂ = (link₂ ≡ link) ⊎ ((is_due link ≡ true) × (link.said ≡ []) × (link₂ ≡ record link { is_awaited = true }))

-- what is kept of what was found
abbrev pub Keeps : Found → Link → Link → Bool → Type 0
Keeps (Answered bytes) link link₂ moved =
    (moved ≡ true) × (link₂.pending ≡ bytes) × (link.messages < 1000 → link₂.messages ≡ link.messages + 1) × (link₂.is_awaited ≡ link.is_awaited)
    × (((link₂.stage ≡ Open) × (link₂.messages < 1000)) ⊎ ((link₂.stage ≡ Ending) × (1000 ≤ link₂.messages))) × (link₂.size ≡ length bytes)
Keeps (Last bytes) link link₂ moved = (moved ≡ true) × (link₂.pending ≡ bytes) × (link₂.stage ≡ Ending) × (link₂.size ≡ length bytes)
Keeps (Refused bytes) link link₂ moved = (moved ≡ true) × (link₂.pending ≡ bytes) × (link₂.stage ≡ Ending) × (link₂.size ≡ length bytes)
Keeps NotYet link link₂ moved =
    (moved ≡ false) × (link₂.pending ≡ link.pending) × (link₂.messages ≡ link.messages) × (link₂.is_awaited ≡ true) × (link₂.stage ≡ link.stage)

-- where its next message is due and it isn't held, it is looked for
abbrev pub HasAnswered : {H : Type 0} → Answering H → (H → Bool) → H → H → Bool → Link → Link → Bool → Type 0
HasAnswered answers over old new is_full link link₂ moved =
    (((is_due link ≡ false) ⊎ (is_held is_full link ≡ true)) × (link₂ ≡ link) × (new ≡ old) × (moved ≡ false))
    ⊎ ((is_due link ≡ true) × (is_held is_full link ≡ false) × (found : Found) × Finds answers over old new link.said link₂.said found × Keeps found link link₂ moved)
