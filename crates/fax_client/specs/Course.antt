-- What happens in a client's command, event by event.
use Rattle.std.specs.Prelude.{◌≡◌, ◌⊎◌, ℕ, Bool, List, [], ◌∷◌, Option, Some}
use Rattle.sqlite.specs.Effect.{Database}
use Rattle.sqlite_trees.specs.declared.store.Store.{Ghosts}
use Rattle.fax_journal.specs.Calls.{shown}
use Rattle.fax_journal.specs.Entry.{Request}
use Rattle.fax_journal.specs.declared.journal.Journal.{Journal}
use Rattle.fax_worker.specs.Trace.{Has}
use Rattle.fax_client.specs.Line.{Carrying, Pausing, Reply}
use Rattle.fax_client.specs.Message.{get_modems, message_of}
use Rattle.fax_client.specs.Saved.{IsBetween, IsKept}

-- J is a journal, and M what a client does
pub data Event (J M : Type 0) : Type 0 where
  -- a message is sent while the journal is this, and this comes back
  Sends : (journal : J) (message : List ℕ) (back : Reply) → Event J M
  Pauses : (again : Bool) → Event J M
  Does : (move : M) → Event J M

-- the newest first
abbrev pub Events : Type 0 → Type 0 → Type 0
Events J M = List (Event J M)

-- the earlier events are among the later ones
abbrev pub AreAmong : {J M : Type 0} → Events J M → Events J M → Type 0
AreAmong {J} {M} earlier later = (event : Event J M) → Has event earlier → Has event later

-- Clients of a kind: which databases are those of a client's journal, its name, the request that isn't answered yet, and what it may do.
pub record Kind (J X M : Type 0) : Type 1 where
  pub Has : X → Database → Type 0
  pub name : X → List ℕ
  pub unanswered : X → Option Request
  -- after these events a client may do this, and is that then
  pub may : Events J M → X → M → X → Type 0

-- where a command begins, once the journal is read
pub record Start (J L X : Type 0) : Type 0 where
  pub line : L
  pub journal : J
  pub client : X

module _ {S L X M : Type 0} (g : Ghosts S) (carries : Carrying L (Journal S)) (pauses : Pausing L) (kind : Kind (Journal S) X M) (first : Start (Journal S) L X) where
  -- the journal has the client
  abbrev pub IsSaved : X → Journal S → Type 0
  IsSaved x journal = IsKept (kind.Has x) (shown g first.journal) (shown g journal)

  -- The message is the client's unanswered request, or asks what the modems hold. The journal has the request, also after a crash.
  pub record IsOwed (x : X) (journal : Journal S) (message : List ℕ) : Type 0 where
    pub request : Request
    pub unanswered : kind.unanswered x ≡ Some request
    pub saved : IsSaved x journal
    pub message_is : (message ≡ message_of (kind.name x) request) ⊎ (message ≡ get_modems)

  -- such events lead to this line and this client
  abbrev pub Leads : Events (Journal S) M → L → X → Type 0
  Leads [] line x = (line ≡ first.line) × (x ≡ first.client)
  Leads (Sends journal message back ∷ earlier) line x = (before : L) × carries before journal message back line × IsOwed x journal message × Leads earlier before x
  Leads (Pauses again ∷ earlier) line x = (before : L) × pauses before again line × Leads earlier before x
  Leads (Does move ∷ earlier) line x = (before : X) × kind.may earlier before move x × Leads earlier line before

  -- the events lead here, and the journal has the client
  pub record IsAt (events : Events (Journal S) M) (line : L) (x : X) (journal : Journal S) : Type 0 where
    pub leads : Leads events line x
    pub saved : IsSaved x journal

  -- more events lead here
  abbrev pub Follows : Events (Journal S) M → Events (Journal S) M → L → X → Journal S → Type 0
  Follows earlier events line x journal = AreAmong earlier events × IsAt events line x journal

  -- The journal has a client to which events lead. A crash leaves that one, or the one after a further event.
  pub record IsBefore (line : L) (journal : Journal S) : Type 0 where
    pub events : Events (Journal S) M
    pub client : X
    pub leads : Leads events line client
    pub next : X
    pub step : (next ≡ client) ⊎ ((event : Event (Journal S) M) × Leads (event ∷ events) line next)
    pub saved : IsBetween (kind.Has client) (kind.Has next) (shown g first.journal) (shown g journal)
