-- What events lead to.
use Rattle.std.proofs.Common.{◌≡◌, ◌⊎◌, inl, inr, ℕ, Bool, List, ◌∷◌, Some, refl, sym, subst}
use Rattle.sqlite_trees.specs.declared.store.Store.{Ghosts}
use Rattle.fax_journal.specs.Calls.{shown}
use Rattle.fax_journal.specs.Entry.{Request}
use Rattle.fax_journal.specs.declared.journal.Journal.{Journal}
use Rattle.fax_worker.specs.Trace.{Has}
use Rattle.fax_client.specs.Asking.{MayLook}
use Rattle.fax_client.specs.Course.{AreAmong, Does, Event, Events, Follows, IsAt, IsBefore, IsSaved, Kind, Pauses, Sends, Start}
use Rattle.fax_client.specs.Line.{Carrying, Pausing, Reply}
use Rattle.fax_client.specs.Message.{get_modems, message_of}
use Rattle.fax_client.specs.Saved.{IsBetween}
use Rattle.fax_client.proofs.SavedLemmas.{unwritten}

-- ---- which events

pub none_more : {J M : Type 0} (events : Events J M) → AreAmong events events
none_more events = λ event h. h

pub one_more : {J M : Type 0} (earlier events : Events J M) (newest : Event J M) → AreAmong earlier events → AreAmong earlier (newest ∷ events)
one_more earlier events newest among = λ event h. inr (among event h)

pub more : {J M : Type 0} (earlier events later : Events J M) → AreAmong earlier events → AreAmong events later → AreAmong earlier later
more earlier events later a b = λ event h. b event (a event h)

module _ {S L X M : Type 0} (g : Ghosts S) (carries : Carrying L (Journal S)) (pauses : Pausing L) (kind : Kind (Journal S) X M) (first : Start (Journal S) L X) where
  -- ---- one event

  pub sent : (events : Events (Journal S) M) (line after : L) (x : X) (journal : Journal S) (message : List ℕ) (back : Reply) (r : Request)
      → IsAt g carries pauses kind first events line x journal → carries line journal message back after → kind.unanswered x ≡ Some r → (message ≡ message_of (kind.name x) r) ⊎ (message ≡ get_modems)
      → IsAt g carries pauses kind first (Sends journal message back ∷ events) after x journal
  sent events line after x journal message back r at carried unanswered message_is =
      record { leads = (line, carried, record { request = r; unanswered = unanswered; saved = at.saved; message_is = message_is }, at.leads); saved = at.saved }

  pub paused : (events : Events (Journal S) M) (line after : L) (x : X) (journal : Journal S) (again : Bool)
      → IsAt g carries pauses kind first events line x journal → pauses line again after → IsAt g carries pauses kind first (Pauses again ∷ events) after x journal
  paused events line after x journal again at pause = record { leads = (line, pause, at.leads); saved = at.saved }

  pub did : (events : Events (Journal S) M) (line : L) (x next : X) (journal after : Journal S) (move : M)
      → IsAt g carries pauses kind first events line x journal → kind.may events x move next → IsSaved g carries pauses kind first next after
      → IsAt g carries pauses kind first (Does move ∷ events) line next after
  did events line x next journal after move at may saved = record { leads = (x, may, at.leads); saved = saved }

  -- ---- one try

  -- the request is sent once, and this came back
  pub tried : (events : Events (Journal S) M) (line middle after : L) (x : X) (journal : Journal S) (message : List ℕ) (back : Reply) (r : Request)
      → IsAt g carries pauses kind first events line x journal → carries line journal message back middle → MayLook carries middle journal after → kind.unanswered x ≡ Some r → message ≡ message_of (kind.name x) r
      → (later : Events (Journal S) M) × AreAmong events later × IsAt g carries pauses kind first later after x journal × Has (Sends journal message back) later
  tried events line middle after x journal message back r at carried looked unanswered message_is =
      let once = sent events line middle x journal message back r at carried unanswered (inl message_is) in
      elim looked [
        | inl same ↦ (Sends journal message back ∷ events, one_more events events (Sends journal message back) (none_more events), subst (λ l. IsAt g carries pauses kind first (Sends journal message back ∷ events) l x journal) (sym same) once, inl refl)
        | inr listing ↦
            let twice = sent (Sends journal message back ∷ events) middle after x journal get_modems listing.0 r once listing.1 unanswered (inr refl) in
            (Sends journal get_modems listing.0 ∷ Sends journal message back ∷ events, one_more events (Sends journal message back ∷ events) (Sends journal get_modems listing.0) (one_more events events (Sends journal message back) (none_more events)), twice, inr (inl refl))
      ]

  -- ---- it stops

  pub stopped : (events : Events (Journal S) M) (line : L) (x : X) (journal : Journal S) → IsAt g carries pauses kind first events line x journal → IsBefore g carries pauses kind first line journal
  stopped events line x journal at =
      record { events = events; client = x; leads = at.leads; next = x; step = inl refl; saved = unwritten (kind.Has x) (shown g first.journal) (shown g journal) at.saved }

  -- a look at the journal leads nowhere else
  pub looks : (earlier events : Events (Journal S) M) (line : L) (x : X) (journal new : Journal S) → Follows g carries pauses kind first earlier events line x journal → IsSaved g carries pauses kind first x new
      → Follows g carries pauses kind first earlier events line x new
  looks earlier events line x journal new follows saved = (follows.0, record { leads = follows.1.leads; saved = saved })

  pub stays : (events : Events (Journal S) M) (line : L) (x : X) (journal new : Journal S) → IsAt g carries pauses kind first events line x journal
      → IsBetween (kind.Has x) (kind.Has x) (shown g first.journal) (shown g new) → IsBefore g carries pauses kind first line new
  stays events line x journal new at between = record { events = events; client = x; leads = at.leads; next = x; step = inl refl; saved = between }

  -- what was to be saved wasn't
  pub failed : (events : Events (Journal S) M) (line : L) (x next : X) (journal after : Journal S) (move : M)
      → IsAt g carries pauses kind first events line x journal → kind.may events x move next → IsBetween (kind.Has x) (kind.Has next) (shown g first.journal) (shown g after)
      → IsBefore g carries pauses kind first line after
  failed events line x next journal after move at may between =
      record { events = events; client = x; leads = at.leads; next = next; step = inr (Does move, (x, may, at.leads)); saved = between }

  -- ---- a request is asked for

  -- tries of a request lead on
  pub tries : (earlier events : Events (Journal S) M) (line middle after : L) (x : X) (journal : Journal S) (message : List ℕ) (back : Reply) (r : Request)
      → Follows g carries pauses kind first earlier events line x journal → carries line journal message back middle → MayLook carries middle journal after → kind.unanswered x ≡ Some r → message ≡ message_of (kind.name x) r
      → (later : Events (Journal S) M) × Follows g carries pauses kind first earlier later after x journal × Has (Sends journal (message_of (kind.name x) r) back) later
  tries earlier events line middle after x journal message back r follows carried looked unanswered message_is =
      let t = tried events line middle after x journal message back r follows.1 carried looked unanswered message_is in
      (t.0, (more earlier events t.0 follows.0 t.1, t.2), subst (λ m. Has (Sends journal m back) t.0) message_is t.3)

  pub then_pauses : (earlier events : Events (Journal S) M) (line after : L) (x : X) (journal : Journal S) (again : Bool)
      → Follows g carries pauses kind first earlier events line x journal → pauses line again after → Follows g carries pauses kind first earlier (Pauses again ∷ events) after x journal
  then_pauses earlier events line after x journal again follows pause =
      (one_more earlier events (Pauses again) follows.0, paused events line after x journal again follows.1 pause)

  pub further : (earlier events later : Events (Journal S) M) (line after : L) (x next : X) (journal new : Journal S)
      → Follows g carries pauses kind first earlier events line x journal → Follows g carries pauses kind first events later after next new → Follows g carries pauses kind first earlier later after next new
  further earlier events later line after x next journal new one two = (more earlier events later one.0 two.0, two.1)
