-- What a client's post does.
use Rattle.std.proofs.Common.{◌≡◌, ◌⊎◌, inl, inr, ℕ, List, ◌∷◌, Option, Some, None, Result, Vec, Global, IfSome, option_map, bytes_eq, true, if◌then◌else◌, refl, ap, subst, sym, ◌∙◌}
use Rattle.std.proofs.lemmas.Slice.Eq.{bytes_eq-Decides}
use Rattle.sqlite_trees.specs.declared.store.Store.{Ghosts}
use Rattle.fax_journal.specs.Calls.{shown}
use Rattle.fax_journal.specs.Entry.{Entry, Request}
use Rattle.fax_journal.specs.Journal.{Answers, with_answer}
use Rattle.fax_journal.specs.declared.journal.Journal.{Journal}
use Rattle.fax_client.specs.Course.{AreAmong, Does, Events, Follows, IsAt, IsBefore, Start}
use Rattle.fax_client.specs.Line.{Carrying, Pausing}
use Rattle.fax_client.specs.Posting.{Begins, Client, Finishes, GetsAnswer, IsAnswerIn, IsBegun, IsKeptUnder, IsOf, IsStored, Keeps, Move, ReturnsAnswer, clients, kept_under, returned}
use Rattle.fax_client.specs.Saved.{HasEntry, IsBetween, IsKept}
use Rattle.fax_client.specs.declared.answered.Answered.{Answered}
use Rattle.fax_client.specs.declared.answered.Answered.TheVariants.{Accepted, Refused}
use Rattle.fax_client.specs.declared.stop.Stop.{Stop}
use Rattle.fax_client.proofs.CourseLemmas.{did, failed, none_more, one_more, stays}

itself : (key : List ℕ) → bytes_eq key key ≡ true
itself key = (bytes_eq-Decides key key).1 refl

under : (key answer : List ℕ) (answers : Answers) → with_answer key (Some answer) answers key ≡ Some answer
under key answer answers = ap (λ b. if b then Some answer else answers key) (itself key)

pub is_kept_under : (key : Option (List ℕ)) (answered : Answered) (answers : Answers) → IsKeptUnder key answered (kept_under key answered answers)
is_kept_under None answered answers = tt
is_kept_under (Some key) (Accepted body) answers = under key body.items answers
is_kept_under (Some key) (Refused refusal) answers = tt

-- later events say it too
pub answer_more : {J : Type 0} (events later : Events J Move) (client : List ℕ) (r : Request) (answered : Answered) → AreAmong events later → IsAnswerIn events client r answered → IsAnswerIn later client r answered
answer_more events later client r answered among is = record { journal = is.journal; back = is.back; came = among _ is.came; read = is.read }

-- the answer that was taken is that of the unanswered request
pub finishes : {J : Type 0} (u : Option Request) (r : Request) (events : Events J Move) (answered : Answered) → u ≡ Some r → Finishes u (Does (GetsAnswer r answered) ∷ events) (Some answered)
finishes u r events answered un = subst (λ v. Finishes v (Does (GetsAnswer r answered) ∷ events) (Some answered)) (sym un) (answered, refl, inl refl)

-- the answer that finishes a request is returned
pub returns_answer : {J : Type 0} (key : Option (List ℕ)) (path body : List ℕ) (u : Option Request) (r : Request) (events later : Events J Move) (answered : Option Answered) (result : Result (Vec ℕ Global) Stop)
    → u ≡ Some r → IsOf key path body r → Finishes u events answered → AreAmong events later → IfSome answered (λ a. result ≡ returned a) → ReturnsAnswer key path body later result
returns_answer key path body u r events later answered result un is_of finishes among is =
    let said = subst (λ v. Finishes v events answered) un finishes in
    record { request = r; is_of = is_of; answered = said.0; came = among _ said.2; result_is = subst (λ a. IfSome a (λ x. result ≡ returned x)) said.1 is }

-- an answer that was found is kept
pub found_kept : (key : Option (List ℕ)) (word : List ℕ) (serves : Type 0) (kept : Answers) (found : Option (Vec ℕ Global)) → key ≡ Some word → (serves → option_map (λ (v : Vec ℕ Global). v.items) found ≡ kept word)
    → IfSome found (λ answer. (w : List ℕ) × (key ≡ Some w) × (serves → kept w ≡ Some answer.items))
found_kept key word serves kept None key_is is = tt
found_kept key word serves kept (Some answer) key_is is = (word, key_is, λ s. sym (is s))

pub the_one : {A : Type 0} (P : A → Type 0) (o : Option A) (a : A) → o ≡ Some a → IfSome o P → P a
the_one P o a is h = subst (λ v. IfSome v P) is h

-- an entry with nothing unanswered is let go as it is
pub same_let_go : (e after : Entry) → after ≡ record e { unanswered = None } → e.unanswered ≡ None → e ≡ after
same_let_go e after is none = ap (λ (u : Option Request). record e { unanswered = u }) none ∙ sym is

module _ {S L : Type 0} (g : Ghosts S) (carries : Carrying L (Journal S)) (pauses : Pausing L) (first : Start (Journal S) L Client) where
  -- ---- an answer is kept

  pub keeps : (earlier events : Events (Journal S) Move) (line : L) (c : Client) (journal new : Journal S) (r : Request) (key : Option (List ℕ)) (answered : Answered) → r.key ≡ key
      → Follows g carries pauses clients first earlier events line c journal → c.entry.unanswered ≡ Some r → IsAnswerIn events c.entry.client r answered
      → IsKept (HasEntry (kept_under key answered c.answers) (IsStored c.entry)) (shown g first.journal) (shown g new)
      → (later : Events (Journal S) Move) × AreAmong events later × Follows g carries pauses clients first earlier later line (record { entry = c.entry; answers = kept_under key answered c.answers }) new
  keeps earlier events line c journal new r None answered is follows un came saved = (events, none_more events, (follows.0, record { leads = follows.1.leads; saved = saved }))
  keeps earlier events line c journal new r (Some key) (Refused refusal) is follows un came saved = (events, none_more events, (follows.0, record { leads = follows.1.leads; saved = saved }))
  keeps earlier events line c journal new r (Some key) (Accepted body) is follows un came saved =
      let after : Client = record { entry = c.entry; answers = with_answer key (Some body.items) c.answers } in (
        Does (Keeps key body.items) ∷ events,
        one_more events events (Does (Keeps key body.items)) (none_more events),
        (
          one_more earlier events (Does (Keeps key body.items)) follows.0,
          did g carries pauses clients first events line c after journal new (Keeps key body.items) follows.1
              (record { request = r; unanswered = un; key_is = is; answered = Accepted body; came = came; answer_is = under key body.items c.answers; becomes = refl }) saved,
        ),
      )

  pub not_kept : (events : Events (Journal S) Move) (line : L) (c : Client) (journal new : Journal S) (r : Request) (key : Option (List ℕ)) (answered : Answered) → r.key ≡ key
      → IsAt g carries pauses clients first events line c journal → c.entry.unanswered ≡ Some r → IsAnswerIn events c.entry.client r answered
      → IsBetween (HasEntry c.answers (IsStored c.entry)) (HasEntry (kept_under key answered c.answers) (IsStored c.entry)) (shown g first.journal) (shown g new)
      → IsBefore g carries pauses clients first line new
  not_kept events line c journal new r None answered is at un came between = stays g carries pauses clients first events line c journal new at between
  not_kept events line c journal new r (Some key) (Refused refusal) is at un came between = stays g carries pauses clients first events line c journal new at between
  not_kept events line c journal new r (Some key) (Accepted body) is at un came between =
      failed g carries pauses clients first events line c (record { entry = c.entry; answers = with_answer key (Some body.items) c.answers }) journal new (Keeps key body.items) at
      (record { request = r; unanswered = un; key_is = is; answered = Accepted body; came = came; answer_is = under key body.items c.answers; becomes = refl }) between

  -- ---- an answer is taken

  pub took : (earlier events : Events (Journal S) Move) (line : L) (e after : Entry) (answers : Answers) (journal new : Journal S) (r : Request) (answered : Answered) → after ≡ record e { unanswered = None }
      → Follows g carries pauses clients first earlier events line (record { entry = e; answers = answers }) journal → e.unanswered ≡ Some r → IsAnswerIn events e.client r answered → IsKeptUnder r.key answered answers
      → IsKept (HasEntry answers (IsStored after)) (shown g first.journal) (shown g new)
      → Follows g carries pauses clients first earlier (Does (GetsAnswer r answered) ∷ events) line (record { entry = after; answers = answers }) new
  took earlier events line e after answers journal new r answered is follows un came kept saved = (
    one_more earlier events (Does (GetsAnswer r answered)) follows.0,
    did g carries pauses clients first events line (record { entry = e; answers = answers }) (record { entry = after; answers = answers }) journal new (GetsAnswer r answered) follows.1
        (record { unanswered = un; came = came; kept = kept; becomes = ap (λ (x : Entry). record { entry = x; answers = answers }) is }) saved,
  )

  pub not_taken : (events : Events (Journal S) Move) (line : L) (e after : Entry) (answers : Answers) (journal new : Journal S) (r : Request) (answered : Answered) → after ≡ record e { unanswered = None }
      → IsAt g carries pauses clients first events line (record { entry = e; answers = answers }) journal → e.unanswered ≡ Some r → IsAnswerIn events e.client r answered → IsKeptUnder r.key answered answers
      → IsBetween (HasEntry answers (IsStored e)) (HasEntry answers (IsStored after)) (shown g first.journal) (shown g new)
      → IsBefore g carries pauses clients first line new
  not_taken events line e after answers journal new r answered is at un came kept between =
      failed g carries pauses clients first events line (record { entry = e; answers = answers }) (record { entry = after; answers = answers }) journal new (GetsAnswer r answered) at
      (record { unanswered = un; came = came; kept = kept; becomes = ap (λ (x : Entry). record { entry = x; answers = answers }) is }) between

  -- ---- a request is begun

  pub began : (earlier events : Events (Journal S) Move) (line : L) (e after : Entry) (answers : Answers) (journal new : Journal S) (r : Request)
      → Follows g carries pauses clients first earlier events line (record { entry = e; answers = answers }) journal → IsBegun e r after
      → IsKept (HasEntry answers (IsStored after)) (shown g first.journal) (shown g new)
      → Follows g carries pauses clients first earlier (Does (Begins r) ∷ events) line (record { entry = after; answers = answers }) new
  began earlier events line e after answers journal new r follows begun saved = (
    one_more earlier events (Does (Begins r)) follows.0,
    did g carries pauses clients first events line (record { entry = e; answers = answers }) (record { entry = after; answers = answers }) journal new (Begins r) follows.1 (begun, refl) saved,
  )

  pub not_begun : (events : Events (Journal S) Move) (line : L) (e after : Entry) (answers : Answers) (journal new : Journal S)
      → IsAt g carries pauses clients first events line (record { entry = e; answers = answers }) journal → (after ≡ e) ⊎ ((r : Request) × IsBegun e r after)
      → IsBetween (HasEntry answers (IsStored e)) (HasEntry answers (IsStored after)) (shown g first.journal) (shown g new) → IsBefore g carries pauses clients first line new
  not_begun events line e after answers journal new at either between = record {
    events = events;
    client = record { entry = e; answers = answers };
    leads = at.leads;
    next = record { entry = after; answers = answers };
    step = elim either [
      | inl same ↦ inl (ap (λ (x : Entry). record { entry = x; answers = answers }) same)
      | inr begun ↦ inr (Does (Begins begun.0), (record { entry = e; answers = answers }, (begun.1, refl), at.leads))
    ];
    saved = between;
  }
