-- What a journal means, through a call.
use Rattle.std.proofs.Common.{◌≡◌, inl, inr, ℕ, List, Option, None, Ok, Err, Result, IfOk, IsErr, MatchResult, option_map, refl, subst, sym, true≢false}
use Rattle.sqlite.specs.Effect.{Database}
use Rattle.sqlite.specs.State.{State}
use Rattle.fax_journal.specs.Calls.{Changes, Tells}
use Rattle.fax_journal.specs.Entry.{Entry, Request}
use Rattle.fax_journal.specs.Journal.{Answers, IsAtRest, Rests, Serves, TablesMean}
use Rattle.fax_tables.specs.declared.fault.StoreFault.{StoreFault}
use Rattle.fax_worker.specs.Worker.{Held, Worker}
use Rattle.fax_client.specs.Saved.{HasEntry, IsBetween, IsKept, IsLoaded, IsUntouched, entry_of, request_of}
use Rattle.fax_client.specs.declared.stop.Stop.{Stop}

-- ---- results

-- what holds of any error
pub fails : {A E : Type 0} (P : A → Type 0) (Q : Type 0) (r : Result A E) → IsErr r → Q → MatchResult r P (λ e. Q)
fails P Q (Ok x) is q = absurd (true≢false (sym is))
fails P Q (Err e) is q = q

-- what is known of each result
pub mapped : {A E : Type 0} (r : Result A E) (P P' : A → Type 0) (Q Q' : Type 0) → ((x : A) → P x → P' x) → (Q → Q') → MatchResult r P (λ e. Q) → MatchResult r P' (λ e. Q')
mapped (Ok x) P P' Q Q' p q is = p x is
mapped (Err e) P P' Q Q' p q is = q is

-- an error is no value
pub no_value : {A E : Type 0} (P : A → Type 0) (r : Result A E) → IsErr r → IfOk r P
no_value P (Ok x) is = absurd (true≢false (sym is))
no_value P (Err e) is = tt

-- ---- an entry is read

module _ {A : Type 0} (entry : Option Entry) (kept : Answers) (old new : State) (P : A → Type 0) (rests : Rests (TablesMean entry kept) old) where
  pub loaded : (Is : Option Entry → Type 0) (found : A) → Tells old new (Ok found) (TablesMean entry kept) P → (P found → Is entry) → IsLoaded entry kept Is old new
  loaded Is found tells of =
      let first : Serves new → Is entry = λ serves. of (tells.told rests serves) in
      record {
        first = first;
        kept_is = record {
          served = tells.served;
          clean = tells.clean;
          opens = λ serves clean. tells.opens clean;
          rests = λ serves. let rest = tells.kept rests serves in record { autocommit = rest.autocommit; settled = rest.settled; is = (entry, first serves, rest.is) };
          leaves = λ serves found_trees may. let f = tells.crash (tells.served serves) rests serves.clean found_trees may in (f.0, f.1, (entry, first serves, f.2));
        };
      }

  pub untouched : (result : Result A StoreFault) → Tells old new result (TablesMean entry kept) P → IsUntouched entry kept old new
  untouched result tells = record { rests = tells.kept rests; leaves = λ serves clean. tells.crash serves rests clean }

module _ (entry : Option Entry) (kept : Answers) (old new : State) (rests : Rests (TablesMean entry kept) old) where
  -- the client that is made of what was found
  pub loads : {B : Type 0} (Is : B → Option Entry → Type 0) (found : Option Entry) (r : Result B Stop) → Tells old new (Ok found) (TablesMean entry kept) (λ f. f ≡ entry) → IfOk r (λ x. Is x found)
      → MatchResult r (λ x. IsLoaded entry kept (Is x) old new) (λ e. IsUntouched entry kept old new)
  loads Is found (Ok x) tells of = loaded entry kept old new (λ f. f ≡ entry) rests (Is x) found tells (λ is. subst (Is x) is of)
  loads Is found (Err e) tells of = untouched entry kept old new (λ f. f ≡ entry) rests (Ok found) tells

-- the entry of a worker, by its parts
pub same_entry : (w : Worker) (client : List ℕ) (last : ℕ) (unanswered : Option Request) (held : Option Held) → client ≡ w.client → last ≡ w.last → unanswered ≡ option_map request_of w.unanswered → held ≡ w.held
    → ◌≡◌ {A = Entry} (record { client = client; last = last; unanswered = unanswered; held = held }) (entry_of w)
same_entry w client last unanswered held e0 e1 e2 e3 = rw (e0, e1, e2, e3) refl

-- ---- an entry is set

-- the database is such a one, and it is committed as it was
at_rest : {Is : Database → Type 0} (s : State) → IsAtRest Is s → (Was : Database → Type 0) → Was s.now → Rests Was s
at_rest s rest Was is = λ serves. record { autocommit = rest.autocommit; settled = rest.settled; is = is }

module _ (A : Type 0) (Was Is : Option Entry → Type 0) (kept later : Answers) (first old new : State) (before : IsKept (HasEntry kept Was) first old) where
  -- what a call makes of each entry
  abbrev pub Sets : Result A StoreFault → Type 0
  Sets result = (entry : Option Entry) → (after : Option Entry) × (Was entry → Is after) × Changes old new result (TablesMean entry kept) (TablesMean after later)

  pub saved : (value : A) → Sets (Ok value) → IsKept (HasEntry later Is) first new
  saved value sets =
      let was = λ (serves : Serves new). before.rests ((sets None).2.served serves) in
      record {
        served = λ serves. before.served ((sets None).2.served serves);
        clean = λ clean. before.clean ((sets None).2.clean clean);
        opens = λ serves clean.
            let open_old = before.opens serves ((sets None).2.clean clean) in
            let rest = before.rests open_old in
            (sets rest.is.0).2.opens open_old (at_rest old rest _ rest.is.2) clean;
        rests = λ serves.
            let rest = was serves in
            let after = (sets rest.is.0).2.done (at_rest old rest _ rest.is.2) serves in
            record { autocommit = after.autocommit; settled = after.settled; is = ((sets rest.is.0).0, (sets rest.is.0).1 rest.is.1, after.is) };
        leaves = λ serves found may.
            let rest = was serves in
            let f = (sets rest.is.0).2.alone (at_rest old rest _ rest.is.2) serves found may in
            (f.0, f.1, ((sets rest.is.0).0, (sets rest.is.0).1 rest.is.1, f.2));
      }

  pub unsaved : (fault : StoreFault) → Sets (Err fault) → IsBetween (HasEntry kept Was) (HasEntry later Is) first new
  unsaved fault sets = record {
    clean = λ clean. before.clean ((sets None).2.clean clean);
    rests = λ serves.
        let rest = before.rests ((sets None).2.served serves) in
        let after = (sets rest.is.0).2.kept (at_rest old rest _ rest.is.2) serves in
        record { autocommit = after.autocommit; settled = after.settled; is = (rest.is.0, rest.is.1, after.is) };
    leaves = λ serves clean found may.
        let open_old = before.opens serves ((sets None).2.clean clean) in
        let rest = before.rests open_old in
        elim ((sets rest.is.0).2.crash open_old (at_rest old rest _ rest.is.2) clean found may) [
          | inl f ↦ inl (f.0, f.1, (rest.is.0, rest.is.1, f.2))
          | inr f ↦ inr (f.0, f.1, ((sets rest.is.0).0, (sets rest.is.0).1 rest.is.1, f.2))
        ];
  }

-- ---- an answer is looked for

module _ {A : Type 0} (Is : Option Entry → Type 0) (kept : Answers) (first old new : State) (before : IsKept (HasEntry kept Is) first old) (P : A → Type 0) where
  pub looked : (value : A) → ((entry : Option Entry) → Tells old new (Ok value) (TablesMean entry kept) P) → IsKept (HasEntry kept Is) first new
  looked value tells = record {
    served = λ serves. before.served ((tells None).served serves);
    clean = λ clean. before.clean ((tells None).clean clean);
    opens = λ serves clean. (tells None).opens clean;
    rests = λ serves.
        let rest = before.rests ((tells None).served serves) in
        let after = (tells rest.is.0).kept (at_rest old rest _ rest.is.2) serves in
        record { autocommit = after.autocommit; settled = after.settled; is = (rest.is.0, rest.is.1, after.is) };
    leaves = λ serves found may.
        let open_old = (tells None).served serves in
        let rest = before.rests open_old in
        let f = (tells rest.is.0).crash open_old (at_rest old rest _ rest.is.2) serves.clean found may in
        (f.0, f.1, (rest.is.0, rest.is.1, f.2));
  }

  pub told : (value : A) → ((entry : Option Entry) → Tells old new (Ok value) (TablesMean entry kept) P) → Serves new → P value
  told value tells serves =
      let rest = before.rests ((tells None).served serves) in
      (tells rest.is.0).told (at_rest old rest _ rest.is.2) serves

  pub not_looked : (fault : StoreFault) → ((entry : Option Entry) → Tells old new (Err fault) (TablesMean entry kept) P) → IsBetween (HasEntry kept Is) (HasEntry kept Is) first new
  not_looked fault tells = record {
    clean = λ clean. before.clean ((tells None).clean clean);
    rests = λ serves.
        let rest = before.rests ((tells None).served serves) in
        let after = (tells rest.is.0).kept (at_rest old rest _ rest.is.2) serves in
        record { autocommit = after.autocommit; settled = after.settled; is = (rest.is.0, rest.is.1, after.is) };
    leaves = λ serves clean found may.
        let open_old = before.opens serves ((tells None).clean clean) in
        let rest = before.rests open_old in
        let f = (tells rest.is.0).crash open_old (at_rest old rest _ rest.is.2) clean found may in
        inl (f.0, f.1, (rest.is.0, rest.is.1, f.2));
  }

-- what is kept is kept from here on
pub kept_here : {Is : Database → Type 0} (before s : State) → IsKept Is before s → IsKept Is s s
kept_here before s k = record { served = λ serves. serves; clean = λ clean. clean; opens = λ serves clean. serves; rests = k.rests; leaves = k.leaves }

-- nothing is written
pub unwritten : {Is : Database → Type 0} (Next : Database → Type 0) (first s : State) → IsKept Is first s → IsBetween Is Next first s
unwritten Next first s k = record {
  clean = k.clean;
  rests = k.rests;
  leaves = λ serves clean found may. inl (k.leaves (k.opens serves clean) found may);
}
