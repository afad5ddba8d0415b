-- Steps that make tables or indexes, or take them away, one after the other.
use Rattle.std.proofs.Common.{ℕ, List, [], Ok, Err, IsErr, IsTrue, OnErr, OnOk, Result, refl, arith}
use Rattle.sqlite.specs.Held.{Held, state}
use Rattle.sqlite.specs.State.{State, HasCleanDisk, CommitsBy, Executes, KeepsCommit, Survives}
use Rattle.sqlite.specs.declared.error.Error.{Error}
use Rattle.sqlite_trees.specs.declared.store.Store.{Ghosts}
use Rattle.fax_tables.specs.Making.{Alters, Always}
use Rattle.fax_layout.specs.Stop.{HoldsBack}
use Rattle.fax_tables.specs.Tables.{GoesOn}
use Rattle.fax_layout.proofs.DatabaseLemmas.{clean_before}
use Rattle.fax_tables.proofs.CreateLemmas.{commit_kept, goes_on, refused_keeps}
use Rattle.fax_layout.proofs.StopLemmas.{holds_back_then}

not_done : {A E : Type 0} (X : Type 0) (r : Result A E) → IsErr r → OnOk r X
not_done X (Ok x) is = absurd (let e = is in cc)
not_done X (Err e) is = tt

kept_as : {A E X Y : Type 0} (r : Result A E) → (X → Y) → X → OnErr r Y
kept_as (Ok x) so h = tt
kept_as (Err e) so h = so h

module _ {S : Type 0} (g : Ghosts S) where
  module _ (a b : Held S) where
    -- one statement
    pub statement : (sql : List ℕ) (r : Result ℕ Error) (P : State → Type 0) (Q : State → State → Type 0) → ((n : ℕ) → Executes sql [] (state g a) (state g b) (Ok n) → P (state g a) → GoesOn (state g a) (state g b) × Q (state g a) (state g b))
        → HoldsBack P (state g a) (state g b) → Survives (state g a) (state g b) (CommitsBy sql [] (state g a)) → (HasCleanDisk (state g b) → Executes sql [] (state g a) (state g b) r) → Alters g P Always Q a b r
    statement sql (Ok n) P Q does held survives runs = record { made = λ clean. does n (runs clean); kept = λ clean. tt; crash = held; doubt = survives.clean }
    statement sql (Err e) P Q does held survives runs = record { made = λ clean. tt; kept = λ clean _. refused_keeps (state g a) (state g b) sql e (runs clean); crash = held; doubt = survives.clean }

    -- a step that was done, whatever it answered
    pub alters_done : {A B E F : Type 0} (P K L : State → Type 0) (Q : State → State → Type 0) (x : A) (y : B) → Alters g {E = E} P K Q a b (Ok x) → Alters g {E = F} P L Q a b (Ok y)
    alters_done P K L Q x y step = record { made = step.made; kept = λ clean. tt; crash = step.crash; doubt = step.doubt }

    -- a refusal that is passed on
    pub alters_refused : {A B E F : Type 0} (P K L : State → Type 0) (Q R : State → State → Type 0) (e : E) (r : Result B F) → IsErr r → (L (state g a) → K (state g a)) → Alters g {A = A} P K Q a b (Err e) → Alters g P L R a b r
    alters_refused P K L Q R e r is weaker step = record { made = λ clean. not_done _ r is; kept = λ clean. kept_as r (λ keeps was. keeps (weaker was)) (step.kept clean); crash = step.crash; doubt = step.doubt }

    -- what holds of fewer states, and tells less
    pub alters_as : {A E : Type 0} (P P' K : State → Type 0) (Q R : State → State → Type 0) (r : Result A E) → (P' (state g a) → P (state g a)) → (P' (state g a) → GoesOn (state g a) (state g b) → Q (state g a) (state g b) → R (state g a) (state g b))
        → (P' (state g a) → K (state g a)) → Alters g P K Q a b r → Alters g P' P' R a b r
    alters_as P P' K Q R (Ok x) fewer less keeps step = record { made = λ clean was. let it = step.made clean (fewer was) in (it.0, less was it.0 it.1); kept = λ clean. tt; crash = λ was. step.crash (λ clean. fewer (was clean)); doubt = step.doubt }
    alters_as P P' K Q R (Err e) fewer less keeps step = record { made = λ clean. tt; kept = λ clean was. step.kept clean (keeps was); crash = λ was. step.crash (λ clean. fewer (was clean)); doubt = step.doubt }

  -- a step, and then one from what it leaves
  pub alters_then : {A B E F : Type 0} (a b c : Held S) (P P' K K' : State → Type 0) (Q Q' R : State → State → Type 0) (x : A) (r : Result B E) → (GoesOn (state g a) (state g b) × Q (state g a) (state g b) → P' (state g b)) → (P' (state g b) → K' (state g b))
      → (Q (state g a) (state g b) → Q' (state g b) (state g c) → R (state g a) (state g c)) → Alters g {E = F} P K Q a b (Ok x) → Alters g P' K' Q' b c r → Alters g P P R a c r
  alters_then {A} {B} {E} a b c P P' K K' Q Q' R x r moves keeps joins first next = record {
    made = λ clean. done r (first.made (clean_before (state g b) (state g c) next.doubt clean)) (next.made clean);
    kept = λ clean. refused r (first.made (clean_before (state g b) (state g c) next.doubt clean)) (next.kept clean);
    crash = holds_back_then (state g a) (state g b) (state g c) P P' (clean_before (state g a) (state g b) first.doubt) first.crash (λ clean was. moves (first.made clean was)) next.crash;
    doubt = omega (arith, first.doubt, next.doubt);
  }
    where
      done : (r : Result B E) → (P (state g a) → GoesOn (state g a) (state g b) × Q (state g a) (state g b)) → OnOk r (P' (state g b) → GoesOn (state g b) (state g c) × Q' (state g b) (state g c))
          → OnOk r (P (state g a) → GoesOn (state g a) (state g c) × R (state g a) (state g c))
      done (Ok y) one two = λ was. let o = one was in let t = two (moves o) in (goes_on (state g a) (state g b) (state g c) o.0 t.0, joins o.1 t.1)
      done (Err e) one two = tt

      refused : (r : Result B E) → (P (state g a) → GoesOn (state g a) (state g b) × Q (state g a) (state g b)) → OnErr r (K' (state g b) → KeepsCommit (state g b) (state g c)) → OnErr r (P (state g a) → KeepsCommit (state g a) (state g c))
      refused (Ok y) one kept = tt
      refused (Err e) one kept = λ was. let o = one was in commit_kept (state g a) (state g b) (state g c) o.0 (kept (keeps (moves o)))

  -- none at all
  pub alters_none : {A E : Type 0} (a : Held S) (P : State → Type 0) (Q : State → State → Type 0) (x : A) → (P (state g a) → IsTrue (state g a).is_open × IsTrue (state g a).in_transaction × Q (state g a) (state g a))
      → Alters g {E = E} P P Q a a (Ok x)
  alters_none a P Q x has = record {
    made = λ clean was. let it = has was in (record { was_open = it.0; is_open = it.0; now_is = refl; committed_is = refl; mode = it.1 }, it.2);
    kept = λ clean. tt;
    crash = λ was found may. may;
    doubt = omega arith;
  }

  -- a step that goes wherever one may go, which is told where it goes
  pub alters_some : {A E X : Type 0} (a b : Held S) (P : X → State → Type 0) (P' : State → Type 0) (Q : X → State → State → Type 0) (Q' : State → State → Type 0) (r : Result A E) → X
      → (P' (state g a) → (x : X) × P x (state g a) × (Q x (state g a) (state g b) → Q' (state g a) (state g b))) → ((x : X) → Alters g (P x) (P x) (Q x) a b r) → Alters g P' P' Q' a b r
  alters_some {A} {E} {X} a b P P' Q Q' r any where_to step = record {
    made = λ clean. done r (λ x. (step x).made clean);
    kept = λ clean. refused r (λ x. (step x).kept clean);
    crash = λ was found may. let it = where_to (was (clean_before (state g a) (state g b) (step any).doubt may.0)) in (step it.0).crash (λ clean. it.1) found may;
    doubt = (step any).doubt;
  }
    where
      done : (r : Result A E) → ((x : X) → OnOk r (P x (state g a) → GoesOn (state g a) (state g b) × Q x (state g a) (state g b))) → OnOk r (P' (state g a) → GoesOn (state g a) (state g b) × Q' (state g a) (state g b))
      done (Ok y) each = λ was. let it = where_to was in let one = each it.0 it.1 in (one.0, it.2 one.1)
      done (Err e) each = tt

      refused : (r : Result A E) → ((x : X) → OnErr r (P x (state g a) → KeepsCommit (state g a) (state g b))) → OnErr r (P' (state g a) → KeepsCommit (state g a) (state g b))
      refused (Ok y) each = tt
      refused (Err e) each = λ was. let it = where_to was in each it.0 it.1
