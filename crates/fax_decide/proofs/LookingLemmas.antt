-- Calls that look at the store, one after the other.
use Rattle.std.proofs.Common.{◌≡◌, ℕ, Ok, Err, Result, IfOk, IsErrAnd, OnOk, subst, MatchResult, sym}
use Rattle.std.specs.Prelude.{⊤}
use Rattle.std.proofs.lemmas.Result.{on_ok_weaker}
use Rattle.sqlite.specs.State.{HasCleanDisk}
use Rattle.fax_core.specs.Ledger.{Ledger}
use Rattle.fax_core.specs.Queue.{Queue}
use Rattle.fax_core.specs.Reply.{Step}
use Rattle.fax_core.specs.Sound.{Sound}
use Rattle.fax_store.specs.Calls.{Finds, Looks, shown}
use Rattle.fax_store.specs.Store.{MeansNow, Serves, StaysOpen}
use Rattle.fax_store.specs.declared.store.Store.{Store}
use Rattle.fax_store.proofs.FrameLemmas.{looks_as, looks_at, looks_err, looks_of, looks_stop, looks_then, means_on}
use Rattle.fax_tables.specs.Meta.{meta_of}
use Rattle.fax_tables.specs.Tables.{TablesMean}
use Rattle.fax_tables.specs.declared.meta.Meta.{Meta}
use Rattle.fax_tables.specs.declared.fault.StoreFault.{StoreFault}
use Rattle.fax_ask.specs.Response.{Response}
use Rattle.fax_decide.specs.Decision.{Decides}
use Rattle.fax_decide.specs.Fault.{OnlyNoAnswer, OrNoAnswer}
use Rattle.fax_decide.specs.Looking.{Consults, DecidesBy, Views}
use Rattle.fax_decide.specs.declared.decision.Decision.{Decision}
use Rattle.fax_decide.specs.declared.decision.Decision.TheVariants.{Taken}
use Rattle.fax_decide.specs.declared.effect.Effect.{Effect}
use Rattle.fax_decide.specs.declared.fault.Fault.{Fault}
use Rattle.fax_decide.specs.declared.fault.Fault.TheVariants.{NoAnswer}
use Rattle.fax_decide.proofs.FaultLemmas.{passed_on}

-- what holds of every answer
always : {A E P : Type 0} (r : Result A E) → P → OnOk r P
always (Ok x) p = p
always (Err e) p = tt

-- nothing holds of the answer where there is none
never : {A E : Type 0} (r : Result A E) (Is : E → Type 0) (P : Type 0) → IsErrAnd r Is → OnOk r P
never (Ok x) Is P is = absurd is
never (Err e) Is P is = tt

-- what holds where there is a reply holds where the effect is taken with it
opens_with : (P : Type 0) (effect : Effect) (reply : Result Response Fault) (result : Result Decision Fault)
    → MatchResult reply (λ r. result ≡ Ok (Taken effect r)) (λ e. result ≡ Err e)
    → OnOk reply P → OnOk result P
opens_with P effect (Ok r) result is h = subst (λ d. OnOk d P) (sym is) h
opens_with P effect (Err e) result is h = subst (λ d. OnOk d P) (sym is) tt

module _ {S : Type 0} {g : _} where
  -- what a call leaves whose reply is taken with an effect
  looks_with : {old new : Store S} (effect : Effect) (reply : Result Response Fault) (result : Result Decision Fault)
      → MatchResult reply (λ r. result ≡ Ok (Taken effect r)) (λ e. result ≡ Err e) → Looks g old new reply → Looks g old new result
  looks_with {old} {new} effect (Ok r) result is looks = subst (λ (d : Result Decision Fault). Looks g old new d) (sym is) (looks_as g looks)
  looks_with {old} {new} effect (Err e) result is looks = subst (λ (d : Result Decision Fault). Looks g old new d) (sym is) (looks_err g looks)

  -- what is known of the queue before any call
  pub known : {a : Store S} {P : Queue → Type 0} → ((m : Queue) (k : Ledger) → MeansNow (shown g a) m k → Serves (shown g a) → P m) → Consults g {A = ⊤} {E = ⊤} a a (Ok tt) P
  known says = record {
    leaves = looks_at g;
    opens = λ clean serves. serves;
    found = says;
  }

  -- no call
  pub no_call : {a : Store S} → Consults g {A = ⊤} {E = ⊤} a a (Ok tt) (λ m. ⊤)
  no_call = known (λ m k means serves. tt)

  -- the same stores by other names
  pub moved : {a b c d : Store S} {A E : Type 0} {result : Result A E} {P : Queue → Type 0} → a ≡ c → b ≡ d → Consults g a b result P → Consults g c d result P
  moved {a} {b} {c} {d} {A} {E} {result} {P} first last call = subst (λ v. Consults g c v result P) last (subst (λ v. Consults g v b result P) first call)

  -- a call that looks at the store, and leaves it serving where it answers
  pub by_look : {old new : Store S} {A : Type 0} {P : Queue → Type 0} (result : Result A StoreFault) → Looks g old new result
      → OnOk result (HasCleanDisk (shown g new) → Serves (shown g new))
      → ((m : Queue) (k : Ledger) → MeansNow (shown g old) m k → Serves (shown g new) → P m) → Consults g old new result P
  by_look result leaves opens found = record { leaves = leaves; opens = on_ok_weaker result (λ opens clean serves. opens clean) opens; found = found }

  -- a reading of the store
  pub by_reading : {old new : Store S} {A : Type 0} {result : Result A StoreFault} {P : Queue → Type 0} → Finds g old new result
      → ((m : Queue) (k : Ledger) → MeansNow (shown g old) m k → Serves (shown g new) → P m) → Consults g old new result P
  by_reading {result = result} finds answers = by_look result (looks_of g finds) finds.opens answers

  -- a step along the candidates, wherever they stand
  pub by_step : {old new : Store S} {A X : Type 0} {P : Queue → X → Type 0} (result : Result A StoreFault) → Looks g old new result → OnOk result (StaysOpen (shown g old) (shown g new))
      → ((m : Queue) (k : Ledger) (at : X) → MeansNow (shown g old) m k → Serves (shown g new) → P m at) → Consults g old new result (λ m. (at : X) → P m at)
  by_step result leaves opens found = record { leaves = leaves; opens = opens; found = λ m k means serves at. found m k at means serves }

  -- two calls, of which the first answers
  pub both : {a b c : Store S} {A B E F : Type 0} {x : A} {result : Result B F} {P Q : Queue → Type 0} → Consults g {E = E} a b (Ok x) P → Consults g b c result Q
      → Consults g a c result (λ m. P m × Q m)
  both {a} {b} {c} {result = result} first second = record {
    leaves = looks_then g first.leaves second.leaves;
    opens = on_ok_weaker result (λ opens clean serves. opens clean (first.opens (second.leaves.clean clean) serves)) second.opens;
    found = λ m k means serves. (first.found m k means (second.leaves.served serves), second.found m k (means_on g first.leaves m k means) serves);
  }

  -- the result is that of the call
  pub gives : {old new : Store S} {A E : Type 0} {result : Result A E} {P Q : Queue → Type 0} → Consults g old new result P
      → ((m : Queue) (k : Ledger) → TablesMean (shown g old).now m k → P m → Q m) → Consults g old new result Q
  gives call says = record {
    leaves = call.leaves;
    opens = call.opens;
    found = λ m k means serves. says m k (means (call.leaves.served serves)) (call.found m k means serves);
  }

  -- the call answers, and the result is made of its answer
  pub goes_on : {old new : Store S} {A B E F : Type 0} {x : A} {result : Result B F} {P Q : Queue → Type 0} → Consults g {E = E} old new (Ok x) P
      → ((m : Queue) (k : Ledger) → TablesMean (shown g old).now m k → P m → Q m) → Consults g old new result Q
  goes_on {result = result} call says = record {
    leaves = looks_as g call.leaves;
    opens = always result call.opens;
    found = λ m k means serves. says m k (means (call.leaves.served serves)) (call.found m k means serves);
  }

  -- the result is a fault
  pub stops : {old new : Store S} {A B E : Type 0} {result : Result B E} {P Q : Queue → Type 0} {error : Result A Fault} {fault : Fault}
      → IsErrAnd error (λ e. e ≡ fault) → Consults g old new result P
      → ((m : Queue) → ((T : A → Type 0) → fault ≡ NoAnswer → OrNoAnswer error T) → P m → Q m) → Consults g old new error Q
  stops {error = error} {fault = fault} is call says = record {
    leaves = looks_stop g error _ is call.leaves;
    opens = never error (λ e. e ≡ fault) _ is;
    found = λ m k means serves. says m (λ T why. passed_on error fault T is why) (call.found m k means serves);
  }

  -- the result is the effect that is taken with the reply of the call
  pub takes : {old new : Store S} {P Q : Queue → Type 0} (effect : Effect) (reply : Result Response Fault) (result : Result Decision Fault)
      → MatchResult reply (λ r. result ≡ Ok (Taken effect r)) (λ e. result ≡ Err e) → Consults g old new reply P → ((m : Queue) → P m → Q m) → Consults g old new result Q
  takes effect reply result is call says = record {
    leaves = looks_with effect reply result is call.leaves;
    opens = opens_with _ effect reply result is call.opens;
    found = λ m k means serves. says m (call.found m k means serves);
  }

  -- what is seen of the queue
  pub views : {old new : Store S} {result : Result Response Fault} {view : Queue → Response} → Consults g old new result (λ m. Sound m → OrNoAnswer result (λ reply. reply ≡ view m)) → Views g old new result view
  views call = record { leaves = call.leaves; opens = call.opens; viewed = λ m k sound means serves. call.found m k means serves sound }

  -- what is decided of a request
  pub decides : {old new : Store S} {result : Result Decision Fault} {meta : Meta} {t : ℕ} {step : Queue → Step} {IsRead : Type 0}
      → Consults g old new result (λ m. Sound m → meta ≡ meta_of m → IfOk result (Decides (step m) m t) × (IsRead → OnlyNoAnswer result)) → DecidesBy g old new result meta t step IsRead
  decides call = record {
    leaves = call.leaves;
    opens = call.opens;
    decided = λ m k sound means serves these. (call.found m k means serves sound these).0;
    cause = λ m k sound means serves these. (call.found m k means serves sound these).1;
  }
