-- The jobs of rows of numbers end, one after the other.
use Rattle.std.proofs.Common.{◌≡◌, ◌∙◌, ◌||◌, ◌&&◌, ◌++◌, ◌==◌, ℕ, Bool, true, false, List, [], ◌∷◌, map, refl, sym, ap, ap₂, subst, Ok}
use Rattle.std.proofs.Math.Bool.{or-false}
use Rattle.std.proofs.lemmas.Bool.{and_left}
use Rattle.sqlite.specs.Order.{Row}
use Rattle.sqlite_trees.specs.declared.store.Store.{Ghosts}
use Rattle.fax_core.specs.Ledger.{Ledger}
use Rattle.fax_core.specs.Queue.{Queue}
use Rattle.fax_core.specs.Job.{Job}
use Rattle.fax_core.specs.Times.{has_ended}
use Rattle.fax_core.specs.declared.times.Times.{Times}
use Rattle.fax_core.proofs.StampLemmas.{ends_as, ends_none, ends_twice}
use Rattle.fax_store.specs.Calls.{Runs, Writes, shown}
use Rattle.fax_store.specs.Store.{Serves}
use Rattle.fax_store.specs.Job.{with_change, with_set}
use Rattle.fax_store.specs.Times.{is_among, is_over_as, with_ends}
use Rattle.fax_store.specs.Work.{IsUnderWay, Works}
use Rattle.fax_store.specs.declared.store.Store.{Store}
use Rattle.fax_tables.specs.Row.{number}
use Rattle.fax_store.proofs.FrameLemmas.{runs_then}

-- one of these or of those
among_more : (ns ms : List ℕ) (n : ℕ) → is_among (ns ++ ms) n ≡ (is_among ns n || is_among ms n)
among_more [] ms n = refl
among_more (other ∷ ns) ms n = ap (λ b. (n == other) || b) (among_more ns ms n) ∙ either (n == other) (is_among ns n) (is_among ms n)
  where
    either : (a b c : Bool) → (a || (b || c)) ≡ ((a || b) || c)
    either true b c = refl
    either false b c = refl

-- where none is named, none ends
pub ended_none : (t : ℕ) (m : Queue) → with_ends t (is_among []) m ≡ m
ended_none t m = ap (λ (xs : List Times). record m { times = xs }) (ends_none t (is_among []) m.times (λ n. refl))

-- where these end, and then those, all do
pub ended_more : (t : ℕ) (ns ms : List ℕ) (m : Queue) → with_ends t (is_among ms) (with_ends t (is_among ns) m) ≡ with_ends t (is_among (ns ++ ms)) m
ended_more t ns ms m =
    ap (λ (xs : List Times). record m { times = xs })
    (ends_twice t (is_among ns) (is_among ms) m.times ∙ ends_as t (λ n. is_among ns n || is_among ms n) (is_among (ns ++ ms)) m.times (λ n. sym (among_more ns ms n)))

-- a job that isn't over, doesn't end by its change
pub change_goes : (t : ℕ) (j : Job) → has_ended j.phase ≡ false → (m : Queue) → with_change t j m ≡ with_set j m
change_goes t j goes m = ap (λ (xs : List Times). record (with_set j m) { times = xs }) (ends_none t (is_over_as j) m.times (λ n. and_left (has_ended j.phase) (n == j.number) goes))

-- one that is over does
pub change_ends : (t : ℕ) (j : Job) → has_ended j.phase ≡ true → (m : Queue) → with_ends t (is_among (j.number ∷ [])) (with_set j m) ≡ with_change t j m
change_ends t j over m =
    ap (λ (xs : List Times). record (with_set j m) { times = xs })
    (ends_as t (is_among (j.number ∷ [])) (is_over_as j) m.times (λ n. or-false (n == j.number) ∙ ap (λ b. b && n == j.number) (sym over)))

-- what the last row of numbers and those before it are of
last_row : (rows : List Row) (row : Row) (numbers : List ℕ) → rows ++ row ∷ [] ≡ map (λ n. number n ∷ []) numbers
    → (front : List ℕ) × (n : ℕ) × (numbers ≡ front ++ n ∷ []) × (rows ≡ map (λ n. number n ∷ []) front) × (row ≡ number n ∷ [])
last_row [] row [] is = absurd cc
last_row [] row (n ∷ []) is = ([], n, refl, refl, cc)
last_row [] row (n ∷ other ∷ numbers) is = absurd cc
last_row (r ∷ rows) row [] is = absurd cc
last_row (r ∷ rows) row (n ∷ numbers) is =
    let first : r ≡ number n ∷ [] = cc in
    let behind : rows ++ row ∷ [] ≡ map (λ n. number n ∷ []) numbers = cc in
    let it = last_row rows row numbers behind in
    (n ∷ it.0, it.1, ap (λ (ns : List ℕ). n ∷ ns) it.2, ap₂ ◌∷◌ first it.3, it.4)

module _ {S : Type 0} (g : Ghosts S) (t : ℕ) where
  -- the jobs of these rows have ended
  pub record HasEnded (old new : Store S) (rows : List Row) : Type 0 where
    pub leaves : Runs g old new (Ok (tt {0}))
    pub written : (numbers : List ℕ) → rows ≡ map (λ n. number n ∷ []) numbers → (m₀ m : Queue) (k₀ k : Ledger) → Works (shown g old) false m₀ k₀ m k → Serves (shown g new)
        → IsUnderWay (shown g new) false m₀ k₀ (with_ends t (is_among numbers) m) k

  -- none have at first
  pub ended_first : (s : Store S) → HasEnded s s []
  ended_first s = record {
    leaves = record { served = λ serves. serves; clean = λ clean. clean; holds = λ db over serves. over serves; crash = λ active. (active, λ found may. may) };
    written = none;
  }
    where
      none : (numbers : List ℕ) → [] ≡ map (λ n. number n ∷ []) numbers → (m₀ m : Queue) (k₀ k : Ledger) → Works (shown g s) false m₀ k₀ m k → Serves (shown g s)
          → IsUnderWay (shown g s) false m₀ k₀ (with_ends t (is_among numbers) m) k
      none [] is m₀ m k₀ k works serves = subst (λ (n : Queue). IsUnderWay (shown g s) false m₀ k₀ n k) (sym (ended_none t m)) (works serves)
      none (n ∷ numbers) is m₀ m k₀ k works serves = absurd cc

  -- one more has
  pub ended_next : {old mid new : Store S} {x : Unit {0}} (rows : List Row) (row : Row) → HasEnded old mid rows → Runs g mid new (Ok x)
      → ((n : ℕ) → row ≡ number n ∷ [] → Writes g mid new (Ok x) (with_ends t (is_among (n ∷ []))) (λ k. k)) → HasEnded old new (rows ++ row ∷ [])
  ended_next {old} {mid} {new} {x} rows row ended runs writes = record {
    leaves = let both = runs_then g ended.leaves runs in record { served = both.served; clean = both.clean; holds = both.holds; crash = both.crash };
    written = λ numbers is m₀ m k₀ k works s.
        let last = last_row rows row numbers is in
        let before = ended.written last.0 last.3 m₀ m k₀ k works (runs.served s) in
        let after = (writes last.1 last.4).written m₀ (with_ends t (is_among last.0) m) k₀ k (λ _. before) s in
        subst (λ (n : Queue). IsUnderWay (shown g new) false m₀ k₀ n k) (ended_more t last.0 (last.1 ∷ []) m ∙ ap (λ (ns : List ℕ). with_ends t (is_among ns) m) (sym last.2)) after;
  }
