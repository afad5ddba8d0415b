-- The jobs of numbers leave, one after the other.
use Rattle.std.proofs.Common.{inl, inr, ◌≡◌, ◌∙◌, ◌||◌, ◌&&◌, ◌++◌, ◌==◌, not, ℕ, Bool, true, false, List, [], ◌∷◌, filter, refl, sym, ap, subst, Ok, arith}
use Rattle.std.specs.List.{list_any}
use Rattle.std.proofs.lemmas.Bool.{and_parts, cases_Bool}
use Rattle.std.proofs.lemmas.Bool.Decides.{nat_tests}
use Rattle.sqlite_rules.specs.Lists.{Has}
use Rattle.sqlite_rules.proofs.ListLemmas.{all_from, all_has}
use Rattle.sqlite_trees.proofs.ListLemmas.{all-filter}
use Rattle.sqlite_trees.specs.declared.store.Store.{Ghosts}
use Rattle.fax_core.specs.Job.{Job}
use Rattle.fax_core.specs.Ledger.{Ledger}
use Rattle.fax_core.specs.Purge.{is_none_of, without_jobs}
use Rattle.fax_core.specs.Queue.{Queue}
use Rattle.fax_core.specs.declared.grants.Grant.{Grant}
use Rattle.fax_core.specs.declared.times.Times.{Times}
use Rattle.fax_store.specs.Calls.{Runs, WritesWhere, shown}
use Rattle.fax_store.specs.Purge.{HasNoCall, HaveNoCalls, without_grants, without_job, without_times}
use Rattle.fax_store.specs.Store.{Serves}
use Rattle.fax_store.specs.Work.{IsUnderWay, Works}
use Rattle.fax_store.specs.declared.store.Store.{Store}
use Rattle.fax_store.proofs.FrameLemmas.{runs_then}
use Rattle.fax_store.proofs.PurgeLemmas.{filter_swap, goes, stays}

-- ---- lists

-- neither among those nor this one
none_more : (ns : List ℕ) (n k : ℕ) → is_none_of (ns ++ n ∷ []) k ≡ (is_none_of ns k && not (k == n))
none_more [] n k = last (n == k) (k == n) (grind (arith, nat_tests))
  where
    last : (a b : Bool) → a ≡ b → not (a || false) ≡ (true && not b)
    last true true e = refl
    last true false e = cc
    last false true e = cc
    last false false e = refl
none_more (other ∷ ns) n k = first (other == k) (none_more ns n k)
  where
    first : (a : Bool) → is_none_of (ns ++ n ∷ []) k ≡ (is_none_of ns k && not (k == n)) → not (a || list_any (λ o. o == k) (ns ++ n ∷ [])) ≡ (not (a || list_any (λ o. o == k) ns) && not (k == n))
    first true more = refl
    first false more = more

-- who is among none of all is among none of the first
none_front : (ns rest : List ℕ) (k : ℕ) → is_none_of (ns ++ rest) k ≡ true → is_none_of ns k ≡ true
none_front [] rest k h = refl
none_front (other ∷ ns) rest k h = first (other == k) h (none_front ns rest k)
  where
    first : (a : Bool) → not (a || list_any (λ o. o == k) (ns ++ rest)) ≡ true → (is_none_of (ns ++ rest) k ≡ true → is_none_of ns k ≡ true) → not (a || list_any (λ o. o == k) ns) ≡ true
    first true h more = h
    first false h more = more h

-- what one test leaves, and another of it
filter_then : {X : Type 0} (p q r : X → Bool) → ((x : X) → r x ≡ (p x && q x)) → (xs : List X) → filter q (filter p xs) ≡ filter r xs
filter_then p q r is [] = refl
filter_then {X} p q r is (x ∷ xs) =
    let more = filter_then p q r is xs in
    elim (cases_Bool (p x)) [
      | inl on ↦ (let same : r x ≡ q x = is x ∙ ap (λ b. b && q x) on in elim (cases_Bool (q x)) [
        | inl too ↦ ap (filter q) (stays p x xs on) ∙ stays q x (filter p xs) too ∙ ap (λ (l : List X). x ∷ l) more ∙ sym (stays r x xs (same ∙ too))
        | inr off ↦ ap (filter q) (stays p x xs on) ∙ goes q x (filter p xs) off ∙ more ∙ sym (goes r x xs (same ∙ off))
      ])
      | inr off ↦ ap (filter q) (goes p x xs off) ∙ more ∙ sym (goes r x xs (is x ∙ ap (λ b. b && q x) off))
    ]

-- where none is named all stay
all_stay : {X : Type 0} (num : X → ℕ) (xs : List X) → filter (λ x. is_none_of [] (num x)) xs ≡ xs
all_stay num [] = refl
all_stay {X} num (x ∷ xs) = ap (λ (l : List X). x ∷ l) (all_stay num xs)

-- where those leave and then this one, all of them do
both_leave : {X : Type 0} (num : X → ℕ) (ns : List ℕ) (n : ℕ) (xs : List X) → filter (λ x. not (num x == n)) (filter (λ x. is_none_of ns (num x)) xs) ≡ filter (λ x. is_none_of (ns ++ n ∷ []) (num x)) xs
both_leave {X} num ns n = filter_then (λ (x : X). is_none_of ns (num x)) (λ x. not (num x == n)) (λ x. is_none_of (ns ++ n ∷ []) (num x)) (λ x. none_more ns n (num x))

-- ---- queues

-- where none is named, none leaves
left_none : (m : Queue) → without_jobs [] m ≡ m
left_none m =
    ap (λ (js : List Job). record m { jobs = js; grants = filter (λ g. is_none_of [] g.job) m.grants; times = filter (λ x. is_none_of [] x.job) m.times }) (all_stay (λ (j : Job). j.number) m.jobs)
    ∙ ap (λ (gs : List Grant). record m { grants = gs; times = filter (λ x. is_none_of [] x.job) m.times }) (all_stay (λ (g : Grant). g.job) m.grants)
    ∙ ap (λ (xs : List Times). record m { times = xs }) (all_stay (λ (x : Times). x.job) m.times)

-- where those leave, and then this one, all do
left_more : (ns : List ℕ) (n : ℕ) (m : Queue) → without_job n (without_jobs ns m) ≡ without_jobs (ns ++ n ∷ []) m
left_more ns n m =
    let all = ns ++ n ∷ [] in
    ap (λ (js : List Job). record m { jobs = js; grants = (without_job n (without_jobs ns m)).grants; times = (without_job n (without_jobs ns m)).times }) (both_leave (λ (j : Job). j.number) ns n m.jobs)
    ∙ ap (λ (gs : List Grant). record m { jobs = filter (λ j. is_none_of all j.number) m.jobs; grants = gs; times = (without_job n (without_jobs ns m)).times }) (both_leave (λ (g : Grant). g.job) ns n m.grants)
    ∙ ap (λ (xs : List Times). record m { jobs = filter (λ j. is_none_of all j.number) m.jobs; grants = filter (λ g. is_none_of all g.job) m.grants; times = xs }) (both_leave (λ (x : Times). x.job) ns n m.times)

-- what holds of each open grant holds of each that is left
open_left : (P : Grant → Type 0) (p : Grant → Bool) (gs : List Grant) → ((g : Grant) → Has (filter (λ x. x.is_open) gs) g → P g) → (g : Grant) → Has (filter (λ x. x.is_open) (filter p gs)) g → P g
open_left P p gs all g has =
    let held : List Grant = filter (λ x. x.is_open) gs in
    all_has P (filter p held) g (all-filter P p held (all_from P held all)) (subst (λ l. Has l g) (filter_swap (λ (x : Grant). x.is_open) p gs) has)

-- a job with no call has none once its grants and its times are gone
pub idle_still : (n : ℕ) (m : Queue) → HasNoCall n m → HasNoCall n (without_times n (without_grants n m))
idle_still n m idle = open_left (λ g. (g.job == n) ≡ false) (λ g. not (g.job == n)) m.grants idle

module _ (numbers front : List ℕ) (n : ℕ) (rest : List ℕ) (is : numbers ≡ (front ++ n ∷ []) ++ rest) where
  -- nor has the next
  idle_next : (m : Queue) → HaveNoCalls numbers m → HasNoCall n (without_jobs front m)
  idle_next m idle = open_left (λ g. (g.job == n) ≡ false) (λ g. is_none_of front g.job) m.grants (λ g has.
      let none = none_front (front ++ n ∷ []) rest g.job (subst (λ ns. is_none_of ns g.job ≡ true) is (idle g has)) in
      not_true (g.job == n) (and_parts (is_none_of front g.job) _ (sym (none_more front n g.job) ∙ none)).1)
    where
      not_true : (b : Bool) → not b ≡ true → b ≡ false
      not_true true h = cc
      not_true false h = refl

module _ {S : Type 0} (g : Ghosts S) (numbers : List ℕ) where
  -- the jobs of these numbers have left
  pub record HasLeft (old new : Store S) (front : List ℕ) : Type 0 where
    pub leaves : Runs g old new (Ok (tt {0}))
    pub written : (m₀ m : Queue) (k₀ k : Ledger) → HaveNoCalls numbers m → Works (shown g old) false m₀ k₀ m k → Serves (shown g new) → IsUnderWay (shown g new) false m₀ k₀ (without_jobs front m) k

  -- none have at first
  pub left_first : (s : Store S) → HasLeft s s []
  left_first s = record {
    leaves = record { served = λ serves. serves; clean = λ clean. clean; holds = λ db over serves. over serves; crash = λ active. (active, λ found may. may) };
    written = λ m₀ m k₀ k idle works serves. subst (λ (n : Queue). IsUnderWay (shown g s) false m₀ k₀ n k) (sym (left_none m)) (works serves);
  }

  -- one more has
  pub left_next : {old mid new : Store S} {x : Unit {0}} (front : List ℕ) (n : ℕ) (rest : List ℕ) → numbers ≡ (front ++ n ∷ []) ++ rest → HasLeft old mid front
      → WritesWhere g mid new (Ok x) (HasNoCall n) (without_job n) (λ k. k) → HasLeft old new (front ++ n ∷ [])
  left_next {old} {mid} {new} {x} front n rest is left writes = record {
    leaves = let both = runs_then g left.leaves writes.leaves in record { served = both.served; clean = both.clean; holds = both.holds; crash = both.crash };
    written = λ m₀ m k₀ k idle works s.
        let before = left.written m₀ m k₀ k idle works (writes.leaves.served s) in
        let after = writes.written m₀ (without_jobs front m) k₀ k (idle_next numbers front n rest is m idle) (λ _. before) s in
        subst (λ (q : Queue). IsUnderWay (shown g new) false m₀ k₀ q k) (left_more front n m) after;
  }

  -- and once all have, that is what was written
  pub left_all : (old new : Store S) → HasLeft old new numbers → WritesWhere g old new (Ok (tt {0})) (HaveNoCalls numbers) (without_jobs numbers) (λ k. k)
  left_all old new left = record { leaves = left.leaves; written = left.written; cause = tt }
