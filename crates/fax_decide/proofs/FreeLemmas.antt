-- A new job and a new grant come last, and what is accepted of a sound queue, and leaves one, has keys that were free.
use Rattle.std.proofs.Common.{◌≡◌, ◌⊎◌, inl, inr, ℕ, ◌≤◌, Bool, true, false, List, [], ◌∷◌, ◌++◌, map, find, Some, None, refl, sym, ap, subst, ◌∙◌, arith, nat_lt, ◌==◌, bytes_eq, cond, eqb, lt-ltb, ltb, ltb-true, ne_eqb}
use Rattle.std.proofs.lemmas.Bool.{cases_Bool}
use Rattle.std.proofs.lemmas.Slice.Eq.{bytes_eq-Decides}
use Rattle.fax_core.specs.declared.grants.Grant.{Grant}
use Rattle.fax_core.specs.Job.{Job, job_of}
use Rattle.fax_core.specs.Machine.{held_by}
use Rattle.fax_core.specs.Queue.{Queue, grant_numbered, open_grants}
use Rattle.fax_core.specs.Sound.{AscendBetween, IsOpen, Sound}
use Rattle.fax_core.specs.Stamp.{came}
use Rattle.fax_core.specs.declared.times.Times.{Times}
use Rattle.fax_core.proofs.StampLemmas.{timed_numbers}
use Rattle.fax_core.proofs.PlaceLemmas.{In, ascend_few, found, found_in, in_found, of_filter}
use Rattle.fax_tables.specs.Place.{placed}
use Rattle.fax_store.specs.Grant.{IsNewGrant}
use Rattle.fax_store.specs.Job.{IsNewJob, with_expired}
use Rattle.fax_decide.specs.Effect.{IsFree, IsWithin, accepted}
use Rattle.fax_decide.specs.declared.effect.Effect.{Effect}
use Rattle.fax_decide.specs.declared.effect.Effect.TheVariants.{NewJob, NewGrant}
use Rattle.fax_decide.proofs.RecordLemmas.{in_had, none_by, open_there}

-- ---- what is new comes last

-- what has the next number is put at the end
last_placed : {X : Type 0} (number : X → ℕ) (low high : ℕ) (x : X) (xs : List X) → AscendBetween low (map number xs) high → number x ≡ high → placed number x xs ≡ xs ++ x ∷ []
last_placed number low high x [] ascend n = refl
last_placed number low high x (y ∷ ys) ascend n =
    let few = ascend_few number (number y) high ys ascend.1 in
    let before : ltb (number y) (number x) ≡ true = lt-ltb (number y) (number x) (omega (arith, few, n)) in
    ap (λ b. cond b (y ∷ placed number x ys) (x ∷ y ∷ ys)) before ∙ ap (λ l. y ∷ l) (last_placed number (number y) high x ys ascend.1 n)

-- a job of the next number comes after those of a sound queue
pub job_placed : (m : Queue) (j : Job) → Sound m → j.number ≡ m.next_job → placed (λ (k : Job). k.number) j m.jobs ≡ m.jobs ++ j ∷ []
job_placed m j h n = last_placed (λ (k : Job). k.number) 0 m.next_job j m.jobs h.jobs n

-- the times of a sound queue are in order
times_ascend : (m : Queue) → Sound m → AscendBetween 0 (map (λ (y : Times). y.job) m.times) m.next_job
times_ascend m h = subst (λ (ns : List ℕ). AscendBetween 0 ns m.next_job) (sym (timed_numbers m.jobs m.times h.timed)) h.jobs

-- a grant of the next number comes after those of a sound queue
pub grant_placed : (m : Queue) (g : Grant) → Sound m → g.number ≡ m.next_grant → placed (λ (h : Grant). h.number) g m.grants ≡ m.grants ++ g ∷ []
grant_placed m g h n = last_placed (λ (h : Grant). h.number) 0 m.next_grant g m.grants h.grants n

-- the times of such a job come after those of its queue
pub times_placed : (m : Queue) (x : Times) → Sound m → x.job ≡ m.next_job → placed (λ (y : Times). y.job) x m.times ≡ m.times ++ x ∷ []
times_placed m x h n = last_placed (λ (y : Times). y.job) 0 m.next_job x m.times (times_ascend m h) n

-- ---- keys that were free

-- what is put among others is there with them, whether it is put before the first or later
put_by : {X : Type 0} (b : Bool) (x y z : X) (ys zs : List X) → (x ≡ z) ⊎ ((y ≡ z) ⊎ In z ys) → (In z zs → In z zs) → ((x ≡ z) ⊎ In z ys → In z zs) → In z (cond b (y ∷ zs) (x ∷ y ∷ ys))
put_by true x y z ys zs (inl here) same rest = inr (rest (inl here))
put_by true x y z ys zs (inr (inl first)) same rest = inl first
put_by true x y z ys zs (inr (inr more)) same rest = inr (rest (inr more))
put_by false x y z ys zs is same rest = is

-- what is put in, and what was there, is in the list
in_placed : {X : Type 0} (number : X → ℕ) (x z : X) (xs : List X) → (x ≡ z) ⊎ In z xs → In z (placed number x xs)
in_placed number x z [] is = is
in_placed number x z (y ∷ ys) is = put_by (nat_lt (number y) (number x)) x y z ys (placed number x ys) is (λ it. it) (in_placed number x z ys)

-- where numbers ascend from a higher one on, a number isn't among them
below_all : {X : Type 0} (number : X → ℕ) (low high n : ℕ) (xs : List X) → AscendBetween low (map number xs) high → n ≤ low → find (λ x. number x == n) xs ≡ None
below_all number low high n [] ascend less = refl
below_all number low high n (x ∷ xs) ascend less =
    let off : eqb (number x) n ≡ false = ne_eqb (number x) n (λ same. omega (arith, ascend.0, less, same)) in
    rw off (below_all number (number x) high n xs ascend.1 (omega (arith, ascend.0, less)))

-- where numbers ascend with one that was put in, it wasn't among them
was_free : {X : Type 0} (number : X → ℕ) (low high : ℕ) (x : X) (xs : List X) → AscendBetween low (map number (placed number x xs)) high → find (λ y. number y == number x) xs ≡ None
was_free number low high x [] after = refl
was_free number low high x (y ∷ ys) after = elim (cases_Bool (nat_lt (number y) (number x))) [
  | inl less ↦
      (let all : AscendBetween low (number y ∷ map number (placed number x ys)) high = rw less at after in
      let off : eqb (number y) (number x) ≡ false = ne_eqb (number y) (number x) (λ same. (let under = ltb-true (number y) (number x) less in omega (arith, under, same))) in
      rw off (was_free number (number y) high x ys all.1))
  | inr more ↦
      (let all : AscendBetween low (number x ∷ number y ∷ map number ys) high = rw more at after in
      below_all number (number x) high (number x) (y ∷ ys) all.1 (omega arith))
]

-- a job that leaves a sound queue has a number that none had, and no times
job_free : (t : ℕ) (j : Job) (m after : Queue) → after.jobs ≡ placed (λ (k : Job). k.number) j (with_expired t m).jobs
    → after.times ≡ placed (λ (x : Times). x.job) (came t j) (with_expired t m).times → Sound after → IsNewJob j (with_expired t m)
job_free t j m after jobs times still = (
  was_free (λ (k : Job). k.number) 0 after.next_job j (with_expired t m).jobs (subst (λ (js : List Job). AscendBetween 0 (map (λ (k : Job). k.number) js) after.next_job) jobs still.jobs),
  was_free (λ (x : Times). x.job) 0 after.next_job (came t j) (with_expired t m).times (subst (λ (xs : List Times). AscendBetween 0 (map (λ (x : Times). x.job) xs) after.next_job) times (times_ascend after still)),
)

-- a grant that leaves one has such a number, and neither its modem nor its job held one
module _ (m after : Queue) (g : Grant) (sound : Sound m) (still : Sound after) (is : after.grants ≡ placed (λ (h : Grant). h.number) g m.grants) (is_open : g.is_open ≡ true) where
  -- the queue has no grant of its number
  unknown : grant_numbered g.number m ≡ None
  unknown = was_free (λ (h : Grant). h.number) 0 after.next_grant g m.grants (subst (λ (gs : List Grant). AscendBetween 0 (map (λ (h : Grant). h.number) gs) after.next_grant) is still.grants)

  -- what is in the queue afterwards is found by its number
  found_after : (h : Grant) → (g ≡ h) ⊎ In h m.grants → grant_numbered h.number after ≡ Some h
  found_after h there =
      in_found (λ (x : Grant). x.number) 0 after.next_grant after.grants h still.grants
      (subst (In h) (sym is) (in_placed (λ (x : Grant). x.number) g h m.grants there))

  -- it is open afterwards
  new_open : IsOpen after g.number g
  new_open = (found_after g (inl refl), is_open)

  -- one that was open is so still, and is another
  module _ (h : Grant) (there : In h (open_grants m)) where
    -- it is open afterwards
    old_open : IsOpen after h.number h
    old_open =
        let was = open_there m h sound there in
        (found_after h (inr (of_filter (λ (x : Grant). x.is_open) m.grants h there).0), was.1)

    -- its number is another
    other : h.number ≡ g.number → ⊥
    other same = let both = sym (subst (λ n. grant_numbered n m ≡ Some h) same (open_there m h sound there).0) ∙ unknown in cc

  -- the new grant takes neither a number, nor a modem or a job that holds one
  pub grant_free : IsNewGrant g m
  grant_free = record {
    number = unknown;
    modem = none_by (held_by g.modem m) (λ h held.
        let there = found_in (λ (x : Grant). bytes_eq x.modem g.modem) (open_grants m) h held in
        let same = (bytes_eq-Decides h.modem g.modem).0 (found (λ (x : Grant). bytes_eq x.modem g.modem) (open_grants m) h held) in
        other h there (still.one_to_a_modem h.number g.number h g (old_open h there) new_open same));
    job = λ h has same. let there = in_had (open_grants m) h has in other h there (still.one_of_a_job h.number g.number h g (old_open h there) new_open same);
  }

-- so what is accepted takes no key that is taken
pub keys_free : (t : ℕ) (effect : Effect) (m : Queue) → Sound m → Sound (accepted t effect m) → IsWithin effect → IsFree effect (with_expired t m)
keys_free t (NewJob f) m sound still within = job_free t (job_of f) m (accepted t (NewJob f) m) refl refl still
keys_free t (NewGrant f g) m sound still within =
    let after = accepted t (NewGrant f g) m in
    let free = grant_free m after g sound still refl within.is_open in
    let held = still.held g.number g (new_open m after g sound still refl within.is_open) in
    (record { number = free.number; modem = free.modem; job = free.job }, (held.0, held.1))
keys_free t effect m sound still within = tt
