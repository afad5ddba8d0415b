-- A sound queue stays sound where jobs leave, each with its times and all its grants.
use Rattle.std.proofs.Common.{◌≡◌, ◌≢◌, inl, inr, ℕ, ◌<◌, Bool, true, false, cond, eqb, List, [], ◌∷◌, map, refl, sym, ap, subst, ◌∙◌, arith}
use Rattle.std.specs.Prelude.{Option, Some, None, filter, find}
use Rattle.std.proofs.lemmas.Bool.{cases_lt, true≢false}
use Rattle.fax_core.specs.declared.grants.Grant.{Grant}
use Rattle.fax_core.specs.Job.{Job}
use Rattle.fax_core.specs.Purge.{is_none_of, without_jobs}
use Rattle.fax_core.specs.Queue.{Queue, job_numbered}
use Rattle.fax_core.specs.Sound.{AscendBetween, Fits, IsJob, IsOpen, Sound}
use Rattle.fax_core.proofs.KeepLemmas.{Kept, grant_number, job_number, numbered_job, same_job}
use Rattle.fax_core.proofs.PlaceLemmas.{absent, found, found_in, in_filter, in_found, none_passes, number_found, of_filter}
use Rattle.fax_core.proofs.TimesLemmas.{leaves_timed}

-- ---- numbers in order, of which some leave

-- a lower bound may be lower
lower_bound : (low n : ℕ) (ns : List ℕ) (high : ℕ) → low < n → AscendBetween n ns high → AscendBetween low ns high
lower_bound low n [] high less h = omega (arith, less, h)
lower_bound low n (k ∷ ns) high less h = (omega (arith, less, h.0), h.1)

-- those that stay ascend
ascend_left : {X : Type 0} (num : X → ℕ) (p : X → Bool) (low high : ℕ) (xs : List X) → AscendBetween low (map num xs) high → AscendBetween low (map num (filter p xs)) high
ascend_left num p low high [] h = h
ascend_left num p low high (x ∷ xs) h = one (p x) (ascend_left num p (num x) high xs h.1)
  where
    one : (b : Bool) → AscendBetween (num x) (map num (filter p xs)) high → AscendBetween low (map num (cond b (x ∷ filter p xs) (filter p xs))) high
    one true rest = (h.0, rest)
    one false rest = lower_bound low (num x) (map num (filter p xs)) high h.0 rest

-- who is found among those that stay was found
pub found_before : {X : Type 0} (num : X → ℕ) (p : X → Bool) (high n : ℕ) (xs : List X) (x : X) → AscendBetween 0 (map num xs) high
    → find (λ y. eqb (num y) n) (filter p xs) ≡ Some x → (find (λ y. eqb (num y) n) xs ≡ Some x) × (p x ≡ true)
found_before num p high n xs x h e =
    let there = of_filter p xs x (found_in (λ y. eqb (num y) n) (filter p xs) x e) in
    let number = number_found num n (filter p xs) x e in
    (subst (λ (i : ℕ). find (λ y. eqb (num y) i) xs ≡ Some x) number (in_found num 0 high xs x h there.0), there.1)

-- and who was found and stays is found
pub found_after : {X : Type 0} (num : X → ℕ) (p : X → Bool) (high n : ℕ) (xs : List X) (x : X) → AscendBetween 0 (map num xs) high
    → find (λ y. eqb (num y) n) xs ≡ Some x → p x ≡ true → find (λ y. eqb (num y) n) (filter p xs) ≡ Some x
found_after num p high n xs x h e stays =
    let number = number_found num n xs x e in
    let there = in_filter p xs x stays (found_in (λ y. eqb (num y) n) xs x e) in
    subst (λ (i : ℕ). find (λ y. eqb (num y) i) (filter p xs) ≡ Some x) number (in_found num 0 high (filter p xs) x (ascend_left num p 0 high xs h) there)

-- where none was found, none is
pub left_nothing : {X : Type 0} (p q : X → Bool) (xs : List X) → find p xs ≡ None → find p (filter q xs) ≡ None
left_nothing {X} p q xs none = by (find p (filter q xs)) refl
  where
    by : (o : Option X) → find p (filter q xs) ≡ o → o ≡ None
    by None e = refl
    by (Some x) e =
        let there = of_filter q xs x (found_in p (filter q xs) x e) in
        absurd (true≢false (sym (found p (filter q xs) x e) ∙ none_passes p xs x none there.0))

-- ---- jobs that leave

-- the number of a job that is there is below the next
pub job_below : (m : Queue) → Sound m → (n : ℕ) (j : Job) → IsJob m n j → n < m.next_job
job_below m h n j is =
    elim (cases_lt n m.next_job) [
      | inl low ↦ low
      | inr high ↦ let none = absent job_number 0 m.next_job n m.jobs h.jobs high in cc (none, is)
    ]

module _ (m : Queue) (numbers : List ℕ) (h : Sound m) where
  -- the queue without them
  abbrev left : Queue
  left = without_jobs numbers m

  -- a job that is there was there, and stays
  pub job_before : (n : ℕ) (j : Job) → IsJob left n j → IsJob m n j × (is_none_of numbers j.number ≡ true)
  job_before n j e = found_before job_number (λ k. is_none_of numbers k.number) m.next_job n m.jobs j h.jobs e

  -- a job that was there and stays is there
  pub job_after : (n : ℕ) (j : Job) → IsJob m n j → is_none_of numbers j.number ≡ true → IsJob left n j
  job_after n j e stays = found_after job_number (λ k. is_none_of numbers k.number) m.next_job n m.jobs j h.jobs e stays

  -- a job that was there and leaves isn't
  pub job_gone : (n : ℕ) (j : Job) → IsJob m n j → is_none_of numbers j.number ≡ false → job_numbered n left ≡ None
  job_gone n j is leaves = by (job_numbered n left) refl
    where
      by : (o : Option Job) → job_numbered n left ≡ o → o ≡ None
      by None e = refl
      by (Some k) e =
          let was = job_before n k e in
          let same : k ≡ j = same_job m n k j was.0 is in
          absurd (true≢false (sym was.1 ∙ ap (λ (x : Job). is_none_of numbers x.number) same ∙ leaves))

  -- a grant that is open was, and its job stays
  open_before : (a : ℕ) (g : Grant) → IsOpen left a g → IsOpen m a g × (is_none_of numbers g.job ≡ true)
  open_before a g o =
      let was = found_before grant_number (λ x. is_none_of numbers x.job) m.next_grant a m.grants g h.grants o.0 in
      ((was.0, o.1), was.1)

  -- a grant that was open is, if its job stays
  open_after : (a : ℕ) (g : Grant) → IsOpen m a g → is_none_of numbers g.job ≡ true → IsOpen left a g
  open_after a g o stays = (found_after grant_number (λ x. is_none_of numbers x.job) m.next_grant a m.grants g h.grants o.0 stays, o.1)

  -- the job of an open grant stays with it
  held_after : (a : ℕ) (g : Grant) → IsOpen left a g → (j : Job) × IsJob left g.job j × Fits j (Some g)
  held_after a g o =
      let was = open_before a g o in
      let old = h.held a g was.0 in
      (old.0, job_after g.job old.0 old.1 (ap (is_none_of numbers) (numbered_job m g.job old.0 old.1) ∙ was.1), old.2)

  -- a job that no open grant has had none
  free_after : (n : ℕ) (j : Job) → IsJob left n j → ((a : ℕ) (g : Grant) → IsOpen left a g → g.job ≢ n) → Fits j None
  free_after n j e alone =
      let was = job_before n j e in
      h.free n j was.0 (λ a g o same. alone a g (open_after a g o (ap (is_none_of numbers) (same ∙ sym (numbered_job m n j was.0)) ∙ was.1)) same)

  -- so the queue stays sound without them
  pub keeps_without : Kept m left
  keeps_without = record {
    timed = leaves_timed m left (is_none_of numbers) refl refl h.jobs (ascend_left job_number (λ k. is_none_of numbers k.number) 0 m.next_job m.jobs h.jobs);
    jobs = ascend_left job_number (λ k. is_none_of numbers k.number) 0 m.next_job m.jobs h.jobs;
    grants = ascend_left grant_number (λ x. is_none_of numbers x.job) 0 m.next_grant m.grants h.grants;
    one_to_a_modem = λ a b g x o p e. h.one_to_a_modem a b g x (open_before a g o).0 (open_before b x p).0 e;
    one_of_a_job = λ a b g x o p e. h.one_of_a_job a b g x (open_before a g o).0 (open_before b x p).0 e;
    held = held_after;
    free = free_after;
  }
