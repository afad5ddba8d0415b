-- How many grants are open to a number, after a change of the queue.
use Rattle.std.proofs.Common.{◌≡◌, ◌⊎◌, inl, inr, ℕ, pos, ◌+◌, ◌-◌, ◌<◌, ◌≤◌, ◌^◌, List, [], ◌∷◌, map, filter, length, cond, if◌then◌else◌, Bool, true, false, ◌&&◌, Option, Some, None, refl, sym, ap, ap₂, subst, ◌∙◌, arith, find, ◌==◌, nat_lt, option_map, int_cmp, bytes_eq, Less}
use Rattle.fax_store.specs.Grant.{with_count}
use Rattle.std.proofs.lemmas.Option.{same_Some}
use Rattle.std.specs.Cmp as cmp
use Rattle.std.proofs.lemmas.Slice.Eq.{bytes_eq-Decides}
use Rattle.std.proofs.lemmas.Bool.{cases_Bool, eqb-true, eq-eqb, both_ways, cond_both, false_from_ne_true, true≢false}
use Rattle.std.proofs.lemmas.Bool.Decides.{nat_tests}
use Rattle.std.proofs.lemmas.List.Elements.{All-from_recursion, recursion_from_All}
use Rattle.sqlite.specs.Effect.{Database}
use Rattle.sqlite.specs.Tree.{rowid, IsTable}
use Rattle.sqlite_rules.specs.Lists.{Has}
use Rattle.sqlite_rules.proofs.ListLemmas.{all_from, all_has, has_filtered, has_found, has_kept}
use Rattle.sqlite_rules.proofs.ProbeLemmas.{mapped_has}
use Rattle.sqlite_trees.proofs.ListLemmas.{filter_same}
use Rattle.sqlite_value.specs.Order.{value_cmp}
use Rattle.sqlite_value.proofs.OrderLemmas.{value_cmp-Int}
use Rattle.fax_core.specs.Job.{Job}
use Rattle.fax_core.specs.Ledger.{Ledger}
use Rattle.fax_core.specs.Queue.{Queue, grant_numbered, job_numbered, open_grants}
use Rattle.fax_core.specs.State.{calls_to, is_of_number}
use Rattle.fax_core.specs.declared.grants.Grant.{Grant}
use Rattle.fax_core.proofs.PlaceLemmas.{find_map}
use Rattle.fax_tables.specs.Place.{placed}
use Rattle.std.proofs.lemmas.List.Folds.{map_fixed}
use Rattle.fax_tables.specs.Row.{number, grant_row, hold_columns}
use Rattle.fax_tables.specs.Tables.{HasJob, HaveJobs, IsLawfulGrant, TablesMean}
use Rattle.fax_layout.proofs.EditLemmas.{has_mapped}
use Rattle.fax_tables.proofs.KeyLemmas.{apart}
use Rattle.fax_store.specs.Job.{with_placed}

-- texts are equal either way round
pub turned : (s t : List ℕ) → bytes_eq s t ≡ bytes_eq t s
turned s t = cmp.both_ways (bytes_eq s t) (bytes_eq t s) (λ h. (bytes_eq-Decides t s).1 (sym ((bytes_eq-Decides s t).0 h))) (λ h. (bytes_eq-Decides s t).1 (sym ((bytes_eq-Decides t s).0 h)))

-- ---- one call more, or one less

abbrev pub one : Bool → ℕ
one true = 1
one false = 0

module _ (dial : List ℕ) (count after : List ℕ → ℕ) where
  -- a number with one call more
  pub one_more : ((d : List ℕ) → after d ≡ one (bytes_eq dial d) + count d) → (d : List ℕ) → with_count dial (count dial + 1) count d ≡ after d
  one_more more d = cond_both (bytes_eq d dial) (count dial + 1) (count d) (λ n. n ≡ after d)
      (λ on. rw ((bytes_eq-Decides d dial).0 on) (let total = rw ((bytes_eq-Decides dial dial).1 refl) at (more dial) in omega (arith, total)))
      (λ off. let total = rw (turned dial d ∙ off) at (more d) in omega (arith, total))

  -- and with one less
  pub one_less : ((d : List ℕ) → after d + one (bytes_eq dial d) ≡ count d) → (d : List ℕ) → with_count dial (count dial - 1) count d ≡ after d
  one_less less d = cond_both (bytes_eq d dial) (count dial - 1) (count d) (λ n. n ≡ after d)
      (λ on. rw ((bytes_eq-Decides d dial).0 on) (let total = rw ((bytes_eq-Decides dial dial).1 refl) at (less dial) in omega (arith, total)))
      (λ off. let total = rw (turned dial d ∙ off) at (less d) in omega (arith, total))

-- ---- among open grants

-- how many of those that are open pass
abbrev pub open_to : (Grant → Bool) → List Grant → ℕ
open_to of gs = length (filter of (filter (λ g. g.is_open) gs))

-- one more grant adds 1 where it is open and passes
pub open_more : (of : Grant → Bool) (g : Grant) (gs : List Grant) → open_to of (g ∷ gs) ≡ one (g.is_open && of g) + open_to of gs
open_more of g gs =
    let open_ones = filter (λ h. h.is_open) gs in
    let rest = filter of open_ones in
    elim g.is_open as (λ b. length (filter of (cond b (g ∷ open_ones) open_ones)) ≡ one (b && of g) + length rest) [
      | true ↦ elim (of g) as (λ b. length (cond b (g ∷ rest) rest) ≡ one b + length rest) [ true ↦ omega arith | false ↦ omega arith ]
      | false ↦ omega arith
    ]

-- a truth counts for at most 1
at_most_one : (b : Bool) → one b ≤ 1
at_most_one true = omega arith
at_most_one false = omega arith

-- those open that pass are no more than all
pub at_most_all : (of : Grant → Bool) (gs : List Grant) → open_to of gs ≤ length gs
at_most_all of [] = omega arith
at_most_all of (g ∷ gs) = omega (arith, open_more of g gs, at_most_one (g.is_open && of g), at_most_all of gs)

-- ---- the jobs changed

-- the open grants are of jobs to the same numbers
pub same_calls : (dial : List ℕ) (m : Queue) (jobs : List Job) → ((g : Grant) → Has (open_grants m) g → is_of_number dial (find (λ (j : Job). j.number == g.job) jobs) ≡ is_of_number dial (job_numbered g.job m))
    → calls_to dial m ≡ calls_to dial (record m { jobs = jobs })
same_calls dial m jobs same =
    sym (ap (λ gs. length gs) (filter_same (λ (g : Grant). is_of_number dial (find (λ (j : Job). j.number == g.job) jobs)) (λ g. is_of_number dial (job_numbered g.job m)) (open_grants m)
    (all_from (λ g. is_of_number dial (find (λ (j : Job). j.number == g.job) jobs) ≡ is_of_number dial (job_numbered g.job m)) (open_grants m) same)))

-- each job became another of its number
module _ (f : Job → Job) (m : Queue) (numbers : (x : Job) → (f x).number ≡ x.number) where
  -- the changed job of a number is the job of this number, changed
  found_mapped : (n : ℕ) → find (λ (j : Job). j.number == n) (map f m.jobs) ≡ option_map f (job_numbered n m)
  found_mapped n = find_map (λ (j : Job). j.number == n) f (λ x. ap (λ i. i == n) (numbers x)) m.jobs

  -- open grants keep their jobs where jobs change and keep their numbers
  pub jobs_mapped : HaveJobs m → HaveJobs (record m { jobs = map f m.jobs })
  jobs_mapped have g has = let it = have g has in (f it.0, found_mapped g.job ∙ ap (option_map f) it.1)

  -- to the same number
  pub calls_mapped : (dial : List ℕ) → ((x : Job) → Has m.jobs x → (f x).dial ≡ x.dial) → calls_to dial m ≡ calls_to dial (record m { jobs = map f m.jobs })
  calls_mapped dial same = same_calls dial m (map f m.jobs) (λ g has. ap (is_of_number dial) (found_mapped g.job) ∙ of_found g.job (job_numbered g.job m) refl)
    where
      of_found : (n : ℕ) (o : Option Job) → job_numbered n m ≡ o → is_of_number dial (option_map f o) ≡ is_of_number dial o
      of_found n None e = refl
      of_found n (Some x) e = ap (λ text. bytes_eq text dial) (same x (has_found (λ (j : Job). j.number == n) m.jobs x e).0)

-- one more job, of a number that none has
module _ (x : Job) where
  -- beside a new job, each other number finds what it found
  found_beside : (n : ℕ) (xs : List Job) → (x.number == n) ≡ false → find (λ (j : Job). j.number == n) (placed (λ (j : Job). j.number) x xs) ≡ find (λ (j : Job). j.number == n) xs
  found_beside n [] off = rw off refl
  found_beside n (y ∷ ys) off = cond_both (nat_lt y.number x.number) (y ∷ placed (λ (j : Job). j.number) x ys) (x ∷ y ∷ ys)
      (λ js. find (λ (j : Job). j.number == n) js ≡ find (λ (j : Job). j.number == n) (y ∷ ys))
      (λ _. ap (cond (y.number == n) (Some y)) (found_beside n ys off)) (λ _. rw off refl)

  module _ (m : Queue) (have : HaveJobs m) (free : (y : Job) → Has m.jobs y → (y.number == x.number) ≡ false) where
    -- the new job's number is none of an open grant's job
    other : (g : Grant) → Has (open_grants m) g → (x.number == g.job) ≡ false
    other g has = false_from_ne_true (x.number == g.job) (λ same.
        let it = have g has in
        let there = has_found (λ (j : Job). j.number == g.job) m.jobs it.0 it.1 in
        both_ways _ (free it.0 there.0) (eq-eqb (it.0).number x.number (eqb-true (it.0).number g.job there.1 ∙ sym (eqb-true x.number g.job same))))

    -- open grants keep their jobs beside a new one
    pub jobs_placed : HaveJobs (with_placed x m)
    jobs_placed g has = let it = have g has in (it.0, found_beside g.job m.jobs (other g has) ∙ it.1)

    -- a new job adds no call to any number
    pub calls_placed : (dial : List ℕ) → calls_to dial m ≡ calls_to dial (with_placed x m)
    calls_placed dial = same_calls dial m (placed (λ (j : Job). j.number) x m.jobs) (λ g has. ap (is_of_number dial) (found_beside g.job m.jobs (other g has)))

-- ---- the grants changed

-- each grant became another of its modem, job and number, open where it was
module _ (f : Grant → Grant) (m : Queue) (same : (x : Grant) → Has m.grants x → ((f x).is_open ≡ x.is_open) × (hold_columns (f x) ≡ hold_columns x)) where
  -- changed grants of the same jobs, open as before, are as many by any test of their jobs
  open_mapped : (of : ℕ → Bool) (gs : List Grant) → ((x : Grant) → Has gs x → ((f x).is_open ≡ x.is_open) × (hold_columns (f x) ≡ hold_columns x)) → open_to (λ g. of g.job) gs ≡ open_to (λ g. of g.job) (map f gs)
  open_mapped of [] as_it = refl
  open_mapped of (x ∷ xs) as_it =
      let it = as_it x (inl refl) in
      let job : (f x).job ≡ x.job = let columns = it.1 in cc in
      open_more (λ g. of g.job) x xs ∙ ap₂ ◌+◌ (sym (ap₂ (λ b j. one (b && of j)) it.0 job)) (open_mapped of xs (λ y has. as_it y (inr has))) ∙ sym (open_more (λ g. of g.job) (f x) (map f xs))

  -- where grants change so, each number keeps its calls
  pub calls_reported : (dial : List ℕ) → calls_to dial m ≡ calls_to dial (record m { grants = map f m.grants })
  calls_reported dial = open_mapped (λ n. is_of_number dial (job_numbered n m)) m.grants same

  -- and open grants keep their jobs
  pub jobs_reported : HaveJobs m → HaveJobs (record m { grants = map f m.grants })
  jobs_reported have g has =
      let is_open = has_filtered (λ (x : Grant). x.is_open) (map f m.grants) g has in
      let it = has_mapped f m.grants g is_open.0 in
      let as_it = same it.0 it.1 in
      let was = have it.0 (has_kept (λ (x : Grant). x.is_open) m.grants it.0 it.1 (sym as_it.0 ∙ ap (λ (x : Grant). x.is_open) (sym it.2) ∙ is_open.1)) in
      let job : g.job ≡ it.0.job = let columns = as_it.1 in ap (λ (x : Grant). x.job) it.2 ∙ cc in
      (was.0, ap (λ n. job_numbered n m) job ∙ was.1)

-- one more grant
pub placed_count : (of : Grant → Bool) (g : Grant) (gs : List Grant) → open_to of (placed (λ (x : Grant). x.number) g gs) ≡ one (g.is_open && of g) + open_to of gs
placed_count of g [] = open_more of g []
placed_count of g (h ∷ hs) = cond_both (nat_lt h.number g.number) (h ∷ placed (λ (x : Grant). x.number) g hs) (g ∷ h ∷ hs)
    (λ gs. open_to of gs ≡ one (g.is_open && of g) + open_to of (h ∷ hs))
    (λ _. omega (arith, open_more of h (placed (λ (x : Grant). x.number) g hs), open_more of h hs, placed_count of g hs)) (λ _. open_more of g (h ∷ hs))

-- a grant among those with one placed is that one or was there
pub has_placed : (g h : Grant) (gs : List Grant) → Has (placed (λ (x : Grant). x.number) g gs) h → (h ≡ g) ⊎ Has gs h
has_placed g h [] = λ has. has
has_placed g h (x ∷ xs) = cond_both (nat_lt x.number g.number) (x ∷ placed (λ (y : Grant). y.number) g xs) (g ∷ x ∷ xs)
    (λ gs. Has gs h → (h ≡ g) ⊎ Has (x ∷ xs) h)
    (λ _ has. elim has [ inl is ↦ inr (inl is) | inr more ↦ elim (has_placed g h xs more) [ inl is ↦ inl is | inr there ↦ inr (inr there) ] ]) (λ _ has. has)

-- what changes no element changes no list
pub unmoved : {X : Type 0} (f : X → X) (xs : List X) → ((x : X) → Has xs x → f x ≡ x) → map f xs ≡ xs
unmoved f xs same = map_fixed f xs (All-from_recursion _ xs (all_from _ xs same))

-- a grant of a number that is open no more
module _ (n : ℕ) where
  abbrev pub shut : Grant → Grant
  shut x = if x.number == n then record x { is_open = false } else x

  -- shutting an open grant takes it off those that are open
  pub closed_count : (of : Grant → Bool) (g : Grant) (gs : List Grant) → IsTable (map grant_row gs) → find (λ (x : Grant). x.number == n) gs ≡ Some g → g.is_open ≡ true → open_to of (map shut gs) + one (of g) ≡ open_to of gs
  closed_count of g [] rise found on = absurd cc
  closed_count of g (h ∷ hs) rise found on = elim (cases_Bool (h.number == n)) [
    | inl here ↦
        (let same : h ≡ g = same_Some h g (rw here at found) in
        let more : open_to of (h ∷ hs) ≡ one (of g) + open_to of hs = rw same (open_more of g hs ∙ ap (λ b. one (b && of g) + open_to of hs) on) in
        rw (here, unmoved shut hs (λ y has. rw (later y has here) refl)) (omega (arith, more)))
    | inr off ↦ rw off (omega (arith, open_more of h (map shut hs), open_more of h hs, closed_count of g hs rise.1 (rw off at found) on))
  ]
    where
      later : (y : Grant) → Has hs y → (h.number == n) ≡ true → (y.number == n) ≡ false
      later y has here = false_from_ne_true (y.number == n) (λ same.
          let less = all_has (λ r. value_cmp (rowid (grant_row h)) (rowid r) ≡ Less) (map grant_row hs) (grant_row y) rise.0 (mapped_has grant_row hs y has) in
          both_ways _ (apart grant_row (λ (x : Grant). x.number) (λ x. refl) h y less)
          (eq-eqb h.number y.number (eqb-true h.number n here ∙ sym (eqb-true y.number n same))))

  -- open grants keep their jobs where one is shut
  pub jobs_shut : (m : Queue) → HaveJobs m → HaveJobs (record m { grants = map shut m.grants })
  jobs_shut m have g has =
      let opened = has_filtered (λ (x : Grant). x.is_open) (map shut m.grants) g has in
      let it = has_mapped shut m.grants g opened.0 in
      let same : g ≡ it.0 = it.2 ∙ cond_both (it.0.number == n) (record it.0 { is_open = false }) it.0 (λ y. y.is_open ≡ true → y ≡ it.0)
      (λ _ e. absurd (true≢false (sym e))) (λ _ e. refl) (sym (ap (λ (x : Grant). x.is_open) it.2) ∙ opened.1) in
      let was = have it.0 (has_kept (λ (x : Grant). x.is_open) m.grants it.0 it.1 (sym (ap (λ (x : Grant). x.is_open) same) ∙ opened.1)) in
      (was.0, ap (λ (x : Grant). job_numbered x.job m) same ∙ was.1)

-- the job of an open grant is there
pub held_job : (m : Queue) → HaveJobs m → (n : ℕ) (g : Grant) → grant_numbered n m ≡ Some g → g.is_open ≡ true → HasJob m g
held_job m have n g found on = have g (has_kept (λ (x : Grant). x.is_open) m.grants g (has_found (λ (x : Grant). x.number == n) m.grants g found).0 on)

-- ---- how many there may be

-- by rowid, one record stands before another only where its number is less
pub lower : (n k : ℕ) → value_cmp (number n) (number k) ≡ Less → n < k
lower n k less = let e : int_cmp (pos n) (pos k) ≡ Less = sym (value_cmp-Int (pos n) (pos k)) ∙ less in grind (arith, nat_tests)

-- grants with rising numbers up to a last one are no more than that
pub few : (last low : ℕ) (gs : List Grant) → IsTable (map grant_row gs) → ((x : Grant) → Has gs x → (low ≤ x.number) × (x.number ≤ last)) → low ≤ last + 1 → length gs + low ≤ last + 1
few last low [] rise within base = omega (arith, base)
few last low (g ∷ gs) rise within base =
    let first = within g (inl refl) in
    let rest = few last (low + 1) gs rise.1
    (λ x has.
    let more = lower g.number x.number
    (all_has (λ r. value_cmp (rowid (grant_row g)) (rowid r) ≡ Less) (map grant_row gs) (grant_row x) rise.0 (mapped_has grant_row gs x has)) in
    (omega (arith, more, first.0), (within x (inr has)).1))
    (omega (arith, first.0, first.1)) in
    omega (arith, rest)

-- there are at most 999999999 grants
pub grants_few : (db : Database) (m : Queue) (k : Ledger) → TablesMean db m k → length m.grants ≤ 999999999
grants_few db m k means =
    let most = few 999999999 1 m.grants (subst IsTable means.grants means.ordered.grants.rise) (λ x has. (all_has IsLawfulGrant m.grants x (recursion_from_All IsLawfulGrant m.grants means.lawful.grants) has).limits.number) (omega arith) in
    omega (arith, most)

-- there are no more calls to a number than grants
pub calls_few : (db : Database) (m : Queue) (k : Ledger) → TablesMean db m k → (dial : List ℕ) → calls_to dial m ≤ 999999999
calls_few db m k means dial = omega (arith, grants_few db m k means, at_most_all (λ g. is_of_number dial (job_numbered g.job m)) m.grants)

-- so they fit 32 bits
pub calls_fit : (db : Database) (m : Queue) (k : Ledger) → TablesMean db m k → (dial : List ℕ) → calls_to dial m < 2 ^ 32
calls_fit db m k means dial = let low : calls_to dial m < 4294967296 = omega (arith, calls_few db m k means dial) in low
