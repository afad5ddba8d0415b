-- What a change of jobs makes of the times.
use Rattle.std.proofs.Common.{◌≡◌, ◌∙◌, ◌&&◌, ◌||◌, ◌++◌, ℕ, Bool, true, false, not, cond, eqb, List, [], ◌∷◌, length, map, refl, sym, ap, ap₂, subst}
use Rattle.std.proofs.Math.Bool.{and-true, and-false, not-and_self}
use Rattle.std.proofs.Math.Path.{fun_ext}
use Rattle.std.proofs.Math.Seq.{drop-append_seam, drop-length}
use Rattle.std.proofs.lemmas.Bool.{eqb-true}
use Rattle.std.proofs.lemmas.List.{append-nil, map-id}
use Rattle.std.specs.Option.{option_map}
use Rattle.std.specs.Prelude.{Option, Some, None, drop, find, is_some}
use Rattle.fax_job.specs.declared.job.Phase.{Phase}
use Rattle.fax_job.specs.declared.job.Phase.TheVariants.{Held, Waiting, Granted, Done, Failed}
use Rattle.fax_core.specs.Ageing.{aged, aged_job, expires, is_past}
use Rattle.fax_core.specs.Job.{Job}
use Rattle.fax_core.specs.Machine.{with_job, with_new_job}
use Rattle.fax_core.specs.Queue.{Queue, job_numbered, times_numbered}
use Rattle.fax_core.specs.Stamp.{came, end_of, ended_where, ends, stamp}
use Rattle.fax_core.specs.Times.{AreTimed, has_ended}
use Rattle.fax_core.specs.declared.times.Times.{Times}
use Rattle.fax_core.proofs.DecisionLemmas.{aged_number}
use Rattle.fax_core.proofs.PlaceLemmas.{find_map, find_placed, in_place, length_map, number_found, stays}

-- ---- where jobs end

-- what ends by no test stays
ended_nowhere : (t : ℕ) (x : Times) → ended_where t (λ n. false) x ≡ x
ended_nowhere t x = refl

-- tests that say the same end the same
pub ends_as : (t : ℕ) (p q : ℕ → Bool) (xs : List Times) → ((n : ℕ) → p n ≡ q n) → map (ended_where t p) xs ≡ map (ended_where t q) xs
ends_as t p q xs same = ap (λ (p : ℕ → Bool). map (ended_where t p) xs) (fun_ext same)

-- where none ends, all stay
pub ends_none : (t : ℕ) (p : ℕ → Bool) (xs : List Times) → ((n : ℕ) → p n ≡ false) → map (ended_where t p) xs ≡ xs
ends_none t p xs none = ends_as t p (λ n. false) xs none ∙ map-id xs

-- what ended at t by one test or the other
either_by : (t : ℕ) (x : Times) (a b : Bool) → cond b (record (cond a (record x { ended = t }) x) { ended = t }) (cond a (record x { ended = t }) x) ≡ cond (a || b) (record x { ended = t }) x
either_by t x true true = refl
either_by t x true false = refl
either_by t x false b = refl

-- the job of its times, whether they end or not
same_job : (t : ℕ) (p : ℕ → Bool) (x : Times) → (ended_where t p x).job ≡ x.job
same_job t p x = by (p x.job)
  where
    by : (b : Bool) → (cond b (record x { ended = t }) x).job ≡ x.job
    by true = refl
    by false = refl

ended_twice : (t : ℕ) (p q : ℕ → Bool) (x : Times) → ended_where t q (ended_where t p x) ≡ ended_where t (λ n. p n || q n) x
ended_twice t p q x =
    ap (λ (n : ℕ). cond (q n) (record (ended_where t p x) { ended = t }) (ended_where t p x)) (same_job t p x) ∙ either_by t x (p x.job) (q x.job)

-- so do all
pub ends_twice : (t : ℕ) (p q : ℕ → Bool) (xs : List Times) → map (ended_where t q) (map (ended_where t p) xs) ≡ map (ended_where t (λ n. p n || q n)) xs
ends_twice t p q [] = refl
ends_twice t p q (x ∷ xs) = ap₂ ◌∷◌ (ended_twice t p q x) (ends_twice t p q xs)

-- ---- a change of the queue

-- a job that is as it was doesn't end
pub never_ends : (o : Option Job) → ends o o ≡ false
never_ends None = refl
never_ends (Some j) = not-and_self (has_ended j.phase)

-- the times after a change by which no job comes in
pub times_after : (t : ℕ) (m n : Queue) (p : ℕ → Bool) → length n.jobs ≡ length m.jobs → ((i : ℕ) → ends (job_numbered i m) (job_numbered i n) ≡ p i)
    → (stamp t m n).times ≡ map (ended_where t p) n.times
times_after t m n p few same =
    ap₂ ◌++◌ (ends_as t (λ i. ends (job_numbered i m) (job_numbered i n)) p n.times same)
    (ap (map (came t)) (ap (λ (k : ℕ). drop k n.jobs) (sym few) ∙ drop-length n.jobs))
    ∙ append-nil (map (ended_where t p) n.times)

-- where the jobs are as they were, so are their times
pub stamp_same : (t : ℕ) (m n : Queue) → n.jobs ≡ m.jobs → stamp t m n ≡ n
stamp_same t m n same =
    ap (λ (xs : List Times). record n { times = xs })
    (times_after t m n (λ i. false) (ap length same) (λ i. ap (ends (job_numbered i m)) (ap (find (λ j. eqb j.number i)) same) ∙ never_ends (job_numbered i m))
    ∙ map-id n.times)

-- ---- a job is put in another's place

-- it ends where it is over
placed_ends : (k : Job) (i : ℕ) (o : Option Job) (b : Bool) → eqb i k.number ≡ b → ((j : Job) → o ≡ Some j → j.number ≡ i)
    → (b ≡ true → (j : Job) × (o ≡ Some j) × (has_ended j.phase ≡ false)) → ends o (option_map (in_place (λ (j : Job). j.number) k) o) ≡ (has_ended k.phase && b)
placed_ends k i o true is number there =
    let it = there refl in
    let here : eqb (it.0).number k.number ≡ true = ap (λ (a : ℕ). eqb a k.number) (number it.0 it.1) ∙ is in
    subst (λ (o : Option Job). ends o (option_map (in_place (λ (j : Job). j.number) k) o) ≡ (has_ended k.phase && true)) (sym it.1)
    (ap (λ b. not (has_ended (it.0).phase) && has_ended (cond b k it.0).phase) here ∙ ap (λ b. not b && has_ended k.phase) it.2 ∙ sym (and-true (has_ended k.phase)))
placed_ends k i None false is number there = sym (and-false (has_ended k.phase))
placed_ends k i (Some j) false is number there =
    let other : eqb j.number k.number ≡ false = ap (λ (a : ℕ). eqb a k.number) (number j refl) ∙ is in
    ap (λ b. not (has_ended j.phase) && has_ended (cond b k j).phase) other ∙ not-and_self (has_ended j.phase) ∙ sym (and-false (has_ended k.phase))

-- the times after a job that wasn't over is put in its place
pub times_placed : (t : ℕ) (m n : Queue) (j k : Job) → n.jobs ≡ (with_job k m).jobs → job_numbered k.number m ≡ Some j → has_ended j.phase ≡ false
    → (stamp t m n).times ≡ map (ended_where t (λ i. has_ended k.phase && eqb i k.number)) n.times
times_placed t m n j k same was goes =
    times_after t m n (λ i. has_ended k.phase && eqb i k.number) (ap length same ∙ length_map (in_place (λ (x : Job). x.number) k) m.jobs) (λ i.
    ap (ends (job_numbered i m)) (ap (find (λ x. eqb x.number i)) same ∙ find_placed (λ (x : Job). x.number) i k m.jobs)
    ∙ placed_ends k i (job_numbered i m) (eqb i k.number) refl (number_found (λ (x : Job). x.number) i m.jobs) (λ is.
    let here : i ≡ k.number = eqb-true i k.number is in
    (j, subst (λ (a : ℕ). job_numbered a m ≡ Some j) (sym here) was, goes)))

-- ---- a job comes in

more_ends : (j : Job) (i : ℕ) (o more : Option Job) → ((x : Job) → o ≡ Some x → more ≡ Some x) → ends o more ≡ false
more_ends j i None more still = refl
more_ends j i (Some x) more still = ap (ends (Some x)) (still x refl) ∙ never_ends (Some x)

-- its times come last, and the others stay
pub stamp_new : (t : ℕ) (m : Queue) (j : Job) → stamp t m (with_new_job j m) ≡ record (with_new_job j m) { times = m.times ++ came t j ∷ [] }
stamp_new t m j =
    ap (λ (xs : List Times). record (with_new_job j m) { times = xs })
    (ap₂ ◌++◌ (ends_none t (λ i. ends (job_numbered i m) (job_numbered i (with_new_job j m))) m.times (λ i.
    more_ends j i (job_numbered i m) (job_numbered i (with_new_job j m)) (λ x. stays (λ (k : Job). eqb k.number i) m.jobs j x)))
    (ap (map (came t)) (drop-append_seam m.jobs (j ∷ []))))

-- ---- the numbers of times

-- are those of the jobs
pub timed_numbers : (js : List Job) (xs : List Times) → AreTimed js xs → map (λ x. x.job) xs ≡ map (λ j. j.number) js
timed_numbers [] [] h = refl
timed_numbers [] (x ∷ xs) h = absurd h
timed_numbers (j ∷ js) [] h = absurd h
timed_numbers (j ∷ js) (x ∷ xs) h = ap₂ ◌∷◌ h.0.job (timed_numbers js xs h.1)

-- a number has times where it has a job
timed_found : (n : ℕ) (js : List Job) (xs : List Times) → AreTimed js xs → is_some (find (λ x. eqb x.job n) xs) ≡ is_some (find (λ j. eqb j.number n) js)
timed_found n [] [] h = refl
timed_found n [] (x ∷ xs) h = absurd h
timed_found n (j ∷ js) [] h = absurd h
timed_found n (j ∷ js) (x ∷ xs) h =
    ap (λ (i : ℕ). is_some (cond (eqb i n) (Some x) (find (λ y. eqb y.job n) xs))) (h.0.job) ∙ by (eqb j.number n) (timed_found n js xs h.1)
  where
    by : (b : Bool) → is_some (find (λ y. eqb y.job n) xs) ≡ is_some (find (λ k. eqb k.number n) js)
        → is_some (cond b (Some x) (find (λ y. eqb y.job n) xs)) ≡ is_some (cond b (Some j) (find (λ k. eqb k.number n) js))
    by true rest = refl
    by false rest = rest

pub has_times : (m : Queue) (n : ℕ) → AreTimed m.jobs m.times → is_some (times_numbered n m) ≡ is_some (job_numbered n m)
has_times m n h = timed_found n m.jobs m.times h

-- ---- time alone

-- a job fails at t, if it is there
abbrev pub expires_at : ℕ → Option Job → Bool
expires_at t None = false
expires_at t (Some j) = expires j.phase && is_past j.killtime t

-- and ends by that
aged_by : (t : ℕ) (j : Job) (p : Phase) (b : Bool) → j.phase ≡ p → is_past j.killtime t ≡ b → ends (Some j) (Some (aged_job t j)) ≡ expires_at t (Some j)
aged_by t j Held true is on = rw (is, on) refl
aged_by t j Held false is on = rw (is, on) refl
aged_by t j Waiting true is on = rw (is, on) refl
aged_by t j Waiting false is on = rw (is, on) refl
aged_by t j Granted b is on = rw is refl
aged_by t j Done b is on = rw is refl
aged_by t j Failed b is on = rw is refl

aged_ends : (t : ℕ) (o : Option Job) → ends o (option_map (aged_job t) o) ≡ expires_at t o
aged_ends t None = refl
aged_ends t (Some j) = aged_by t j j.phase (is_past j.killtime t) refl refl

-- the times of the aged queue: what fails at t ends then
pub aged_times : (t : ℕ) (m : Queue) → (aged t m).times ≡ map (ended_where t (λ n. expires_at t (job_numbered n m))) m.times
aged_times t m =
    let after : Queue = record m { jobs = map (aged_job t) m.jobs; clock = t } in
    times_after t m after (λ n. expires_at t (job_numbered n m)) (length_map (aged_job t) m.jobs)
    (λ n. ap (ends (job_numbered n m)) (find_map (λ (j : Job). eqb j.number n) (aged_job t) (λ j. ap (λ (a : ℕ). eqb a n) (aged_number t j)) m.jobs) ∙ aged_ends t (job_numbered n m))

-- so are those of one number
pub aged_numbered : (t n : ℕ) (m : Queue) → times_numbered n (aged t m) ≡ option_map (ended_where t (λ n. expires_at t (job_numbered n m))) (times_numbered n m)
aged_numbered t n m =
    let ended = ended_where t (λ n. expires_at t (job_numbered n m)) in
    ap (find (λ x. eqb x.job n)) (aged_times t m)
    ∙ find_map (λ (x : Times). eqb x.job n) ended (λ x. ap (λ (a : ℕ). eqb a n) (same_job t (λ n. expires_at t (job_numbered n m)) x)) m.times

-- of a job that is there
pub aged_found : (t n : ℕ) (m : Queue) (j : Job) (x : Times) → job_numbered n m ≡ Some j → times_numbered n m ≡ Some x
    → times_numbered n (aged t m) ≡ Some (cond (expires j.phase && is_past j.killtime t) (record x { ended = t }) x)
aged_found t n m j x there is =
    let number : x.job ≡ n = number_found (λ (y : Times). y.job) n m.times x is in
    aged_numbered t n m ∙ ap (option_map (ended_where t (λ n. expires_at t (job_numbered n m)))) is
    ∙ ap (λ (i : ℕ). Some (cond (expires_at t (job_numbered i m)) (record x { ended = t }) x)) number
    ∙ ap (λ (o : Option Job). Some (cond (expires_at t o) (record x { ended = t }) x)) there

-- and of one that isn't
pub aged_missing : (t n : ℕ) (m : Queue) → times_numbered n m ≡ None → times_numbered n (aged t m) ≡ None
aged_missing t n m is = aged_numbered t n m ∙ ap (option_map (ended_where t (λ n. expires_at t (job_numbered n m)))) is
