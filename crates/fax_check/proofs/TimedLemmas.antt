-- Jobs and their times, each in the order of the numbers.
use Rattle.std.proofs.Common.{◌≡◌, inl, inr, ◌<◌, ℕ, List, [], ◌∷◌, false, refl, sym, subst, arith}
use Rattle.sqlite_rules.specs.Lists.{Has}
use Rattle.sqlite_rules.proofs.ListLemmas.{all_has}
use Rattle.sqlite_trees.specs.Tree.{IsAscending}
use Rattle.fax_core.specs.Job.{Job}
use Rattle.fax_core.specs.Times.{AreTimed, FitsTimes, has_ended}
use Rattle.fax_core.specs.declared.times.Times.{Times}
use Rattle.fax_job.specs.declared.job.Phase.{Phase}
use Rattle.fax_job.specs.declared.job.Phase.TheVariants.{Held, Waiting, Granted, Done, Failed}
use Rattle.fax_tables.specs.Row.{phase_number}

-- ---- phases

-- a job that isn't over has a phase below 3
pub not_over : (p : Phase) (n : ℕ) → n ≡ phase_number p → has_ended p ≡ false → n < 3
not_over Held n is going = omega (arith, is)
not_over Waiting n is going = omega (arith, is)
not_over Granted n is going = omega (arith, is)
not_over Done n is going = absurd cc
not_over Failed n is going = absurd cc

-- and the other way round
pub low_phase : (p : Phase) → phase_number p < 3 → has_ended p ≡ false
low_phase Held low = refl
low_phase Waiting low = refl
low_phase Granted low = refl
low_phase Done low = absurd (omega (arith, low))
low_phase Failed low = absurd (omega (arith, low))

-- ---- jobs and times, one by one

-- each job has its times
pub times_of : (js : List Job) (xs : List Times) → AreTimed js xs → (j : Job) → Has js j → (x : Times) × Has xs x × FitsTimes j x
times_of [] xs timed j has = absurd has
times_of (k ∷ js) [] timed j has = absurd timed
times_of (k ∷ js) (x ∷ xs) timed j (inl is) = (x, inl refl, subst (λ (k : Job). FitsTimes k x) (sym is) timed.0)
times_of (k ∷ js) (x ∷ xs) timed j (inr more) = let it = times_of js xs timed.1 j more in (it.0, inr it.1, it.2)

-- and times have their job
pub job_with : (js : List Job) (xs : List Times) → AreTimed js xs → (x : Times) → Has xs x → (j : Job) × Has js j × FitsTimes j x
job_with js [] timed x has = absurd has
job_with [] (y ∷ xs) timed x has = absurd timed
job_with (j ∷ js) (y ∷ xs) timed x (inl is) = (j, inl refl, subst (λ (y : Times). FitsTimes j y) (sym is) timed.0)
job_with (j ∷ js) (y ∷ xs) timed x (inr more) = let it = job_with js xs timed.1 x more in (it.0, inr it.1, it.2)

-- ---- the other way round

abbrev JobsRise : List Job → Type 0
JobsRise js = IsAscending (λ (a b : Job). a.number < b.number) js

abbrev TimesRise : List Times → Type 0
TimesRise xs = IsAscending (λ (x y : Times). x.job < y.job) xs

-- the first of each list
module _ (j : Job) (js : List Job) (x : Times) (xs : List Times) (jobs_rise : JobsRise (j ∷ js)) (times_rise : TimesRise (x ∷ xs)) where
  later_job : (k : Job) → Has js k → j.number < k.number
  later_job k has = all_has (λ (k : Job). j.number < k.number) js k jobs_rise.0 has

  later_times : (y : Times) → Has xs y → x.job < y.job
  later_times y has = all_has (λ (y : Times). x.job < y.job) xs y times_rise.0 has

  -- where the job has times in this list, and the times a job, these are each other's
  first_fits : (y : Times) → Has (x ∷ xs) y → y.job ≡ j.number → (k : Job) → Has (j ∷ js) k → FitsTimes k x → FitsTimes j x
  first_fits y has of k (inl is) fits = subst (λ (k : Job). FitsTimes k x) is fits
  first_fits y (inl is) of k (inr more) fits =
      absurd (let low = later_job k more in let a = fits.job in let b : y.job ≡ x.job = subst (λ (z : Times). y.job ≡ z.job) is refl in omega (arith, low, a, b, of))
  first_fits y (inr later) of k (inr more) fits =
      absurd (let low = later_job k more in let a = fits.job in let b = later_times y later in omega (arith, low, a, b, of))

  -- a later job has later times
  rest_times : x.job ≡ j.number → (k : Job) → Has js k → (y : Times) → Has (x ∷ xs) y → y.job ≡ k.number → Has xs y
  rest_times same k has y (inl is) of =
      absurd (let low = later_job k has in let b : y.job ≡ x.job = subst (λ (z : Times). y.job ≡ z.job) is refl in omega (arith, low, b, of, same))
  rest_times same k has y (inr more) of = more

  -- and later times a later job
  rest_job : x.job ≡ j.number → (y : Times) → Has xs y → (k : Job) → Has (j ∷ js) k → FitsTimes k y → Has js k
  rest_job same y has k (inl is) fits =
      absurd (let low = later_times y has in let b : k.number ≡ j.number = subst (λ (i : Job). k.number ≡ i.number) is refl in let a = fits.job in omega (arith, low, a, b, same))
  rest_job same y has k (inr more) fits = more

-- so where each job has its times, and times their job, all are in the same order
pub all_timed : (js : List Job) (xs : List Times) → JobsRise js → TimesRise xs → ((j : Job) → Has js j → (x : Times) × Has xs x × (x.job ≡ j.number))
    → ((x : Times) → Has xs x → (j : Job) × Has js j × FitsTimes j x) → AreTimed js xs
all_timed [] [] jobs_rise times_rise to back = tt
all_timed [] (x ∷ xs) jobs_rise times_rise to back = absurd (back x (inl refl)).1
all_timed (j ∷ js) [] jobs_rise times_rise to back = absurd (to j (inl refl)).1
all_timed (j ∷ js) (x ∷ xs) jobs_rise times_rise to back =
    let y = to j (inl refl) in
    let k = back x (inl refl) in
    let fits = first_fits j js x xs jobs_rise times_rise y.0 y.1 y.2 k.0 k.1 k.2 in (
      fits,
      all_timed js xs jobs_rise.1 times_rise.1 (λ i has. let it = to i (inr has) in (it.0, rest_times j js x xs jobs_rise times_rise fits.job i has it.0 it.1 it.2, it.2))
          (λ z has. let it = back z (inr has) in (it.0, rest_job j js x xs jobs_rise times_rise fits.job z has it.0 it.1 it.2, it.2)),
    )
