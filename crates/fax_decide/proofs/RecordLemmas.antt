-- Jobs and grants of a queue, as the store finds them.
use Rattle.std.proofs.Common.{◌≡◌, inl, inr, ℕ, ◌<◌, ◌==◌, ◌&&◌, leb, All, List, [], ◌∷◌, Option, Some, None, option_map, refl, sym, ap, subst, ◌∙◌, arith, leb-true}
use Rattle.std.proofs.lemmas.Bool.{and_parts, cond_both}
use Rattle.std.proofs.lemmas.Option.{none-some}
use Rattle.sqlite_rules.specs.Lists.{Has}
use Rattle.fax_value.specs.Limits.{last_job}
use Rattle.fax_value.specs.Status.{kill_time_expired}
use Rattle.fax_job.specs.Pair.{Pair}
use Rattle.fax_job.specs.declared.job.JobFields.{JobFields}
use Rattle.fax_job.specs.declared.job.Phase.TheVariants.{Failed}
use Rattle.fax_core.specs.Ageing.{aged, aged_job, expires, is_past}
use Rattle.fax_core.specs.Job.{Job, job_of, fields_of}
use Rattle.fax_core.specs.Queue.{Queue, job_numbered, grant_numbered, open_grants}
use Rattle.fax_core.specs.Sound.{IsOpen, Sound}
use Rattle.fax_core.specs.declared.grants.Grant.{Grant}
use Rattle.fax_core.proofs.DecisionLemmas.{aged_number}
use Rattle.fax_core.proofs.FitsLemmas.{job_again}
use Rattle.fax_core.proofs.KeepLemmas.{looked_up, numbered_grant, numbered_job}
use Rattle.fax_core.proofs.PlaceLemmas.{In, in_found, of_filter}
use Rattle.fax_core.proofs.RecordLemmas.{within_limits_of}
pub use Rattle.fax_tables.proofs.KeyLemmas.{found_holds as holds_found}
use Rattle.fax_tables.specs.Job.{IsLawfulJob, brief}
use Rattle.fax_tables.specs.Tables.{IsLawfulGrant}
use Rattle.fax_store.specs.Job.{lines_of}
use Rattle.fax_store.proofs.WorkLemmas.{there_as}
use Rattle.fax_decide.specs.Records.{job_in}
use Rattle.fax_decide.proofs.LinesLemmas.{aged_lined, lined}

-- ---- what is found

-- where there is none to be found, none is
pub none_by : {X : Type 0} (o : Option X) → ((x : X) → o ≡ Some x → ⊥) → o ≡ None
none_by None never = refl
none_by (Some x) never = absurd (never x refl)

-- what is told of none is told where there is none
pub none_told : {X Y : Type 0} (f : X → Y) (o : Option X) → None ≡ option_map f o → o ≡ None
none_told f o is = none_by o (λ x there. none-some (f x) (is ∙ ap (option_map f) there))

-- what a list has is in it
pub in_had : {X : Type 0} (xs : List X) (x : X) → Has xs x → In x xs
in_had [] x has = has
in_had (y ∷ ys) x (inl is) = inl (sym is)
in_had (y ∷ ys) x (inr more) = inr (in_had ys x more)

-- an open grant of a sound queue is found by its number
pub open_there : (m : Queue) (g : Grant) → Sound m → In g (open_grants m) → IsOpen m g.number g
open_there m g sound there =
    let it = of_filter (λ (x : Grant). x.is_open) m.grants g there in
    (in_found (λ (x : Grant). x.number) 0 m.next_grant m.grants g sound.grants it.0, it.1)

-- and has its job
pub has_job : (m : Queue) (g : Grant) → Sound m → Has (open_grants m) g → (j : Job) × (job_numbered g.job m ≡ Some j)
has_job m g sound has = let job = sound.held g.number g (open_there m g sound (in_had (open_grants m) g has)) in (job.0, job.1)

-- ---- jobs, as they are at t

-- what is the same of an expired job is the same of an aged one
pub aged_same : {A : Type 0} (f : Job → A) (t : ℕ) (j : Job) → f (record j { phase = Failed; status = kill_time_expired }) ≡ f j → f (aged_job t j) ≡ f j
aged_same f t j same = cond_both (expires j.phase && is_past j.killtime t) (record j { phase = Failed; status = kill_time_expired }) j
    (λ (k : Job). f k ≡ f j) (λ e. same) (λ e. refl)

-- the job of a number in the aged queue is that of the queue, aged
pub aged_numbered : (m : Queue) (t n : ℕ) → job_numbered n (aged t m) ≡ option_map (aged_job t) (job_numbered n m)
aged_numbered m t n = looked_up m (aged_job t) (aged_number t) n

-- past 999999999 no number has a grant
pub no_grant : (m : Queue) (n : ℕ) → All IsLawfulGrant m.grants → 999999999 < n → None ≡ grant_numbered n m
no_grant m n all h = sym (none_by (grant_numbered n m) (λ g is.
    let most = (holds_found IsLawfulGrant (λ x. x.number == n) m.grants g all is).limits.number.1 in
    omega (arith, h, numbered_grant m n g is, most)))

-- past 999999 no number has a job
pub no_job : (m : Queue) (t n : ℕ) → All IsLawfulJob m.jobs → 999999 < n → None ≡ job_numbered n (aged t m)
no_job m t n all h =
    let none : job_numbered n m ≡ None = none_by (job_numbered n m) (λ j is.
    let limits = within_limits_of (fields_of j) (holds_found IsLawfulJob (λ x. x.number == n) m.jobs j all is).limits in
    omega (arith, h, numbered_job m n j is, leb-true j.number last_job (and_parts (leb 1 j.number) (leb j.number last_job) limits.number).1)) in
    sym (aged_numbered m t n ∙ ap (option_map (aged_job t)) none)

-- the record that is found, aged, is the job of its number in the aged queue
pub found_job : (m : Queue) (t n : ℕ) (f g : JobFields) (row : Option JobFields) → All IsLawfulJob m.jobs → row ≡ option_map fields_of (job_numbered n m) → row ≡ Some f
    → job_of g ≡ aged_job t (job_of f) → Some (job_of g) ≡ job_numbered n (aged t m)
found_job m t n f g row all is one old =
    let it = there_as fields_of (job_numbered n m) f (sym one ∙ is) in
    let same : job_of f ≡ it.0 = ap job_of it.2 ∙ job_again it.0 (holds_found IsLawfulJob (λ x. x.number == n) m.jobs it.0 all it.1).pages in
    ap (λ (k : Job). Some k) (old ∙ ap (aged_job t) same) ∙ sym (aged_numbered m t n ∙ ap (option_map (aged_job t)) it.1)

-- where no record is found, the aged queue has no job of the number
pub found_no_job : (m : Queue) (t n : ℕ) (of : Job → JobFields) (row : Option JobFields) → row ≡ option_map of (job_numbered n m) → row ≡ None → None ≡ job_numbered n (aged t m)
found_no_job m t n of row is none = sym (aged_numbered m t n ∙ ap (option_map (aged_job t)) (none_told of (job_numbered n m) (sym none ∙ is)))

-- the record that is found without its lines, aged, is the job of its number, with them
pub found_brief : (m : Queue) (t n : ℕ) (f g : JobFields) (row : Option JobFields) → All IsLawfulJob m.jobs → row ≡ option_map (λ j. brief (fields_of j)) (job_numbered n m) → row ≡ Some f
    → job_of g ≡ aged_job t (job_of f) → Some (job_in (aged t m) g) ≡ job_numbered n (aged t m)
found_brief m t n f g row all is one old =
    let it = there_as (λ j. brief (fields_of j)) (job_numbered n m) f (sym one ∙ is) in
    let j = it.0 in
    let bare : job_of f ≡ lined [] j = ap job_of it.2 ∙ ap (lined []) (job_again j (holds_found IsLawfulJob (λ x. x.number == n) m.jobs j all it.1).pages) in
    let now : job_of g ≡ aged_job t (lined [] j) = old ∙ ap (aged_job t) bare in
    let number : g.job ≡ n = ap (λ (k : Job). k.number) now ∙ aged_number t (lined [] j) ∙ numbered_job m n j it.1 in
    let found : job_numbered n (aged t m) ≡ Some (aged_job t j) = aged_numbered m t n ∙ ap (option_map (aged_job t)) it.1 in
    let lines : lines_of (job_numbered g.job (aged t m)) ≡ j.extra =
    ap (λ (i : ℕ). lines_of (job_numbered i (aged t m))) number ∙ ap lines_of found ∙ aged_same (λ (k : Job). k.extra) t j refl in
    ap (λ (k : Job). Some k) (ap (λ (e : List Pair). lined e (job_of g)) lines ∙ ap (lined j.extra) now ∙ aged_lined j.extra t (lined [] j)) ∙ sym found

-- a job that is found stands under its own number
pub found_itself : (m : Queue) (n : ℕ) (f : JobFields) → job_numbered n m ≡ Some (job_in m f) → job_numbered f.job m ≡ Some (job_in m f)
found_itself m n f there = subst (λ (a : ℕ). job_numbered a m ≡ Some (job_in m f)) (sym (numbered_job m n (job_in m f) there)) there
