-- The times of the jobs after a change.
use Rattle.std.proofs.Common.{◌≡◌, ◌≤◌, ◌∙◌, ◌&&◌, ◌++◌, inl, inr, ℕ, suc, Bool, true, false, not, cond, List, [], ◌∷◌, length, map, ap, ap₂, refl, subst, sym, arith}
use Rattle.std.specs.Prelude.{⊤, Option, Some, drop, filter}
use Rattle.std.proofs.Math.ListN.{drop_of_length-le}
use Rattle.std.proofs.lemmas.Bool.{cond_both, true≢false}
use Rattle.std.proofs.lemmas.List.{append-nil}
use Rattle.fax_job.specs.declared.refusal.Refusal.{Refusal}
use Rattle.fax_core.specs.Job.{Job}
use Rattle.fax_core.specs.Machine.{stamped}
use Rattle.fax_core.specs.Reply.{Keys, Refused, Reply, Step, Taken}
use Rattle.fax_core.specs.Queue.{Queue, job_numbered}
use Rattle.fax_core.specs.Sound.{AscendBetween}
use Rattle.fax_core.specs.Stamp.{came, end_of, ends, new_jobs, stamp}
use Rattle.fax_core.specs.Times.{AreTimed, FitsTimes, has_ended}
use Rattle.fax_core.specs.declared.times.Times.{Times}
use Rattle.fax_core.proofs.PlaceLemmas.{In, in_filter, in_found}

-- a change leaves each job in its place, and one that was over is over; others come behind them
abbrev pub Follows : List Job → List Job → Type 0
Follows [] ks = ⊤
Follows (j ∷ js) [] = ⊥
Follows (j ∷ js) (k ∷ ks) = (k.number ≡ j.number) × (has_ended k.phase ≡ false → has_ended j.phase ≡ false) × Follows js ks

pub follows_same : (js : List Job) → Follows js js
follows_same [] = tt
follows_same (j ∷ js) = (refl, λ e. e, follows_same js)

pub follows_more : (js : List Job) (k : Job) → Follows js (js ++ k ∷ [])
follows_more [] k = tt
follows_more (j ∷ js) k = (refl, λ e. e, follows_more js k)

-- each of the jobs is found by its number
abbrev pub AreFound : Queue → List Job → Type 0
AreFound m [] = ⊤
AreFound m (j ∷ js) = (job_numbered j.number m ≡ Some j) × AreFound m js

found_from : (m : Queue) → ((j : Job) → In j m.jobs → job_numbered j.number m ≡ Some j) → (js : List Job) → ((j : Job) → In j js → In j m.jobs) → AreFound m js
found_from m by [] sub = tt
found_from m by (j ∷ js) sub = (by j (sub j (inl refl)), found_from m by js (λ k i. sub k (inr i)))

-- so is each where the numbers ascend
pub all_found : (m : Queue) → AscendBetween 0 (map (λ j. j.number) m.jobs) m.next_job → AreFound m m.jobs
all_found m h = found_from m (λ j i. in_found (λ (k : Job). k.number) 0 m.next_job m.jobs j h i) m.jobs (λ j i. i)

-- where each job changes and keeps its number, and one that was over is over
pub follows_mapped : (m : Queue) (f : Job → Job) → ((j : Job) → (f j).number ≡ j.number)
    → ((n : ℕ) (j : Job) → job_numbered n m ≡ Some j → has_ended (f j).phase ≡ false → has_ended j.phase ≡ false)
    → (js : List Job) → AreFound m js → Follows js (map f js)
follows_mapped m f same over [] found = tt
follows_mapped m f same over (j ∷ js) found = (same j, over j.number j found.0, follows_mapped m f same over js found.1)

-- ---- the times of a job after a change

not_both : (a b : Bool) → (not a && b) ≡ true → b ≡ true
not_both true b e = cc
not_both false b e = e

-- what is known of the job before and after, once both are found
end_known : (t : ℕ) (j k : Job) (x : Times) → (has_ended k.phase ≡ false → has_ended j.phase ≡ false) → k.number ≡ j.number → FitsTimes j x
    → FitsTimes k (cond (ends (Some j) (Some k)) (record x { ended = t }) x)
end_known t j k x over same h =
    cond_both (ends (Some j) (Some k)) (record x { ended = t }) x (FitsTimes k)
    (λ e. record { job = h.job ∙ sym same; not_over = λ q. absurd (true≢false (sym (not_both (has_ended j.phase) (has_ended k.phase) e) ∙ q)) })
    (λ e. record { job = h.job ∙ sym same; not_over = λ q. h.not_over (over q) })

-- the times after the change are the job's
end_fits : (t : ℕ) (m n : Queue) (j k : Job) (x : Times) → job_numbered j.number m ≡ Some j → job_numbered k.number n ≡ Some k
    → (has_ended k.phase ≡ false → has_ended j.phase ≡ false) → k.number ≡ j.number → FitsTimes j x → FitsTimes k (end_of t m n x)
end_fits t m n j k x was is over same h =
    let before : job_numbered x.job m ≡ Some j = subst (λ (i : ℕ). job_numbered i m ≡ Some j) (sym h.job) was in
    let after : job_numbered x.job n ≡ Some k = subst (λ (i : ℕ). job_numbered i n ≡ Some k) (same ∙ sym h.job) is in
    subst (λ (o : Option Job × Option Job). FitsTimes k (cond (ends o.0 o.1) (record x { ended = t }) x)) (sym (ap₂ (λ (a b : Option Job). (a, b)) before after)) (end_known t j k x over same h)

-- a job that came in and isn't over has no end
came_end : (t : ℕ) (over : Bool) → over ≡ false → cond over t 0 ≡ 0
came_end t true e = cc
came_end t false e = refl

-- those that came in have their times
came_timed : (t : ℕ) (ks : List Job) → AreTimed ks (map (came t) ks)
came_timed t [] = tt
came_timed t (k ∷ ks) = (record { job = refl; not_over = came_end t (has_ended k.phase) }, came_timed t ks)

-- so have all after a change
timed_from : (t : ℕ) (m n : Queue) (js ks : List Job) (xs : List Times) → AreFound m js → AreFound n ks → Follows js ks → AreTimed js xs → AreTimed ks (map (end_of t m n) xs ++ map (came t) (drop (length js) ks))
timed_from t m n [] ks [] was is follows h = came_timed t ks
timed_from t m n [] ks (x ∷ xs) was is follows h = absurd h
timed_from t m n (j ∷ js) [] xs was is follows h = absurd follows
timed_from t m n (j ∷ js) (k ∷ ks) [] was is follows h = absurd h
timed_from t m n (j ∷ js) (k ∷ ks) (x ∷ xs) was is follows h =
    (end_fits t m n j k x was.0 is.0 follows.1 follows.0 h.0, timed_from t m n js ks xs was.1 is.1 follows.2 h.1)

pub stamp_timed : (t : ℕ) (m n : Queue) → AreFound m m.jobs → AreFound n n.jobs → Follows m.jobs n.jobs → n.times ≡ m.times → AreTimed m.jobs m.times → AreTimed (stamp t m n).jobs (stamp t m n).times
stamp_timed t m n was is follows same h = timed_from t m n m.jobs n.jobs n.times was is follows (subst (AreTimed m.jobs) (sym same) h)

-- the same of jobs whose numbers ascend
pub stays_timed : (m n : Queue) → AscendBetween 0 (map (λ j. j.number) m.jobs) m.next_job → AscendBetween 0 (map (λ j. j.number) n.jobs) n.next_job → Follows m.jobs n.jobs → n.times ≡ m.times
    → (t : ℕ) → AreTimed m.jobs m.times → AreTimed n.jobs (stamp t m n).times
stays_timed m n was is follows same t h = stamp_timed t m n (all_found m was) (all_found n is) follows same h

-- ---- where jobs leave

-- a job that stays has its times, before those of the others
one_left : (t : ℕ) (m n : Queue) (p : ℕ → Bool) (j : Job) (x : Times) (js : List Job) (xs : List Times) → job_numbered j.number m ≡ Some j → (p j.number ≡ true → job_numbered j.number n ≡ Some j) → FitsTimes j x
    → AreTimed js (map (end_of t m n) xs) → (b : Bool) → p j.number ≡ b → AreTimed (cond b (j ∷ js) js) (map (end_of t m n) (cond b (x ∷ xs) xs))
one_left t m n p j x js xs was is h rest true e = (end_fits t m n j j x was (is e) (λ q. q) refl h, rest)
one_left t m n p j x js xs was is h rest false e = rest

-- so do all
left_timed : (t : ℕ) (m n : Queue) (p : ℕ → Bool) (js : List Job) (xs : List Times) → AreFound m js
    → ((j : Job) → In j js → p j.number ≡ true → job_numbered j.number n ≡ Some j)
    → AreTimed js xs → AreTimed (filter (λ j. p j.number) js) (map (end_of t m n) (filter (λ x. p x.job) xs))
left_timed t m n p [] [] was is h = tt
left_timed t m n p [] (x ∷ xs) was is h = absurd h
left_timed t m n p (j ∷ js) [] was is h = absurd h
left_timed t m n p (j ∷ js) (x ∷ xs) was is h =
    let jobs : List Job = filter (λ k. p k.number) js in
    let times : List Times = filter (λ y. p y.job) xs in
    let rest = left_timed t m n p js xs was.1 (λ k i. is k (inr i)) h.1 in
    subst (λ (b : Bool). AreTimed (cond (p j.number) (j ∷ jobs) jobs) (map (end_of t m n) (cond b (x ∷ times) times))) (sym (ap p h.0.job))
    (one_left t m n p j x jobs times was.0 (is j (inl refl)) h.0 rest (p j.number) refl)

-- no more are left than there were
pub left_short : {X : Type 0} (p : X → Bool) (xs : List X) → length (filter p xs) ≤ length xs
left_short p [] = omega arith
left_short p (x ∷ xs) = one (p x) (left_short p xs)
  where
    one : (b : Bool) → length (filter p xs) ≤ length xs → length (cond b (x ∷ filter p xs) (filter p xs)) ≤ suc (length xs)
    one true h = omega (arith, h)
    one false h = omega (arith, h)

-- so no job is new, and all have their times
pub leaves_timed : (m n : Queue) (p : ℕ → Bool) → n.jobs ≡ filter (λ j. p j.number) m.jobs → n.times ≡ filter (λ x. p x.job) m.times
    → AscendBetween 0 (map (λ j. j.number) m.jobs) m.next_job → AscendBetween 0 (map (λ j. j.number) n.jobs) n.next_job
    → (t : ℕ) → AreTimed m.jobs m.times → AreTimed n.jobs (stamp t m n).times
leaves_timed m n p jobs times was is t h =
    let none : new_jobs m n ≡ [] = ap (drop (length m.jobs)) jobs ∙ drop_of_length-le (filter (λ j. p j.number) m.jobs) (left_short (λ j. p j.number) m.jobs) in
    let here : (j : Job) → In j m.jobs → p j.number ≡ true → job_numbered j.number n ≡ Some j = λ j i e.
    in_found (λ (k : Job). k.number) 0 n.next_job n.jobs j is (subst (In j) (sym jobs) (in_filter (λ k. p k.number) m.jobs j e i)) in
    let left = left_timed t m n p m.jobs m.times (all_found m was) here h in
    let all : (stamp t m n).times ≡ map (end_of t m n) (filter (λ x. p x.job) m.times) = ap₂ (λ (xs : List Times) (ks : List Job). map (end_of t m n) xs ++ map (came t) ks) times none ∙ append-nil _ in
    subst (λ (xs : List Times). AreTimed n.jobs xs) (sym all) (subst (λ (js : List Job). AreTimed js (map (end_of t m n) (filter (λ x. p x.job) m.times))) (sym jobs) left)

-- ---- steps

-- what is taken with its times is taken without
pub stamped_taken : (t : ℕ) (m : Queue) (d : Step) (n : Queue) (r : Reply) → stamped t m d ≡ Taken n r → (k : Queue) × (d ≡ Taken k r) × (n ≡ stamp t m k)
stamped_taken t m (Taken k q) n r e = (k, ap (λ x. Taken k x) (reply_same (stamp t m k) n q r e), sym (queue_same (stamp t m k) n q r e))
  where
    queue_same : (a b : Queue) (q r : Reply) → Taken a q ≡ Taken b r → a ≡ b
    queue_same a b q r e = cc

    reply_same : (a b : Queue) (q r : Reply) → Taken a q ≡ Taken b r → q ≡ r
    reply_same a b q r e = cc
stamped_taken t m (Refused x keys) n r e = absurd cc

-- what is refused with its times is refused without
pub stamped_refused : (t : ℕ) (m : Queue) (d : Step) (e : Refusal) (keys : Keys) → stamped t m d ≡ Refused e keys → d ≡ Refused e keys
stamped_refused t m (Taken k q) e keys is = absurd cc
stamped_refused t m (Refused x y) e keys is = is

-- what holds of each taken queue with its times holds of what is taken
pub by_stamp : (P : Queue → Type 0) (t : ℕ) (m : Queue) (d : Step) (n : Queue) (r : Reply) → stamped t m d ≡ Taken n r → ((k : Queue) → d ≡ Taken k r → P (stamp t m k)) → P n
by_stamp P t m d n r e f = let it = stamped_taken t m d n r e in subst P (sym it.2) (f it.0 it.1)
