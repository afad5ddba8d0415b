-- A sound queue stays sound where a job, or a job and its grant, changes in its place or comes at the end, and they fit.
use Rattle.std.proofs.Common.{◌≡◌, ◌≢◌, ◌⊎◌, inl, inr, ℕ, ◌<◌, Bool, true, false, cond, eqb, length, map, refl, sym, ap, subst, ◌∙◌, arith}
use Rattle.std.specs.Prelude.{Some, None, find}
use Rattle.std.specs.Option.{option_map}
use Rattle.std.proofs.lemmas.Bool.{eqb-true, eq-eqb}
use Rattle.fax_core.specs.declared.grants.Grant.{Grant}
use Rattle.fax_core.specs.Decisions.{JobAndGrant}
use Rattle.fax_core.specs.Job.{Job}
use Rattle.fax_core.specs.Machine.{with_job, with_both, with_new_job, with_new_grant}
use Rattle.fax_core.specs.Queue.{Queue, job_numbered, grant_numbered}
use Rattle.fax_core.specs.Sound.{AscendBetween, Fits, FitsFree, FitsGrant, IsJob, IsOpen, Sound}
use Rattle.fax_core.specs.Stamp.{stamp}
use Rattle.fax_core.specs.Times.{AreTimed, has_ended}
use Rattle.fax_core.proofs.TimesLemmas.{Follows, all_found, follows_mapped, follows_more, follows_same, stays_timed}
use Rattle.fax_core.proofs.PlaceLemmas.{find_map, mapped, ascend_few, ascend_mapped, ascend_more, absent, stays, comes, either, in_place, in_place_number, number_found, placed_here, placed_other, placed}

-- what a change keeps, where the times of the jobs follow it
pub record Kept (from m : Queue) : Type 0 where
  pub timed : (t : ℕ) → AreTimed from.jobs from.times → AreTimed m.jobs (stamp t from m).times
  pub jobs : AscendBetween 0 (map (λ j. j.number) m.jobs) m.next_job
  pub grants : AscendBetween 0 (map (λ g. g.number) m.grants) m.next_grant
  pub one_to_a_modem : (a b : ℕ) (g h : Grant) → IsOpen m a g → IsOpen m b h → g.modem ≡ h.modem → a ≡ b
  pub one_of_a_job : (a b : ℕ) (g h : Grant) → IsOpen m a g → IsOpen m b h → g.job ≡ h.job → a ≡ b
  pub held : (a : ℕ) (g : Grant) → IsOpen m a g → (j : Job) × IsJob m g.job j × Fits j (Some g)
  pub free : (n : ℕ) (j : Job) → IsJob m n j → ((a : ℕ) (g : Grant) → IsOpen m a g → g.job ≢ n) → Fits j None

pub kept_of : (m : Queue) → Sound m → Kept m m
kept_of m h = record { timed = stays_timed m m h.jobs h.jobs (follows_same m.jobs) refl; jobs = h.jobs; grants = h.grants; one_to_a_modem = h.one_to_a_modem; one_of_a_job = h.one_of_a_job; held = h.held; free = h.free }

-- with the times of its jobs the queue is sound
pub stamp_sound : (t : ℕ) (m n : Queue) → Sound m → Kept m n → Sound (stamp t m n)
stamp_sound t m n old h = record {
  jobs = h.jobs;
  grants = h.grants;
  one_to_a_modem = h.one_to_a_modem;
  one_of_a_job = h.one_of_a_job;
  held = h.held;
  timed = h.timed t old.timed;
  free = h.free;
}

abbrev pub job_number : Job → ℕ
job_number j = j.number

abbrev pub grant_number : Grant → ℕ
grant_number g = g.number

-- a number has one job
pub same_job : (m : Queue) (n : ℕ) (j k : Job) → IsJob m n j → IsJob m n k → j ≡ k
same_job m n j k a b = cc

-- a number has one grant
same_grant : (m : Queue) (n : ℕ) (g h : Grant) → grant_numbered n m ≡ Some g → grant_numbered n m ≡ Some h → g ≡ h
same_grant m n g h a b = cc

-- a job that is found has the number that it is found by
pub numbered_job : (m : Queue) (n : ℕ) (j : Job) → IsJob m n j → j.number ≡ n
numbered_job m n j e = number_found job_number n m.jobs j e

-- so has a grant
pub numbered_grant : (m : Queue) (n : ℕ) (g : Grant) → grant_numbered n m ≡ Some g → g.number ≡ n
numbered_grant m n g e = number_found grant_number n m.grants g e

-- there are fewer jobs than the next number
pub jobs_few : (m : Queue) → Sound m → length m.jobs < m.next_job
jobs_few m h = omega (arith, ascend_few job_number 0 m.next_job m.jobs h.jobs)

-- and fewer grants
pub grants_few : (m : Queue) → Sound m → length m.grants < m.next_grant
grants_few m h = omega (arith, ascend_few grant_number 0 m.next_grant m.grants h.grants)

-- ---- each job changes, and no grant

-- where each job changes and keeps its number, a number finds the changed job
pub looked_up : (m : Queue) (f : Job → Job) → ((j : Job) → (f j).number ≡ j.number) → (n : ℕ) → find (λ j. eqb j.number n) (map f m.jobs) ≡ option_map f (job_numbered n m)
looked_up m f same n = find_map (λ j. eqb j.number n) f (λ j. ap (λ (a : ℕ). eqb a n) (same j)) m.jobs

-- where each job changes, keeps its number and fits still, the queue stays sound
pub keeps_mapped : (m : Queue) (f : Job → Job) (t : ℕ) → ((j : Job) → (f j).number ≡ j.number)
    → ((n : ℕ) (j : Job) → IsJob m n j → FitsFree j → FitsFree (f j))
    → ((n : ℕ) (j : Job) (g : Grant) → IsJob m n j → FitsGrant j g → FitsGrant (f j) g)
    → ((n : ℕ) (j : Job) → IsJob m n j → has_ended (f j).phase ≡ false → has_ended j.phase ≡ false)
    → Sound m → Kept m (record m { jobs = map f m.jobs; clock = t })
keeps_mapped m f t same free held over h = record {
  timed = stays_timed m (record m { jobs = map f m.jobs; clock = t }) h.jobs (ascend_mapped job_number f same 0 m.next_job m.jobs h.jobs) (follows_mapped m f same over m.jobs (all_found m h.jobs)) refl;
  jobs = ascend_mapped job_number f same 0 m.next_job m.jobs h.jobs;
  grants = h.grants;
  one_to_a_modem = h.one_to_a_modem;
  one_of_a_job = h.one_of_a_job;
  held = λ a g o. let old = h.held a g o in (f old.0, looked_up m f same g.job ∙ ap (option_map f) old.1, held g.job old.0 g old.1 old.2);
  free = λ n k e alone.
      let old = mapped f (job_numbered n m) k (sym (looked_up m f same n) ∙ e) in
      subst FitsFree old.2 (free n old.0 old.1 (h.free n old.0 old.1 alone));
}

-- ---- one job changes, and no grant

-- a job without a grant fits still, whether it is the one put in place or not
placed_free : (m : Queue) (n a : ℕ) (j k x : Job) → IsJob m n j → k.number ≡ n → (FitsFree j → FitsFree k) → IsJob m a x → FitsFree x → (b : Bool) → eqb x.number k.number ≡ b → FitsFree (cond b k x)
placed_free m n a j k x e same free is h true t =
    let here : a ≡ n = sym (numbered_job m a x is) ∙ eqb-true x.number k.number t ∙ same in
    let found : IsJob m n x = subst (λ (i : ℕ). IsJob m i x) here is in
    free (subst FitsFree (same_job m n x j found e) h)
placed_free m n a j k x e same free is h false t = h

-- so does a job with its grant
placed_held : (m : Queue) (n a : ℕ) (j k x : Job) (g : Grant) → IsJob m n j → k.number ≡ n → (FitsGrant j g → FitsGrant k g) → IsJob m a x → FitsGrant x g → (b : Bool) → eqb x.number k.number ≡ b → FitsGrant (cond b k x) g
placed_held m n a j k x g e same held is h true t =
    let here : a ≡ n = sym (numbered_job m a x is) ∙ eqb-true x.number k.number t ∙ same in
    let found : IsJob m n x = subst (λ (i : ℕ). IsJob m i x) here is in
    held (subst (λ (y : Job). FitsGrant y g) (same_job m n x j found e) h)
placed_held m n a j k x g e same held is h false t = h

-- a job that wasn't over isn't, where the one put in place wasn't either
placed_over : (m : Queue) (n a : ℕ) (j k x : Job) → IsJob m n j → k.number ≡ n → (has_ended k.phase ≡ false → has_ended j.phase ≡ false) → IsJob m a x → (b : Bool) → eqb x.number k.number ≡ b → has_ended (cond b k x).phase ≡ false → has_ended x.phase ≡ false
placed_over m n a j k x e same over is true t h =
    let here : a ≡ n = sym (numbered_job m a x is) ∙ eqb-true x.number k.number t ∙ same in
    let found : IsJob m n x = subst (λ (i : ℕ). IsJob m i x) here is in
    subst (λ (y : Job). has_ended y.phase ≡ false) (same_job m n j x e found) (over h)
placed_over m n a j k x e same over is false t h = h

-- jobs follow where one is put in another's place
follows_placed : (m : Queue) (n : ℕ) (j k : Job) → IsJob m n j → k.number ≡ n → (has_ended k.phase ≡ false → has_ended j.phase ≡ false) → Sound m → Follows m.jobs (with_job k m).jobs
follows_placed m n j k e same over h =
    follows_mapped m (in_place job_number k) (in_place_number job_number k) (λ a x is. placed_over m n a j k x e same over is (eqb x.number k.number) refl) m.jobs (all_found m h.jobs)

-- where one job changes in its place and fits still, the queue stays sound
pub keeps_job : (m : Queue) (n : ℕ) (j k : Job) → IsJob m n j → k.number ≡ n → (FitsFree j → FitsFree k) → ((g : Grant) → FitsGrant j g → FitsGrant k g) → (has_ended k.phase ≡ false → has_ended j.phase ≡ false) → Sound m → Kept m (with_job k m)
keeps_job m n j k e same free held over h =
    keeps_mapped m (in_place job_number k) m.clock (in_place_number job_number k)
    (λ a x is f. placed_free m n a j k x e same free is f (eqb x.number k.number) refl)
    (λ a x g is f. placed_held m n a j k x g e same (held g) is f (eqb x.number k.number) refl)
    (λ a x is. placed_over m n a j k x e same over is (eqb x.number k.number) refl)
    h

-- ---- a job and its open grant change

-- what a report may do to a job and its open grant
pub record Reports (j : Job) (g : Grant) (b : JobAndGrant) : Type 0 where
  pub number : b.job.number ≡ j.number
  pub grant_number : b.grant.number ≡ g.number
  pub modem : b.grant.modem ≡ g.modem
  pub job : b.grant.job ≡ g.job
  pub held : b.grant.is_open ≡ true → FitsGrant b.job b.grant
  pub free : b.grant.is_open ≡ false → FitsFree b.job

-- an open grant after a report was open before it, with the same modem and job
record WasOpen (m : Queue) (a : ℕ) (x : Grant) : Type 0 where
  before : Grant
  open' : IsOpen m a before
  modem : x.modem ≡ before.modem
  job : x.job ≡ before.job

module _ (m : Queue) (n : ℕ) (j : Job) (g : Grant) (b : JobAndGrant) (is : IsOpen m n g) (of : IsJob m g.job j) (r : Reports j g b) (h : Sound m) where
  -- the report's grant has this number
  grant_at : b.grant.number ≡ n
  grant_at = r.grant_number ∙ numbered_grant m n g is.0

  -- and its job is the grant's
  job_at : b.job.number ≡ g.job
  job_at = r.number ∙ numbered_job m g.job j of

  -- an open grant was open before, whether it is the report's or another
  was_by : (a : ℕ) (x y : Grant) → grant_numbered a m ≡ Some y → x.is_open ≡ true → ((b.grant.number ≡ a) × (x ≡ b.grant)) ⊎ ((b.grant.number ≢ a) × (x ≡ y)) → WasOpen m a x
  was_by a x y e o (inl c) =
      let here : n ≡ a = sym grant_at ∙ c.0 in
      record {
        before = g;
        open' = subst (λ (i : ℕ). IsOpen m i g) here is;
        modem = ap (λ (z : Grant). z.modem) c.1 ∙ r.modem;
        job = ap (λ (z : Grant). z.job) c.1 ∙ r.job;
      }
  was_by a x y e o (inr c) = record {
    before = y;
    open' = (e, sym (ap (λ (z : Grant). z.is_open) c.1) ∙ o);
    modem = ap (λ (z : Grant). z.modem) c.1;
    job = ap (λ (z : Grant). z.job) c.1;
  }

  -- so each open grant was
  was : (a : ℕ) (x : Grant) → IsOpen (with_both b m) a x → WasOpen m a x
  was a x o = let p = placed grant_number a b.grant x m.grants o.0 in was_by a x p.before p.was o.1 p.now

  -- an open grant has its job, and they fit, whether it is the report's or another
  held_by : (a : ℕ) (x y : Grant) → grant_numbered a m ≡ Some y → x.is_open ≡ true → ((b.grant.number ≡ a) × (x ≡ b.grant)) ⊎ ((b.grant.number ≢ a) × (x ≡ y)) → (k : Job) × IsJob (with_both b m) x.job k × FitsGrant k x
  held_by a x y e o (inl c) =
      let there : IsJob (with_both b m) g.job b.job = placed_here job_number g.job b.job j m.jobs of job_at in
      let job : g.job ≡ x.job = sym (ap (λ (z : Grant). z.job) c.1 ∙ r.job) in
      let fits : FitsGrant b.job b.grant = r.held (sym (ap (λ (z : Grant). z.is_open) c.1) ∙ o) in
      (b.job, subst (λ (i : ℕ). IsJob (with_both b m) i b.job) job there, subst (FitsGrant b.job) (sym c.1) fits)
  held_by a x y e o (inr c) =
      let was_open : y.is_open ≡ true = sym (ap (λ (z : Grant). z.is_open) c.1) ∙ o in
      let old = h.held a y (e, was_open) in
      let other : b.job.number ≢ y.job = λ q. c.0 (grant_at ∙ h.one_of_a_job n a g y is (e, was_open) (sym job_at ∙ q)) in
      let there : IsJob (with_both b m) y.job old.0 = placed_other job_number y.job b.job old.0 m.jobs old.1 other in
      (old.0, subst (λ (z : Grant). IsJob (with_both b m) z.job old.0) (sym c.1) there, subst (FitsGrant old.0) (sym c.1) old.2)

  -- a job that no open grant has fits alone, whether it is the report's or another
  free_by : (a : ℕ) (x y : Job) → IsJob m a y → ((i : ℕ) (z : Grant) → IsOpen (with_both b m) i z → z.job ≢ a) → ((b.job.number ≡ a) × (x ≡ b.job)) ⊎ ((b.job.number ≢ a) × (x ≡ y)) → FitsFree x
  free_by a x y e alone (inl c) =
      let there : grant_numbered n (with_both b m) ≡ Some b.grant = placed_here grant_number n b.grant g m.grants is.0 grant_at in
      let closed = elim b.grant.is_open as (λ (o : Bool). b.grant.is_open ≡ o → b.grant.is_open ≡ false) [
        | true ↦ λ o. absurd (alone n b.grant (there, o) (r.job ∙ sym job_at ∙ c.0))
        | false ↦ λ o. o
      ] in
      subst FitsFree (sym c.1) (r.free (closed refl))
  free_by a x y e alone (inr c) =
      let before : (i : ℕ) (z : Grant) → IsOpen m i z → z.job ≢ a = λ i z o q.
      let other : b.grant.number ≢ i = λ p.
      let here : i ≡ n = sym p ∙ grant_at in
      let same : z ≡ g = same_grant m n z g (subst (λ (i : ℕ). grant_numbered i m ≡ Some z) here o.0) is.0 in
      c.0 (job_at ∙ sym (ap (λ (z : Grant). z.job) same) ∙ q) in
      alone i z (placed_other grant_number i b.grant z m.grants o.0 other, o.1) q in
      subst FitsFree (sym c.1) (h.free a y e before)

  -- the job was granted, so it wasn't over
  not_over : has_ended j.phase ≡ false
  not_over = let old = h.held n g is in subst (λ (k : Job). has_ended k.phase ≡ false) (same_job m g.job old.0 j old.1 of) (ap has_ended old.2.phase)

  -- the jobs stand in order
  placed_jobs : AscendBetween 0 (map job_number (with_job b.job m).jobs) m.next_job
  placed_jobs = ascend_mapped job_number (in_place job_number b.job) (in_place_number job_number b.job) 0 m.next_job m.jobs h.jobs

  -- the queue stays sound with job and grant as the report leaves them
  pub keeps_both : Kept m (with_both b m)
  keeps_both = record {
    timed = stays_timed m (with_both b m) h.jobs placed_jobs (follows_placed m g.job j b.job of job_at (λ q. not_over) h) refl;
    jobs = placed_jobs;
    grants = ascend_mapped grant_number (in_place grant_number b.grant) (in_place_number grant_number b.grant) 0 m.next_grant m.grants h.grants;
    one_to_a_modem = λ a c x y o p e. let u = was a x o in let v = was c y p in h.one_to_a_modem a c u.before v.before u.open' v.open' (sym u.modem ∙ e ∙ v.modem);
    one_of_a_job = λ a c x y o p e. let u = was a x o in let v = was c y p in h.one_of_a_job a c u.before v.before u.open' v.open' (sym u.job ∙ e ∙ v.job);
    held = λ a x o. let p = placed grant_number a b.grant x m.grants o.0 in held_by a x p.before p.was o.1 p.now;
    free = λ a x e alone. let p = placed job_number a b.job x m.jobs e in free_by a x p.before p.was alone p.now;
  }

-- ---- a new job

-- the queue stays sound with a new job of the next number that fits
pub keeps_new_job : (m : Queue) (j : Job) → j.number ≡ m.next_job → FitsFree j → Sound m → Kept m (with_new_job j m)
keeps_new_job m j same fits h =
    let none : job_numbered m.next_job m ≡ None = absent job_number 0 m.next_job m.next_job m.jobs h.jobs (omega arith) in
    record {
      timed = stays_timed m (with_new_job j m) h.jobs (ascend_more job_number 0 m.next_job m.jobs j h.jobs same) (follows_more m.jobs j) refl;
      jobs = ascend_more job_number 0 m.next_job m.jobs j h.jobs same;
      grants = h.grants;
      one_to_a_modem = h.one_to_a_modem;
      one_of_a_job = h.one_of_a_job;
      held = λ a g o. let old = h.held a g o in (old.0, stays (λ k. eqb k.number g.job) m.jobs j old.0 old.1, old.2);
      free = λ n k e alone. free_new n k alone (either (λ x. eqb x.number n) m.jobs j k e);
    }
  where
    free_new : (n : ℕ) (k : Job) → ((a : ℕ) (g : Grant) → IsOpen m a g → g.job ≢ n) → (job_numbered n m ≡ Some k) ⊎ ((eqb j.number n ≡ true) × (j ≡ k)) → FitsFree k
    free_new n k alone (inl e) = h.free n k e alone
    free_new n k alone (inr e) = subst FitsFree e.1 fits

-- ---- a new grant

-- what a grant may be, of a job that waits and to a modem that holds none
pub record Grants (m : Queue) (n : ℕ) (j : Job) (b : JobAndGrant) : Type 0 where
  pub of : IsJob m n j
  pub not_over : has_ended j.phase ≡ false
  pub number : b.job.number ≡ n
  pub grant_number : b.grant.number ≡ m.next_grant
  pub job : b.grant.job ≡ n
  pub is_open : b.grant.is_open ≡ true
  pub fits : FitsGrant b.job b.grant
  pub modem_free : (a : ℕ) (g : Grant) → IsOpen m a g → g.modem ≢ b.grant.modem
  pub job_free : (a : ℕ) (g : Grant) → IsOpen m a g → g.job ≢ n

module _ (m : Queue) (n : ℕ) (j : Job) (b : JobAndGrant) (r : Grants m n j b) (h : Sound m) where
  -- an open grant was there, or is the new one
  new_or_old : (a : ℕ) (x : Grant) → IsOpen (with_new_grant b m) a x → IsOpen m a x ⊎ ((m.next_grant ≡ a) × (x ≡ b.grant))
  new_or_old a x o = split (either (λ (y : Grant). eqb y.number a) m.grants b.grant x o.0)
    where
      split : (grant_numbered a m ≡ Some x) ⊎ ((eqb b.grant.number a ≡ true) × (b.grant ≡ x)) → IsOpen m a x ⊎ ((m.next_grant ≡ a) × (x ≡ b.grant))
      split (inl e) = inl (e, o.1)
      split (inr e) = inr (sym r.grant_number ∙ eqb-true b.grant.number a e.0, sym e.1)

  -- two open grants of one modem are one, whether old or new
  modem_by : (a c : ℕ) (x y : Grant) → x.modem ≡ y.modem → IsOpen m a x ⊎ ((m.next_grant ≡ a) × (x ≡ b.grant)) → IsOpen m c y ⊎ ((m.next_grant ≡ c) × (y ≡ b.grant)) → a ≡ c
  modem_by a c x y e (inl o) (inl p) = h.one_to_a_modem a c x y o p e
  modem_by a c x y e (inl o) (inr p) = absurd (r.modem_free a x o (e ∙ ap (λ (z : Grant). z.modem) p.1))
  modem_by a c x y e (inr o) (inl p) = absurd (r.modem_free c y p (sym e ∙ ap (λ (z : Grant). z.modem) o.1))
  modem_by a c x y e (inr o) (inr p) = sym o.0 ∙ p.0

  -- two open grants of one job are one, whether old or new
  job_by : (a c : ℕ) (x y : Grant) → x.job ≡ y.job → IsOpen m a x ⊎ ((m.next_grant ≡ a) × (x ≡ b.grant)) → IsOpen m c y ⊎ ((m.next_grant ≡ c) × (y ≡ b.grant)) → a ≡ c
  job_by a c x y e (inl o) (inl p) = h.one_of_a_job a c x y o p e
  job_by a c x y e (inl o) (inr p) = absurd (r.job_free a x o (e ∙ ap (λ (z : Grant). z.job) p.1 ∙ r.job))
  job_by a c x y e (inr o) (inl p) = absurd (r.job_free c y p (sym e ∙ ap (λ (z : Grant). z.job) o.1 ∙ r.job))
  job_by a c x y e (inr o) (inr p) = sym o.0 ∙ p.0

  -- an open grant has its job, and they fit, whether it is old or new
  held_new : (a : ℕ) (x : Grant) → IsOpen m a x ⊎ ((m.next_grant ≡ a) × (x ≡ b.grant)) → (k : Job) × IsJob (with_new_grant b m) x.job k × FitsGrant k x
  held_new a x (inl o) =
      let old = h.held a x o in
      (old.0, placed_other job_number x.job b.job old.0 m.jobs old.1 (λ q. r.job_free a x o (sym q ∙ r.number)), old.2)
  held_new a x (inr o) =
      let there : IsJob (with_new_grant b m) n b.job = placed_here job_number n b.job j m.jobs r.of r.number in
      let job : n ≡ x.job = sym (ap (λ (z : Grant). z.job) o.1 ∙ r.job) in
      (b.job, subst (λ (i : ℕ). IsJob (with_new_grant b m) i b.job) job there, subst (FitsGrant b.job) (sym o.1) r.fits)

  -- the new grant is found
  pub found_new : IsOpen (with_new_grant b m) m.next_grant b.grant
  found_new =
      let none : grant_numbered m.next_grant m ≡ None = absent grant_number 0 m.next_grant m.next_grant m.grants h.grants (omega arith) in
      (comes (λ (g : Grant). eqb g.number m.next_grant) m.grants b.grant none (eq-eqb b.grant.number m.next_grant r.grant_number), r.is_open)

  -- a job that no open grant has fits alone, whether it is the granted one or another
  free_of_new : (a : ℕ) (x y : Job) → IsJob m a y → ((i : ℕ) (z : Grant) → IsOpen (with_new_grant b m) i z → z.job ≢ a) → ((b.job.number ≡ a) × (x ≡ b.job)) ⊎ ((b.job.number ≢ a) × (x ≡ y)) → FitsFree x
  free_of_new a x y e alone (inl c) = absurd (alone m.next_grant b.grant found_new (r.job ∙ sym r.number ∙ c.0))
  free_of_new a x y e alone (inr c) =
      subst FitsFree (sym c.1) (h.free a y e (λ i z o q. alone i z (stays (λ (g : Grant). eqb g.number i) m.grants b.grant z o.0, o.1) q))

  -- the jobs stand in order
  granted_jobs : AscendBetween 0 (map job_number (with_job b.job m).jobs) m.next_job
  granted_jobs = ascend_mapped job_number (in_place job_number b.job) (in_place_number job_number b.job) 0 m.next_job m.jobs h.jobs

  -- the queue stays sound with the new grant
  pub keeps_new_grant : Kept m (with_new_grant b m)
  keeps_new_grant = record {
    timed = stays_timed m (with_new_grant b m) h.jobs granted_jobs (follows_placed m n j b.job r.of r.number (λ q. r.not_over) h) refl;
    jobs = granted_jobs;
    grants = ascend_more grant_number 0 m.next_grant m.grants b.grant h.grants r.grant_number;
    one_to_a_modem = λ a c x y o p e. modem_by a c x y e (new_or_old a x o) (new_or_old c y p);
    one_of_a_job = λ a c x y o p e. job_by a c x y e (new_or_old a x o) (new_or_old c y p);
    held = λ a x o. held_new a x (new_or_old a x o);
    free = λ a x e alone. let p = placed job_number a b.job x m.jobs e in free_of_new a x p.before p.was alone p.now;
  }
