-- The times of jobs, as they are at a moment.
use Rattle.std.proofs.Common.{◌≡◌, ◌∙◌, ◌&&◌, ℕ, true, false, cond, Option, Some, None, ap, refl, is_some, option_map, sym}
use Rattle.fax_core.specs.Ageing.{aged, expires, is_past}
use Rattle.fax_core.specs.Job.{Job, fields_of}
use Rattle.fax_core.specs.Queue.{Queue, job_numbered, times_numbered}
use Rattle.fax_core.specs.Sound.{Sound}
use Rattle.fax_core.specs.declared.times.Times.{Times}
use Rattle.fax_core.proofs.StampLemmas.{aged_found, aged_missing, has_times}
use Rattle.fax_core.proofs.StepLemmas.{aged_sound}
use Rattle.fax_job.specs.declared.job.JobFields.{JobFields}
use Rattle.fax_store.proofs.WorkLemmas.{there_as}
use Rattle.fax_tables.specs.Job.{brief}

none_is : {A : Type 0} (o : Option A) → is_some o ≡ false → o ≡ None
none_is None e = refl
none_is (Some x) e = absurd cc

-- a number without a job has no times
pub no_times : (m : Queue) (t n : ℕ) → Sound m → None ≡ job_numbered n (aged t m) → None ≡ times_numbered n (aged t m)
no_times m t n sound none =
    sym (none_is (times_numbered n (aged t m)) (has_times (aged t m) n (aged_sound t m sound).timed ∙ sym (ap (λ (o : Option Job). is_some o) none)))

-- nor has one without times
pub no_times_aged : (m : Queue) (t n : ℕ) (found : Option Times) → found ≡ times_numbered n m → found ≡ None → None ≡ times_numbered n (aged t m)
no_times_aged m t n found is none = sym (aged_missing t n m (sym is ∙ none))

-- the times that are found with the job are those of the aged queue
pub times_seen : (m : Queue) (t n : ℕ) (x y : Times) (f : JobFields) → Some x ≡ times_numbered n m → Some f ≡ option_map (λ j. brief (fields_of j)) (job_numbered n m)
    → y ≡ cond (expires f.phase && is_past f.killtime t) (record x { ended = t }) x → Some y ≡ times_numbered n (aged t m)
times_seen m t n x y f is found made =
    let it = there_as (λ j. brief (fields_of j)) (job_numbered n m) f found in
    ap (λ (z : Times). Some z) (made ∙ ap (λ (g : JobFields). cond (expires g.phase && is_past g.killtime t) (record x { ended = t }) x) it.2)
    ∙ sym (aged_found t n m it.0 x it.1 (sym is))

-- a number with times has a job
pub lost_job : (m : Queue) (n : ℕ) (x : Times) → Sound m → Some x ≡ times_numbered n m → None ≡ option_map (λ j. brief (fields_of j)) (job_numbered n m) → ⊥
lost_job m n x sound is none =
    let both : true ≡ is_some (job_numbered n m) = ap (λ (o : Option Times). is_some o) is ∙ has_times m n sound.timed in
    by (job_numbered n m) both none
  where
    by : (o : Option Job) → true ≡ is_some o → None ≡ option_map (λ j. brief (fields_of j)) o → ⊥
    by None e h = cc
    by (Some j) e h = cc
