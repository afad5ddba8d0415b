-- What is written of an effect, and the clock and the next numbers beside it.
use Rattle.std.proofs.Common.{◌≡◌, ℕ, true, false, Option, Some, None, refl}
use Rattle.fax_core.specs.Queue.{Queue, grant_numbered}
use Rattle.fax_core.specs.declared.grants.Grant.{Grant}
use Rattle.fax_store.specs.Grant.{with_shut}
use Rattle.fax_store.specs.Job.{with_change, with_expired}
use Rattle.fax_core.specs.Job.{Job, job_of}
use Rattle.fax_tables.specs.Meta.{meta_of, with_meta}
use Rattle.fax_tables.specs.declared.meta.Meta.{Meta}
use Rattle.fax_decide.specs.Effect.{IsFree, Suits, accepted, numbered, written}
use Rattle.fax_decide.specs.declared.effect.Effect.{Effect}
use Rattle.fax_decide.specs.declared.effect.Effect.TheVariants.{Nothing, NewJob, ChangedJob, Marked, NewGrant, Reported, Closed, GivenUp, Purged}

-- a grant that is closed leaves the next numbers
shut_at : (t : ℕ) (o : Option Grant) (m : Queue) → record (with_shut o m) { clock = t } ≡ with_meta (record (meta_of m) { clock = t }) (with_shut o m)
shut_at t None m = refl
shut_at t (Some g) m = refl

-- what is accepted is what is written, with these numbers
pub accepted_as : (t : ℕ) (effect : Effect) (m : Queue) → accepted t effect m ≡ with_meta (numbered t effect (meta_of m)) (written t effect (with_expired t m))
accepted_as t Nothing m = refl
accepted_as t (NewJob job) m = refl
accepted_as t (ChangedJob job) m = refl
accepted_as t (Marked modem true) m = refl
accepted_as t (Marked modem false) m = refl
accepted_as t (NewGrant job grant) m = refl
accepted_as t (Reported job grant) m = refl
accepted_as t (Closed job grant) m = let j = with_change t (job_of job) (with_expired t m) in shut_at t (grant_numbered grant j) j
accepted_as t (GivenUp upto) m = refl
accepted_as t (Purged jobs) m = refl

-- the numbers stay as they are in what is written
numbers_shut : (o : Option Grant) (m : Queue) → meta_of (with_shut o m) ≡ meta_of m
numbers_shut None m = refl
numbers_shut (Some g) m = refl

pub written_numbers : (t : ℕ) (effect : Effect) (m : Queue) → meta_of (written t effect (with_expired t m)) ≡ meta_of m
written_numbers t Nothing m = refl
written_numbers t (NewJob job) m = refl
written_numbers t (ChangedJob job) m = refl
written_numbers t (Marked modem true) m = refl
written_numbers t (Marked modem false) m = refl
written_numbers t (NewGrant job grant) m = refl
written_numbers t (Reported job grant) m = refl
written_numbers t (Closed job grant) m = let j = with_change t (job_of job) (with_expired t m) in numbers_shut (grant_numbered grant j) j
written_numbers t (GivenUp upto) m = refl
written_numbers t (Purged jobs) m = refl

module _ (meta : Meta) (t : ℕ) (m : Queue) where
  -- closing a grant doesn't look at the numbers
  shut_apart : (numbers : Meta) (o : Option Grant) (j : Job) → with_meta numbers (with_shut o (with_change t j (with_expired t (with_meta meta m)))) ≡ with_meta numbers (with_shut o (with_change t j (with_expired t m)))
  shut_apart numbers None j = refl
  shut_apart numbers (Some g) j = refl

  -- nor does any other change
  pub written_apart : (numbers : Meta) (effect : Effect) → with_meta numbers (written t effect (with_expired t (with_meta meta m))) ≡ with_meta numbers (written t effect (with_expired t m))
  written_apart numbers Nothing = refl
  written_apart numbers (NewJob job) = refl
  written_apart numbers (ChangedJob job) = refl
  written_apart numbers (Marked modem true) = refl
  written_apart numbers (Marked modem false) = refl
  written_apart numbers (NewGrant job grant) = refl
  written_apart numbers (Reported job grant) = refl
  written_apart numbers (Closed job grant) = shut_apart numbers (grant_numbered grant (with_change t (job_of job) (with_expired t m))) (job_of job)
  written_apart numbers (GivenUp upto) = refl
  written_apart numbers (Purged jobs) = refl

  -- so it suits the queue with other numbers, where its keys are free as well
  pub suits_apart : (effect : Effect) → Suits effect (with_expired t (with_meta meta m)) → Suits effect (with_expired t m)
  suits_apart Nothing suits = suits
  suits_apart (NewJob job) suits = suits
  suits_apart (ChangedJob job) suits = suits
  suits_apart (Marked modem down) suits = suits
  suits_apart (NewGrant job grant) suits = suits
  suits_apart (Reported job grant) suits = suits
  suits_apart (Closed job grant) suits = suits
  suits_apart (GivenUp upto) suits = suits
  suits_apart (Purged jobs) suits = suits

  pub free_apart : (effect : Effect) → IsFree effect (with_expired t (with_meta meta m)) → IsFree effect (with_expired t m)
  free_apart Nothing free = free
  free_apart (NewJob job) free = free
  free_apart (ChangedJob job) free = free
  free_apart (Marked modem down) free = free
  free_apart (NewGrant job grant) free = (record { number = free.0.number; modem = free.0.modem; job = free.0.job }, free.1)
  free_apart (Reported job grant) free = free
  free_apart (Closed job grant) free = free
  free_apart (GivenUp upto) free = free
  free_apart (Purged jobs) free = free
