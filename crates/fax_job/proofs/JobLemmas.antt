-- The lines of a job are a list that a text spells.
use Rattle.std.proofs.Common.{◌≡◌, ℕ, true, ◌&&◌, leb, ◌++◌, refl}
use Rattle.std.specs.Prelude.{codes}
use Rattle.std.specs.Fmt.{decimal}
use Rattle.std.specs.List.{AllByRecursion}
use Rattle.std.proofs.lemmas.Bool.{and_parts}
use Rattle.fax_job.specs.declared.job.JobFields.{JobFields}
use Rattle.fax_job.specs.Job.{is_lawful, is_lawful_killtime, are_lawful_pages, are_lawful_tries, are_lawful_dials}
use Rattle.fax_job.specs.JobLines.{order_lines, counter_lines, state_lines, job_lines}
use Rattle.fax_value.specs.Limits.{last_job, last_next}
use Rattle.fax_job.specs.Pair.{pair, IsPair, is_once, are_unknown, ArePairs}
use Rattle.fax_job.specs.Tag.{is_known}
use Rattle.fax_job.proofs.PairLemmas.{each_append, once_append}

-- a lawful job's extra lines have no known tag
pub unknown_of_lawful : (job : JobFields) → is_lawful job ≡ true → are_unknown job.extra ≡ true
unknown_of_lawful job h = (and_parts (leb 1 job.job && leb job.job last_job && is_lawful_killtime job.killtime && are_lawful_pages job && are_lawful_tries job && are_lawful_dials job && leb job.next last_next) (are_unknown job.extra) h).1

-- the known lines of a job come once each
known_once : (job : JobFields) (state : ℕ) → is_once (order_lines job ++ counter_lines job ++ state_lines state job.status) ≡ true
unfolding is_known
known_once job state = refl

-- the lines of a job are a list, where each of them is a pair
pub ArePairs-job_lines : (job : JobFields) (state : ℕ) → AllByRecursion IsPair (order_lines job) → AllByRecursion IsPair (counter_lines job) → IsPair (pair (codes "state") (decimal state)) → IsPair (pair (codes "status") job.status) → ArePairs job.extra → are_unknown job.extra ≡ true → ArePairs (job_lines job state)
ArePairs-job_lines job state order counters number status extra unknown = record {
  each = each_append (order_lines job ++ counter_lines job ++ state_lines state job.status) job.extra (each_append (order_lines job ++ counter_lines job) (state_lines state job.status) (each_append (order_lines job) (counter_lines job) order counters) (number, (status, tt))) extra.each;
  once = once_append (order_lines job ++ counter_lines job ++ state_lines state job.status) job.extra (known_once job state) extra.once unknown;
}
