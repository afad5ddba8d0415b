-- What makes a job's record lawful.
use Rattle.std.proofs.Common.{◌≡◌, ℕ, true, ◌&&◌, leb}
use Rattle.std.specs.Prelude.{Option}
use Rattle.std.proofs.lemmas.Bool.{and_parts, and_from}
use Rattle.fax_job.specs.declared.job.JobFields.{JobFields}
use Rattle.fax_value.specs.Limits.{last_job, last_next}
use Rattle.fax_job.specs.Job.{is_lawful, is_lawful_killtime, are_lawful_pages, are_lawful_tries, are_lawful_dials}
use Rattle.fax_job.specs.Pair.{are_unknown}

abbrev pub IsKilltime : Option ℕ → Type 0
IsKilltime killtime = is_lawful_killtime killtime ≡ true

abbrev pub IsWithin : ℕ → ℕ → Type 0
IsWithin greatest number = (leb 1 number && leb number greatest) ≡ true

pub record IsWithinLimits (f : JobFields) : Type 0 where
  pub number : (leb 1 f.job && leb f.job last_job) ≡ true
  pub killtime : IsKilltime f.killtime
  pub pages : are_lawful_pages f ≡ true
  pub tries : are_lawful_tries f ≡ true
  pub dials : are_lawful_dials f ≡ true
  pub next : leb f.next last_next ≡ true
  pub extra : are_unknown f.extra ≡ true

-- a record that tests as lawful is within its limits
pub within_limits_of : (f : JobFields) → is_lawful f ≡ true → IsWithinLimits f
within_limits_of f h =
    let x = and_parts (leb 1 f.job && leb f.job last_job && is_lawful_killtime f.killtime && are_lawful_pages f && are_lawful_tries f && are_lawful_dials f && leb f.next last_next) (are_unknown f.extra) h in
    let n = and_parts (leb 1 f.job && leb f.job last_job && is_lawful_killtime f.killtime && are_lawful_pages f && are_lawful_tries f && are_lawful_dials f) (leb f.next last_next) x.0 in
    let d = and_parts (leb 1 f.job && leb f.job last_job && is_lawful_killtime f.killtime && are_lawful_pages f && are_lawful_tries f) (are_lawful_dials f) n.0 in
    let t = and_parts (leb 1 f.job && leb f.job last_job && is_lawful_killtime f.killtime && are_lawful_pages f) (are_lawful_tries f) d.0 in
    let p = and_parts (leb 1 f.job && leb f.job last_job && is_lawful_killtime f.killtime) (are_lawful_pages f) t.0 in
    let k = and_parts (leb 1 f.job && leb f.job last_job) (is_lawful_killtime f.killtime) p.0 in
    record { number = k.0; killtime = k.1; pages = p.1; tries = t.1; dials = d.1; next = n.1; extra = x.1 }

-- and one within its limits tests as lawful
pub lawful_from : (f : JobFields) → IsWithinLimits f → is_lawful f ≡ true
lawful_from f h =
    and_from _ (are_unknown f.extra)
    (and_from _ (leb f.next last_next)
    (and_from _ (are_lawful_dials f)
    (and_from _ (are_lawful_tries f)
    (and_from _ (are_lawful_pages f)
    (and_from _ (is_lawful_killtime f.killtime) h.number h.killtime)
    h.pages) h.tries) h.dials) h.next) h.extra
