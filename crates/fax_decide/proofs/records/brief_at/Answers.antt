use Rattle.std.proofs.Common.{◌≡◌, ◌<◌, subst, rules, option_map}
use Rattle.fax_core.specs.Job.{fields_of}
use Rattle.fax_core.specs.Queue.{job_numbered}
use Rattle.fax_value.specs.Limits.{last_job}
use Rattle.fax_tables.specs.Job.{brief}
use Rattle.fax_decide.proofs.RecordLemmas.{no_job, found_brief, found_no_job}
use Rattle.fax_decide.proofs.LookingLemmas.{by_reading, goes_on, no_call}
use Rattle.fax_decide.proofs.records.brief_at.Goals as goal

pub returns-in_default-clause-consults : goal.returns-in_default-clause-consults
returns-in_default-clause-consults g c = goes_on no_call (λ m k at none.
    let past : last_job < c.args.number = search rules in
    no_job m c.args.t c.args.number at.lawful.jobs past)

pub returns-in-Some-2-clause-consults : goal.returns-in-Some-2-clause-consults
returns-in-Some-2-clause-consults g c = goes_on (by_reading c.in_ok-brief.ensures.leaves c.in_ok-brief.ensures.answers) (λ m k at read.
    let same : c.in-Some.number ≡ c.args.number = search rules in
    found_brief m c.args.t c.args.number c.in-Some-2.brief c.aged_job.result _ at.lawful.jobs
    (subst (λ n. c.in_ok-brief.field-0 ≡ option_map (λ j. brief (fields_of j)) (job_numbered n m)) same read) c.in-Some-2.is c.aged_job.ensures)

pub returns-in-None-clause-consults : goal.returns-in-None-clause-consults
returns-in-None-clause-consults g c = goes_on (by_reading c.in_ok-brief.ensures.leaves c.in_ok-brief.ensures.answers) (λ m k at read.
    let same : c.in-Some.number ≡ c.args.number = search rules in
    found_no_job m c.args.t c.args.number (λ j. brief (fields_of j)) _ (subst (λ n. c.in_ok-brief.field-0 ≡ option_map (λ j. brief (fields_of j)) (job_numbered n m)) same read) c.in-None.is)
