use Rattle.std.proofs.Common.{◌≡◌, ◌<◌, ◌∙◌, option_map, rules, subst, sym}
use Rattle.fax_core.specs.Job.{fields_of}
use Rattle.fax_core.specs.Queue.{job_numbered, times_numbered}
use Rattle.fax_value.specs.Limits.{last_job}
use Rattle.fax_tables.specs.Job.{brief}
use Rattle.fax_decide.proofs.LookingLemmas.{both, by_reading, goes_on, no_call}
use Rattle.fax_decide.proofs.RecordLemmas.{no_job}
use Rattle.fax_decide.proofs.TimesLemmas.{lost_job, no_times, no_times_aged, times_seen}
use Rattle.fax_decide.proofs.times.times_at.Goals as goal

pub returns-in_default : goal.returns-in_default
returns-in_default g c = goes_on no_call (λ m k at none sound.
    let past : last_job < c.args.number = search rules in
    no_times m c.args.t c.args.number sound (no_job m c.args.t c.args.number at.lawful.jobs past))

pub returns-in_default-2 : goal.returns-in_default-2
returns-in_default-2 g c = goes_on (by_reading c.in_ok-times.ensures.leaves c.in_ok-times.ensures.answers) (λ m k at read sound.
    let same : c.in-Some.number ≡ c.args.number = search rules in
    no_times_aged m c.args.t c.args.number c.in_ok-times.field-0 (subst (λ n. c.in_ok-times.field-0 ≡ times_numbered n m) same read) c.in_default-2.is)

pub returns-in-Some-3 : goal.returns-in-Some-3
returns-in-Some-3 g c =
    goes_on (both (by_reading c.in_ok-times.ensures.leaves c.in_ok-times.ensures.answers) (by_reading c.in_ok-job.ensures.leaves c.in_ok-job.ensures.answers)) (λ m k at read sound.
    let same : c.in-Some.number ≡ c.args.number = search rules in
    times_seen m c.args.t c.args.number c.in-Some-2.times c.times_by.result c.in-Some-3.job
    (sym c.in-Some-2.is ∙ subst (λ n. c.in_ok-times.field-0 ≡ times_numbered n m) same read.0)
    (sym c.in-Some-3.is ∙ subst (λ n. c.in_ok-job.field-0 ≡ option_map (λ j. brief (fields_of j)) (job_numbered n m)) same read.1)
    c.times_by.ensures)

pub returns-in-None : goal.returns-in-None
returns-in-None g c =
    goes_on (both (by_reading c.in_ok-times.ensures.leaves c.in_ok-times.ensures.answers) (by_reading c.in_ok-job.ensures.leaves c.in_ok-job.ensures.answers)) (λ m k at read sound.
    let same : c.in-Some.number ≡ c.args.number = search rules in
    absurd (lost_job m c.args.number c.in-Some-2.times sound
    (sym c.in-Some-2.is ∙ subst (λ n. c.in_ok-times.field-0 ≡ times_numbered n m) same read.0)
    (sym c.in-None.is ∙ subst (λ n. c.in_ok-job.field-0 ≡ option_map (λ j. brief (fields_of j)) (job_numbered n m)) same read.1)))
