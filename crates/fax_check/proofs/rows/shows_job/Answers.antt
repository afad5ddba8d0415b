use Rattle.std.proofs.Common.{◌≡◌, ◌&&◌, nat_lt, Ok, subst, rules}
use Rattle.fax_check.specs.Whole.{stands}
use Rattle.fax_check.proofs.RowsLemmas.{job_decides, known_none, known_some, not_strange, read_is, whole_row}
use Rattle.fax_core.proofs.FitsLemmas.{record_again}
use Rattle.fax_core.specs.Job.{job_of}
use Rattle.fax_job.specs.Job.{IsLawful}
use Rattle.fax_store.proofs.JobLemmas.{lawful_of_fields}
use Rattle.fax_tables.specs.Job.{IsFormed, IsLawfulJob, job_shown}
use Rattle.fax_check.proofs.rows.shows_job.Goals.{then-fields-meta, else-fields-meta}
use Rattle.fax_check.proofs.rows.shows_job.Goals as goal

pub returns-after-fields-meta-clause-right : goal.returns-after-fields-meta-clause-right
returns-after-fields-meta-clause-right c =
    let f = c.in-Some.job in
    let read : c.job_in.result ≡ Ok f = known_some c.job_in.result f (search rules) in
    let shown : c.args.row.now ≡ job_shown f = whole_row c.args.row.now (job_shown f) (search rules) (search rules) in
    let formed : IsFormed f = record {
      dial = record { formed = search rules; utf8 = search rules };
      modem = record { formed = search rules; utf8 = search rules };
      jobtag = record { formed = search rules; utf8 = search rules };
      status = record { formed = search rules; utf8 = search rules };
      extra = search rules;
      tts = search rules;
      killtime = search rules;
      priority = search rules;
    } in
    let lawful : IsLawfulJob (job_of f) = lawful_of_fields f (search rules) formed in
    let is : c.if-fields-meta.result ≡ (nat_lt f.job c.args.meta.now.next_job && stands c.args.held.now f) =
    elim c.if-fields-meta.branch [ then-fields-meta w ↦ search rules | else-fields-meta w ↦ search rules ] in
    job_decides c.args.row.now c.args.meta.now c.args.held.now f c.if-fields-meta.result shown lawful
    (λ x e l. read_is c.job_in.result f x read (c.job_in.ensures.found x e (subst IsLawful (record_again x) l.limits) (subst IsFormed (record_again x) l.formed))) is

pub returns-in-None-clause-right : goal.returns-in-None-clause-right
returns-in-None-clause-right c =
    let strange = known_none c.job_in.result (search rules) in
    (λ no. absurd (let e = no in cc), λ it. absurd (not_strange c.job_in.result it.job strange (c.job_in.ensures.found it.job it.is (subst IsLawful (record_again it.job) it.lawful.limits) (subst IsFormed (record_again it.job) it.lawful.formed))))
