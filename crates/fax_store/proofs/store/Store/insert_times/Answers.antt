use Rattle.std.proofs.Common.{◌≡◌, rules, subst}
use Rattle.fax_core.specs.Job.{job_of}
use Rattle.fax_core.specs.Stamp.{came}
use Rattle.fax_job.specs.declared.job.JobFields.{JobFields}
use Rattle.fax_store.specs.Calls.{WritesIf}
use Rattle.fax_store.specs.Times.{IsUntimed, with_came}
use Rattle.fax_tables.specs.Row.{times_shown}
use Rattle.fax_tables.specs.Tables.{AreLawfulTimes}
use Rattle.fax_store.proofs.FrameLemmas.{inserts_with, writes_if_by}
use Rattle.fax_store.proofs.TimesLemmas.{params_of, times_go, times_put}
use Rattle.fax_store.proofs.store.Store.insert_times.Goals as goal

pub returns : goal.returns
returns g c =
    let j = c.fields-fields.result.now in
    let t = c.args.t in
    let x = came t (job_of j) in
    let same : j ≡ c.args.job.now = c.fields-fields.ensures.fields in
    let params = params_of x c.seconds.result c.end_at.result c.seconds.ensures.seconds c.end_at.ensures.end in
    let inserts = inserts_with g.S.Store _ _ _ _ _ (times_shown x) params (inserts_with g.S.Store _ _ _ _ _ _ (search rules) c.insert.ensures) in
    let lawful : AreLawfulTimes x = record { submitted = search rules; ended = search rules } in
    subst (λ (f : JobFields). WritesIf g.S.Store c.args.self.now c.insert.new.self c.insert.result (λ m k. IsUntimed (job_of f) m) (with_came t (job_of f)) (λ k. k)) same
    (writes_if_by g.S.Store _ _ _ _ (times_shown x) 13 _ _ _ inserts (λ m k means has. times_put _ _ m k means x lawful has) (λ m k means free e h. times_go _ _ m k means x free e h))
