use Rattle.std.proofs.Common.{◌≡◌, None, [], ◌∷◌, subst, rules, string_bytes}
use Rattle.sqlite.specs.Order.{Row}
use Rattle.sqlite.specs.declared.types.Value.TheVariants.{Text}
use Rattle.fax_core.specs.Job.{job_of}
use Rattle.fax_job.specs.declared.job.JobFields.{JobFields}
use Rattle.fax_tables.specs.Job.{IsFormed, IsLawfulJob, job_shown}
use Rattle.fax_store.specs.Calls.{WritesIf}
use Rattle.fax_store.specs.Job.{with_placed}
use Rattle.fax_core.specs.Queue.{job_numbered}
use Rattle.fax_tables.specs.Row.{number}
use Rattle.fax_store.proofs.JobLemmas.{job_put, job_goes, lawful_of_fields}
use Rattle.fax_tables.proofs.RowLemmas.{shown_by}
use Rattle.fax_store.proofs.FrameLemmas.{inserts_with, writes_if_by}
use Rattle.fax_store.proofs.store.Store.insert_job.Goals as goal

pub returns : goal.returns
returns g c =
    let j = c.fields-job.result.now in
    let same : j ≡ c.args.job.now = c.fields-job.ensures.fields in
    let params : Row = number j.job ∷ Text c.text.result.now ∷ Text c.as_str.result.now ∷ Text c.as_str-2.result.now ∷ Text c.text-2.result.now ∷ number c.seconds.result ∷ number c.killtime_number.result ∷ number c.from.result ∷ number c.from-2.result ∷ number c.from-3.result ∷ number c.from-4.result ∷ number c.from-5.result ∷ number c.from-6.result ∷ number c.from-7.result ∷ number c.from-8.result ∷ number c.from-9.result ∷ number c.phase_number.result ∷ number c.wish_number.result ∷ number j.next ∷ Text (string_bytes c.in_ok-extra.extra) ∷ [] in
    let shown : params ≡ job_shown j = shown_by j _ _ _ _ _ _ _ _ _ _ _ _ _ _ _ _ _ _
    c.text.ensures.text c.as_str.ensures.text c.as_str-2.ensures.text c.text-2.ensures.text c.in_ok-extra.ensures.spelled c.seconds.ensures.seconds c.killtime_number.ensures.number
    c.from.ensures c.from-2.ensures c.from-3.ensures c.from-4.ensures c.from-5.ensures c.from-6.ensures c.from-7.ensures c.from-8.ensures c.from-9.ensures c.phase_number.ensures c.wish_number.ensures in
    let formed : IsFormed j = search rules in
    let lawful : IsLawfulJob (job_of j) = lawful_of_fields j (search rules) formed in
    let inserts = inserts_with g.S.Store _ _ _ _ params (job_shown j) shown (inserts_with g.S.Store _ _ _ _ _ _ (search rules) c.insert.ensures) in
    subst (λ (f : JobFields). WritesIf g.S.Store c.args.self.now c.insert.new.self c.insert.result (λ m k. job_numbered f.job m ≡ None) (with_placed (job_of f)) (λ k. k)) same
    (writes_if_by g.S.Store _ _ _ _ (job_shown j) 0 _ _ _ inserts (λ m k means has. job_put _ _ m k means j lawful has) (λ m k means free e h. job_goes _ _ m k means j free e h))
