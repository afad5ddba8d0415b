use Rattle.std.proofs.Common.{◌≡◌, [], ◌∷◌, subst, rules}
use Rattle.sqlite.specs.Order.{Row}
use Rattle.sqlite.specs.declared.types.Value.TheVariants.{Text}
use Rattle.fax_core.specs.Job.{job_of}
use Rattle.fax_job.specs.declared.job.JobFields.{JobFields}
use Rattle.fax_store.specs.Calls.{WritesWhere}
use Rattle.fax_store.specs.Job.{IsChange, with_set}
use Rattle.fax_tables.specs.Row.{number}
use Rattle.fax_store.proofs.JobLemmas.{IsFormedChange, job_changed}
use Rattle.fax_tables.proofs.RowLemmas.{change_params, changed_by}
use Rattle.fax_store.proofs.FrameLemmas.{edits_with, writes_where_by}
use Rattle.fax_store.proofs.store.Store.set_job.Goals as goal

pub returns : goal.returns
returns g c =
    let j = c.fields-job.result.now in
    let same : j ≡ c.args.job.now = c.fields-job.ensures.fields in
    let params : Row = number j.job ∷ Text c.as_str.result.now ∷ Text c.as_str-2.result.now ∷ Text c.text.result.now ∷ number c.seconds.result ∷ number c.killtime_number.result ∷ number c.from.result ∷ number c.from-2.result ∷ number c.from-3.result ∷ number c.from-4.result ∷ number c.from-5.result ∷ number c.from-6.result ∷ number c.from-7.result ∷ number c.from-8.result ∷ number c.phase_number.result ∷ number c.wish_number.result ∷ number j.next ∷ [] in
    let shown : params ≡ change_params j = changed_by j _ _ _ _ _ _ _ _ _ _ _ _ _ _ _
    c.as_str.ensures.text c.as_str-2.ensures.text c.text.ensures.text c.seconds.ensures.seconds c.killtime_number.ensures.number
    c.from.ensures c.from-2.ensures c.from-3.ensures c.from-4.ensures c.from-5.ensures c.from-6.ensures c.from-7.ensures c.from-8.ensures c.phase_number.ensures c.wish_number.ensures in
    let lawful : IsFormedChange j = search rules in
    let edits = edits_with g.S.Store _ _ _ _ params (change_params j) shown (edits_with g.S.Store _ _ _ _ _ _ (search rules) c.run.ensures) in
    subst (λ (f : JobFields). WritesWhere g.S.Store c.args.self.now c.run.new.self c.run.result (IsChange (job_of f)) (with_set (job_of f)) (λ k. k)) same
    (writes_where_by g.S.Store _ _ _ _ (change_params j) 0 _ _ _ edits (λ m k fits means has. job_changed j _ _ m k means fits lawful has))
