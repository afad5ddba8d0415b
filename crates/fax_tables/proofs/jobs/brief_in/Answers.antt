use Rattle.std.proofs.Common.{◌≡◌, [], List, ap, subst, sym, ◌∙◌}
use Rattle.fax_job.specs.Pair.{Pair}
use Rattle.fax_job.specs.declared.job.JobFields.{JobFields}
use Rattle.fax_tables.specs.Job.{brief, brief_shown}
use Rattle.fax_tables.specs.Row.{HasValues}
use Rattle.fax_tables.proofs.ResultLemmas.{passes_on}
use Rattle.fax_tables.proofs.RowLemmas.{brief_lawful, made, not_none}
use Rattle.fax_tables.proofs.jobs.brief_in.Goals as goal

pub returns-in-Some-clause-found : goal.returns-in-Some-clause-found
returns-in-Some-clause-found c job is lawful formed =
    let fields = c.in_ok-fields.ensures.found job [] is lawful formed ∙ ap (λ (lines : List Pair). record job { extra = lines }) c.new.ensures in
    made c.in_ok-fields.fields c.new-2.result c.in-Some.job c.new-2.ensures c.in-Some.is ∙ fields

pub returns-in-None-clause-found : goal.returns-in-None-clause-found
returns-in-None-clause-found c job is lawful formed =
    let fields = c.in_ok-fields.ensures.found job [] is lawful formed ∙ ap (λ (lines : List Pair). record job { extra = lines }) c.new.ensures in
    absurd (not_none c.in_ok-fields.fields (brief job) c.new-2.result c.new-2.ensures fields (brief_lawful job lawful) c.in-None.is)

pub returns-in-Some-clause-stands : goal.returns-in-Some-clause-stands
returns-in-Some-clause-stands c =
    let first = c.in_ok-fields.ensures.stands in
    subst (λ (job : JobFields). HasValues c.args.row.now 0 (brief_shown job) × (job.extra ≡ [])) (sym (made c.in_ok-fields.fields c.new-2.result c.in-Some.job c.new-2.ensures c.in-Some.is))
    (first.0, first.1 ∙ c.new.ensures)

pub returns-in_err-fields-clause-found : goal.returns-in_err-fields-clause-found
returns-in_err-fields-clause-found c job is lawful formed =
    passes_on _ _ _ c.from_residual.ensures.1 (c.in_err-fields.ensures.found job [] is lawful formed)
