use Rattle.std.proofs.Common.{◌≡◌, ◌∷◌, [], List, ap, arith, refl, rules, subst, sym, ◌∙◌}
use Rattle.sqlite.specs.declared.types.Value.TheVariants.{Text}
use Rattle.fax_job.specs.Pair.{Pair}
use Rattle.fax_job.specs.Spelling.{printed}
use Rattle.fax_job.specs.declared.job.JobFields.{JobFields}
use Rattle.fax_tables.specs.Job.{job_shown}
use Rattle.fax_tables.specs.Row.{HasValue, HasValues}
use Rattle.fax_tables.proofs.ResultLemmas.{passes_on}
use Rattle.fax_tables.proofs.RowLemmas.{has_value, made, not_none}
use Rattle.fax_tables.proofs.TextLemmas.{lines_kept}
use Rattle.fax_tables.proofs.jobs.job_in.Goals as goal

pub returns-in_err-extra-clause-found : goal.returns-in_err-extra-clause-found
returns-in_err-extra-clause-found c job is lawful formed =
    passes_on c.from_residual.result _ (λ found. found ≡ job) c.from_residual.ensures.1
    (c.in_err-extra.ensures.found job.extra (has_value is (omega arith) refl) (lines_kept job.extra formed.extra).utf8 formed.extra)

pub returns-in_err-fields-clause-found : goal.returns-in_err-fields-clause-found
returns-in_err-fields-clause-found c job is lawful formed =
    passes_on c.from_residual-in_err-fields.result _ (λ found. found ≡ job) c.from_residual-in_err-fields.ensures.1 (c.in_err-fields.ensures.found job (Text (printed job.extra) ∷ []) is lawful formed)

pub returns-in-Some-clause-found : goal.returns-in-Some-clause-found
returns-in-Some-clause-found c job is lawful formed =
    let extra = c.in_ok-extra.ensures.found job.extra (has_value is (omega arith) refl) (lines_kept job.extra formed.extra).utf8 formed.extra in
    let fields = c.in_ok-fields.ensures.found job (Text (printed job.extra) ∷ []) is lawful formed ∙ ap (λ (lines : List Pair). record job { extra = lines }) extra in
    made c.in_ok-fields.fields c.new.result c.in-Some.job c.new.ensures c.in-Some.is ∙ fields

pub returns-in-None-clause-found : goal.returns-in-None-clause-found
returns-in-None-clause-found c job is lawful formed =
    let extra = c.in_ok-extra.ensures.found job.extra (has_value is (omega arith) refl) (lines_kept job.extra formed.extra).utf8 formed.extra in
    let fields = c.in_ok-fields.ensures.found job (Text (printed job.extra) ∷ []) is lawful formed ∙ ap (λ (lines : List Pair). record job { extra = lines }) extra in
    absurd (not_none c.in_ok-fields.fields job c.new.result c.new.ensures fields lawful c.in-None.is)

pub returns-in-Some-clause-stands : goal.returns-in-Some-clause-stands
returns-in-Some-clause-stands c =
    let row = c.args.row.now in
    let fields = c.in_ok-fields.fields in
    let first = c.in_ok-fields.ensures.stands in
    let extra : HasValue row 19 (Text (printed fields.extra)) = subst (λ (lines : List Pair). HasValue row 19 (Text (printed lines))) (sym first.1) c.in_ok-extra.ensures.stands in
    subst (λ (job : JobFields). HasValues row 0 (job_shown job)) (sym (made fields c.new.result c.in-Some.job c.new.ensures c.in-Some.is))
    (search rules)
