use Rattle.std.proofs.Common.{◌∙◌, ap, sym}
use Rattle.fax_core.specs.Change.{changed}
use Rattle.fax_core.specs.Job.{job_of, fields_of}
use Rattle.fax_core.proofs.ChangeLemmas.{changed_again}
use Rattle.fax_core.proofs.OldJobLemmas.{made_of, unmade}
use Rattle.fax_core.proofs.change.Change.applied_to.Goals as goal

pub returns-in-Some : goal.returns-in-Some
returns-in-Some c =
    let fields = c.fields_after.ensures ∙ ap (λ f. fields_of (changed c.args.self (job_of f))) c.into_fields.ensures.fields in
    made_of _ _ _ (ap job_of fields ∙ changed_again c.args.self (job_of c.args.job)) (sym c.new.ensures ∙ c.in-Some.is)

pub returns-in-None : goal.returns-in-None
returns-in-None c =
    let fields = c.fields_after.ensures ∙ ap (λ f. fields_of (changed c.args.self (job_of f))) c.into_fields.ensures.fields in
    unmade _ _ (ap job_of fields ∙ changed_again c.args.self (job_of c.args.job)) (sym c.new.ensures ∙ c.in-None.is)
