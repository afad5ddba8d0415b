use Rattle.std.proofs.Common.{ap, ◌∙◌}
use Rattle.fax_core.specs.Decisions.{granted}
use Rattle.fax_core.specs.Job.{job_of}
use Rattle.fax_core.proofs.ReportLemmas.{new_grant}
use Rattle.fax_core.proofs.grants.Grant.new.Goals as goal

pub returns : goal.returns
returns c = new_grant c.fields-fields.result.now c.args.modem c.args.number ∙ ap (λ f. (granted (job_of f) c.args.modem c.args.number).grant) c.fields-fields.ensures.fields
