use Rattle.fax_decide.proofs.KeptLemmas.{never_refused}
use Rattle.fax_decide.proofs.decision.applied.Goals as goal

pub returns-in-Err-clause-kept : goal.returns-in-Err-clause-kept
returns-in-Err-clause-kept c keeps = absurd (never_refused c.args.change c.args.job c.in-Err.field-0 keeps c.fields-fields.ensures.lawful c.in-Err.ensures)
