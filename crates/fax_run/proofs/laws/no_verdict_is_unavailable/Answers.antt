use Rattle.fax_run.proofs.EachVerdictLemmas.{never_unavailable}
use Rattle.fax_run.proofs.laws.no_verdict_is_unavailable.Goals as goal

pub returns : goal.returns
returns c = never_unavailable c.statuses.ensures.accepted c.statuses.ensures.unavailable c.refusals.ensures.number
