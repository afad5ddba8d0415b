use Rattle.fax_run.proofs.EachVerdictLemmas.{each_verdict}
use Rattle.fax_run.proofs.laws.each_has_verdict.Goals as goal

pub returns : goal.returns
returns c = each_verdict c.args.arrival.now c.each_asks_or_has_fault.ensures
