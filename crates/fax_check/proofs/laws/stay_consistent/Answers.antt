use Rattle.fax_check.proofs.ConsistentLemmas as lemma
use Rattle.fax_check.proofs.laws.stay_consistent.Goals as goal

pub returns-clause-runs : goal.returns-clause-runs
returns-clause-runs c = lemma.runs_stay_consistent c.only_the_over_leave.ensures.run c.the_clock.ensures.runs
