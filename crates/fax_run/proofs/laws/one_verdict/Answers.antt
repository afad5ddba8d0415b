use Rattle.fax_run.proofs.OneVerdictLemmas as lemma
use Rattle.fax_run.proofs.laws.one_verdict.Goals as goal

pub returns-clause-reading : goal.returns-clause-reading
returns-clause-reading c = lemma.one_reading c.asks.ensures.one c.asks.ensures.refused c.asks.ensures.fault

pub returns-clause-verdict : goal.returns-clause-verdict
returns-clause-verdict c = lemma.one_verdict c.asks.ensures.one c.asks.ensures.refused c.asks.ensures.fault
