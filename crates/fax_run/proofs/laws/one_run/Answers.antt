use Rattle.fax_run.proofs.OneVerdictLemmas.{one_reading}
use Rattle.fax_run.proofs.OneRunLemmas as lemma
use Rattle.fax_run.proofs.laws.one_run.Goals as goal

pub returns : goal.returns
returns c = lemma.one_run (one_reading c.asks.ensures.one c.asks.ensures.refused c.asks.ensures.fault)
