use Rattle.fax_run.proofs.SumLemmas as lemma
use Rattle.fax_run.proofs.laws.counters.Goals as goal

pub returns : goal.returns
returns c = lemma.counters_are_counts
