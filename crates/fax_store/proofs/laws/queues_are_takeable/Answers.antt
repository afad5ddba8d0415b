use Rattle.fax_store.proofs.AdoptLemmas as lemma
use Rattle.fax_store.proofs.laws.queues_are_takeable.Goals as goal

pub returns : goal.returns
returns c = lemma.queues_are_takeable
