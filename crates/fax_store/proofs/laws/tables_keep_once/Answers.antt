use Rattle.fax_store.proofs.KeptLemmas as lemma
use Rattle.fax_store.proofs.laws.tables_keep_once.Goals as goal

pub returns : goal.returns
returns c = lemma.tables_keep_once
