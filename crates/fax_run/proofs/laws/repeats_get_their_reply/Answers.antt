use Rattle.fax_run.proofs.RepeatLemmas as lemma
use Rattle.fax_run.proofs.laws.repeats_get_their_reply.Goals as goal

pub returns : goal.returns
returns c = lemma.repeats_get_their_reply
