use Rattle.fax_desk.proofs.OneReplayLemmas as lemma
use Rattle.fax_desk.proofs.laws.one_replay.Goals as goal

pub returns : goal.returns
returns c = lemma.one_replay
