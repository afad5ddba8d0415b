use Rattle.fax_desk.proofs.TurnsLemmas as lemma
use Rattle.fax_desk.proofs.laws.turns_are_a_session.Goals as goal

pub returns : goal.returns
returns g c = lemma.turns_are_a_session g.C.Clock.gives
