use Rattle.fax_http.proofs.DivisionLemmas as lemma
use Rattle.fax_http.proofs.laws.one_division.Goals as goal

pub returns : goal.returns
returns c = record { message = lemma.one_message; division = lemma.one_division }
