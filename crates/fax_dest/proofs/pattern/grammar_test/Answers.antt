use Rattle.fax_dest.proofs.GrammarLemmas.{grammar_test}
use Rattle.fax_dest.proofs.pattern.grammar_test.Goals as goal

pub returns : goal.returns
returns c = grammar_test
