use Rattle.std.proofs.Common.{sym}
use Rattle.fax_text.proofs.client_words.post_plan_in.Goals as goal

pub returns-clause-ok : goal.returns-clause-ok
returns-clause-ok c = record {
  at = c.in_ok-at.ensures.ok;
  client = sym c.in-Some.ensures;
  key = sym c.text_of-2.ensures;
  forget = sym c.text_of-3.ensures;
  words = c.in_ok-words_in.ensures;
}
