use Rattle.std.proofs.Common.{◌∙◌, sym}
use Rattle.fax_text.proofs.WordsLemmas.{or_else_text}
use Rattle.fax_text.proofs.words.send_plan_in.Goals as goal

pub returns-in_default-clause-err : goal.returns-in_default-clause-err
returns-in_default-clause-err c = λ e plan has. let none = c.in_default.ensures ∙ has.destination in cc

pub returns-in_default-text_of-clause-err : goal.returns-in_default-text_of-clause-err
returns-in_default-text_of-clause-err c = λ e plan has. let none = c.in_default-text_of.ensures ∙ has.request in cc

pub returns-clause-ok : goal.returns-clause-ok
returns-clause-ok c = record {
  destination = sym c.in-Some.ensures;
  pages = sym c.in-Some-pages_in.ensures;
  request = sym c.in-Some-text_of.ensures;
  client = or_else_text c.text_of-3.result _ _ _ c.text_of-3.ensures c.unwrap_or.ensures;
  priority = sym c.in-Some-number_or.ensures.number;
  tries = sym c.in-Some-number_or-2.ensures.number;
  dials = sym c.in-Some-number_or-3.ensures.number;
  at = sym c.text_of-4.ensures;
  kill = sym c.text_of-5.ensures;
  tag = sym c.text_of-6.ensures;
  moment = sym c.in-Some-number_or_none.ensures;
  to = sym c.text_of-7.ensures;
}
