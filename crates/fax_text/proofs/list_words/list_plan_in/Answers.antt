use Rattle.std.proofs.Common.{◌∙◌, sym}
use Rattle.fax_text.proofs.list_words.list_plan_in.Goals as goal

pub returns-in_default-clause-err : goal.returns-in_default-clause-err
returns-in_default-clause-err c = λ e plan has. let none = c.in_default.ensures ∙ has.database in cc

pub returns-clause-ok : goal.returns-clause-ok
returns-clause-ok c = record {
  files = c.files_in.ensures;
  database = sym c.in-Some.ensures;
  moment = sym c.in-Some-number_or_none.ensures;
}
