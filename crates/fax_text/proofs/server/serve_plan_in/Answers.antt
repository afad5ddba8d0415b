use Rattle.std.proofs.Common.{◌∙◌, ap, sym}
use Rattle.fax_text.specs.Option.{number_or}
use Rattle.fax_text.proofs.server.serve_plan_in.Goals as goal

pub returns-in_default-clause-err : goal.returns-in_default-clause-err
returns-in_default-clause-err c = λ e plan has. let none = c.in_default.ensures ∙ has.database in cc

pub returns-in_default-text_of-clause-err : goal.returns-in_default-text_of-clause-err
returns-in_default-text_of-clause-err c = λ e plan has. let none = c.in_default-text_of.ensures ∙ has.address in cc

pub returns-clause-ok : goal.returns-clause-ok
returns-clause-ok c = record {
  files = c.files_in.ensures;
  database = sym c.in-Some.ensures;
  address = sym c.in-Some-text_of.ensures;
  connections = ap (number_or 1000 1 1000000) (sym c.text_of-3.ensures) ∙ sym c.in-Some-number_in.ensures;
  timeout = ap (number_or 10 1 3600) (sym c.text_of-4.ensures) ∙ sym c.in-Some-number_in-2.ensures;
}
