use Rattle.std.proofs.Common.{◌∙◌, sym}
use Rattle.fax_text.proofs.check_words.check_plan_in.Goals as goal

pub returns-in-None-clause-err : goal.returns-in-None-clause-err
returns-in-None-clause-err c = λ e plan has. let none = c.in-None.ensures ∙ has.database in cc

pub returns-in-Some-clause-ok : goal.returns-in-Some-clause-ok
returns-in-Some-clause-ok c = record { database = sym c.in-Some.ensures }
