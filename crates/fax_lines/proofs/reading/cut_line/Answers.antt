use Rattle.std.specs.Prelude.{Some, None}
use Rattle.fax_lines.proofs.LineLemmas.{lines_is}
use Rattle.fax_lines.proofs.reading.cut_line.Goals as goal

pub returns-in-Some-clause-lines : goal.returns-in-Some-clause-lines
returns-in-Some-clause-lines c = lines_is c.args.text.now (Some c.in-Some.parts) c.requires c.in-Some.ensures.cases

pub returns-in-None-clause-lines : goal.returns-in-None-clause-lines
returns-in-None-clause-lines c = lines_is c.args.text.now None c.requires c.in-None.ensures.cases
