use Rattle.fax_lines.proofs.LineLemmas.{at_colon_is}
use Rattle.fax_lines.proofs.reading.at_colon.Goals as goal

pub returns : goal.returns
returns c = at_colon_is c.args.line.now c.split_once.result c.split_once.ensures.cases
