use Rattle.std.proofs.Common.{lit<}
use Rattle.fax_dest.proofs.CutLemmas.{at_byte_is}
use Rattle.fax_dest.proofs.line.at_colon.Goals as goal

pub returns : goal.returns
returns c = at_byte_is 58 c.args.text.now c.split_once.result (lit< tt) c.split_once.ensures.cases
