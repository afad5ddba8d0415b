use Rattle.fax_ask.proofs.EachLemmas.{each_of, text_or_none}
use Rattle.fax_ask.proofs.laws.each_asks_or_has_fault.Goals as goal

pub returns : goal.returns
returns c = each_of c.args.body.now (text_or_none c.from_utf8.result _ _ c.args.body.now c.from_utf8.ensures.cases)
