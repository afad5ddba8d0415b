use Rattle.std.proofs.Common.{◌∙◌, sym}
use Rattle.fax_net.proofs.ListLemmas.{some_in_front}
use Rattle.fax_net.proofs.pending.Pending.is_empty.Goals as goal

pub returns-else-is_empty : goal.returns-else-is_empty
returns-else-is_empty c =
    c.if-is_empty.false ∙ some_in_front c.parts.result.0.now c.parts.result.1.now c.args.self.now c.parts.ensures (sym c.is_empty.ensures ∙ c.if-is_empty.false)
