use Rattle.std.proofs.Common.{sym, ◌∙◌}
use Rattle.fax_once.proofs.SenderLemmas.{name_is_text}
use Rattle.fax_once.proofs.sender.read_client.Goals as goal

pub returns-in-Err : goal.returns-in-Err
returns-in-Err c =
    absurd (c.in-Err.ensures.cases.0 (name_is_text c.args.text.now (sym c.is_name.ensures.test ∙ c.if-not-is_name.false)))
