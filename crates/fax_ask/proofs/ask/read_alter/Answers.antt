use Rattle.fax_ask.proofs.LimitLemmas.{alter_limits}
use Rattle.fax_ask.proofs.ask.read_alter.Goals as goal

pub returns-clause-limits : goal.returns-clause-limits
returns-clause-limits c = alter_limits c.in_ok-lines.lines c.in_ok-to_alter.field-0 c.in_ok-to_alter.ensures
