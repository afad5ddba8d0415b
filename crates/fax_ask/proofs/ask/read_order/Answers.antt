use Rattle.fax_ask.proofs.LimitLemmas.{order_limits}
use Rattle.fax_ask.proofs.ask.read_order.Goals as goal

pub returns-clause-limits : goal.returns-clause-limits
returns-clause-limits c = order_limits c.in_ok-lines.lines c.in_ok-to_order.field-0 c.in_ok-to_order.ensures
