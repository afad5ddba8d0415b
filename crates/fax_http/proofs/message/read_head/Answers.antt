use Rattle.std.proofs.Common.{arith}
use Rattle.fax_http.proofs.MessageLemmas.{long_head, long_part}
use Rattle.fax_http.proofs.message.read_head.Goals as goal

pub returns-in_default-clause-never : goal.returns-in_default-clause-never
returns-in_default-clause-never c e =
    long_head c.args.input.now _ c.in-Ok-Complete.head (rw c.in-Ok-Complete.field-0-is at c.in-Ok-Complete.ensures.complete) (omega arith)

pub returns-in_default-2-clause-never : goal.returns-in_default-2-clause-never
returns-in_default-2-clause-never c e =
    long_part c.args.input.now (rw c.in-Ok-Partial.field-0-is at c.in-Ok-Partial.ensures.partial) (omega arith)
