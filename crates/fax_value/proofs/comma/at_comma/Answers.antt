use Rattle.std.proofs.Common.{nat_eq, arith}
use Rattle.fax_value.proofs.CommaLemmas.{slice_split_whole, slice_split_at_first}
use Rattle.fax_value.proofs.comma.at_comma.Goals as goal

pub returns-then-at-text-clause-parts : goal.returns-then-at-text-clause-parts
returns-then-at-text-clause-parts c = slice_split_at_first (λ byte. nat_eq byte 44) c.args.text.now c.comma_at-at.result c.comma_at-at.ensures.place c.if-at-text.true

pub returns-else-at-text-clause-parts : goal.returns-else-at-text-clause-parts
returns-else-at-text-clause-parts c = slice_split_whole (λ byte. nat_eq byte 44) c.args.text.now (omega arith)
