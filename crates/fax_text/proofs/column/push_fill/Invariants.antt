use Rattle.std.proofs.Common.{◌≡◌, ◌++◌, replicate}
use Rattle.fax_text.proofs.column.push_fill.Given as goal

abbrev pub invariant-loop : goal.invariant-loop
invariant-loop l = l.text.items ≡ l.initial.text.items ++ replicate l.counter l.fill
