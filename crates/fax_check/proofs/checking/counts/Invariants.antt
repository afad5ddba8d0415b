use Rattle.std.proofs.Common.{take}
use Rattle.sqlite.specs.Order.{Row}
use Rattle.sqlite_rules.specs.Lists.{Has}
use Rattle.fax_tables.specs.Row.{HasNumber}
use Rattle.fax_check.proofs.checking.counts.Given as goal

-- none of the rows so far has the count
abbrev pub invariant-loop-row : goal.invariant-loop-row
invariant-loop-row l = (row : Row) → Has (take l.row-index l.rows) row → ¬ HasNumber row 0 l.count
