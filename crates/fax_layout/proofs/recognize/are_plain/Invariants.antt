use Rattle.std.proofs.Common.{◌≡◌, ℕ, ◌<◌, get_or}
use Rattle.sqlite_value.specs.Keys.{plain}
use Rattle.fax_layout.proofs.recognize.are_plain.Given as goal

-- the orders before this one ascend
abbrev pub invariant-loop-order : goal.invariant-loop-order
invariant-loop-order l = (k : ℕ) → k < l.order-index → get_or l.orders k plain ≡ plain
