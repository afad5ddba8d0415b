use Rattle.std.proofs.Common.{◌≡◌, [], drop}
use Rattle.fax_run.specs.Modems.{with_names}
use Rattle.fax_decide.proofs.names.in_order_of.Given as goal

abbrev pub invariant-loop-name : goal.invariant-loop-name
invariant-loop-name l = with_names l.some [] ≡ with_names (drop l.name-index l.some) l.names.items
