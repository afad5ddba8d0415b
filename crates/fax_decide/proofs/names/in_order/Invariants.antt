use Rattle.std.proofs.Common.{◌≡◌, []}
use Rattle.fax_run.specs.Modems.{with_names}
use Rattle.fax_decide.proofs.names.in_order.Given as goal

abbrev pub invariant-loop-name : goal.invariant-loop-name
invariant-loop-name l = record {
  can : goal.iterator-loop-name.can_next l.name-iterator;
  ends : goal.iterator-loop-name.is_finite l.name-iterator;
  names : with_names l.fn.others.items (with_names l.some []) ≡ with_names l.name-iterator.rest.items l.names.items;
}
