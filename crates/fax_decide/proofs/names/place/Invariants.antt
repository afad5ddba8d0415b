use Rattle.std.proofs.Common.{◌≡◌, ◌++◌, drop, take}
use Rattle.fax_run.specs.Modems.{with_name}
use Rattle.fax_decide.proofs.names.place.Given as goal

abbrev pub invariant-loop-index : goal.invariant-loop-index
invariant-loop-index l = with_name l.name l.names ≡ take l.index l.names ++ with_name l.name (drop l.index l.names)
