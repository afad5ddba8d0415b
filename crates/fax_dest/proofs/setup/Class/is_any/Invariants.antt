use Rattle.std.proofs.Common.{◌≡◌, length}
use Rattle.std.specs.List.{list_any}
use Rattle.fax_dest.specs.Setup.{admits_class}
use Rattle.fax_dest.proofs.setup.Class.is_any.Given as goal

abbrev pub invariant-loop-rest : goal.invariant-loop-rest
invariant-loop-rest l = list_any (admits_class l.name l.modem) l.classes ≡ list_any (admits_class l.name l.modem) l.rest

abbrev pub decreases-loop-rest : goal.decreases-loop-rest
decreases-loop-rest l = length l.rest
