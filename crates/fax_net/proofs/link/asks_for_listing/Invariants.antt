use Rattle.std.proofs.Common.{◌≡◌, length}
use Rattle.fax_net.specs.History.{asks_for_listing}
use Rattle.fax_net.proofs.link.asks_for_listing.Given as goal

abbrev pub invariant-loop-rest : goal.invariant-loop-rest
invariant-loop-rest l = asks_for_listing l.rest ≡ asks_for_listing l.said

abbrev pub decreases-loop-rest : goal.decreases-loop-rest
decreases-loop-rest l = length l.rest
