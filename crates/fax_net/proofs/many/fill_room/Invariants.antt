use Rattle.std.proofs.Common.{◌≡◌, ◌+◌, ◌<◌, take}
use Rattle.fax_net.specs.History.{room}
use Rattle.fax_net.specs.Link.{untaken_in}
use Rattle.fax_net.proofs.many.fill_room.Given as goal

abbrev pub invariant-loop-link : goal.invariant-loop-link
invariant-loop-link l = (l.left + untaken_in (take l.link-index l.links) ≡ room) × (0 < l.left)
