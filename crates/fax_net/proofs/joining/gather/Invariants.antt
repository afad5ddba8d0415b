use Rattle.std.proofs.Common.{◌≡◌, length}
use Rattle.fax_net.specs.Joining.{GathersTo}
use Rattle.fax_net.proofs.joining.gather.Given as goal

-- the places in front were looked at
abbrev pub invariant-loop-place : goal.invariant-loop-place
invariant-loop-place l = record {
  as_many : length l.cuts ≡ length l.links;
  gathered : GathersTo l.place l.links l.cuts l.messages.items;
}
