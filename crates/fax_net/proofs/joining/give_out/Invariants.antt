use Rattle.std.proofs.Common.{◌≡◌, length}
use Rattle.std.specs.Vec.Iter.{into_iter_items, into_iter_len}
use Rattle.fax_net.specs.Joining.{replies_in}
use Rattle.fax_net.proofs.JoiningLemmas.{GivenTo}
use Rattle.fax_net.proofs.joining.give_out.Given as goal

abbrev pub invariant-loop-place : goal.invariant-loop-place
invariant-loop-place l = record {
  given : GivenTo l.initial.links l.links l.cuts (replies_in l.fn.replies) (into_iter_items l.replies) l.place;
  counted : into_iter_len l.replies ≡ length (into_iter_items l.replies);
}
