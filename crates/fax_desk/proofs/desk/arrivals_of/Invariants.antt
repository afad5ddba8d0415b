use Rattle.std.proofs.Common.{◌≡◌, length, take, true}
use Rattle.fax_desk.proofs.ArriveLemmas.{HaveArrived}
use Rattle.fax_desk.proofs.desk.arrivals_of.Given as goal

-- the messages so far have arrived
abbrev pub invariant-loop-message : goal.invariant-loop-message
invariant-loop-message g l = record {
  as_many : l.are_whole ≡ true → length l.arrivals.items ≡ l.message-index;
  arrived : HaveArrived g.C.Clock.gives l.initial.clock (take l.message-index l.messages) l.clock l.are_whole l.arrivals.items;
}
