use Rattle.fax_net.proofs.ManyLemmas.{RoundsTo}
use Rattle.fax_http.specs.Serving.{replying}
use Rattle.fax_net.proofs.many.serve_round.Given as goal

abbrev pub invariant-loop-place : goal.invariant-loop-place
invariant-loop-place g l =
    RoundsTo g.P.Peers.did (replying g.H.Handler.answers g.H.Handler.together) g.H.Handler.over l.place l.initial.peers l.peers l.initial.handler l.handler l.initial.links l.links l.initial.left l.left l.fn.held_back l.is_busy
