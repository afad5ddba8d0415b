use Rattle.fax_net.proofs.ManyLemmas.{Serving}
use Rattle.fax_http.specs.Serving.{replying}
use Rattle.fax_net.proofs.many.serve_many.Given as goal

abbrev pub invariant-loop : goal.invariant-loop
invariant-loop g l = Serving g.P.Peers.did (replying g.H.Handler.answers g.H.Handler.together) g.H.Handler.over l.initial.peers l.initial.handler l.fn.count l.peers l.handler l.links l.left l.is_busy l.counter
