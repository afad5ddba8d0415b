use Rattle.std.proofs.Common.{◌≡◌, length}
use Rattle.fax_http.specs.Serving.{replying}
use Rattle.fax_net.proofs.ManyLemmas.{HearsTo}
use Rattle.fax_net.proofs.many.answer_ready.Given as goal

abbrev pub invariant-loop-place : goal.invariant-loop-place
invariant-loop-place g l =
    (length l.has_read ≡ 64)
    × HearsTo g.P.Peers.did (replying g.H.Handler.answers g.H.Handler.together) g.H.Handler.over l.place l.initial.peers l.peers l.handler l.initial.links l.links l.has_read
