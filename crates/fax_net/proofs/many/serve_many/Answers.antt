use Rattle.std.proofs.Common.{◌∙◌, sym}
use Rattle.fax_http.specs.Serving.{replying}
use Rattle.fax_net.proofs.ManyLemmas.{serves_all, serving_next}
use Rattle.fax_net.proofs.many.serve_many.Goals as goal

pub returns-then-are_free : goal.returns-then-are_free
returns-then-are_free g c =
    serves_all g.P.Peers.did (replying g.H.Handler.answers g.H.Handler.together) g.H.Handler.over _ _ _ _ _ _ _ _ _ c.loop.invariant c.if-left-eq0.true (c.loop.auto.links ∙ c.requires.places)
    (c.are_free.ensures c.if-are_free.true)

pub loop-preserved : goal.loop-preserved
loop-preserved g c =
    serving_next g.P.Peers.did (replying g.H.Handler.answers g.H.Handler.together) g.H.Handler.over _ _ _ _ _ _ _ _ _ c.loop.invariant _ _ _ _ _ _ _ _ _ _ (sym c.is_over.ensures ∙ c.if-is_over.false) c.look.ensures c.answer_ready-held_back.ensures c.serve_round-is_busy.ensures
