use Rattle.std.proofs.Common.{◌∙◌, sym, arith, rules}
use Rattle.fax_http.specs.Serving.{replying}
use Rattle.fax_net.proofs.ManyLemmas.{round_ends, round_held, round_next, round_written}
use Rattle.fax_net.proofs.RoomLemmas.{known_room}
use Rattle.fax_net.proofs.many.serve_round.Goals as goal

pub returns : goal.returns
returns g c = round_ends g.P.Peers.did (replying g.H.Handler.answers g.H.Handler.together) g.H.Handler.over _ _ _ _ _ _ _ _ _ _ _ c.loop-place.invariant (omega arith)

pub loop-place-preserved-then-is_over : goal.loop-place-preserved-then-is_over
loop-place-preserved-then-is_over g c =
    round_written g.P.Peers.did (replying g.H.Handler.answers g.H.Handler.together) g.H.Handler.over _ _ _ _ _ _ _ _ _ _ _ _ _ _ _ (sym c.is_over.ensures ∙ c.if-is_over.true) c.loop-place.invariant (omega arith)
    (c.loop-place.auto.links ∙ c.requires.places) c.write.ensures.does

pub loop-place-preserved : goal.loop-place-preserved
loop-place-preserved g c =
    let size = c.loop-place.auto.links ∙ c.requires.places in
    round_next g.P.Peers.did (replying g.H.Handler.answers g.H.Handler.together) g.H.Handler.over _ _ _ _ _ _ _ _ _ _ _ _ _ _ _ _ _ _ (sym c.is_over.ensures ∙ c.if-is_over.false) c.loop-place.invariant (omega arith) size
    (λ history all. known_room history c.loop-place.links _ _ c.is_full-is_full.result size all (c.is_full-is_full.ensures _)) c.serve_place-is_busy.ensures

pub loop-place-preserved-then-held_back-place : goal.loop-place-preserved-then-held_back-place
loop-place-preserved-then-held_back-place g c =
    round_held g.P.Peers.did (replying g.H.Handler.answers g.H.Handler.together) g.H.Handler.over _ _ _ _ _ _ _ _ _ _ _ c.loop-place.invariant (search rules)
