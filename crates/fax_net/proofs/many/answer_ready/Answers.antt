use Rattle.std.proofs.Common.{◌∙◌, Bool, arith, false, length-set}
use Rattle.std.proofs.lemmas.List.{length-replicate}
use Rattle.fax_http.specs.Serving.{replying}
use Rattle.fax_net.proofs.ListLemmas.{none_set}
use Rattle.fax_net.proofs.ManyLemmas.{hears_begin, hears_next, readies, readies_later}
use Rattle.fax_net.proofs.many.answer_ready.Goals as goal

pub loop-place-init : goal.loop-place-init
loop-place-init g c = (length-replicate 64 false, hears_begin g.P.Peers.did (replying g.H.Handler.answers g.H.Handler.together) g.H.Handler.over _ _ _ _ (none_set 64))

pub loop-place-preserved : goal.loop-place-preserved
loop-place-preserved g c =
    let flags = c.loop-place.invariant.0 in (
      omega (arith, flags, length-set {A = Bool}),
      hears_next g.P.Peers.did (replying g.H.Handler.answers g.H.Handler.together) g.H.Handler.over _ _ _ _ _ _ _ _ _ _ _ c.loop-place.invariant.1 (omega arith) (c.loop-place.auto.links ∙ c.requires.places) flags c.take_in.ensures.does,
    )

pub returns-then-may_gain : goal.returns-then-may_gain
returns-then-may_gain g c =
    readies_later g.P.Peers.did (replying g.H.Handler.answers g.H.Handler.together) g.H.Handler.over _ _ _ _ _ _ _ c.loop-place.invariant.1 (c.loop-place.auto.links ∙ c.requires.places)

pub returns : goal.returns
returns g c =
    readies g.P.Peers.did (replying g.H.Handler.answers g.H.Handler.together) g.H.Handler.over _ _ _ _ _ _ _ _ _ _ c.requires.on c.loop-place.invariant.1 (c.loop-place.auto.links ∙ c.requires.places) (none_set 64) c.answer_posts.ensures
