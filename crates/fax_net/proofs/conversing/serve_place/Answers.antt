use Rattle.std.proofs.Common.{rules, ◌≡◌, ◌∙◌, ◌&&◌, true, ap}
use Rattle.fax_http.specs.Serving.{replying}
use Rattle.std.specs.Prelude.{nat_le, nat_lt}
use Rattle.fax_net.specs.History.{room, untaken}
use Rattle.fax_net.specs.Link.{is_taken}
use Rattle.fax_net.specs.declared.link.Stage.TheVariants.{Free}
use Rattle.fax_net.proofs.ConversingLemmas.{admitted, goes_with}
use Rattle.fax_net.proofs.LinkLemmas.{taken_is}
use Rattle.fax_net.proofs.conversing.serve_place.Goals as goal

pub returns-then-is_free : goal.returns-then-is_free
returns-then-is_free g c count start first earlier runs below kept fresh known =
    let free : c.args.link.now.stage ≡ Free = search rules in
    admitted g.P.Peers.did (replying g.H.Handler.answers g.H.Handler.together) g.H.Handler.over count c.args.place below start first earlier c.args.peers.now _ c.args.handler.now runs c.args.link.now _ free kept _ _ _ c.admit.ensures

pub returns-else-is_free : goal.returns-else-is_free
returns-else-is_free g c count start first earlier runs below kept fresh known =
    let taken : is_taken c.args.link.now.stage ≡ true = taken_is c.args.link.now.stage (λ e. absurd (let free = c.is_free.ensures.1 e in let not_free = c.if-is_free.false in cc)) in
    goes_with _ _ _ _ _ _ _ _ _ _ _ _ _ _ _ (λ t settled. settled (nat_lt 0 c.args.left.now))
    (c.converse.ensures count start first earlier runs below kept fresh (known ∙ ap (λ b. b && nat_le room (untaken earlier)) taken))
