use Rattle.std.proofs.Common.{◌≡◌, ◌<◌, true, length, take, rules, arith, refl, inl, subst}
use Rattle.std.proofs.lemmas.Grind.{common_steps}
use Rattle.fax_net.specs.History.{At, Took, Waits}
use Rattle.fax_net.specs.Link.{is_owing}
use Rattle.fax_net.proofs.LinkLemmas.{took_fits, waits_fits}
use Rattle.fax_net.proofs.conversing.write.Goals as goal

pub returns-in-Bytes-clause-does : goal.returns-in-Bytes-clause-does
returns-in-Bytes-clause-does g c =
    let owing : is_owing c.args.link.now ≡ true = search rules in
    let some : 0 < length (take c.in-Bytes.count c.args.link.now.pending) = grind (arith, common_steps) in
    inl (
      Took (take c.in-Bytes.count c.args.link.now.pending),
      record {
        is_deed = refl;
        happens = subst (λ v. g.P.Peers.did c.args.peers.now (At c.args.place (Took (take c.in-Bytes.count v))) c.write.new.self) c.parts.ensures c.in-Bytes.ensures.step;
        fits = took_fits c.args.link.now c.in-Bytes.count c.advance.new.self some c.advance.ensures owing;
        moved_is = refl;
      },
      λ no. absurd cc,
    )

pub returns-in-Nothing-clause-does : goal.returns-in-Nothing-clause-does
returns-in-Nothing-clause-does g c =
    let owing : is_owing c.args.link.now ≡ true = search rules in
    inl (Waits, record { is_deed = refl; happens = c.in-Nothing.ensures.step; fits = waits_fits c.args.link.now owing; moved_is = refl }, λ no. refl)
