use Rattle.std.proofs.Common.{◌≡◌, ◌<◌, ◌++◌, true, length, take, rules, arith, refl, inl}
use Rattle.std.proofs.lemmas.Grind.{common_steps}
use Rattle.fax_net.specs.History.{Dry, Said}
use Rattle.fax_net.specs.Link.{awaits}
use Rattle.fax_net.proofs.LinkLemmas.{dry_fits, said_fits}
use Rattle.fax_net.proofs.conversing.take_in.Goals as goal

pub returns-in-Bytes-clause-does : goal.returns-in-Bytes-clause-does
returns-in-Bytes-clause-does g c =
    let waits : awaits c.args.link.now ≡ true = search rules in
    let same : c.put.new.self ≡ c.args.link.now.said ++ take c.in-Bytes.count c.read.new.room = grind (arith, common_steps) in
    let some : 0 < length (take c.in-Bytes.count c.read.new.room) = grind (arith, common_steps) in
    inl (
      Said (take c.in-Bytes.count c.read.new.room),
      record {
        is_deed = refl;
        happens = c.in-Bytes.ensures.step;
        fits = said_fits c.args.link.now c.put.new.self (take c.in-Bytes.count c.read.new.room) some same waits;
        moved_is = refl;
      },
      λ no. absurd cc,
    )

pub returns-in-Nothing-clause-does : goal.returns-in-Nothing-clause-does
returns-in-Nothing-clause-does g c =
    let waits : awaits c.args.link.now ≡ true = search rules in
    inl (Dry, record { is_deed = refl; happens = c.in-Nothing.ensures.step; fits = dry_fits c.args.link.now waits; moved_is = refl }, λ no. refl)
