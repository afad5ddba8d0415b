use Rattle.std.specs.Prelude.{[], ◌∷◌, ℕ, List}
use Rattle.std.proofs.Common.{refl, subst}
use Rattle.fax_once.proofs.HandledLemmas.{stops_alone}
use Rattle.fax_desk.specs.Replaying.{settings_in}
use Rattle.fax_desk.proofs.desk.DeskHandler.answer.Goals as goal

pub returns : goal.returns
returns g c head body parts =
    let a = c.arrival_of-arrival.result in
    let handled = c.handle.ensures in
    record {
      office = handled.office;
      clean = handled.clean;
      shut = λ _. handled.shut;
      ran = λ m k sound means clean. (
        a ∷ [],
        (
          c.moment-moment.result,
          c.moment-moment.new.self,
          subst (λ (said : List ℕ). g.C.Clock.gives c.args.self.now.clock said c.moment-moment.result c.moment-moment.new.self) parts.moment c.moment-moment.ensures,
          c.arrival_of-arrival.ensures head body parts,
          refl,
        ),
        stops_alone (settings_in c.args.self.now.queue.office) (record { queue = m; kept = k }) a c.handle.result _ _ (handled.crash m k sound means)
            (handled.handled m k sound means clean) handled.alone,
      );
    }
