use Rattle.std.proofs.Common.{subst, ap, ◌∙◌}
use Rattle.std.specs.Prelude.{◌≡◌}
use Rattle.fax_core.proofs.StepLemmas.{empty_sound}
use Rattle.fax_desk.specs.Replaying.{empty_start, gives_said, settings_in}
use Rattle.fax_desk.specs.Turns.{AreTurns}
use Rattle.fax_desk.proofs.ReplayingLemmas.{not_shut, replayed_of, turns_by}
use Rattle.fax_desk.proofs.replaying.replay.Goals as goal
use Rattle.fax_store.proofs.StoreLemmas.{memory_serves}

pub converse-served-requires-clause-going : goal.converse-served-requires-clause-going
converse-served-requires-clause-going g c = ap (λ q. q.is_shut) c.new-desk.ensures.queue ∙ c.in-Ok.ensures.open

pub returns : goal.returns
returns g c =
    let queue = c.in-Ok.queue in
    let desk = c.new-desk.result in
    let left = c.converse-served.new.desk.queue in
    let last : desk.clock.last ≡ 0 = ap (λ clock. clock.last) c.new-desk.ensures.clock ∙ c.new.ensures in
    let office = ap (λ q. settings_in q.office) c.new-desk.ensures.queue ∙ ap settings_in c.in-Ok.ensures.office in
    replayed_of _ _ _ _ c.args.office _ _ _ _ _ _ _ _ _ (λ turns from.
    let served = from.served empty_start.queue empty_start.kept empty_sound (λ _. rw c.new-desk.ensures.queue c.in-Ok.ensures.empty) (memory_serves left.store.conn).clean in (
      served.session.left,
      subst (λ s. AreTurns gives_said s empty_start 0 turns served.session.left) office
          (subst (λ t. AreTurns gives_said (settings_in desk.queue.office) empty_start t turns served.session.left) last
          (turns_by _ gives_said (λ clock. clock.last) (λ clock said moment later given. given) _ empty_start desk.clock turns served.session.left served.answered)),
    ))
    (not_shut left.is_shut left.store.conn c.converse-served.ensures.shut)
    c.converse-served.ensures.served
