use Rattle.std.proofs.Common.{◌∙◌, ap, subst}
use Rattle.sqlite.specs.Held.{state}
use Rattle.fax_desk.specs.Replaying.{settings_in}
use Rattle.fax_desk.proofs.ServedLemmas.{in_parts, serves_from}
use Rattle.fax_desk.specs.Conversing.{ServesFrom}
use Rattle.faxqd.proofs.serve.serve_queue.Goals as goal

pub returns-clause-office : goal.returns-clause-office
returns-clause-office g c =
    ap (λ queue. queue.office) c.close.ensures
    ∙ (in_parts g.C.Clock.gives g.S.Store _ _ _ c.listen-ending.ensures.served.2).office
    ∙ ap (λ queue. queue.office) c.new-desk.ensures.queue

pub returns-clause-served : goal.returns-clause-served
returns-clause-served g c =
    let turns = c.listen-ending.ensures.served.0 in
    let left = state g.S.Store c.listen-ending.new.handler.queue.store.conn in
    let served = serves_from g.C.Clock.gives g.S.Store _ turns _ (in_parts g.C.Clock.gives g.S.Store _ _ _ c.listen-ending.ensures.served.2) in
    rw c.close.ensures (
      turns,
      c.listen-ending.ensures.served.1,
      subst (λ clock. ServesFrom g.C.Clock.gives (settings_in c.args.queue.office) clock (state g.S.Store c.args.queue.store.conn) turns left) c.new-desk.ensures.clock
          (subst (λ queue. ServesFrom g.C.Clock.gives (settings_in queue.office) c.new-desk.result.clock (state g.S.Store queue.store.conn) turns left) c.new-desk.ensures.queue served),
    )
