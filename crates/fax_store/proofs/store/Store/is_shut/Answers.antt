use Rattle.std.proofs.Common.{[], rules}
use Rattle.sqlite.specs.Held.{state}
use Rattle.sqlite.specs.State.{HasCleanDisk}
use Rattle.fax_store.proofs.StoreLemmas.{shut_is, still_rests, was_served}
use Rattle.fax_store.proofs.store.Store.is_shut.Goals as goal

pub returns-clause-told : goal.returns-clause-told
returns-clause-told g c clean = rw (← c.shut_by.ensures.says) at (shut_is _ _ c.in-Err.error (c.in-Err.ensures.err clean []))

pub returns-clause-leaves : goal.returns-clause-leaves
returns-clause-leaves g c =
    let refused = λ (clean : HasCleanDisk (state g.S.Store c.prepare.new.self)). c.in-Err.ensures.err clean [] in
    let served = was_served _ _ c.prepare.ensures.survives.clean _ c.in-Err.error refused in
    let stays = still_rests _ _ c.prepare.ensures.survives.clean _ c.in-Err.error refused in
    search rules
