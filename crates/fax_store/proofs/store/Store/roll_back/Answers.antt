use Rattle.std.proofs.Common.{sym, ◌∙◌}
use Rattle.std.proofs.lemmas.Bool.{not-false}
use Rattle.sqlite.specs.Held.{state}
use Rattle.fax_store.proofs.StoreLemmas.{cleaner, ran_served, rolled}
use Rattle.fax_store.proofs.StopLemmas.{rollback_nothing}
use Rattle.fax_store.proofs.store.Store.roll_back.Goals as goal

pub returns-then-not-is_autocommit : goal.returns-then-not-is_autocommit
returns-then-not-is_autocommit g c =
    let old = state g.S.Store c.args.self.now.conn in
    let new = state g.S.Store c.execute.new.self in
    let inside = not-false _ (sym c.is_autocommit.ensures.value ∙ c.if-not-is_autocommit.true) in
    record {
      back = rolled old new c.execute.ensures.survives.clean c.execute.result inside c.execute.ensures.runs;
      crash = rollback_nothing old new c.execute.ensures.survives;
      served = ran_served old new c.execute.ensures.survives.clean _ c.execute.result c.execute.ensures.runs;
      clean = cleaner old new c.execute.ensures.survives.clean;
    }
