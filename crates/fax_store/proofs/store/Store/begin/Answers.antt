use Rattle.std.proofs.Common.{refl, sym, ap, rules}
use mathlib.Core.Option as maybe
use Rattle.sqlite.specs.Held.{state}
use Rattle.fax_tables.proofs.ResultLemmas.{rests_at_err}
use Rattle.fax_store.proofs.StoreLemmas.{cleaner, begun, begun_at, begun_served, fails_served, not_begun}
use Rattle.fax_store.proofs.StopLemmas.{begin_nothing, begun_opens}
use Rattle.fax_store.proofs.store.Store.begin.Goals as goal

pub returns-in_err-execute : goal.returns-in_err-execute
returns-in_err-execute g c =
    let served = fails_served (state g.S.Store c.args.self.now.conn) (state g.S.Store c.execute.new.self) c.execute.ensures.survives.clean _ c.in_err-execute.field-0.0 c.in_err-execute.ensures.runs in
    let stays = not_begun (state g.S.Store c.args.self.now.conn) (state g.S.Store c.execute.new.self) c.execute.ensures.survives.clean _ c.in_err-execute.field-0.0 c.in_err-execute.ensures.runs in
    (rests_at_err c.from_residual.result (λ work. work.store.ghost_name) _ c.from_residual.ensures.0 (served, stays, cleaner (state g.S.Store c.args.self.now.conn) (state g.S.Store c.execute.new.self) c.execute.ensures.survives.clean, begin_nothing (state g.S.Store c.args.self.now.conn) (state g.S.Store c.execute.new.self) c.execute.ensures.survives), record { refused = tt; same_reference = search rules; work = search rules; cause = search rules })

pub returns : goal.returns
returns g c =
    let old = state g.S.Store c.args.self.now.conn in
    let new = state g.S.Store c.execute.new.self in
    let kept = c.execute.ensures.survives in
    let ran = c.in_ok-execute.ensures.runs in
    let served = begun_served old new kept.clean c.in_ok-execute.field-0 ran in
    let at = begun_at old new kept.clean c.in_ok-execute.field-0 ran in
    let opens = begun_opens old new kept c.in_ok-execute.field-0 ran in
    let begins = begun old new kept.clean c.in_ok-execute.field-0 ran in
    let clean = cleaner old new kept.clean in (
      (ap maybe.some (sym c.new.ensures.same_reference), λ w. refl, tt),
      record {
        refused = tt;
        same_reference = c.new.ensures.same_reference;
        work = rw (c.new.ensures.same, c.new.ensures.goes_on) (search rules);
        cause = tt;
      },
    )
