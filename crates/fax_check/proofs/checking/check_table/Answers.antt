use Rattle.std.proofs.Common.{subst, sym}
use Rattle.sqlite.specs.Held.{state}
use Rattle.fax_check.specs.Check.{IsTableChecked}
use Rattle.fax_check.proofs.TableLemmas.{table_checked}
use Rattle.fax_check.proofs.TellsLemmas.{ok_as}
use Rattle.fax_check.proofs.checking.check_table.Goals as goal

pub returns : goal.returns
returns g c =
    let old = state g.S.Store c.args.conn.now in
    let new = state g.S.Store c.pass.new.conn in
    ok_as old new _ _ _ _ c.in_ok-found.ensures (λ stored told.
    subst (IsTableChecked c.args.meta.now c.args.held.now c.args.query old.now) (sym c.flaw_in.ensures)
    (table_checked (state g.S.Store (told.1).0) new old.now stored (told.1).1 c.args.meta.now c.args.held.now told.0 c.args.query c.in_ok-found.found (told.1).2 told.2))
