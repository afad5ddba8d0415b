use Rattle.std.proofs.Common.{subst}
use Rattle.sqlite.specs.Held.{state}
use Rattle.fax_check.specs.Check.{AreNumbers}
use Rattle.fax_check.proofs.FinalLemmas.{no_numbers_flawed}
use Rattle.fax_check.proofs.TellsLemmas.{ok_as}
use Rattle.fax_check.proofs.checking.check.Goals as goal

pub returns-in-None : goal.returns-in-None
returns-in-None g c =
    let old = state g.S.Store c.args.conn.now in
    ok_as old (state g.S.Store c.numbers.new.conn) _ _ _ _ c.in_ok-meta.ensures (λ stored told. no_numbers_flawed old.now (subst (AreNumbers old.now) c.in-None.is told))
