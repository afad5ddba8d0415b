use Rattle.std.proofs.Common.{List, IfOk, subst, rules}
use Rattle.sqlite.specs.Order.{Row}
use Rattle.fax_check.specs.Holders.{AreHoldersIn}
use Rattle.sqlite.specs.Held.{state}
use Rattle.fax_check.proofs.TableLemmas.{select_all_holds}
use Rattle.fax_check.proofs.FinalLemmas.{holders_of}
use Rattle.fax_check.proofs.TellsLemmas.{tells_looks}
use Rattle.fax_check.proofs.holders.read_holders.Goals as goal

pub show-requires : goal.show-requires
show-requires g c = select_all_holds.plain

pub returns : goal.returns
returns g c =
    let first = c.args.conn.now in
    let mid = c.show.new.conn in
    tells_looks g.S.Store first mid c.holders_in.new.conn _ c.holders_in.result _ _ _ c.in_ok-rows.ensures c.holders_in.ensures
    (λ stored is shown of. holders_of (state g.S.Store first) (state g.S.Store mid) stored (state g.S.Store mid).now is c.in_ok-rows.rows.items (search (rules, shown)) c.holders_in.result (subst (λ (rs : List Row). IfOk c.holders_in.result (AreHoldersIn (state g.S.Store mid).now rs)) c.as_slice.ensures.value of))
