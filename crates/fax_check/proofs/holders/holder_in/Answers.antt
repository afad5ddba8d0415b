use Rattle.std.proofs.Common.{Ok, Some, subst}
use Rattle.sqlite.specs.Held.{state}
use Rattle.fax_check.specs.Holders.{IsGrantHeld}
use Rattle.fax_check.specs.Reading.{Tells}
use Rattle.fax_check.proofs.HolderLemmas.{holder_found}
use Rattle.fax_check.proofs.TellsLemmas.{tells_behind}
use Rattle.fax_check.proofs.holders.holder_in.Goals as goal

pub returns-in-Some : goal.returns-in-Some
returns-in-Some g c =
    let old = state g.S.Store c.args.conn.now in
    let mid = state g.S.Store c.grant_held.new.conn in
    let first : Tells old mid (Ok (Some c.in-Some.grant)) (λ db found. IsGrantHeld db c.args.row.now found) = subst (λ o. Tells old mid (Ok o) (λ db found. IsGrantHeld db c.args.row.now found)) c.in-Some.is c.in_ok-grant.ensures in
    tells_behind old mid (state g.S.Store c.holder_of.new.conn) (Some c.in-Some.grant) c.holder_of.result _ _ _ first c.holder_of.ensures
    (λ stored is held of. holder_found old.now stored mid.now is c.args.row.now c.in-Some.grant held c.holder_of.result of)
