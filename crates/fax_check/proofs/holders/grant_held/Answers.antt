use Rattle.std.proofs.Common.{subst}
use Rattle.sqlite.specs.Held.{state}
use Rattle.fax_check.specs.Holders.{IsGrantFound}
use Rattle.fax_check.proofs.HolderLemmas.{no_grant_held, not_held}
use Rattle.fax_check.proofs.TellsLemmas.{ok_as}
use Rattle.fax_check.proofs.holders.grant_held.Goals.{in_default-via-in-Some+then-branch+else-is_shown, in_default-via-in-Some+else-branch, in_default-via-in_default}
use Rattle.fax_check.proofs.holders.grant_held.Goals as goal

pub returns-in_default : goal.returns-in_default
returns-in_default g c =
    let old = state g.S.Store c.args.conn.now in
    let new = state g.S.Store c.grant_of.new.conn in
    let row = c.args.row.now in
    ok_as old new _ _ _ _ c.in_ok-grant.ensures (λ stored found. elim c.in_default.branch [
      | in_default-via-in-Some+then-branch+else-is_shown w ↦ not_held old.now stored row c.grant_number.result w.in-Some.grant c.grant_number.ensures (subst (IsGrantFound old.now c.grant_number.result) w.in-Some.is found) (λ is_open shows. absurd (let on = w.is_shown.ensures.1 shows in let off = w.if-is_shown in cc))
      | in_default-via-in-Some+else-branch w ↦ not_held old.now stored row c.grant_number.result w.in-Some.grant c.grant_number.ensures (subst (IsGrantFound old.now c.grant_number.result) w.in-Some.is found) (λ is_open shows. absurd (let off = w.if-branch in cc))
      | in_default-via-in_default w ↦ no_grant_held old.now stored row c.grant_number.result c.grant_number.ensures (subst (IsGrantFound old.now c.grant_number.result) w.in_default.is found)
    ])
