use Rattle.std.proofs.Common.{inl, inr, Some, refl, rules, subst, sym, w64}
use Rattle.std.proofs.lemmas.Int.{to_z-of_z}
use Rattle.fax_check.specs.Check.{HasHolders, IsChecked}
use Rattle.fax_check.specs.declared.tables.Table.TheVariants.{Holds}
use Rattle.sqlite.specs.Held.{state}
use Rattle.fax_check.specs.Holders.{AreHolders}
use Rattle.fax_check.proofs.FinalLemmas.{checked_rows}
use Rattle.fax_check.proofs.TellsLemmas.{ok_as, tells_looks}
use Rattle.fax_check.proofs.checking.check_holds.Goals as goal

pub returns-in-Right : goal.returns-in-Right
returns-in-Right g c =
    let first = c.args.conn.now in
    let mid = c.read_holders.new.conn in
    let db = (state g.S.Store first).now in
    tells_looks g.S.Store first mid c.check_rows.new.conn _ c.check_rows.result _ _ _ c.in_ok-held.ensures c.check_rows.ensures
    (λ stored is held told. let it = subst (AreHolders db) c.in-Right.is held in checked_rows db (state g.S.Store mid).now is c.args.meta.now c.as_slice.result.now (subst (HasHolders db) (sym c.as_slice.ensures.value) (record { holders = it.0; right = it.1 })) c.check_rows.result told)

pub returns-in-Wrong : goal.returns-in-Wrong
returns-in-Wrong g c =
    let old = state g.S.Store c.args.conn.now in
    ok_as old (state g.S.Store c.read_holders.new.conn) _ _ _ _ c.in_ok-held.ensures (λ stored told numbers.
    let it = subst (AreHolders old.now) c.in-Wrong.is told in
    subst (λ id. IsChecked old.now (Some (record { table = Holds; row = Some id }))) (sym (to_z-of_z w64 c.in-Wrong.row (search rules))) (it.0, inr (inl (c.in-Wrong.row, refl, it.1))))
