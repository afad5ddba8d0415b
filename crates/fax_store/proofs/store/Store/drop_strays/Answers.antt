use Rattle.std.proofs.Common.{[], subst}
use Rattle.sqlite.specs.Effect.{Database}
use Rattle.sqlite.specs.Held.{state}
use Rattle.sqlite.specs.State.{Shown}
use Rattle.fax_schema.specs.declared.statements.TheConstants.{SELECT_STRAYS}
use Rattle.fax_schema.proofs.TimesTexts.{select_strays}
use Rattle.fax_store.proofs.StrayLemmas.{strays_dropped}
use Rattle.fax_store.proofs.TurnLemmas.{IsSameAnd, or_then, same_leaves, turns_found}
use Rattle.fax_store.specs.Adopt.{AreDropped}
use Rattle.fax_store.proofs.store.Store.drop_strays.Goals as goal

pub show-requires : goal.show-requires
show-requires g c = select_strays.plain

pub returns : goal.returns
returns g c =
    let s0 = state g.S.Store c.args.self.now.conn in
    let s1 = state g.S.Store c.show.new.self.conn in
    let last = (state g.S.Store c.drop_rows.new.self.conn).now in
    let rows = c.in_ok-strays.strays.items in
    or_then {Q = IsSameAnd (Shown SELECT_STRAYS.now [] s0 s1 rows)} {R = AreDropped c.as_slice.result.now} same_leaves
    (λ was found dropped. strays_dropped s0 s1 rows last was found.1 (subst (λ rs. AreDropped rs s0.now last) c.as_slice.ensures.value (subst (λ (d : Database). AreDropped c.as_slice.result.now d last) found.0 dropped)))
    (turns_found g.S.Store c.in_ok-strays.ensures.leaves c.in_ok-strays.ensures.found) c.drop_rows.ensures
