use Rattle.std.proofs.Common.{◌≡◌, [], Some, None, MatchOption, IfOk, subst, sym, rules, refl}
use Rattle.sqlite.specs.Held.{state}
use Rattle.sqlite_rules.specs.Lists.{Has}
use Rattle.fax_check.specs.Check.{AreNumbers, IsOfVersion}
use Rattle.fax_check.proofs.NumberLemmas.{no_numbers, numbers_known}
use Rattle.fax_check.proofs.RowsLemmas.{known_cause, under}
use Rattle.fax_check.proofs.TellsLemmas.{made_of}
use Rattle.fax_schema.specs.declared.statements.TheConstants.{SELECT_META}
use Rattle.fax_schema.proofs.StatementTexts.{select_meta}
use Rattle.fax_store.specs.Store.{FindsRow}
use Rattle.fax_tables.proofs.ResultLemmas.{popped}
use Rattle.fax_check.proofs.checking.read_numbers.Goals as goal

pub show-requires : goal.show-requires
show-requires g c = select_meta.plain

pub returns-in-Some : goal.returns-in-Some
returns-in-Some g c =
    let old = state g.S.Store c.args.conn.now in
    let new = state g.S.Store c.show.new.conn in
    let rows = c.in_ok-rows.rows.items in
    made_of old new c.in_ok-rows.rows c.known.result _ _ c.in_ok-rows.ensures (known_cause c.in_row.result c.known.result c.known.ensures) (λ stored shown.
    let finds : FindsRow SELECT_META.now [] old new (Some c.in-Some.row) = (rows, shown, subst (λ o. MatchOption o (rows ≡ []) (Has rows)) c.in-Some.is (popped rows c.pop.new.self.items c.pop.result _ _ _ c.pop.ensures.items (search rules) c.pop.ensures.cases)) in
    under c.known.result (IsOfVersion old.now) (AreNumbers old.now) (λ version.
    subst (λ r. IfOk r (AreNumbers old.now)) (sym c.known.ensures) (numbers_known old new old.now stored refl version c.in-Some.row c.in_row.result finds c.in_row.ensures.found c.in_row.ensures.stands c.in_row.ensures.lawful)))

pub returns : goal.returns
returns g c =
    let old = state g.S.Store c.args.conn.now in
    let new = state g.S.Store c.show.new.conn in
    let rows = c.in_ok-rows.rows.items in
    made_of old new c.in_ok-rows.rows _ _ _ c.in_ok-rows.ensures tt (λ stored shown version.
    let finds : FindsRow SELECT_META.now [] old new None = (rows, shown, subst (λ o. MatchOption o (rows ≡ []) (Has rows)) c.in-None.is (popped rows c.pop.new.self.items c.pop.result _ _ _ c.pop.ensures.items (search rules) c.pop.ensures.cases)) in
    no_numbers old new old.now stored refl version finds)
