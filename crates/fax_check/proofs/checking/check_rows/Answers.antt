use Rattle.std.proofs.Common.{Ok, None, sym, subst}
use Rattle.sqlite.specs.Held.{state}
use Rattle.fax_check.specs.Check.{AreCalled, AreTablesChecked}
use Rattle.fax_check.proofs.FinalLemmas.{all_sound, call_flawed, row_flawed}
use Rattle.fax_check.proofs.TellsLemmas.{looks_as, looks_then}
use Rattle.fax_check.proofs.checking.check_rows.Goals as goal

pub returns-in-Some : goal.returns-in-Some
returns-in-Some g c =
    let first = c.args.conn.now in
    let db = (state g.S.Store first).now in
    let meta = c.args.meta.now in
    let held = c.args.held.now in
    looks_as g.S.Store first c.check_tables.new.conn _ _ _ _ c.in_ok-flaw.ensures
    (λ stored told numbers holders. row_flawed db stored meta held numbers holders c.in-Some.flaw (subst (AreTablesChecked meta held db) c.in-Some.is told))

pub returns-then-branch : goal.returns-then-branch
returns-then-branch g c =
    let first = c.args.conn.now in
    let mid = c.check_tables.new.conn in
    let db = (state g.S.Store first).now in
    let meta = c.args.meta.now in
    let held = c.args.held.now in
    looks_then g.S.Store first mid c.is_called.new.conn _ (Ok None) _ (λ d found. AreCalled d held) _ c.in_ok-flaw.ensures (looks_as g.S.Store mid c.is_called.new.conn _ None _ _ c.in_ok-is_called.ensures (λ stored told. told.0 c.if-branch.true))
    (λ stored is whole called numbers holders. all_sound db stored meta held numbers holders (subst (AreTablesChecked meta held db) c.in_default.is whole) (subst (λ d. AreCalled d held) (sym is) called))

pub returns : goal.returns
returns g c =
    let first = c.args.conn.now in
    let mid = c.check_tables.new.conn in
    let db = (state g.S.Store first).now in
    let meta = c.args.meta.now in
    let held = c.args.held.now in
    looks_then g.S.Store first mid c.is_called.new.conn _ _ _ (λ d found. ¬ AreCalled d held) _ c.in_ok-flaw.ensures (looks_as g.S.Store mid c.is_called.new.conn _ _ _ _ c.in_ok-is_called.ensures (λ stored told called. absurd (let on = told.1 called in let off = c.if-branch.false in cc)))
    (λ stored is whole not_called numbers holders. call_flawed db stored meta held numbers holders (subst (λ d. ¬ AreCalled d held) (sym is) not_called))
