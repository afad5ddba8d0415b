use Rattle.std.proofs.Common.{◌<◌, ◌≤◌, All, get_or, length, Ok, Some, None, sym, subst, rules}
use Rattle.std.proofs.lemmas.List.{get_or_default, take_all}
use Rattle.sqlite_rules.proofs.ListLemmas.{has_at}
use Rattle.sqlite.specs.Held.{state}
use Rattle.fax_check.specs.Check.{IsTableChecked}
use Rattle.fax_check.specs.Whole.{IsWholeTable, passed}
use Rattle.fax_check.specs.declared.tables.Query.TheVariants.{Jobs}
use Rattle.fax_check.proofs.BridgeLemmas.{all_taken}
use Rattle.fax_check.proofs.TellsLemmas.{looks_since, looks_tells, since_tells, since_told}
use Rattle.fax_check.proofs.checking.check_tables.Goals as goal

pub returns-in-Some : goal.returns-in-Some
returns-in-Some g c =
    let first = c.args.conn.now in
    let db = (state g.S.Store first).now in
    let i = c.loop-query.query-index in
    let low : i < length passed = search rules in
    looks_tells g.S.Store first c.loop-query.conn c.check_table.new.conn _ (Ok (Some c.in-Some.flaw)) _ _ c.loop-query.invariant.since c.in_ok-flaw.ensures tt (λ x same. same)
    (λ stored clean is told. (
      get_or passed i Jobs,
      has_at passed i (get_or passed i Jobs) low (get_or_default passed i Jobs (get_or passed i Jobs) low),
      subst (λ d. IsTableChecked c.args.meta.now c.args.held.now (get_or passed i Jobs) d (Some c.in-Some.flaw)) (sym is) (subst (IsTableChecked c.args.meta.now c.args.held.now (get_or passed i Jobs) (state g.S.Store c.loop-query.conn).now) c.in-Some.is told),
    ))

pub loop-query-preserved : goal.loop-query-preserved
loop-query-preserved g c =
    let first = c.args.conn.now in
    let db = (state g.S.Store first).now in
    let i = c.loop-query.query-index in
    let low : i < length passed = search rules in
    record {
      since = since_tells g.S.Store first c.loop-query.conn c.check_table.new.conn _ _ c.loop-query.invariant.since c.in_ok-flaw.ensures;
      told = λ stored clean.
          let told = subst (IsTableChecked c.args.meta.now c.args.held.now (get_or passed i Jobs) db) c.in_default.is (since_told g.S.Store first c.loop-query.conn c.check_table.new.conn _ _ c.loop-query.invariant.since c.in_ok-flaw.ensures stored clean) in
          all_taken (IsWholeTable c.args.meta.now c.args.held.now db) passed i Jobs low (c.loop-query.invariant.told stored (c.in_ok-flaw.ensures.clean clean)) told;
    }

pub returns : goal.returns
returns g c =
    let first = c.args.conn.now in
    let db = (state g.S.Store first).now in
    looks_since g.S.Store first c.loop-query.conn None _ c.loop-query.invariant.since (λ stored clean.
    let all : length passed ≤ c.loop-query.query-index = search rules in
    subst (All (IsWholeTable c.args.meta.now c.args.held.now db)) (take_all c.loop-query.query-index passed all) (c.loop-query.invariant.told stored clean))
