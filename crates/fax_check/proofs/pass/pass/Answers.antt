use Rattle.std.proofs.Common.{◌≡◌, List, [], subst, rules}
use Rattle.sqlite.specs.Given.{HasBegun}
use Rattle.sqlite.specs.Order.{Row}
use Rattle.sqlite.specs.Held.{state}
use Rattle.sqlite.specs.State.{CommitsShowing, FailsToQuery, HasCleanDisk, Survives}
use Rattle.fax_check.specs.Pass.{AreRead, IsPassed, Names}
use Rattle.fax_check.specs.Whole.{Shows, text_of}
use Rattle.fax_check.specs.Reading.{Tells}
use Rattle.fax_check.proofs.TellsLemmas.{pass_tells, unshown_tells}
use Rattle.fax_check.proofs.TableLemmas.{is_query}
use Rattle.fax_check.proofs.pass.pass.Goals as goal

pub returns-in_err-rows : goal.returns-in_err-rows
returns-in_err-rows g c =
    let old = state g.S.Store c.args.conn.now in
    let new = state g.S.Store c.query.follows.lender-at-none in
    let refused = c.query.follows.holds-at-none in
    let sql : c.text.result.now ≡ text_of c.args.query = c.text.ensures in
    unshown_tells old new (text_of c.args.query) [] (is_query c.args.query) (subst (λ t. Survives old new (CommitsShowing t [] old)) sql (search rules)) c.in_err-rows.field-0.0 c.from_residual.result _
    (λ clean. subst (λ t. FailsToQuery t [] old new c.in_err-rows.field-0.0) sql (search (rules, clean))) c.from_residual.ensures.1

pub returns : goal.returns
returns g c =
    let old = c.args.conn.now in
    let begun = c.in_ok-rows.rows.conn.now in
    let new = c.count.new.rows.conn.now in
    let sql : c.text.result.now ≡ text_of c.args.query = c.text.ensures in
    let P = Shows c.args.meta.now c.args.held.now c.args.query in
    let N = Names c.args.query in
    let told : Tells (state g.S.Store old) (state g.S.Store new) c.count.result (λ db found. (rows : List Row) × AreRead g.S.Store (text_of c.args.query) db new rows × IsPassed P N rows found) =
    pass_tells g.S.Store old begun new (text_of c.args.query) c.count.result (IsPassed P N) (is_query c.args.query) (subst (λ t. Survives (state g.S.Store old) (state g.S.Store begun) (CommitsShowing t [] (state g.S.Store old))) sql c.in_ok-rows.ensures.survives)
    (subst (λ t. HasCleanDisk (state g.S.Store begun) → HasBegun g.S.Store t [] old begun) sql c.in_ok-rows.ensures.begun) c.count.ensures.leaves c.count.ensures.counted in
    let same : new ≡ c.conn-2-1.given.0 = search rules in
    subst (λ x. Tells (state g.S.Store old) (state g.S.Store x) c.count.result (λ db found. (rows : List Row) × AreRead g.S.Store (text_of c.args.query) db x rows × IsPassed P N rows found)) same told
