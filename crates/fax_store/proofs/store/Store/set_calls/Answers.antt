use Rattle.std.proofs.Common.{◌≡◌, ◌≤◌, rules, [], ◌∷◌}
use Rattle.fax_store.proofs.FrameLemmas.{edits_with, err_as, ok_as, runs_then}
use Rattle.sqlite.proofs.InsideLemmas.{unchanged_keeps}
use Rattle.sqlite.specs.declared.types.Value.TheVariants.{Text}
use Rattle.fax_store.specs.Grant.{with_count}
use Rattle.fax_tables.specs.Row.{number}
use Rattle.fax_tables.proofs.CreateLemmas.{commit_kept}
use Rattle.fax_store.proofs.CallLemmas.{calls_gone, calls_put, has_calls, params, set_then}
use Rattle.fax_store.proofs.store.Store.set_calls.Goals as goal

pub returns-then-calls-eq0-clause-set : goal.returns-then-calls-eq0-clause-set
returns-then-calls-eq0-clause-set g c count was clean =
    let dial = c.args.dial.now in
    let none : c.args.calls ≡ 0 = search rules in
    rw none (calls_gone dial count _ _ was ((edits_with g.S.Store _ _ _ _ _ (params dial) (search rules) c.in_ok-run.ensures).ran clean))

pub returns-clause-leaves : goal.returns-clause-leaves
returns-clause-leaves g c = runs_then g.S.Store c.in_ok-run.ensures.leaves c.run-2.ensures.leaves

pub returns-clause-set : goal.returns-clause-set
returns-clause-set g c count was clean =
    let dial = c.args.dial.now in
    let n = c.args.calls in
    let some : 1 ≤ c.args.calls = search rules in
    let gone = edits_with g.S.Store _ _ _ _ _ (params dial) (search rules) c.in_ok-run.ensures in
    let put = edits_with g.S.Store _ _ _ _ _ (Text dial ∷ number n ∷ []) (search rules) c.run-2.ensures in
    let first = calls_gone dial count _ _ was (gone.ran (put.leaves.clean clean)) in
    ok_as c.run-2.result (λ has. set_then _ _ _ (with_count dial 0 count) (with_count dial n count) first (calls_put dial count n _ _ some (has_calls _ _ (with_count dial 0 count) first) has)) (put.ran clean)

pub returns-clause-left : goal.returns-clause-left
returns-clause-left g c count was clean =
    let gone = edits_with g.S.Store _ _ _ _ _ (params c.args.dial.now) (search rules) c.in_ok-run.ensures in
    let first = calls_gone c.args.dial.now count _ _ was (gone.ran (c.run-2.ensures.leaves.clean clean)) in
    err_as c.run-2.result (λ left. commit_kept _ _ _ first.goes_on (unchanged_keeps _ _ left)) (c.run-2.ensures.left clean)
