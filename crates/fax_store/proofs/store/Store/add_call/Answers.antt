use Rattle.std.proofs.Common.{◌≡◌, ◌+◌, ◌<◌, min, arith}
use Rattle.fax_store.specs.Grant.{with_count}
use Rattle.fax_store.proofs.CallLemmas.{has_calls, set_still, set_then}
use Rattle.fax_store.proofs.WorkLemmas.{ok_as, refused_as}
use Rattle.fax_store.proofs.store.Store.add_call.Goals as goal

pub returns-in_err-calls-clause-cause : goal.returns-in_err-calls-clause-cause
returns-in_err-calls-clause-cause g c count has small clean =
    refused_as c.from_residual.result c.in_err-calls.field-0.0 c.from_residual.ensures.1 (c.in_err-calls.ensures.counted count has.tables has.calls (small c.args.dial.now) clean)

pub returns-clause-counted : goal.returns-clause-counted
returns-clause-counted g c count has few clean =
    let dial = c.args.dial.now in
    let at_mid = c.set_calls.ensures.leaves.clean clean in
    let first = set_still _ _ count has (c.in_ok-calls.ensures.leaves.reads has.tables at_mid) in
    let low : count dial + 1 < 4294967296 = few in
    let fits : count dial < 4294967296 = omega (arith, low) in
    let is : c.saturating_add.result ≡ min (c.in_ok-calls.calls + 1) 4294967295 = c.saturating_add.ensures in
    let sum : c.saturating_add.result ≡ count dial + 1 = omega (arith, is, low, (c.in_ok-calls.ensures.counted count has.tables has.calls fits at_mid)) in
    let added = rw sum at (c.set_calls.ensures.set count (has_calls _ _ count first) clean) in
    ok_as c.set_calls.result (set_then _ _ _ count (with_count dial (count dial + 1) count) first) added
