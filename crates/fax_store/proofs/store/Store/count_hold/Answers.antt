use Rattle.std.proofs.Common.{◌≡◌, ◌+◌, ◌<◌, ◌^◌, subst, sym, ap, ◌∙◌}
use Rattle.fax_core.specs.Queue.{job_numbered}
use Rattle.fax_store.specs.Grant.{with_count}
use Rattle.fax_store.proofs.CallLemmas.{has_calls, set_still, set_then}
use Rattle.fax_store.proofs.HeldLemmas.{job_low}
use Rattle.fax_store.proofs.WorkLemmas.{ok_as, refused_as}
use Rattle.fax_store.proofs.store.Store.count_hold.Goals as goal

pub returns-in_err-job-clause-cause : goal.returns-in_err-job-clause-cause
returns-in_err-job-clause-cause g c n count is can has small clean = refused_as c.from_residual.result c.in_err-job.field-0.0 c.from_residual.ensures.1 (c.in_err-job.ensures.found n is can.low)

pub returns-in_err-dial-clause-cause : goal.returns-in_err-dial-clause-cause
returns-in_err-dial-clause-cause g c n count is can has small clean =
    let job : c.in_ok-job.job ≡ n = c.in_ok-job.ensures.found n is can.low in
    refused_as c.from_residual-in_err-dial.result c.in_err-dial.field-0.0 c.from_residual-in_err-dial.ensures.1 (c.in_err-dial.ensures.cause has.tables (rw job can) clean)

pub returns-clause-cause : goal.returns-clause-cause
returns-clause-cause g c n count is can has small clean =
    let first = set_still _ _ count has (c.in_ok-dial.ensures.leaves.reads has.tables (c.add_call.ensures.counts.clean clean)) in
    c.add_call.ensures.cause count (has_calls _ _ count first) small clean

pub returns-clause-counted : goal.returns-clause-counted
returns-clause-counted g c m k j count rows is found few has clean =
    let at_mid = c.add_call.ensures.counts.clean clean in
    let job : c.in_ok-job.job ≡ j.number = c.in_ok-job.ensures.found j.number is (job_low rows.0 m k rows.1 j.number j found) in
    let dial = c.in_ok-dial.ensures.answers m k j has.tables rows (ap (λ n. job_numbered n m) job ∙ found) at_mid in
    let first = set_still _ _ count has (c.in_ok-dial.ensures.leaves.reads has.tables at_mid) in
    let low = subst (λ d. count d + 1 < 2 ^ 32) (sym dial) few in
    let added = c.add_call.ensures.counted count (has_calls _ _ count first) low clean in
    ok_as c.add_call.result (set_then _ _ _ count (with_count j.dial (count j.dial + 1) count) first) (rw dial at added)
