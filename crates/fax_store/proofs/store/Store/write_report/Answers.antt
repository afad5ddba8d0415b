use Rattle.std.proofs.Common.{◌≤◌, rules}
use Rattle.fax_store.specs.Grant.{IsReport}
use Rattle.fax_store.proofs.FrameLemmas.{edits_with, moves_of, writes_where_by}
use Rattle.fax_core.specs.Machine.{with_grant}
use Rattle.fax_store.proofs.GrantLemmas.{report_params, grant_reported}
use Rattle.fax_store.proofs.store.Store.write_report.Goals as goal

pub returns-clause-written : goal.returns-clause-written
returns-clause-written g c m₀ m k₀ k report works s =
    let grant = c.args.grant.now in
    let few : grant.confirmed ≤ 9999 = search rules in
    let edits = edits_with g.S.Store _ _ _ _ _ (report_params grant) (search rules) c.run.ensures in
    let writes = writes_where_by g.S.Store _ _ _ _ (report_params grant) 1 (with_grant grant) (λ k. k) (IsReport grant) edits
    (λ m k report means has. grant_reported grant _ _ m k means report few has) in
    moves_of _ c.run.result m₀ (with_grant grant m) k₀ k (writes.written m₀ m k₀ k report works s)

pub returns-clause-cause : goal.returns-clause-cause
returns-clause-cause g c fits = c.run.ensures.cause
