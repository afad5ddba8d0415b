use Rattle.std.proofs.Common.{rules}
use Rattle.fax_store.proofs.JobLemmas.{expired_params, jobs_expired}
use Rattle.fax_store.proofs.FrameLemmas.{edits_with, writes_by}
use Rattle.fax_store.proofs.store.Store.fail_in.Goals as goal

pub returns : goal.returns
returns g c =
    let params = expired_params c.args.phase c.args.t in
    let edits = edits_with g.S.Store _ _ _ _ _ params (search rules) c.run.ensures in
    writes_by g.S.Store _ _ _ _ params 0 _ _ edits (λ m k means has. jobs_expired c.args.phase c.args.t _ _ m k means has)
