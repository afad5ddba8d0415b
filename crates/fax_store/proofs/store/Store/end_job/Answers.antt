use Rattle.std.proofs.Common.{rules}
use Rattle.fax_store.proofs.FrameLemmas.{edits_with, writes_by}
use Rattle.fax_store.proofs.TimesLemmas.{end_params, times_ended}
use Rattle.fax_store.proofs.store.Store.end_job.Goals as goal

pub returns : goal.returns
returns g c =
    let edits = edits_with g.S.Store _ _ _ _ _ (end_params c.args.job c.args.t) (search rules) c.run.ensures in
    writes_by g.S.Store _ _ _ _ (end_params c.args.job c.args.t) 13 _ _ edits (λ m k means has. times_ended c.args.job c.args.t _ _ m k means (search rules) has)
