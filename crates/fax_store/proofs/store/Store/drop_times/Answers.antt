use Rattle.std.proofs.Common.{rules}
use Rattle.fax_store.proofs.FrameLemmas.{edits_with, writes_by}
use Rattle.fax_store.proofs.PurgeLemmas.{gone_params, times_gone}
use Rattle.fax_store.proofs.store.Store.drop_times.Goals as goal

pub returns : goal.returns
returns g c =
    let edits = edits_with g.S.Store _ _ _ _ _ (gone_params c.args.job) (search rules) c.run.ensures in
    writes_by g.S.Store _ _ _ _ (gone_params c.args.job) 13 _ _ edits (λ m k means has. times_gone c.args.job _ _ m k means has)
