use Rattle.std.proofs.Common.{rules}
use Rattle.fax_store.proofs.FloorLemmas.{few_of, given_params, replies_dropped}
use Rattle.fax_store.proofs.FrameLemmas.{edits_with, writes_by}
use Rattle.fax_store.proofs.store.Store.drop_through.Goals as goal

pub returns : goal.returns
returns g c =
    few_of g.S.Store _ _ (writes_by g.S.Store _ _ _ _ (given_params c.args.client.now c.args.floor) 8 _ _ (edits_with g.S.Store _ _ _ _ _ _ (search rules) c.run.ensures)
    (λ m k means has. replies_dropped c.args.client.now c.args.floor _ _ m k means has))
