use Rattle.std.proofs.Common.{rules}
use Rattle.fax_store.proofs.ModemLemmas as modems
use Rattle.fax_store.proofs.FrameLemmas.{edits_with, writes_by}
use Rattle.fax_store.proofs.store.Store.clear_mark.Goals as goal

pub returns : goal.returns
returns g c =
    writes_by g.S.Store _ _ _ _ (modems.params c.args.modem.now) 6 _ _ (edits_with g.S.Store _ _ _ _ _ _ (search rules) c.run.ensures)
    (λ m k means has. modems.mark_cleared c.args.modem.now _ _ m k means has)
