use Rattle.std.proofs.Common.{◌∙◌, rules}
use Rattle.fax_store.proofs.ModemLemmas as modems
use Rattle.fax_store.proofs.FrameLemmas.{finds_as, queries_with}
use Rattle.fax_store.proofs.store.Store.is_down.Goals as goal

pub returns : goal.returns
returns g c = record {
  leaves = finds_as g.S.Store _ _ _ _ c.in_ok-row.ensures.leaves;
  answers = λ m k means s. let modem = c.args.modem.now in
      let found = (queries_with g.S.Store _ _ _ _ _ (modems.params modem) (search rules) c.in_ok-row.ensures).found s.clean in
      c.is_some.ensures ∙ modems.mark_found modem _ _ m k (means (c.in_ok-row.ensures.leaves.served s)) c.in_ok-row.row found;
  cause = search rules;
}
