use Rattle.std.proofs.Common.{◌∙◌, rules, sym}
use Rattle.fax_store.proofs.EarlyLemmas.{early_params, none_found}
use Rattle.fax_store.proofs.FrameLemmas.{finds_as, queries_with}
use Rattle.fax_store.proofs.store.Store.has_ended_at_0.Goals as goal

pub returns : goal.returns
returns g c = record {
  leaves = finds_as g.S.Store _ _ _ _ c.in_ok-found.ensures.leaves;
  answers = λ m k means s is.
      let last = c.args.last in
      let found = (queries_with g.S.Store _ _ _ _ _ (early_params last) (search rules) c.in_ok-found.ensures).found s.clean in
      none_found last _ _ m k (means (c.in_ok-found.ensures.leaves.served s)) c.in_ok-found.found found (sym c.is_some.ensures ∙ is);
}
