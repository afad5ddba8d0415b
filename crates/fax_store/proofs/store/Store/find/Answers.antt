use Rattle.std.proofs.Common.{rules}
use Rattle.fax_store.proofs.FrameLemmas.{finds_as, popped}
use Rattle.fax_store.proofs.store.Store.find.Goals as goal

pub returns : goal.returns
returns g c = record {
  leaves = finds_as g.S.Store _ _ _ _ c.in_ok-rows.ensures.leaves;
  found = λ clean. (c.in_ok-rows.rows.items, c.in_ok-rows.ensures.found clean, popped c.in_ok-rows.rows.items c.pop.new.self.items c.pop.result _ _ _ c.pop.ensures.items (search rules) c.pop.ensures.cases);
  left = search rules;
  cause = search rules;
}
