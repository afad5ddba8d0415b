use Rattle.std.proofs.Common.{map, rules, sym, subst, IsPermutation}
use Rattle.std.proofs.lemmas.Result.{IfOk-weaker}
use Rattle.fax_core.specs.Queue.{open_grants}
use Rattle.fax_core.specs.declared.grants.Grant.{Grant}
use Rattle.fax_store.proofs.HeldLemmas.{holders_found, holders_shown}
use Rattle.fax_store.proofs.FrameLemmas.{finds_as, or_weaker}
use Rattle.fax_store.proofs.store.Store.holders.Goals as goal

pub returns : goal.returns
returns g c = record {
  leaves = finds_as g.S.Store _ _ _ _ c.in_ok-shown.ensures.leaves;
  answers = λ m k means s. let means_now = means (c.in_ok-shown.ensures.leaves.served s) in
      let it = holders_found _ _ c.in_ok-shown.shown.items (c.in_ok-shown.ensures.found s.clean) m k means_now in
      or_weaker c.holders_in.result _ _ (λ found is. subst (IsPermutation (map (λ (x : Grant). x.modem) (open_grants m))) (sym is) it.2)
      (c.holders_in.ensures.found it.0 (search rules) it.3);
  stands = λ db ours now clean.
      IfOk-weaker c.holders_in.result _ _ (λ found. holders_shown _ _ c.in_ok-shown.shown.items (c.in_ok-shown.ensures.found clean) db ours now found.items)
      (rw c.as_slice.ensures.value at c.holders_in.ensures.stands);
}
