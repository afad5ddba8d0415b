use Rattle.std.proofs.Common.{rules}
use Rattle.std.proofs.lemmas.Result.{IfOk-weaker}
use Rattle.fax_store.proofs.JobsLemmas.{briefs_found, briefs_shown}
use Rattle.fax_store.proofs.FrameLemmas.{finds_as}
use Rattle.fax_store.proofs.store.Store.briefs.Goals as goal

pub returns : goal.returns
returns g c = record {
  leaves = finds_as g.S.Store _ _ _ _ c.in_ok-shown.ensures.leaves;
  answers = λ m k means s. let means_now = means (c.in_ok-shown.ensures.leaves.served s) in
      let rows = briefs_found _ _ m k means_now c.in_ok-shown.shown.items (c.in_ok-shown.ensures.found s.clean) in
      c.briefs_in.ensures.found m.jobs (search rules) means_now.lawful.jobs;
  stands = λ db ours now clean.
      IfOk-weaker c.briefs_in.result _ _ (λ found. briefs_shown _ _ db ours now _ (c.in_ok-shown.ensures.found clean) found.items)
      (rw c.as_slice.ensures.value at c.briefs_in.ensures.stands);
  lawful = c.briefs_in.ensures.bare;
}
